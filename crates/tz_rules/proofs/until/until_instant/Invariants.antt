use Rattle.tz_rules.proofs.until.until_instant.Given as goal

-- nothing is counted: the ledger is the one that is handed over
abbrev pub ghosts-until_uncounted : goal.ghosts-until_uncounted
ghosts-until_uncounted a = record { name = a.blank.name; parts = a.blank.parts }

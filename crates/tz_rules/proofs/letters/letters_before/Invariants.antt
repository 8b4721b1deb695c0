use Rattle.tz_rules.proofs.letters.letters_before.Given as goal

-- nothing is counted: the ledger is the one that is handed over
abbrev pub ghosts-letters_uncounted : goal.ghosts-letters_uncounted
ghosts-letters_uncounted a = record { name = a.blank.name; parts = a.blank.parts }

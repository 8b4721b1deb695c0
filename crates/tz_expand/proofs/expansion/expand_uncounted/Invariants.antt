use Rattle.tz_expand.proofs.expansion.expand_uncounted.Given as goal

-- nothing is counted: the ledger is the one that is handed over
abbrev pub ghosts-expand_with : goal.ghosts-expand_with
ghosts-expand_with a = record { name = a.blank.name; parts = a.blank.parts }

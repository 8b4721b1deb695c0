use Rattle.local_rows.proofs.moves.nearest.Given as goal

-- nothing is counted: the ledger is the one that is handed over
abbrev pub ghosts-nearest_uncounted : goal.ghosts-nearest_uncounted
ghosts-nearest_uncounted a = record { name = a.blank.name; parts = a.blank.parts }

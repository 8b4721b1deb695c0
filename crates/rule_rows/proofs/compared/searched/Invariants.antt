use Rattle.rule_rows.proofs.compared.searched.Given as goal

-- nothing is counted: the ledger is the one that is handed over
abbrev pub ghosts-told : goal.ghosts-told
ghosts-told a = record { name = a.blank.name; parts = a.blank.parts }

use Rattle.pin_table.proofs.steps.store_push.Given as goal

abbrev pub ghosts-store_push_as : goal.ghosts-store_push_as
ghosts-store_push_as g a = record { write = a.write }

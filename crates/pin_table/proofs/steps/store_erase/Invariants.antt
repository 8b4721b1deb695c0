use Rattle.pin_table.proofs.steps.store_erase.Given as goal

abbrev pub ghosts-store_erase_as : goal.ghosts-store_erase_as
ghosts-store_erase_as g a = record { write = a.write }

use Rattle.pin_table.proofs.parting.part.Given as goal

abbrev pub ghosts-part_as : goal.ghosts-part_as
ghosts-part_as g a = record { number = a.number; writes = a.writes }

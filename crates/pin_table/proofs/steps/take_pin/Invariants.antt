use Rattle.pin_table.proofs.steps.take_pin.Given as goal

abbrev pub ghosts-take_pin_as : goal.ghosts-take_pin_as
ghosts-take_pin_as g a = record { place = a.place; entry = a.entry }

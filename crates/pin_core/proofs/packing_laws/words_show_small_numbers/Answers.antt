use Rattle.pin_core.proofs.Packing.{number_small, count_small, front_small, turn_small}
use Rattle.pin_core.proofs.packing_laws.words_show_small_numbers.Goals as goal

pub returns : goal.returns
returns c = record { number = number_small; count = count_small; front = front_small; turn = turn_small }

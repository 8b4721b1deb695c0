use Rattle.std.proofs.Common.{arith, ◌∙◌, length-set}
use Rattle.pin_table.proofs.NumberLemmas.{marks_more}
use Rattle.pin_table.proofs.main_seat.first_numbers.Goals as goal

pub loop-number-preserved : goal.loop-number-preserved
loop-number-preserved c = let long = c.loop-number.invariant.0 in (length-set _ _ _ ∙ long, marks_more c.loop-number.has c.loop-number.number (omega arith) c.loop-number.invariant.1)

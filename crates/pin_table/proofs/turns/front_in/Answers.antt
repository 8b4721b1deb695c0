use Rattle.std.proofs.Common.{ap}
use Rattle.pin_book.specs.Replay.{front_number, front_slot}
use Rattle.pin_book.specs.declared.listed.Listed.{Listed}
use Rattle.pin_table.proofs.turns.front_in.Goals as goal

pub returns : goal.returns
unfolding front_number front_slot
returns c = record {
  w = c.w.ensures.position;
  n = ap (λ (row : Listed). row.n) c.front-front.ensures;
  slot = ap (λ (row : Listed). row.slot) c.front-front.ensures;
}

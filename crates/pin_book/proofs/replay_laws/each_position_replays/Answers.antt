use Rattle.std.proofs.Common.{◌∷◌}
use Rattle.std.proofs.lemmas.Bool.{and_parts}
use Rattle.pin_book.specs.Replay.{opening, allowed, after_write, state_after, replays_from}
use Rattle.pin_book.proofs.ReplayLemmas.{replays_parts, replays_push, state_after_push}
use Rattle.pin_book.proofs.replay_laws.each_position_replays.Goals as goal

pub returns : goal.returns
returns c = record {
  front = λ slots before later h. (replays_parts (opening slots) before later h).0;
  next = λ slots before later write h. (let rest = (replays_parts (opening slots) before (write ∷ later) h).1 in (and_parts (allowed (state_after slots before) write.change) (replays_from (after_write (state_after slots before) write) later) rest).0);
  one_more = λ slots journal write h ok. (replays_push (opening slots) journal write h ok, state_after_push slots journal write);
}

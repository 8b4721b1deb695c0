use Rattle.std.proofs.Common.{◌+◌, length, arith}
use Rattle.pin_book.specs.Replay.{state_after}
use Rattle.pin_book.specs.Pushes.{pushes}
use Rattle.pin_book.proofs.ListLemmas.{few_listed}
use Rattle.pin_book.proofs.ReplayLemmas.{replay_orderly}
use Rattle.pin_book.proofs.LawLemmas.{stands_for, slot_by_number}
use Rattle.pin_book.proofs.replay_laws.listed_is_kept.Goals as goal

pub returns : goal.returns
returns c = record {
  kept = λ slots journal edition some h has. (let orderly = replay_orderly slots journal some h in let at = stands_for (length (pushes journal) + 2) (state_after slots journal).kept (state_after slots journal).listed edition orderly.stands has in (omega (arith, at.inside, orderly.wide), at.keeps));
  by_number = λ slots slot journal some h inside. slot_by_number slots slot journal some h;
  few = λ slots journal some h. (let orderly = replay_orderly slots journal some h in omega (arith, few_listed (length (pushes journal) + 2) (state_after slots journal).kept (state_after slots journal).listed orderly.stands, orderly.wide));
}

use Rattle.std.proofs.Common.{◌≡◌, List, ◌++◌, drop, length}
use Rattle.tz_batch.specs.declared.reply.Reply.{Reply}
use Rattle.tz_rounds.specs.Merging.{AnswerLanes, AreMerged, replies_left}
use Rattle.tz_rounds.proofs.Merged.{HasMerged}
use Rattle.tz_rounds.proofs.merging.merge.Given as goal

abbrev pub invariant-loop-operation : goal.invariant-loop-operation
invariant-loop-operation l = record {
  many : length (replies_left l.stacks.items) ≡ length l.fn.parts.items;
  answers : AnswerLanes (drop l.operation-index l.operations) (replies_left l.stacks.items);
  ends : (later : List Reply) → AreMerged (drop l.operation-index l.operations) (replies_left l.stacks.items) later → HasMerged l.operations l.fn.parts.items l.initial.replies.items (l.replies.items ++ later);
}

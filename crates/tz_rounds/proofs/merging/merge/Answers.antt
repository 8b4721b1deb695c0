-- One reply after another is taken from the stack of its lane.
use Rattle.std.proofs.Common.{◌+◌, List, [], ◌∷◌, ◌++◌, length, drop, sym, ap, subst, ◌∙◌, arith, append_assoc, append-nil}
use Rattle.std.proofs.lemmas.List.{drop_all, length-set}
use Rattle.tz_script.specs.declared.operation.Operation.{Operation}
use Rattle.tz_batch.specs.declared.reply.Reply.{Reply}
use Rattle.tz_rounds.specs.Merging.{IsInLanes, AnswerLanes, AreMerged, replies_left}
use Rattle.tz_rounds.proofs.Merged.{HasMerged, drop_next, has_next, next_line, answers_left, merged_more, merged_none}
use Rattle.tz_rounds.proofs.merging.merge.Goals as goal

pub take_next-reply-requires : goal.take_next-reply-requires
take_next-reply-requires c =
    let now = c.loop-operation.invariant in
    let operations = c.args.operations.now in
    let operation = c.operation-item.result in
    let k = c.loop-operation.operation-index in
    let parts = replies_left c.loop-operation.stacks.items in
    let left = drop_next operations k operation c.loop-operation-test.true c.operation-item.is in
    let inside : IsInLanes (length c.args.parts.items) operation = subst (IsInLanes (length c.args.parts.items)) (sym c.operation-item.is) (c.requires.lanes k operation c.loop-operation-test.true) in
    has_next operation (drop (k + 1) operations) parts
    (record { some = inside.some; few = omega (arith, inside.few, now.many) })
    (subst (λ (those : List Operation). AnswerLanes those parts) left now.answers)

pub loop-operation-preserved : goal.loop-operation-preserved
loop-operation-preserved c =
    let now = c.loop-operation.invariant in
    let operations = c.args.operations.now in
    let operation = c.operation-item.result in
    let k = c.loop-operation.operation-index in
    let parts = replies_left c.loop-operation.stacks.items in
    let later = replies_left c.take_next-reply.new.stacks.items in
    let reply = c.take_next-reply.result in
    let takes = c.take_next-reply.ensures in
    let left = drop_next operations k operation c.loop-operation-test.true c.operation-item.is in
    let inside : IsInLanes (length c.args.parts.items) operation = subst (IsInLanes (length c.args.parts.items)) (sym c.operation-item.is) (c.requires.lanes k operation c.loop-operation-test.true) in
    let answers = subst (λ (those : List Operation). AnswerLanes those parts) left now.answers in
    let line = next_line operation (drop (k + 1) operations) parts later reply inside.some takes answers in
    record {
      many = ap length takes.left ∙ length-set parts _ takes.rest ∙ now.many;
      answers = answers_left operation (drop (k + 1) operations) parts later reply inside.some takes answers;
      ends = λ more merged.
          subst (HasMerged operations c.args.parts.items c.args.replies.now.items)
          (sym (append_assoc c.loop-operation.replies.items (reply ∷ []) more) ∙ ap (λ (those : List Reply). those ++ more) (sym c.in_ok-push.ensures.items))
          (now.ends (reply ∷ more)
          (subst (λ (those : List Operation). AreMerged those parts (reply ∷ more)) (sym left)
          (merged_more operation (drop (k + 1) operations) parts later reply inside.some takes more line merged)));
    }

pub returns : goal.returns
returns c =
    let operations = c.args.operations.now in
    let parts = replies_left c.loop-operation.stacks.items in
    let none = drop_all c.loop-operation.operation-index operations c.loop-operation-test.false in
    record {
      merged = subst (HasMerged operations c.args.parts.items c.args.replies.now.items) (append-nil c.loop-operation.replies.items)
          (c.loop-operation.invariant.ends [] (subst (λ (those : List Operation). AreMerged those parts []) (sym none) (merged_none parts)));
    }

use Rattle.std.proofs.Common.{◌≡◌, ℕ, true, List, length, take, sym, ap, subst, ◌∙◌}
use Rattle.std.proofs.Math.Seq.{take-length}
use Rattle.pin_book.specs.declared.write.Write.{Write}
use Rattle.pin_book.specs.Replay.{state_after, replays}
use Rattle.pin_book.proofs.Journals.{replays_take}
use Rattle.pin_table.specs.Handles.{MadeBy}
use Rattle.pin_table.specs.Reader.{reader_view}
use Rattle.pin_table.specs.Table.{plan}
use Rattle.tz_list.specs.Reload.{release_home, release_source}
use Rattle.tz_lane.proofs.Kept.{KeepsIn, handle_keeps}
use Rattle.tz_lane.proofs.LookupAnswers.{answers_on_front, on_handle_keeps}
use Rattle.tz_lane.proofs.lookups.look_up_held.Goals as goal

pub returns-clause-answer : goal.returns-clause-answer
returns-clause-answer c begun =
    let table_plan = plan c.args.reader.now.table.now in
    let v = reader_view c.args.reader.now in
    let later = reader_view c.look-position.new.self in
    let more = c.look-position.ensures.looks.more in
    let replay : replays table_plan.slots v.seen ≡ true =
    subst (λ (writes : List Write). replays table_plan.slots writes ≡ true) more.grows (replays_take table_plan.slots later.seen (length v.seen) more.replay) in
    answers_on_front table_plan v c.args.handle.now c.requires.made replay later begun c.args.op.now c.answer_on.result more.grows c.answer_on.ensures

pub returns-clause-kept : goal.returns-clause-kept
returns-clause-kept c begun =
    let table_plan = plan c.args.reader.now.table.now in
    let later = reader_view c.look-position.new.self in
    let looks = c.look-position.ensures.looks in
    let handle = c.args.handle.now in
    let w = c.look-position.result.w in
    let made = subst (λ table. MadeBy release_home release_source (plan table) later handle) looks.more.table (c.look-position.ensures.handles handle c.requires.made) in
    let all : take w later.seen ≡ later.seen = ap (λ (n : ℕ). take n later.seen) looks.front.w ∙ take-length later.seen in
    on_handle_keeps (state_after table_plan.slots (take w later.seen)) c.args.op.now handle c.answer_on.result c.answer_on.ensures
    (subst (λ (writes : List Write). KeepsIn (state_after table_plan.slots writes) handle.slot handle.number) (sym all) (handle_keeps table_plan later handle made looks.more.replay))

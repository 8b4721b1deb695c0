use Rattle.std.proofs.Common.{◌≡◌, ℕ, ◌<◌, true, subst, arith}
use Rattle.std.proofs.lemmas.List.Sorted.{Contains-permutation}
use Rattle.pin_book.specs.Replay.{replays}
use Rattle.pin_table.specs.Handles.{pin_of}
use Rattle.pin_table.specs.Reader.{reader_view}
use Rattle.pin_table.specs.Table.{plan}
use Rattle.tz_list.specs.Reload.{release_home}
use Rattle.tz_lane.specs.LaneLookup.{AnswersOnFrontAt}
use Rattle.tz_lane.specs.Meeting.{lane_round}
use Rattle.tz_lane.proofs.LookupAnswers.{answers_on_front, on_front_keeps}
use Rattle.tz_lane.proofs.Meetings.{pinned_and_left}
use Rattle.tz_lane.proofs.lookups.look_up_front.Goals as goal

pub returns-clause-answer : goal.returns-clause-answer
returns-clause-answer c begun =
    let table_plan = plan c.args.reader.now.table.now in
    let later = reader_view c.let_go.new.reader in
    let held = c.hold-held.ensures in
    subst (λ (w : ℕ). AnswersOnFrontAt (lane_round table_plan (release_home table_plan.first) begun later) c.args.op.now w c.answer_on-answer.result) held.position
    (answers_on_front table_plan (reader_view c.hold-held.new.reader) c.hold-held.result.1 held.made held.meets.replay later begun c.args.op.now c.answer_on-answer.result
    c.let_go.ensures.meets.grows c.answer_on-answer.ensures)

pub returns-clause-kept : goal.returns-clause-kept
returns-clause-kept c begun =
    let table_plan = plan c.args.reader.now.table.now in
    let later = reader_view c.let_go.new.reader in
    let some : 0 < table_plan.slots = omega (arith, c.args.reader.now.table.now.sizes.some_slots) in
    let replay = subst (λ table. replays (plan table).slots later.seen ≡ true) c.hold-held.ensures.table c.let_go.ensures.meets.replay in
    on_front_keeps (lane_round table_plan (release_home table_plan.first) begun later) c.args.op.now c.hold-held.result.0.w c.answer_on-answer.result some replay (returns-clause-answer c begun)

pub returns-clause-entries : goal.returns-clause-entries
returns-clause-entries c =
    pinned_and_left (reader_view c.args.reader.now).entries (reader_view c.hold-held.new.reader).entries (reader_view c.let_go.new.reader).entries (pin_of c.hold-held.result.1)
    c.hold-held.ensures.added c.let_go.ensures.left

pub returns-clause-handles : goal.returns-clause-handles
returns-clause-handles c other made =
    c.let_go.ensures.others other (c.hold-held.ensures.handles other made)
    (Contains-permutation (reader_view c.args.reader.now).entries (reader_view c.let_go.new.reader).entries (pin_of other) (returns-clause-entries c) made.pinned)

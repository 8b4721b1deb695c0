use Rattle.std.proofs.Common.{subst, ap, ℕ, take, arith}
use Rattle.pin_book.specs.Replay.{state_after}
use Rattle.pin_book.proofs.Journals.{replays_take}
use Rattle.pin_table.specs.Position.{IsAfter}
use Rattle.pin_table.specs.Reader.{reader_view}
use Rattle.pin_table.specs.Table.{plan}
use Rattle.tz_lane.proofs.Fronts.{front_told}
use Rattle.tz_lane.proofs.Kept.{front_keeps, one_told}
use Rattle.tz_lane.proofs.Readers.{same_number}
use Rattle.tz_lane.proofs.looks.look.Goals as goal

pub returns-clause-answer : goal.returns-clause-answer
returns-clause-answer c sources begun =
    let v = reader_view c.look-position.new.self in
    let after = subst (λ (slots : ℕ). IsAfter slots v.seen c.look-position.result) c.args.reader.now.table.now.made.0 c.look-position.ensures.looks.front in
    front_told (plan c.args.reader.now.table.now).slots v.seen c.look-position.result after

pub returns-clause-kept : goal.returns-clause-kept
returns-clause-kept c sources begun =
    let table_plan = plan c.args.reader.now.table.now in
    let seen = (reader_view c.look-position.new.self).seen in
    let position = c.look-position.result in
    one_told (state_after table_plan.slots (take position.w seen)) position.n position.slot
    (front_keeps table_plan.slots (take position.w seen) position.n position.slot (omega (arith, c.args.reader.now.table.now.sizes.some_slots))
    (replays_take table_plan.slots seen position.w c.look-position.ensures.looks.more.replay) (returns-clause-answer c sources begun))

pub returns-clause-number : goal.returns-clause-number
returns-clause-number c = same_number c.args.reader.now c.look-position.new.self (ap (λ v. v.numbers) c.look-position.ensures.looks.view)

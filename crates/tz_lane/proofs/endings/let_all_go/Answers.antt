use Rattle.std.proofs.Common.{◌∙◌}
use Rattle.pin_table.specs.Reader.{reader_view}
use Rattle.pin_table.specs.Table.{plan}
use Rattle.tz_lane.proofs.HeldLess.{first_held, held_less}
use Rattle.tz_lane.proofs.NoneMade.{none_more, one_fewer, free_at_last}
use Rattle.tz_lane.proofs.endings.let_all_go.Goals as goal

pub let_go-requires : goal.let_go-requires
let_go-requires c = record {
  made = first_held (plan c.loop-hold.reader.table.now) (reader_view c.loop-hold.reader) c.loop-hold.holds c.take_any.new.self c.in-Some.hold c.loop-hold.invariant.0 c.in-Some.ensures;
}

pub loop-hold-smaller-in-Some : goal.loop-hold-smaller-in-Some
loop-hold-smaller-in-Some c = one_fewer c.loop-hold.holds c.take_any.new.self c.in-Some.hold c.in-Some.ensures

pub loop-hold-smaller : goal.loop-hold-smaller
loop-hold-smaller c = one_fewer c.loop-hold.holds c.take_any.new.self c.in-Some.hold c.in-Some.ensures

pub loop-hold-preserved-in-Some : goal.loop-hold-preserved-in-Some
loop-hold-preserved-in-Some c =
    let before = c.loop-hold.reader in let after = c.let_go.new.reader in (
      held_less (plan before.table.now) (reader_view before) (reader_view after) (plan after.table.now) c.loop-hold.holds c.take_any.new.self c.in-Some.hold c.loop-hold.invariant.0 c.in-Some.ensures c.let_go.ensures.entries c.let_go.ensures.others,
      none_more (plan before.table.now).slots (reader_view c.args.reader.now) (reader_view before) (reader_view after) c.let_go.result.w c.loop-hold.invariant.1 c.let_go.ensures.meets,
      c.let_go.ensures.table ∙ c.loop-hold.invariant.2,
      c.let_go.ensures.number ∙ c.loop-hold.invariant.3,
    )

pub loop-hold-preserved : goal.loop-hold-preserved
loop-hold-preserved c =
    let before = c.loop-hold.reader in let after = c.let_go.new.reader in (
      held_less (plan before.table.now) (reader_view before) (reader_view after) (plan after.table.now) c.loop-hold.holds c.take_any.new.self c.in-Some.hold c.loop-hold.invariant.0 c.in-Some.ensures c.let_go.ensures.entries c.let_go.ensures.others,
      none_more (plan before.table.now).slots (reader_view c.args.reader.now) (reader_view before) (reader_view after) c.let_go.result.w c.loop-hold.invariant.1 c.let_go.ensures.meets,
      c.let_go.ensures.table ∙ c.loop-hold.invariant.2,
      c.let_go.ensures.number ∙ c.loop-hold.invariant.3,
    )

pub returns-clause-free : goal.returns-clause-free
returns-clause-free c =
    free_at_last (plan c.loop-hold.reader.table.now) (reader_view c.loop-hold.reader) c.loop-hold.holds c.loop-hold.invariant.0 (c.in_default.ensures.0)

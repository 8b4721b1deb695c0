use Rattle.std.proofs.Common.{sym, ◌∙◌}
use Rattle.tz_tzif.specs.Types.{same_type}
use Rattle.tz_tzif.proofs.DistinctLemmas.{distinct-none, types-more}
use Rattle.tz_tzif.proofs.types.types_of.Goals as goal

pub loop-range-init : goal.loop-range-init
loop-range-init c = c.new-types.ensures.items ∙ sym (distinct-none same_type)

pub loop-range-preserved : goal.loop-range-preserved
loop-range-preserved c =
    let more = types-more c.args.ranges.now c.loop-range.range-index c.range-item.result c.loop-range-test.true c.range-item.is in
    let added = c.in_ok-add.ensures in
    rw (more, ← c.loop-range.invariant, ← c.of.ensures) added

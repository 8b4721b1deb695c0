use Rattle.std.proofs.Common.{sym, ◌∙◌}
use Rattle.std.specs.Str.{bytes_eq}
use Rattle.tz_tzif.proofs.DistinctLemmas.{distinct-none, designations-more}
use Rattle.tz_tzif.proofs.designations.designations_of.Goals as goal

pub loop-local_type-init : goal.loop-local_type-init
loop-local_type-init c = c.new-designations.ensures.items ∙ sym (distinct-none bytes_eq)

pub loop-local_type-preserved : goal.loop-local_type-preserved
loop-local_type-preserved c =
    let more = designations-more c.args.types.now c.loop-local_type.local_type-index c.local_type-item.result c.loop-local_type-test.true c.local_type-item.is in
    let added = c.in_ok-add.ensures in
    rw (more, ← c.loop-local_type.invariant) added

use Rattle.std.proofs.Common.{arith, inl, inr, FitsSigned}
use Rattle.std.specs.Int.{w64}
use Rattle.std.proofs.lemmas.Int.{ints}
use Rattle.tz_expand.proofs.Lines.{nothing_outside}
use Rattle.tz_expand.proofs.info.info_at.Goals as goal
use Rattle.tz_expand.proofs.info.info_at.Goals.{then-t-lt-FIRST_INSTANT-via-then-t-lt-FIRST_INSTANT, then-t-lt-FIRST_INSTANT-via-else-t-lt-FIRST_INSTANT+then-t-ge-END_OF_TIME}

pub returns-then-t-lt-FIRST_INSTANT-clause-range :
    goal.returns-then-t-lt-FIRST_INSTANT-clause-range
returns-then-t-lt-FIRST_INSTANT-clause-range g c =
    let fits : FitsSigned w64 c.args.t = c.ranges.t in
    nothing_outside c.args.zone.now c.args.t
    (elim c.then-t-lt-FIRST_INSTANT.branch [
      | then-t-lt-FIRST_INSTANT-via-then-t-lt-FIRST_INSTANT w ↦ inl (omega (arith, ints))
      | then-t-lt-FIRST_INSTANT-via-else-t-lt-FIRST_INSTANT+then-t-ge-END_OF_TIME w ↦ inr (omega (arith, ints))
    ])

use Rattle.std.proofs.Common.{arith, FitsSigned}
use Rattle.std.specs.Int.{w64}
use Rattle.std.proofs.lemmas.Int.{ints, to_z-of_z}
use Rattle.tz_rules.proofs.EffectSearch.{come_at_first, last_come_is_state}
use Rattle.tz_rules.proofs.in_effect.last_come.Goals as goal

pub loop-place-init : goal.loop-place-init
loop-place-init g c =
    let t_fits : FitsSigned w64 c.args.t = c.ranges.t in
    let stdoff_fits : FitsSigned w64 c.args.stdoff = c.ranges.stdoff in
    simp to_z-of_z (record {
      so_far = come_at_first c.args.set.now c.args.stdoff c.args.t _ c.last_by-last.result c.requires.stdoff_in (omega (arith, ints)) c.last_by-last.ensures.last;
      steps = omega arith;
    })

pub returns-clause-state : goal.returns-clause-state
returns-clause-state g c =
    let t_fits : FitsSigned w64 c.args.t = c.ranges.t in
    let stdoff_fits : FitsSigned w64 c.args.stdoff = c.ranges.stdoff in
    let so_far = simp to_z-of_z at c.loop-place.invariant.so_far in
    last_come_is_state c.args.set.now c.args.stdoff c.args.t c.loop-place.place c.loop-place.last (omega arith) so_far

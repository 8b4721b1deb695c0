use Rattle.std.proofs.Common.{sym, ◌∙◌, arith, FitsSigned}
use Rattle.std.specs.Int.{w64}
use Rattle.std.proofs.lemmas.Int.{ints, to_z-of_z}
use Rattle.tz_rules.proofs.EffectSearch.{settled_is_state}
use Rattle.tz_rules.proofs.in_effect.in_effect.Goals as goal

pub returns-then-is_settled-clause-state : goal.returns-then-is_settled-clause-state
returns-then-is_settled-clause-state g c =
    let t_fits : FitsSigned w64 c.args.t = c.ranges.t in
    let settled = simp to_z-of_z at c.is_settled.ensures in
    settled_is_state c.args.set.now c.args.stdoff c.args.t _ c.last_by-found.result c.requires.stdoff_in (omega (arith, ints)) c.last_by-found.ensures.last (sym settled ∙ c.if-is_settled.true)

pub returns-clause-state : goal.returns-clause-state
returns-clause-state g c =
    let t_fits : FitsSigned w64 c.args.t = c.ranges.t in
    let stdoff_fits : FitsSigned w64 c.args.stdoff = c.ranges.stdoff in
    simp to_z-of_z at c.last_come.ensures.state

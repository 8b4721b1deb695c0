use Rattle.std.proofs.Common.{◌≡◌, ℕ, subst, length, arith, FitsSigned}
use Rattle.std.specs.Int.{w64}
use Rattle.std.proofs.lemmas.Int.{to_z-of_z}
use Rattle.tz_rules.specs.NextChange.{IsSoonest}
use Rattle.tz_rules.proofs.next_change.soonest.Goals as goal

pub returns-clause-soonest : goal.returns-clause-soonest
returns-clause-soonest g c =
    let stdoff_fits : FitsSigned w64 c.args.stdoff = c.ranges.stdoff in
    let so_far = simp to_z-of_z at c.loop-place.invariant.so_far in
    let whole : c.loop-place.place ≡ length c.args.set.now.rules = omega arith in
    subst (λ (n : ℕ). IsSoonest c.args.set.now c.args.stdoff c.args.window n c.loop-place.soonest) whole so_far

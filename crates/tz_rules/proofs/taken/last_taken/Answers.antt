use Rattle.std.proofs.Common.{rules, FitsSigned}
use Rattle.std.specs.Int.{w64}
use Rattle.std.proofs.lemmas.Int.{to_z-of_z}
use Rattle.tz_rules.proofs.TakenLaws.{none_in_effect_far, taken_at}
use Rattle.tz_rules.proofs.taken.last_taken.Goals as goal

pub returns-in-None-clause-last : goal.returns-in-None-clause-last
returns-in-None-clause-last g c =
    let stdoff_fits : FitsSigned w64 c.args.stdoff = c.ranges.stdoff in
    let t_fits : FitsSigned w64 c.args.t = c.ranges.t in
    let near_fits : FitsSigned w64 c.near_time.result = search rules in
    let near = simp to_z-of_z at c.near_time.ensures in
    let none = simp to_z-of_z at c.in-None.ensures.state in
    none_in_effect_far c.args.set.now c.args.stdoff c.args.t c.near_time.result c.requires near none

pub returns-in-Some-clause-last : goal.returns-in-Some-clause-last
returns-in-Some-clause-last g c =
    let stdoff_fits : FitsSigned w64 c.args.stdoff = c.ranges.stdoff in
    let t_fits : FitsSigned w64 c.args.t = c.ranges.t in
    let near_fits : FitsSigned w64 c.near_time.result = search rules in
    let at_fits : FitsSigned w64 c.instant_of-at.result = search rules in
    let near = simp to_z-of_z at c.near_time.ensures in
    let state = simp to_z-of_z at c.in-Some.ensures.state in
    let comes = simp to_z-of_z at c.instant_of-at.ensures.comes in
    let at = simp to_z-of_z at c.taken_of.ensures.at in
    taken_at c.args.set.now c.args.stdoff c.args.t c.near_time.result c.in-Some.placed c.taken_of.result c.requires near state c.taken_of.ensures.tells (rw at comes)

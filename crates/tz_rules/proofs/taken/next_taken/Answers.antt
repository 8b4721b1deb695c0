use Rattle.std.proofs.Common.{rules, FitsSigned}
use Rattle.std.specs.Int.{w64}
use Rattle.std.proofs.lemmas.Int.{to_z-of_z}
use Rattle.tz_rules.proofs.TakenLaws.{none_next, next_taken_at}
use Rattle.tz_rules.proofs.taken.next_taken.Goals as goal

pub returns-in-None-clause-next : goal.returns-in-None-clause-next
returns-in-None-clause-next g c =
    let stdoff_fits : FitsSigned w64 c.args.stdoff = c.ranges.stdoff in
    let t_fits : FitsSigned w64 c.args.t = c.ranges.t in
    let near_fits : FitsSigned w64 c.near_time.result = search rules in
    let near = simp to_z-of_z at c.near_time.ensures in
    let none = simp to_z-of_z at c.in-None.ensures.next in
    none_next c.args.set.now c.args.stdoff c.args.t c.near_time.result c.requires near none

pub returns-in-Some-clause-next : goal.returns-in-Some-clause-next
returns-in-Some-clause-next g c =
    let stdoff_fits : FitsSigned w64 c.args.stdoff = c.ranges.stdoff in
    let t_fits : FitsSigned w64 c.args.t = c.ranges.t in
    let near_fits : FitsSigned w64 c.near_time.result = search rules in
    let near = simp to_z-of_z at c.near_time.ensures in
    let next = simp to_z-of_z at c.in-Some.ensures.next in
    let coming_fits : FitsSigned w64 c.in-Some.coming.at = search rules in
    let at = simp to_z-of_z at c.taken_of.ensures.at in
    next_taken_at c.args.set.now c.args.stdoff c.args.t c.near_time.result c.in-Some.coming c.taken_of.result c.requires near next c.taken_of.ensures.tells at

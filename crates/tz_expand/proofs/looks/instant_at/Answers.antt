use Rattle.std.proofs.Common.{◌∙◌, rules, FitsSigned}
use Rattle.std.specs.Int.{w64}
use Rattle.std.proofs.lemmas.Int.{to_z-of_z}
use Rattle.tz_expand.proofs.Section.{instant_there}
use Rattle.tz_expand.proofs.looks.instant_at.Goals as goal

pub returns : goal.returns
returns c =
    let stdoff_fits : FitsSigned w64 c.args.stdoff = c.ranges.stdoff in
    let save_fits : FitsSigned w64 c.save_before.result = search rules in
    let instant_fits : FitsSigned w64 c.instant_after.result = search rules in
    let is = simp to_z-of_z at c.instant_after.ensures.value in
    instant_there c.args.stdoff c.save_before.result _ c.args.list.now c.args.place c.index-list-place.result c.requires.place_in c.index-list-place.is c.save_before.ensures.value (to_z-of_z w64 c.instant_after.result instant_fits ∙ is)

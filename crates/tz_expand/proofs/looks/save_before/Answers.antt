use Rattle.std.proofs.Common.{◌-◌, ◌<◌, arith, rules, FitsSigned, ◌∙◌}
use Rattle.std.specs.Int.{w64}
use Rattle.std.proofs.lemmas.Int.{to_z-of_z}
use Rattle.tz_expand.proofs.Section.{save_after}
use Rattle.tz_expand.proofs.looks.save_before.Goals as goal

pub returns-else-place-eq0-clause-value : goal.returns-else-place-eq0-clause-value
returns-else-place-eq0-clause-value c =
    let save_fits : FitsSigned w64 c.save.result = search rules in
    let positive : 0 < c.args.place = omega arith in
    save_after c.args.list.now c.args.place (c.args.place - 1) c.index-list-place.result _ (omega arith) (omega (arith, c.requires)) c.index-list-place.is (to_z-of_z w64 c.save.result save_fits ∙ c.save.ensures.value)

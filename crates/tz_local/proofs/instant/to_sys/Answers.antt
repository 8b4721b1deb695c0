use Rattle.std.proofs.Common.{rules, FitsSigned, Some, Err, refl, ap, sym, subst, ◌∙◌, ◌≡◌}
use Rattle.std.specs.Int.{w64}
use Rattle.std.proofs.lemmas.Int.{to_z-of_z}
use Rattle.std.proofs.lemmas.Option.{same_Some}
use Rattle.tz_types.specs.declared.range.LocalInfo.{LocalInfo}
use Rattle.tz_specs.specs.Local.{local_info}
use Rattle.tz_expand.specs.Zone.{expansion_of}
use Rattle.tz_local.specs.declared.instant.ToSysError.TheVariants.{Undecided}
use Rattle.tz_local.specs.Choice.{IsNotUnique}
use Rattle.tz_local.proofs.InstantLemmas.{undecided, decided, info_near}
use Rattle.tz_local.proofs.ClockLemmas.{chosen_in_time}
use Rattle.tz_local.proofs.instant.to_sys.Goals as goal

pub instant_of-requires-clause-near : goal.instant_of-requires-clause-near
instant_of-requires-clause-near c = info_near c.args.zone.now _ c.in-Ok.info c.in-Ok.ensures.info

pub returns-in-Some-clause-undecided : goal.returns-in-Some-clause-undecided
returns-in-Some-clause-undecided c = λ info. (
  λ same. cc,
  λ facts.
      let fits : FitsSigned w64 c.args.l = c.ranges.l in
      let told = simp to_z-of_z at c.in-Ok.ensures.info in
      let is : c.in-Ok.info ≡ info = same_Some c.in-Ok.info info (sym told ∙ facts.1.1) in
      let not_unique : IsNotUnique c.in-Ok.info = subst IsNotUnique (sym is) facts.1.2 in
      absurd (decided c.in-Ok.info _ c.in-Some.t c.args.choose (sym c.instant_of.ensures ∙ c.in-Some.is) facts.0 not_unique),
)

pub returns-in-None-clause-undecided : goal.returns-in-None-clause-undecided
returns-in-None-clause-undecided c = λ info.
    let fits : FitsSigned w64 c.args.l = c.ranges.l in
    let told = simp to_z-of_z at c.in-Ok.ensures.info in
    let inside = simp to_z-of_z at c.in-Ok.ensures.in_range in
    let none = undecided c.in-Ok.info _ c.args.choose (sym c.instant_of.ensures ∙ c.in-None.is) in (
      λ same. let is : c.in-Ok.info ≡ info = cc in (none.0, (inside.0 refl, subst (λ (i : LocalInfo). local_info (expansion_of c.args.zone.now) c.args.l ≡ Some i) is told, subst IsNotUnique is none.1)),
      λ facts.
          let is : c.in-Ok.info ≡ info = same_Some c.in-Ok.info info (sym told ∙ facts.1.1) in
          ap (λ (i : LocalInfo). Err (Undecided i)) is,
    )

pub returns-in-Some-clause-in_time : goal.returns-in-Some-clause-in_time
returns-in-Some-clause-in_time c =
    let fits : FitsSigned w64 c.in-Some.t = search rules in
    let inside = chosen_in_time c.args.zone.now _ c.in-Some.t c.in-Ok.info c.args.choose c.in-Ok.ensures.info (sym c.instant_of.ensures ∙ c.in-Some.is) in
    simp to_z-of_z inside

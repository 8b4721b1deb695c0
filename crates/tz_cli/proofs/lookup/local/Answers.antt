use Rattle.std.proofs.Common.{FitsSigned}
use Rattle.std.specs.Int.{w64}
use Rattle.std.proofs.lemmas.Int.{to_z-of_z}
use Rattle.tz_expand.specs.Zone.{expansion_of}
use Rattle.tz_local.specs.LocalTime.{IsLocalTime}
use Rattle.tz_cli.specs.Lookup.{IsFoundInZone, IsFoundByChoice}
use Rattle.tz_cli.proofs.Lookups.{choice_within, zone_lookup_gives, refused_zone}
use Rattle.tz_cli.proofs.lookup.local.Goals as goal

pub returns-in-Ok-clause-answers : goal.returns-in-Ok-clause-answers
returns-in-Ok-clause-answers c =
    let fits : FitsSigned w64 c.args.l = c.ranges.l in
    let finds = simp to_z-of_z at c.find_by_choice.ensures in
    let zone = c.in-Ok.zone in
    let what = c.find_by_choice.result in
    zone_lookup_gives c.args.source.now c.args.name.now (IsLocalTime c.args.l) (IsFoundByChoice c.args.choice c.args.l) zone c.in-Ok.ensures.ok what c.output_of.result (choice_within c.args.choice c.args.l (expansion_of zone) what finds) finds c.output_of.ensures.line

pub returns-in-Err-clause-answers : goal.returns-in-Err-clause-answers
returns-in-Err-clause-answers c =
    refused_zone c.args.source.now c.args.name.now (IsLocalTime c.args.l) (IsFoundInZone c.args.source.now c.args.name.now (IsFoundByChoice c.args.choice c.args.l)) c.in-Err.refusal c.in-Err.ensures.refused

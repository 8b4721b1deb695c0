use Rattle.std.proofs.Common.{FitsSigned}
use Rattle.std.specs.Int.{w64}
use Rattle.std.proofs.lemmas.Int.{to_z-of_z}
use Rattle.tz_specs.specs.Expansion.{IsInstant}
use Rattle.tz_expand.specs.Zone.{expansion_of}
use Rattle.tz_lookup.specs.Finding.{IsInfoFound}
use Rattle.tz_cli.specs.Lookup.{IsFoundInZone}
use Rattle.tz_cli.proofs.Lookups.{info_within, zone_lookup_gives, refused_zone}
use Rattle.tz_cli.proofs.lookup.info.Goals as goal

pub returns-in-Ok-clause-answers : goal.returns-in-Ok-clause-answers
returns-in-Ok-clause-answers c =
    let fits : FitsSigned w64 c.args.instant = c.ranges.instant in
    let finds = simp to_z-of_z at c.find_info.ensures in
    let zone = c.in-Ok.zone in
    let what = c.find_info.result in
    zone_lookup_gives c.args.source.now c.args.name.now (IsInstant c.args.instant) (λ ranges. IsInfoFound ranges c.args.instant) zone c.in-Ok.ensures.ok what c.output_of.result (info_within c.args.instant (expansion_of zone) what finds) finds c.output_of.ensures.line

pub returns-in-Err-clause-answers : goal.returns-in-Err-clause-answers
returns-in-Err-clause-answers c =
    refused_zone c.args.source.now c.args.name.now (IsInstant c.args.instant) (IsFoundInZone c.args.source.now c.args.name.now (λ ranges. IsInfoFound ranges c.args.instant)) c.in-Err.refusal c.in-Err.ensures.refused

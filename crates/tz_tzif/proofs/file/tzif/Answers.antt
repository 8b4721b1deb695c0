use Rattle.std.proofs.Common.{◌≡◌, ◌↔◌, ◌^◌, ◌<◌, List, ℕ, length, FitsSigned, Result, Ok, Err, IfOk, Vec, Global, ℤ, ◌≤ℤ◌, ◌<ℤ◌, Some}
use Rattle.std.specs.Prelude.{OnOk}
use Rattle.std.specs.Int.{w64}
use Rattle.std.specs.List.{All}
use Rattle.std.proofs.lemmas.Int.{to_z-of_z}
use Rattle.tz_types.specs.declared.limit.TheConstants.{LONGEST_ABBREVIATION}
use Rattle.tz_types.specs.Text.{IsText}
use Rattle.tz_types.specs.declared.range.SysInfo.{SysInfo}
use Rattle.tz_specs.specs.Expansion.{range_at}
use Rattle.tz_expand.specs.declared.compiled_zone.CompiledZone.{CompiledZone}
use Rattle.tz_expand.specs.Zone.{expansion_of}
use Rattle.tz_expand.specs.Stretch.{IsStretch, ranges_between}
use Rattle.tz_tzif.specs.declared.tzif_error.TzifError.{TzifError}
use Rattle.tz_tzif.specs.declared.local_type.LocalType.{LocalType}
use Rattle.tz_tzif.specs.Types.{type_of, merged, transitions_after, types_of}
use Rattle.tz_tzif.specs.Designations.{designations_of}
use Rattle.tz_tzif.specs.Answer.{Answers}
use Rattle.tz_tzif.specs.Meaning.{IsMeaning}
use Rattle.tz_tzif.proofs.NearLemmas.{ranges_near}
use Rattle.tz_tzif.proofs.FileLemmas.{stretch_means}
use Rattle.tz_tzif.proofs.file.tzif.Goals as goal

pub spelling-requires : goal.spelling-requires
spelling-requires c =
    let a_fits : FitsSigned w64 c.args.a = c.ranges.a in
    let b_fits : FitsSigned w64 c.args.b = c.ranges.b in
    let are : c.in_ok-ranges.ranges.items ≡ ranges_between c.args.zone.now c.args.a c.args.b = simp to_z-of_z at c.in_ok-ranges.ensures in
    rw are (ranges_near c.args.zone.now c.args.a c.args.b)

answer_means : (zone : CompiledZone) (a b : ℤ) (ranges : List SysInfo) (answer : Result (Vec ℕ Global) TzifError) → IsStretch a b → ranges ≡ ranges_between zone a b → Answers a ranges answer → OnOk answer (length (transitions_after a (merged ranges)) < 2 ^ 32) → OnOk answer (All (IsText 0 LONGEST_ABBREVIATION) (designations_of (types_of (merged ranges)))) → IfOk answer (λ file. (t : ℤ) (range : SysInfo) → a ≤ℤ t → t <ℤ b → range_at (expansion_of zone) t ≡ Some range → (local_type : LocalType) → IsMeaning file.items t local_type ↔ (local_type ≡ type_of range))
answer_means zone a b ranges (Ok file) stretch are answers many texts =
    stretch_means zone a b file.items stretch (rw are at answers.0) (rw are at many) (rw are at texts) (rw are at answers.2)
answer_means zone a b ranges (Err error) stretch are answers many texts = tt

pub returns-clause-means : goal.returns-clause-means
returns-clause-means c =
    let a_fits : FitsSigned w64 c.args.a = c.ranges.a in
    let b_fits : FitsSigned w64 c.args.b = c.ranges.b in
    let are : c.in_ok-ranges.ranges.items ≡ ranges_between c.args.zone.now c.args.a c.args.b = simp to_z-of_z at c.in_ok-ranges.ensures in
    answer_means c.args.zone.now c.args.a c.args.b c.in_ok-ranges.ranges.items c.spelling.result c.requires are (simp to_z-of_z at c.spelling.ensures.answers) (simp to_z-of_z at c.spelling.ensures.counted) c.spelling.ensures.texts

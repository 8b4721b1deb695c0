-- What the file of a stretch means is what the zone says.
use Rattle.std.proofs.Common.{◌≡◌, ℕ, ◌^◌, ◌<◌, ◌≤◌, inl, inr, ⊎_elim, refl, sym, ap, ◌∙◌, arith, List, [], ◌∷◌, length, map, Some, ℤ, ◌↔◌, ◌<ℤ◌, ◌≤ℤ◌, FitsSigned}
use Rattle.std.specs.Prelude.{slice_get}
use Rattle.std.specs.Int.{w64}
use Rattle.std.specs.List.{All}
use Rattle.std.specs.Str.{bytes_eq}
use Rattle.std.proofs.lemmas.Int.{ints}
use Rattle.std.proofs.lemmas.Slice.Eq.{bytes_eq-Decides}
use Rattle.tz_types.specs.declared.limit.TheConstants.{LONGEST_ABBREVIATION}
use Rattle.tz_types.specs.Text.{IsText}
use Rattle.tz_types.specs.declared.range.SysInfo.{SysInfo}
use Rattle.tz_specs.specs.Expansion.{first_instant, end_of_time, range_at}
use Rattle.tz_specs.specs.Cover.{Covers}
use Rattle.tz_specs.proofs.Tests.{by_test}
use Rattle.tz_specs.proofs.ListLemmas.{In, In-filter_back, In-map, In-from_get, get_from_In}
use Rattle.tz_specs.proofs.CoverLemmas.{leads-chains, covers_each}
use Rattle.tz_specs.proofs.CutLemmas.{expansion_covers}
use Rattle.tz_expand.specs.declared.compiled_zone.CompiledZone.{CompiledZone}
use Rattle.tz_expand.specs.Compiled.{periods}
use Rattle.tz_expand.specs.Zone.{expansion_of}
use Rattle.tz_expand.specs.Stretch.{IsStretch, meets, ranges_between}
use Rattle.tz_expand.proofs.StretchLemmas.{between_instants}
use Rattle.tz_tzif.specs.declared.local_type.LocalType.{LocalType}
use Rattle.tz_tzif.specs.declared.types.TheConstants.{MOST_TYPES}
use Rattle.tz_tzif.specs.Types.{HasNearOffset, type_of, same_type, are_alike, merged, transitions_after, distinct, types_of}
use Rattle.tz_tzif.specs.Designations.{designations_of}
use Rattle.tz_tzif.specs.File.{file_of, spelling}
use Rattle.tz_tzif.specs.Meaning.{IsMeaning}
use Rattle.tz_tzif.proofs.DistinctLemmas.{same_type-Decides}
use Rattle.tz_tzif.proofs.NearLemmas.{All-at_In, types_near, ranges_near}
use Rattle.tz_tzif.proofs.PlaceLemmas.{In-distinct, get-position}
use Rattle.tz_tzif.proofs.MergedLemmas.{changes, merged-changes, covers_after, changes_after, first_left_out, covers_rising, changes_rising, in_force, meeting, Meeting}
use Rattle.tz_tzif.proofs.MeaningLemmas.{IsFile, is_file, fits_offset, fits_time, one_meaning, type_is, times_rise, means}

zone_covers : (zone : CompiledZone) → Covers first_instant end_of_time (expansion_of zone)
zone_covers zone =
    expansion_covers first_instant end_of_time (periods zone.lines) (leads-chains first_instant end_of_time (periods zone.lines) zone.covers)

changes_back : (kept : SysInfo) (ranges : List SysInfo) (x : SysInfo) → In x (changes kept ranges) → In x ranges
changes_back kept [] x has = has
changes_back kept (range ∷ later) x has =
    by_test (are_alike range kept) (λ e. let there = rw e at has in inr (changes_back kept later x there))
    (λ e.
    let there = rw e at has in
    ⊎_elim (λ (here : range ≡ x). inl here) (λ (rest : In x (changes range later)). inr (changes_back range later x rest)) there)

first_type : (first : SysInfo) (later : List SysInfo) → slice_get (types_of (first ∷ later)) 0 ≡ Some (type_of first)
unfolding distinct
first_type first later = refl

-- the begins of the zone's ranges are numbers of eight octets
begin_fits : (zone : CompiledZone) (a b : ℤ) (range : SysInfo) → In range (ranges_between zone a b) → FitsSigned w64 range.begin
begin_fits zone a b range has =
    let there = get_from_In (expansion_of zone) range (In-filter_back (meets a b) (expansion_of zone) range has).0 in
    let inside = covers_each first_instant end_of_time (expansion_of zone) there.0 range (zone_covers zone) there.1 in
    fits_time range.begin inside.0 (omega (arith, ints, inside.1, inside.2))

pub stretch_means : (zone : CompiledZone) (a b : ℤ) (file : List ℕ) → IsStretch a b → length (types_of (merged (ranges_between zone a b))) ≤ MOST_TYPES → length (transitions_after a (merged (ranges_between zone a b))) < 2 ^ 32 → All (IsText 0 LONGEST_ABBREVIATION) (designations_of (types_of (merged (ranges_between zone a b)))) → file ≡ spelling a (ranges_between zone a b) → (t : ℤ) (range : SysInfo) → a ≤ℤ t → t <ℤ b → range_at (expansion_of zone) t ≡ Some range → (local_type : LocalType) → IsMeaning file t local_type ↔ (local_type ≡ type_of range)
stretch_means zone a b file stretch few many texts spelled t range low high found =
    let ranges = ranges_between zone a b in
    let met : Meeting a b (expansion_of zone) = meeting a b first_instant end_of_time (expansion_of zone) (zone_covers zone) stretch.begins (omega (arith, ints, stretch.ordered, stretch.ends)) stretch.ordered in
    let first = met.first in
    let later = met.later in
    let transitions = changes first later in
    let types = types_of (merged ranges) in
    let designations = designations_of types in
    let are : ranges ≡ first ∷ later = met.are in
    let kept : merged ranges ≡ first ∷ transitions = ap merged are ∙ merged-changes first later in
    let after = covers_after a first.end met.high later met.covers.2 met.lasts in
    let left : transitions_after a (merged ranges) ≡ transitions = ap (λ rs. transitions_after a rs) kept ∙ first_left_out a first transitions met.begun (changes_after a first later after) in
    let counted : length transitions < 2 ^ 32 = rw left at many in
    let written : file_of transitions types designations ≡ file = ap (λ rs. file_of rs types designations) (sym left) ∙ sym spelled in
    let is : IsFile file transitions types designations = rw written at (is_file transitions types designations counted (omega arith)) in
    let there : range_at (first ∷ later) t ≡ Some range = ap (λ rs. range_at rs t) (sym are) ∙ between_instants zone a b t low high ∙ found in
    let force = in_force t met.high first first later range met.covers refl (omega (arith, ints, met.begun, low)) there in
    let in_ranges : (x : SysInfo) → In x transitions → In x ranges = λ x has. rw are (inr (changes_back first later x has)) in
    let in_merged : (x : SysInfo) → In x transitions → In x (merged ranges) = λ x has. rw kept (inr has) in
    let fits : (place : ℕ) (x : SysInfo) → slice_get transitions place ≡ Some x → FitsSigned w64 x.begin = λ place x at. begin_fits zone a b x (in_ranges x (In-from_get transitions place x at)) in
    let said : IsMeaning file t (type_of range) = means file transitions types designations is t (type_of first) (type_of range) force fits
    (ap (λ rs. slice_get (types_of rs) 0) kept ∙ first_type first transitions)
    (λ x has.
    get-position same_type same_type-Decides types (type_of x)
    (In-distinct same_type same_type-Decides (map type_of (merged ranges)) (type_of x) (In-map type_of (merged ranges) x (in_merged x has))))
    (λ number at.
    let now = type_of range in
    let among = In-from_get types number now at in
    let near : HasNearOffset now = All-at_In HasNearOffset types now (types_near ranges (ranges_near zone a b)) among in
    let has : In now.designation designations = In-distinct bytes_eq bytes_eq-Decides (map (λ (x : LocalType). x.designation) types) now.designation (In-map (λ (x : LocalType). x.designation) types now among) in
    let text : IsText 0 LONGEST_ABBREVIATION now.designation = All-at_In (IsText 0 LONGEST_ABBREVIATION) designations now.designation texts has in
    type_is file transitions types designations is number now at (fits_offset now.offset near) has text.visible) in
    let rise = times_rise file transitions types designations is (changes_rising first later (covers_rising first.end met.high later met.covers.2)) fits in
    λ local_type. (λ has. one_meaning file t local_type (type_of range) rise has said, λ same. rw same said)

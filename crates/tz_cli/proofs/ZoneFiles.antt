-- The stretch of civil years, and how `tzif` answers by the file of a zone over it.
use Rattle.std.proofs.Common.{◌≡◌, ℕ, ◌<◌, ◌≤◌, List, length, filter, false, Some, None, IsSome, is_some, Err, refl, sym, ap, ◌∙◌, slice_get, arith, rules, FitsSigned, ℤ, pos, neg_ℤ, ◌+ℤ◌, ◌≤ℤ◌, ◌<ℤ◌}
use Rattle.std.specs.Int.{w32}
use Rattle.jiff_core.specs.Calendar.{days_in_year}
use Rattle.jiff_core.proofs.CalendarLemmas.{days_from_civil-day_count, day_count-later_year, days_in_year_bounds}
use Rattle.jiff_core.proofs.SignedLemmas.{signed_arith}
use Rattle.tz_types.specs.Calendar.{year_start}
use Rattle.tz_types.specs.declared.range.SysInfo.{SysInfo}
use Rattle.tz_types.specs.declared.source.Source.{Source}
use Rattle.tz_types.specs.declared.zone.Zone.{Zone}
use Rattle.tz_types.specs.declared.database.Db.{Db}
use Rattle.tz_specs.specs.Expansion.{periods_of, full_expansion}
use Rattle.tz_specs.proofs.ExpansionLemmas.{begin_of_time-midnight, end_of_time-midnight}
use Rattle.tz_specs.proofs.SameDatabase.{one_database}
use Rattle.tz_lines.specs.Locate.{located}
use Rattle.tz_expand.specs.declared.compiled_zone.CompiledZone.{CompiledZone}
use Rattle.tz_expand.specs.Zone.{expansion_of}
use Rattle.tz_expand.specs.Stretch.{IsStretch, meets}
use Rattle.tz_tzif.specs.declared.types.TheConstants.{MOST_TYPES}
use Rattle.tz_tzif.specs.Types.{merged, types_of}
use Rattle.tz_tzif.specs.Answer.{Answers, far_index}
use Rattle.tz_tzif.specs.declared.local_type.LocalType.{LocalType}
use Rattle.tz_tzif.specs.declared.tzif_error.TzifError.{TzifError}
use Rattle.tz_tzif.specs.declared.tzif_error.TzifError.TheVariants as errors
use Rattle.tz_cli.specs.NamedZone.{IsNamedZone}
use Rattle.tz_cli.specs.ZoneAnswer.{GivesOfZone}
use Rattle.tz_cli.specs.Tzif.{AreYears, ranges_of_years, types_of_years, IsFileOf, as_refusal}
use Rattle.tz_words.specs.declared.status.Status.{Status}
use Rattle.tz_words.specs.declared.status.Status.TheVariants as statuses

-- every year has days
some_days : (year : ℤ) → 365 ≤ days_in_year year
some_days year = (days_in_year_bounds year).1

-- a later year begins later
later_begins : (year later : ℤ) → neg_ℤ (pos 10_000) ≤ℤ year → year <ℤ later → year_start year ≤ℤ year_start later
later_begins year later low below =
    omega (arith, signed_arith, day_count-later_year year later low below, days_from_civil-day_count year 1 1, days_from_civil-day_count later 1 1)

-- and by a day at least
pub later_begins_later : (year later : ℤ) → neg_ℤ (pos 10_000) ≤ℤ year → year <ℤ later → year_start year <ℤ year_start later
later_begins_later year later low below =
    let some = some_days year in
    omega (arith, signed_arith, day_count-later_year year later low below, days_from_civil-day_count year 1 1, days_from_civil-day_count later 1 1, some)

-- the year behind the last is kept in 32 bits
pub next_fits : (first last : ℤ) → AreYears first last → FitsSigned w32 (last +ℤ pos 1)
next_fits first last are = in_bits (last +ℤ pos 1) (omega (arith, signed_arith, are.begins, are.ordered)) (omega (arith, signed_arith, are.ends))
  where
    in_bits : (z : ℤ) → neg_ℤ (pos 10_000) ≤ℤ z → z ≤ℤ pos 10_000 → FitsSigned w32 z
    in_bits z low high = search rules

pub years_stretch : (first last : ℤ) → AreYears first last → IsStretch (year_start first) (year_start (last +ℤ pos 1))
years_stretch first last are =
    record {
      begins = rw begin_of_time-midnight (later_begins (neg_ℤ (pos 9999)) first (omega (arith, signed_arith)) (omega (arith, signed_arith, are.begins)));
      ordered = later_begins_later first (last +ℤ pos 1) (omega (arith, signed_arith, are.begins)) (omega (arith, signed_arith, are.ordered));
      ends = rw end_of_time-midnight (later_begins (last +ℤ pos 1) (pos 10_000) (omega (arith, signed_arith, are.begins, are.ordered)) (omega (arith, signed_arith, are.ends)));
    }

-- where the zone has no file, the command tells why
pub no_file : (first last : ℤ) (zone : CompiledZone) (error : TzifError) → AreYears first last → Answers (year_start first) (ranges_of_years first last zone) (Err error) → GivesOfZone (AreYears first last) (IsFileOf first last zone) (Err (as_refusal error))
no_file first last zone (errors.Types count) are given = (are, (given.0, refl))
no_file first last zone (errors.Designations at) are given = (are, (given.0, rw given.1 refl, refl))
no_file first last zone errors.NoMemory are given = tt

-- a source has one full expansion under a name
pub one_expansion : (source : Source) (name : List ℕ) (a b : CompiledZone) → IsNamedZone source name a → IsNamedZone source name b → expansion_of a ≡ expansion_of b
one_expansion source name a b first second =
    let dbs : first.db ≡ second.db = one_database source first.db second.db first.reads second.reads in
    let places : Some first.place ≡ Some second.place = sym first.named ∙ ap (λ (db : Db). located db name) dbs ∙ second.named in
    let place : first.place ≡ second.place = cc in
    let zones : Some first.zone ≡ Some second.zone = sym first.there ∙ ap (λ (db : Db). slice_get db.zones first.place) dbs ∙ ap (λ (place : ℕ). slice_get second.db.zones place) place ∙ second.there in
    let zone : first.zone ≡ second.zone = cc in
    ap full_expansion (first.is.lines ∙ ap (λ (db : Db). periods_of db first.zone) dbs ∙ ap (λ (zone : Zone). periods_of second.db zone) zone ∙ sym second.is.lines)

-- so these years have one list of types
one_list : (first last : ℤ) (a b : CompiledZone) → expansion_of a ≡ expansion_of b → types_of_years first last a ≡ types_of_years first last b
one_list first last a b same =
    ap (λ (ranges : List SysInfo). types_of (merged (filter (meets (year_start first) (year_start (last +ℤ pos 1))) ranges))) same

too_many : (few many : List LocalType) → few ≡ many → length few ≤ MOST_TYPES → MOST_TYPES < length many → ⊥
too_many few many same low high =
    let long : length few ≡ length many = ap length same in
    omega (arith, long, low, high)

none_far : (near far : List LocalType) → near ≡ far → far_index near ≡ None → IsSome (far_index far) → ⊥
none_far near far same none some =
    let other : far_index far ≡ None = ap far_index (sym same) ∙ none in
    let never : is_some (far_index far) ≡ false = rw other refl in cc

file_told : (first last : ℤ) (a b : CompiledZone) (r s : Status) (line other : List ℕ) → types_of_years first last a ≡ types_of_years first last b → IsFileOf first last a r line → IsFileOf first last b s other → r ≡ s
file_told first last a b statuses.Ok statuses.Ok line other same here there = refl
file_told first last a b statuses.Ok statuses.Types line other same here there =
    absurd (too_many (types_of_years first last a) (types_of_years first last b) same here.0 there.0)
file_told first last a b statuses.Ok statuses.Designations line other same here there =
    absurd (none_far (types_of_years first last a) (types_of_years first last b) same here.1 there.1)
file_told first last a b statuses.Ok s line other same here there = absurd there
file_told first last a b statuses.Types statuses.Ok line other same here there =
    absurd (too_many (types_of_years first last b) (types_of_years first last a) (sym same) there.0 here.0)
file_told first last a b statuses.Types statuses.Types line other same here there = refl
file_told first last a b statuses.Types statuses.Designations line other same here there =
    absurd (too_many (types_of_years first last b) (types_of_years first last a) (sym same) there.0 here.0)
file_told first last a b statuses.Types s line other same here there = absurd there
file_told first last a b statuses.Designations statuses.Ok line other same here there =
    absurd (none_far (types_of_years first last b) (types_of_years first last a) (sym same) there.1 here.1)
file_told first last a b statuses.Designations statuses.Types line other same here there =
    absurd (too_many (types_of_years first last a) (types_of_years first last b) same here.0 there.0)
file_told first last a b statuses.Designations statuses.Designations line other same here there = refl
file_told first last a b statuses.Designations s line other same here there = absurd there
file_told first last a b r s line other same here there = absurd here

-- the file is answered with one status
pub one_file : (source : Source) (name : List ℕ) (first last : ℤ) (a b : CompiledZone) (r s : Status) (line other : List ℕ) → IsNamedZone source name a → IsNamedZone source name b → IsFileOf first last a r line → IsFileOf first last b s other → r ≡ s
one_file source name first last a b r s line other one two here there =
    file_told first last a b r s line other (one_list first last a b (one_expansion source name a b one two)) here there

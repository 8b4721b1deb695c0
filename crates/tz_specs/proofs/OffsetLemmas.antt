-- Offsets are at most two days.
use Rattle.std.proofs.Common.{◌≡◌, ℕ, zero, suc, ◌≤◌, Bool, ⊎_elim, refl, ap, subst, arith, List, [], ◌∷◌, ℤ, pos, negsuc, ◌+ℤ◌, ◌-ℤ◌, ◌<ℤ◌, ◌≤ℤ◌, None, IsTrue, IsSome, unsigned_abs}
use Rattle.std.specs.Prelude.{slice_get}
use Rattle.std.proofs.lemmas.Int.{ints}
use Rattle.std.proofs.lemmas.Bool.{leb-true}
use Rattle.jiff_core.specs.Calendar.{IsWithin}
use Rattle.tz_types.specs.declared.limit.TheConstants.{LONGEST_SHIFT, LONGEST_OFFSET}
use Rattle.tz_types.specs.Amount.{IsShift}
use Rattle.tz_types.specs.Saves.{is_fixed_save}
use Rattle.tz_types.specs.declared.rule_set.RuleSet.{RuleSet}
use Rattle.tz_types.specs.declared.zone_line.LineRules.{LineRules}
use Rattle.tz_types.specs.declared.zone_line.LineRules.TheVariants as rules
use Rattle.tz_types.specs.declared.zone_line.ZoneLine.{ZoneLine}
use Rattle.tz_types.specs.declared.zone.Zone.{Zone}
use Rattle.tz_types.specs.declared.database.Db.{Db}
use Rattle.tz_types.specs.declared.range.SysInfo.{SysInfo}
use Rattle.tz_specs.specs.Occurrence.{Occurrence, occurrences}
use Rattle.tz_specs.specs.State.{InForce, instants, state_at, in_force}
use Rattle.tz_specs.specs.Until.{Following, Nothing, Fixed, Rules}
use Rattle.tz_specs.specs.Expansion.{Period, first_instant, end_of_time, following_of, finish_of, periods_from, periods_of, state_in, range_of, cuts_of, pieces_of, ranges_of, full_expansion}
use Rattle.tz_specs.specs.Local.{local_info}
use Rattle.tz_specs.specs.Cover.{IsSound}
use Rattle.tz_specs.proofs.ListLemmas.{In}
use Rattle.tz_specs.proofs.StateLemmas.{by_get}
use Rattle.tz_specs.proofs.CutLemmas.{by_following, expansion_covers}
use Rattle.tz_specs.proofs.RangeLemmas.{In-expansion_back}
use Rattle.tz_specs.proofs.EffectLemmas.{in_force-at, in_force-zero}
use Rattle.tz_specs.proofs.LocalLemmas.{told_inside}

-- a fixed save is at most a day
abbrev pub HasSmallSave : Following → Type 0
HasSmallSave Nothing = Unit {0}
HasSmallSave (Fixed save daylight) = IsShift save
HasSmallSave (Rules set) = Unit {0}

in_force-gone : (list : List Occurrence) (place : ℕ) → slice_get list place ≡ None → (in_force list (suc place)).save ≡ pos 0
unfolding in_force
in_force-gone list place gone = rw gone

zero_is_small : (save : ℤ) → save ≡ pos 0 → IsShift save
zero_is_small save is = (omega (arith, ints), omega (arith, ints))

in_force_small : (list : List Occurrence) (number : ℕ) → IsShift (in_force list number).save
in_force_small list zero = zero_is_small (in_force list zero).save (ap (λ (s : InForce). s.save) (in_force-zero list))
in_force_small list (suc place) =
    by_get list place
    (λ occurrence there.
    let within : IsShift occurrence.rule.save = occurrence.rule.save_in in
    rw (in_force-at list place occurrence there) within)
    (λ gone. zero_is_small (in_force list (suc place)).save (in_force-gone list place gone))

small_save : (following : Following) (save : ℤ) (daylight : Bool) → following ≡ Fixed save daylight → HasSmallSave following → IsShift save
small_save following save daylight e small =
    let small' : HasSmallSave (Fixed save daylight) = rw e at small in
    small'

state_small : (period : Period) (t : ℤ) → HasSmallSave period.following → IsShift (state_in period t).save
state_small period t small =
    by_following period.following
    (λ e. rw e (zero_is_small (pos 0) refl))
    (λ save daylight e. rw e (small_save period.following save daylight e small))
    (λ set e. rw e (in_force_small (occurrences set) (state_at (instants period.stdoff (occurrences set)) t)))

range_small : (period : Period) (begin end : ℤ) → IsShift period.stdoff → HasSmallSave period.following → IsWithin LONGEST_OFFSET (range_of period begin end).offset
range_small period begin end here small =
    let save = state_small period begin small in
    (omega (arith, ints, here, save), omega (arith, ints, here, save))

pieces_small : (period : Period) (begin : ℤ) (cuts : List ℤ) (range : SysInfo) → IsShift period.stdoff → HasSmallSave period.following → In range (pieces_of period begin cuts) → IsWithin LONGEST_OFFSET range.offset
pieces_small period begin [] range here small has =
    ⊎_elim
    (λ (same : range_of period begin period.finish ≡ range).
    subst (λ (r : SysInfo). IsWithin LONGEST_OFFSET r.offset) same (range_small period begin period.finish here small))
    (λ (nothing : ⊥). absurd nothing)
    has
pieces_small period begin (cut ∷ cuts) range here small has =
    ⊎_elim
    (λ (same : range_of period begin cut ≡ range).
    subst (λ (r : SysInfo). IsWithin LONGEST_OFFSET r.offset) same (range_small period begin cut here small))
    (λ (later : In range (pieces_of period cut cuts)). pieces_small period cut cuts range here small later)
    has

ranges_small : (period : Period) (range : SysInfo) → IsShift period.stdoff → HasSmallSave period.following → In range (ranges_of period) → IsWithin LONGEST_OFFSET range.offset
unfolding ranges_of
ranges_small period range here small has = pieces_small period period.start (cuts_of period) range here small has

-- ---- the lines of a zone
abs_small : (save : ℤ) → unsigned_abs save ≤ LONGEST_SHIFT → IsShift save
abs_small (pos n) h = (omega (arith, ints), omega (arith, ints))
abs_small (negsuc n) h = (omega (arith, ints), omega (arith, ints))

set_small : (sets : List RuleSet) (place : ℕ) → HasSmallSave (following_of sets (rules.Set place))
set_small sets place = by_get sets place (λ set there. rw there tt) (λ gone. rw gone tt)

pub following_small : (sets : List RuleSet) (line_rules : LineRules) → IsTrue (is_fixed_save line_rules) → HasSmallSave (following_of sets line_rules)
following_small sets rules.Plain small = tt
following_small sets (rules.Fixed save daylight) small = abs_small save (leb-true (unsigned_abs save) LONGEST_SHIFT small)
following_small sets (rules.Set place) small = set_small sets place

abbrev IsSmallPeriod : Period → Type 0
IsSmallPeriod period = IsShift period.stdoff × HasSmallSave period.following

periods_small : (sets : List RuleSet) (start : ℤ) (lines : List ZoneLine) (period : Period) → In period (periods_from sets start lines) → IsSmallPeriod period
periods_small sets start [] period has = absurd has
periods_small sets start (line ∷ lines) period has =
    ⊎_elim
    (λ (same : _ ≡ period). subst IsSmallPeriod same (line.stdoff_in, following_small sets line.rules line.save_in))
    (λ (later : In period (periods_from sets (finish_of sets line) lines)). periods_small sets (finish_of sets line) lines period later)
    has

pub zone_offsets_small : (db : Db) (zone : Zone) (range : SysInfo) → In range (full_expansion (periods_of db zone)) → IsWithin LONGEST_OFFSET range.offset
unfolding periods_of
zone_offsets_small db zone range has =
    let there = In-expansion_back (periods_from db.sets first_instant zone.lines) range has in
    let small = periods_small db.sets first_instant zone.lines there.0 there.1 in
    ranges_small there.0 range small.0 small.1 there.2

-- so every local time two days inside of time is told
pub sound_local_times : (db : Db) (zone : Zone) (l : ℤ) → IsSound db zone → (first_instant +ℤ pos LONGEST_OFFSET) ≤ℤ l → l <ℤ (end_of_time -ℤ pos LONGEST_OFFSET) → IsSome (local_info (full_expansion (periods_of db zone)) l)
sound_local_times db zone l sound low high =
    told_inside first_instant end_of_time l (full_expansion (periods_of db zone)) (expansion_covers first_instant end_of_time (periods_of db zone) sound)
    (λ range has. zone_offsets_small db zone range has) low high

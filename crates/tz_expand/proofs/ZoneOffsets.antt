-- The offsets of a compiled zone are at most two days.
use Rattle.std.proofs.Common.{◌≡◌, ℕ, zero, suc, ◌≤◌, refl, ap, arith, List, ℤ, pos, negsuc, None, IsTrue, unsigned_abs}
use Rattle.std.specs.Prelude.{slice_get}
use Rattle.std.proofs.lemmas.Int.{ints}
use Rattle.std.proofs.lemmas.Bool.{leb-true}
use Rattle.jiff_core.specs.Calendar.{IsWithin}
use Rattle.tz_types.specs.Amount.{IsShift}
use Rattle.tz_types.specs.declared.limit.TheConstants.{LONGEST_SHIFT, LONGEST_OFFSET}
use Rattle.tz_types.specs.declared.range.SysInfo.{SysInfo}
use Rattle.tz_specs.specs.Occurrence.{Occurrence, occurrences}
use Rattle.tz_specs.specs.State.{InForce, instants, state_at, in_force}
use Rattle.tz_specs.specs.Expansion.{Period, first_instant, end_of_time, state_in, range_of}
use Rattle.tz_specs.specs.Standing.{IsRangeOf}
use Rattle.tz_specs.proofs.ListLemmas.{In, In-map_back}
use Rattle.tz_specs.proofs.StateLemmas.{by_get}
use Rattle.tz_specs.proofs.CoverLemmas.{leads-chains}
use Rattle.tz_specs.proofs.CutLemmas.{by_following}
use Rattle.tz_specs.proofs.RangeLemmas.{In-expansion_back, In-ranges_back, chain_takes_time}
use Rattle.tz_specs.proofs.EffectLemmas.{in_force-at, in_force-zero}
use Rattle.tz_specs.proofs.OffsetLemmas.{HasSmallSave}
use Rattle.tz_expand.specs.declared.compiled_line.CompiledLine.{CompiledLine}
use Rattle.tz_expand.specs.declared.compiled_line.CompiledRules.{CompiledRules}
use Rattle.tz_expand.specs.declared.compiled_line.CompiledRules.TheVariants as rules
use Rattle.tz_expand.specs.declared.compiled_zone.CompiledZone.{CompiledZone}
use Rattle.tz_expand.specs.Followed.{followed_by, is_compiled_save}
use Rattle.tz_expand.specs.Compiled.{period_of, periods}
use Rattle.tz_expand.specs.Zone.{expansion_of}

in_force-gone : (list : List Occurrence) (place : ℕ) → slice_get list place ≡ None → (in_force list (suc place)).save ≡ pos 0
unfolding in_force
in_force-gone list place gone = rw gone

zero_is_small : (save : ℤ) → save ≡ pos 0 → IsShift save
zero_is_small save is = (omega (arith, ints), omega (arith, ints))

in_force_small : (list : List Occurrence) (number : ℕ) → IsShift (in_force list number).save
in_force_small list zero = zero_is_small (in_force list zero).save (ap (λ (s : InForce). s.save) (in_force-zero list))
in_force_small list (suc place) =
    by_get list place
    (λ occurrence there.
    let within : IsShift occurrence.rule.save = occurrence.rule.save_in in
    rw (in_force-at list place occurrence there) within)
    (λ gone. zero_is_small (in_force list (suc place)).save (in_force-gone list place gone))

state_small : (period : Period) (t : ℤ) → HasSmallSave period.following → IsShift (state_in period t).save
state_small period t small =
    by_following period.following
    (λ e. rw e (zero_is_small (pos 0) refl))
    (λ save daylight e. let within = rw e at small in rw e within)
    (λ set e. rw e (in_force_small (occurrences set) (state_at (instants period.stdoff (occurrences set)) t)))

range_small : (period : Period) (begin end : ℤ) → IsShift period.stdoff → HasSmallSave period.following → IsWithin LONGEST_OFFSET (range_of period begin end).offset
range_small period begin end here small =
    let save = state_small period begin small in
    (omega (arith, ints, here, save), omega (arith, ints, here, save))

abs_small : (save : ℤ) → unsigned_abs save ≤ LONGEST_SHIFT → IsShift save
abs_small (pos n) h = (omega (arith, ints), omega (arith, ints))
abs_small (negsuc n) h = (omega (arith, ints), omega (arith, ints))

rules_small : (followed : CompiledRules) → IsTrue (is_compiled_save followed) → HasSmallSave (followed_by followed)
rules_small rules.Plain small = tt
rules_small (rules.Fixed save daylight) small = abs_small save (leb-true (unsigned_abs save) LONGEST_SHIFT small)
rules_small (rules.Set set) small = tt

line_small : (line : CompiledLine) (range : SysInfo) → IsRangeOf (period_of line) range → IsWithin LONGEST_OFFSET range.offset
line_small line range is =
    let small = range_small (period_of line) range.begin range.end line.stdoff_in (rules_small line.rules line.save_in) in
    let told : range.offset ≡ (range_of (period_of line) range.begin range.end).offset = ap (λ (r : SysInfo). r.offset) is.told in
    rw told small

pub offset_near : (zone : CompiledZone) (range : SysInfo) → In range (expansion_of zone) → IsWithin LONGEST_OFFSET range.offset
offset_near zone range has =
    let lines = periods zone.lines in
    let chain = leads-chains first_instant end_of_time lines zone.covers in
    let there = In-expansion_back lines range has in
    let line = In-map_back period_of zone.lines there.0 there.1 in
    let takes = chain_takes_time first_instant end_of_time lines there.0 chain there.1 in
    let is : IsRangeOf there.0 range = In-ranges_back there.0 range takes there.2 in
    line_small line.0 range (rw line.2 is)

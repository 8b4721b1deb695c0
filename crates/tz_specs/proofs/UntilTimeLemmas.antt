-- On which clocks occurrences come and lines end, and that lines end inside time.
use Rattle.std.proofs.Common.{◌≡◌, ◌⊎◌, inl, inr, ⊎_elim, refl, ap, ◌∙◌, arith, Bool, true, List, ℤ, pos, neg_ℤ, ◌+ℤ◌, ◌-ℤ◌, ◌*ℤ◌, ◌<ℤ◌, ◌≤ℤ◌, Some, IsTrue}
use Rattle.std.proofs.lemmas.Int.{ints}
use Rattle.jiff_core.specs.Calendar.{IsYear, IsWithin}
use Rattle.jiff_core.proofs.CalendarLemmas.{days_from_civil-day_count, day_count-next_year, day_count-later_year, day_count-year_bounds, day_count-min, days_in_year_bounds}
use Rattle.jiff_core.proofs.SignedLemmas.{signed_arith}
use Rattle.tz_types.specs.declared.limit.TheConstants.{LONGEST_OFFSET}
use Rattle.tz_types.specs.Year.{IsRuleYear}
use Rattle.tz_types.specs.Amount.{IsShift}
use Rattle.tz_types.specs.Calendar.{has_day, day_number}
use Rattle.tz_types.specs.declared.calendar.Month.{Month}
use Rattle.tz_types.specs.declared.calendar.On.{On}
use Rattle.tz_types.specs.declared.moment.AtKind.{AtKind}
use Rattle.tz_types.specs.declared.moment.AtKind.TheVariants as kinds
use Rattle.tz_types.specs.declared.moment.Moment.{Moment}
use Rattle.tz_types.specs.declared.rule_set.RuleSet.{RuleSet}
use Rattle.tz_types.specs.declared.until.Until.{Until}
use Rattle.tz_types.specs.declared.zone_line.ZoneLine.{ZoneLine}
use Rattle.tz_specs.specs.Occurrence.{Occurrence, nominal_of, nominal_second, precedes, occurrences}
use Rattle.tz_specs.specs.State.{shift}
use Rattle.tz_specs.specs.Until.{Following, Nothing, Fixed, Rules, until_instant}
use Rattle.tz_specs.specs.Expansion.{first_instant, end_of_time, following_of, finish_of}
use Rattle.tz_specs.specs.Standing.{IsOccurrence}
use Rattle.tz_specs.specs.Effect.{HasSaveBefore, ComesAt, until_with, NextBefore, FirstNotBefore, IsUntilUnder}
use Rattle.tz_specs.proofs.DayLemmas.{day_number_near}
use Rattle.tz_specs.proofs.OccurrenceLemmas.{occurrences_total}
use Rattle.tz_specs.proofs.EffectLemmas.{place_of, place_from_save, same_save, shift_near}
use Rattle.tz_specs.proofs.UntilLemmas.{until_under, until_before_first, until_cases}
use Rattle.tz_specs.proofs.OffsetLemmas.{HasSmallSave, following_small}

-- ---- clocks
shift-universal : (kind : AtKind) (stdoff save : ℤ) → kind ≡ kinds.Universal → shift kind stdoff save ≡ pos 0
shift-universal kind stdoff save is = rw is refl

shift-standard : (kind : AtKind) (stdoff save : ℤ) → kind ≡ kinds.Standard → shift kind stdoff save ≡ stdoff
shift-standard kind stdoff save is = rw is refl

shift-wall : (kind : AtKind) (stdoff save : ℤ) → kind ≡ kinds.Wall → shift kind stdoff save ≡ (stdoff +ℤ save)
shift-wall kind stdoff save is = rw is refl

-- what a clock that is ahead shows
shown : (instant nominal ahead amount : ℤ) → instant ≡ (nominal -ℤ ahead) → ahead ≡ amount → (instant +ℤ amount) ≡ nominal
shown instant nominal ahead amount on_its_clock is = omega (arith, ints)

shown_alone : (instant nominal ahead : ℤ) → instant ≡ (nominal -ℤ ahead) → ahead ≡ pos 0 → instant ≡ nominal
shown_alone instant nominal ahead on_its_clock is = omega (arith, ints)

shown_with : (instant nominal ahead stdoff save : ℤ) → instant ≡ (nominal -ℤ ahead) → ahead ≡ (stdoff +ℤ save) → ((instant +ℤ stdoff) +ℤ save) ≡ nominal
shown_with instant nominal ahead stdoff save on_its_clock is = omega (arith, ints)

shown_without : (instant nominal ahead stdoff : ℤ) → instant ≡ (nominal -ℤ ahead) → ahead ≡ (stdoff +ℤ pos 0) → (instant +ℤ stdoff) ≡ nominal
shown_without instant nominal ahead stdoff on_its_clock is = omega (arith, ints)

pub comes-universal : (set : RuleSet) (stdoff : ℤ) (occurrence : Occurrence) (instant : ℤ) → occurrence.rule.moment.kind ≡ kinds.Universal → ComesAt set stdoff occurrence instant → instant ≡ nominal_of occurrence
comes-universal set stdoff occurrence instant is comes =
    let kind = occurrence.rule.moment.kind in
    shown_alone instant (nominal_of occurrence) (shift kind stdoff comes.save) comes.on_its_clock (shift-universal kind stdoff comes.save is)

pub comes-standard : (set : RuleSet) (stdoff : ℤ) (occurrence : Occurrence) (instant : ℤ) → occurrence.rule.moment.kind ≡ kinds.Standard → ComesAt set stdoff occurrence instant → (instant +ℤ stdoff) ≡ nominal_of occurrence
comes-standard set stdoff occurrence instant is comes =
    let kind = occurrence.rule.moment.kind in
    shown instant (nominal_of occurrence) (shift kind stdoff comes.save) stdoff comes.on_its_clock (shift-standard kind stdoff comes.save is)

-- one save is in force before an occurrence
save_before_once : (set : RuleSet) (occurrence : Occurrence) (save other : ℤ) → IsOccurrence set occurrence → HasSaveBefore set occurrence save → HasSaveBefore set occurrence other → save ≡ other
save_before_once set occurrence save other is here there =
    let place = place_of set occurrence is in
    same_save (pos 0) (occurrences set) place.0 save other (place_from_save set place.0 occurrence save place.1 here) (place_from_save set place.0 occurrence other place.1 there)

pub comes-wall : (set : RuleSet) (stdoff save : ℤ) (occurrence : Occurrence) (instant : ℤ) → occurrence.rule.moment.kind ≡ kinds.Wall → IsOccurrence set occurrence → HasSaveBefore set occurrence save → ComesAt set stdoff occurrence instant → ((instant +ℤ stdoff) +ℤ save) ≡ nominal_of occurrence
comes-wall set stdoff save occurrence instant is stands has comes =
    let kind = occurrence.rule.moment.kind in
    let same = save_before_once set occurrence comes.save save stands comes.save_before has in
    shown_with instant (nominal_of occurrence) (shift kind stdoff comes.save) stdoff save comes.on_its_clock (shift-wall kind stdoff comes.save is ∙ ap (λ (s : ℤ). stdoff +ℤ s) same)

-- ---- an UNTIL is read with some save
until-alone : (stdoff year : ℤ) (moment : Moment) → until_instant Nothing stdoff year moment ≡ until_with stdoff year moment (pos 0)
unfolding until_instant
until-alone stdoff year moment = refl

until-fixed : (stdoff year save : ℤ) (daylight : Bool) (moment : Moment) → until_instant (Fixed save daylight) stdoff year moment ≡ until_with stdoff year moment save
unfolding until_instant
until-fixed stdoff year save daylight moment = refl

-- the save with which an UNTIL is read
pub record ReadWith (following : Following) (stdoff year : ℤ) (moment : Moment) : Type 0 where
  pub save : ℤ
  pub small : HasSmallSave following → IsShift save
  pub is : until_instant following stdoff year moment ≡ until_with stdoff year moment save

no_save : IsShift (pos 0)
no_save = (omega (arith, ints), omega (arith, ints))

read_with : (following : Following) (stdoff year : ℤ) (moment : Moment) → ReadWith following stdoff year moment
read_with Nothing stdoff year moment =
    record { save = pos 0; small = λ _. no_save; is = until-alone stdoff year moment }
read_with (Fixed save daylight) stdoff year moment =
    record { save = save; small = λ small. small; is = until-fixed stdoff year save daylight moment }
read_with (Rules set) stdoff year moment =
    ⊎_elim
    (λ (first : FirstNotBefore set stdoff (until_with stdoff year moment (pos 0))).
    record { save = pos 0; small = λ _. no_save; is = until_before_first set stdoff year moment first })
    (λ (later : (occurrence : Occurrence) × IsUntilUnder set stdoff year moment occurrence).
    record { save = later.0.rule.save; small = λ _. later.0.rule.save_in; is = until_under set stdoff year moment later.0 later.1 })
    (until_cases set stdoff year moment)

pub until-universal : (following : Following) (stdoff year : ℤ) (moment : Moment) → moment.kind ≡ kinds.Universal → until_instant following stdoff year moment ≡ nominal_second year moment
until-universal following stdoff year moment is =
    let read = read_with following stdoff year moment in
    shown_alone (until_instant following stdoff year moment) (nominal_second year moment) (shift moment.kind stdoff read.save) read.is (shift-universal moment.kind stdoff read.save is)

pub until-standard : (following : Following) (stdoff year : ℤ) (moment : Moment) → moment.kind ≡ kinds.Standard → (until_instant following stdoff year moment +ℤ stdoff) ≡ nominal_second year moment
until-standard following stdoff year moment is =
    let read = read_with following stdoff year moment in
    shown (until_instant following stdoff year moment) (nominal_second year moment) (shift moment.kind stdoff read.save) stdoff read.is (shift-standard moment.kind stdoff read.save is)

pub until-wall_with : (following : Following) (stdoff year save : ℤ) (moment : Moment) → moment.kind ≡ kinds.Wall → until_instant following stdoff year moment ≡ until_with stdoff year moment save → ((until_instant following stdoff year moment +ℤ stdoff) +ℤ save) ≡ nominal_second year moment
until-wall_with following stdoff year save moment is read =
    shown_with (until_instant following stdoff year moment) (nominal_second year moment) (shift moment.kind stdoff save) stdoff save read (shift-wall moment.kind stdoff save is)

pub until-wall_without : (following : Following) (stdoff year : ℤ) (moment : Moment) → moment.kind ≡ kinds.Wall → until_instant following stdoff year moment ≡ until_with stdoff year moment (pos 0) → (until_instant following stdoff year moment +ℤ stdoff) ≡ nominal_second year moment
until-wall_without following stdoff year moment is read =
    shown_without (until_instant following stdoff year moment) (nominal_second year moment) (shift moment.kind stdoff (pos 0)) stdoff read (shift-wall moment.kind stdoff (pos 0) is)

pub until-wall_alone : (stdoff year : ℤ) (moment : Moment) → moment.kind ≡ kinds.Wall → (until_instant Nothing stdoff year moment +ℤ stdoff) ≡ nominal_second year moment
until-wall_alone stdoff year moment is = until-wall_without Nothing stdoff year moment is (until-alone stdoff year moment)

pub until-wall_fixed : (stdoff year save : ℤ) (daylight : Bool) (moment : Moment) → moment.kind ≡ kinds.Wall → ((until_instant (Fixed save daylight) stdoff year moment +ℤ stdoff) +ℤ save) ≡ nominal_second year moment
until-wall_fixed stdoff year save daylight moment is =
    until-wall_with (Fixed save daylight) stdoff year save moment is (until-fixed stdoff year save daylight moment)

pub until-wall_under : (set : RuleSet) (stdoff year : ℤ) (moment : Moment) (occurrence : Occurrence) → moment.kind ≡ kinds.Wall → IsUntilUnder set stdoff year moment occurrence → ((until_instant (Rules set) stdoff year moment +ℤ stdoff) +ℤ occurrence.rule.save) ≡ nominal_second year moment
until-wall_under set stdoff year moment occurrence is under =
    until-wall_with (Rules set) stdoff year occurrence.rule.save moment is (until_under set stdoff year moment occurrence under)

pub until-wall_before : (set : RuleSet) (stdoff year : ℤ) (moment : Moment) → moment.kind ≡ kinds.Wall → FirstNotBefore set stdoff (until_with stdoff year moment (pos 0)) → (until_instant (Rules set) stdoff year moment +ℤ stdoff) ≡ nominal_second year moment
until-wall_before set stdoff year moment is first =
    until-wall_without (Rules set) stdoff year moment is (until_before_first set stdoff year moment first)

-- ---- a greater one ends no earlier
later-by : (instant other nominal later ahead : ℤ) → (instant +ℤ ahead) ≡ nominal → (other +ℤ ahead) ≡ later → nominal ≤ℤ later → instant ≤ℤ other
later-by instant other nominal later ahead here there above = omega (arith, ints)

pub later-universal : (following : Following) (stdoff year later : ℤ) (moment other : Moment) → moment.kind ≡ kinds.Universal → other.kind ≡ kinds.Universal → nominal_second year moment ≤ℤ nominal_second later other → until_instant following stdoff year moment ≤ℤ until_instant following stdoff later other
later-universal following stdoff year later moment other is is_too above =
    let here = until-universal following stdoff year moment is in
    let there = until-universal following stdoff later other is_too in
    rw (here, there) above

pub later-standard : (following : Following) (stdoff year later : ℤ) (moment other : Moment) → moment.kind ≡ kinds.Standard → other.kind ≡ kinds.Standard → nominal_second year moment ≤ℤ nominal_second later other → until_instant following stdoff year moment ≤ℤ until_instant following stdoff later other
later-standard following stdoff year later moment other is is_too above =
    later-by (until_instant following stdoff year moment) (until_instant following stdoff later other) (nominal_second year moment) (nominal_second later other) stdoff (until-standard following stdoff year moment is) (until-standard following stdoff later other is_too) above

pub later-wall_alone : (stdoff year later : ℤ) (moment other : Moment) → moment.kind ≡ kinds.Wall → other.kind ≡ kinds.Wall → nominal_second year moment ≤ℤ nominal_second later other → until_instant Nothing stdoff year moment ≤ℤ until_instant Nothing stdoff later other
later-wall_alone stdoff year later moment other is is_too above =
    later-by (until_instant Nothing stdoff year moment) (until_instant Nothing stdoff later other) (nominal_second year moment) (nominal_second later other) stdoff (until-wall_alone stdoff year moment is) (until-wall_alone stdoff later other is_too) above

later-by_both : (instant other nominal later stdoff save : ℤ) → ((instant +ℤ stdoff) +ℤ save) ≡ nominal → ((other +ℤ stdoff) +ℤ save) ≡ later → nominal ≤ℤ later → instant ≤ℤ other
later-by_both instant other nominal later stdoff save here there above = omega (arith, ints)

pub later-wall_fixed : (stdoff save year later : ℤ) (daylight : Bool) (moment other : Moment) → moment.kind ≡ kinds.Wall → other.kind ≡ kinds.Wall → nominal_second year moment ≤ℤ nominal_second later other → until_instant (Fixed save daylight) stdoff year moment ≤ℤ until_instant (Fixed save daylight) stdoff later other
later-wall_fixed stdoff save year later daylight moment other is is_too above =
    later-by_both (until_instant (Fixed save daylight) stdoff year moment) (until_instant (Fixed save daylight) stdoff later other) (nominal_second year moment) (nominal_second later other) stdoff save (until-wall_fixed stdoff year save daylight moment is) (until-wall_fixed stdoff later save daylight other is_too) above

-- of two that are read with one save, the greater ends no earlier
with_one_save : (stdoff year later save : ℤ) (moment other : Moment) → moment.kind ≡ other.kind → nominal_second year moment ≤ℤ nominal_second later other → until_with stdoff year moment save ≤ℤ until_with stdoff later other save
with_one_save stdoff year later save moment other kinds_are above =
    rw kinds_are (less_taken (nominal_second year moment) (nominal_second later other) (shift other.kind stdoff save) above)
  where
    less_taken : (a b c : ℤ) → a ≤ℤ b → (a -ℤ c) ≤ℤ (b -ℤ c)
    less_taken a b c h = omega (arith, ints)

not_passed : (set : RuleSet) (stdoff year later : ℤ) (moment other : Moment) (second : Occurrence) → moment.kind ≡ other.kind → nominal_second year moment ≤ℤ nominal_second later other → NextBefore set stdoff second (until_with stdoff year moment second.rule.save) → IsUntilUnder set stdoff later other second → ⊥
not_passed set stdoff year later moment other second kinds_are above passed under =
    let next : until_with stdoff later other second.rule.save ≤ℤ passed.its_instant = under.reaches passed.next passed.its_instant passed.is passed.previous passed.comes in
    let early : passed.its_instant <ℤ until_with stdoff year moment second.rule.save = passed.before in
    let order = with_one_save stdoff year later second.rule.save moment other kinds_are above in
    beyond (until_with stdoff year moment second.rule.save) (until_with stdoff later other second.rule.save) passed.its_instant order next early
  where
    beyond : (a b c : ℤ) → a ≤ℤ b → b ≤ℤ c → c <ℤ a → ⊥
    beyond a b c first second third = omega (arith, ints)

pub later-under : (set : RuleSet) (stdoff year later : ℤ) (moment other : Moment) (first second : Occurrence) → moment.kind ≡ other.kind → nominal_second year moment ≤ℤ nominal_second later other → IsUntilUnder set stdoff year moment first → IsUntilUnder set stdoff later other second → (first ≡ second) ⊎ (precedes first second ≡ true)
later-under set stdoff year later moment other first second kinds_are above here there =
    ⊎_elim (λ (same : first ≡ second). inl same)
    (λ (differ : (precedes first second ≡ true) ⊎ (precedes second first ≡ true)).
    ⊎_elim (λ (before : precedes first second ≡ true). inr before)
    (λ (after : precedes second first ≡ true).
    absurd (not_passed set stdoff year later moment other second kinds_are above (here.passed second there.is after) there))
    differ)
    (occurrences_total set first second here.is there.is)

-- ---- inside time
day_in_time : (year next : ℤ) (month : Month) (on : On) → IsRuleYear year → next ≡ (year +ℤ pos 1) → IsTrue (has_day year month on) → (neg_ℤ (pos 4_371_228) ≤ℤ day_number year month on) × (day_number year month on ≤ℤ pos 2_932_538)
day_in_time year next month on year_in is has =
    let near = day_number_near year next month on (omega (arith, signed_arith)) is has in
    let last_year : IsYear (pos 9999) = (omega (arith, signed_arith), omega (arith, signed_arith)) in
    let before = day_count-later_year (neg_ℤ (pos 9999)) year (omega (arith, signed_arith)) (omega (arith, signed_arith)) in
    let later = day_count-later_year year (pos 9999) (omega (arith, signed_arith)) (omega (arith, signed_arith)) in
    let following = day_count-next_year year next (omega (arith, signed_arith)) is in
    let least = day_count-min in
    let all = day_count-year_bounds (pos 9999) last_year in
    let shortest = days_in_year_bounds (neg_ℤ (pos 9999)) in
    let longest = days_in_year_bounds (pos 9999) in
    let here = days_from_civil-day_count year 1 1 in
    let there = days_from_civil-day_count next 1 1 in
    (omega (arith, signed_arith, near.0), omega (arith, signed_arith, near.1))

ends_inside : (instant day at shift : ℤ) → instant ≡ (((pos 86_400 *ℤ day) +ℤ at) -ℤ shift) → (neg_ℤ (pos 4_371_228) ≤ℤ day) × (day ≤ℤ pos 2_932_538) → IsWithin 3_600_001 at → IsWithin LONGEST_OFFSET shift → (first_instant <ℤ instant) × (instant <ℤ end_of_time)
ends_inside instant day at shift is days at_in near =
    (omega (arith, signed_arith, is, days, at_in, near), omega (arith, signed_arith, is, days, at_in, near))

pub inside_time : (following : Following) (stdoff : ℤ) (until : Until) → IsShift stdoff → HasSmallSave following → (first_instant <ℤ until_instant following stdoff until.year until.moment) × (until_instant following stdoff until.year until.moment <ℤ end_of_time)
inside_time following stdoff until stdoff_in small =
    let read = read_with following stdoff until.year until.moment in
    let near = shift_near until.moment.kind stdoff read.save stdoff_in (read.small small) in
    let days = day_in_time until.year (until.year +ℤ pos 1) until.moment.month until.moment.on until.year_in refl until.day_in in
    ends_inside (until_instant following stdoff until.year until.moment) (day_number until.year until.moment.month until.moment.on) until.moment.at (shift until.moment.kind stdoff read.save) read.is days until.at_in near

pub line_inside_time : (sets : List RuleSet) (line : ZoneLine) (until : Until) → line.until ≡ Some until → (first_instant <ℤ finish_of sets line) × (finish_of sets line <ℤ end_of_time)
line_inside_time sets line until is =
    let inside = inside_time (following_of sets line.rules) line.stdoff until line.stdoff_in (following_small sets line.rules line.save_in) in
    rw is inside

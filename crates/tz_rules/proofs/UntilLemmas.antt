-- The walk along occurrences to the one under which an UNTIL is read.
use Rattle.std.proofs.Common.{◌≡◌, ℕ, zero, suc, ◌<◌, ◌≤◌, Bool, true, false, cond, ◌⊎◌, inl, inr, ⊎_elim, refl, sym, ap, ◌∙◌, arith, List, [], ◌∷◌, ℤ, pos, ◌+ℤ◌, ◌-ℤ◌, ◌<ℤ◌, ◌≤ℤ◌, Some}
use Rattle.std.specs.Prelude.{slice_get, int_lt, nat_lt, count_by, ◌&&◌, ◌+◌, None}
use Rattle.std.specs.Ordering.{int_eq}
use Rattle.std.proofs.lemmas.Bool.{or_left}
use Rattle.std.proofs.lemmas.List.Sums.{sum_by-cons}
use Rattle.std.proofs.lemmas.Int.{ints}
use Rattle.std.proofs.lemmas.Bool.{cases_order, false_from_ne_true}
use Rattle.std.proofs.lemmas.Option.{none-some}
use Rattle.jiff_core.specs.Calendar.{IsWithin}
use Rattle.tz_types.specs.declared.limit.TheConstants.{LONGEST_OFFSET}
use Rattle.tz_types.specs.Amount.{IsShift}
use Rattle.tz_types.specs.declared.moment.Moment.{Moment}
use Rattle.tz_types.specs.declared.rule_set.RuleSet.{RuleSet}
use Rattle.tz_specs.specs.Occurrence.{Occurrence, nominal_of, nominal_second, precedes, occurrences}
use Rattle.tz_specs.specs.State.{shift}
use Rattle.tz_specs.specs.Standing.{IsOccurrence}
use Rattle.tz_specs.specs.Effect.{IsFirst, IsPrevious, ComesAt, until_with, NextBefore, FirstNotBefore, IsUntilUnder}
use Rattle.tz_specs.proofs.Tests.{by_test, not_both, lt-int_lt}
use Rattle.tz_specs.proofs.ListLemmas.{In}
use Rattle.tz_specs.proofs.OrderLemmas.{precedes-true, precedes_asym, precedes_trans}
use Rattle.tz_specs.proofs.OccurrenceLemmas.{In-occurrences, occurrences_strict, occurrences_places, occurrences_total}
use Rattle.tz_specs.proofs.EffectLemmas.{at_place, place_of, previous_at, first_at, comes_somewhen, comes_once, comes_near, shift_near}
use Rattle.tz_rules.specs.declared.placed.Placed.{Placed}
use Rattle.tz_rules.specs.Mark.{is_after}
use Rattle.tz_rules.specs.Search.{FirstAfter, IsFirstAfter, LastBy, IsNextOf}
use Rattle.tz_rules.specs.Passed.{Passed, NoneBy, PassesNext}

-- what precedes has no later nominal second
not_later : (first second : Occurrence) → precedes first second ≡ true → nominal_of first ≤ℤ nominal_of second
not_later first second before =
    ⊎_elim (λ (less : nominal_of first <ℤ nominal_of second). omega (arith, ints))
    (λ (same : (nominal_of first ≡ nominal_of second) × (first.rule.line < second.rule.line)). omega (arith, ints, same.0))
    (precedes-true first second before)

-- a list that has a place has each one before it
has_place : {X : Type 0} (xs : List X) (place later : ℕ) (x : X) → place ≤ later → slice_get xs later ≡ Some x → (y : X) × (slice_get xs place ≡ Some y)
has_place [] place later x below there = absurd (none-some x there)
has_place (y ∷ ys) zero later x below there = (y, refl)
has_place (y ∷ ys) (suc place) zero x below there = absurd (omega arith)
has_place (y ∷ ys) (suc place) (suc later) x below there = has_place ys place later x (omega arith) there

-- what stands no later has no later nominal second
by_place : (set : RuleSet) (place later : ℕ) (first second : Occurrence) → place ≤ later → slice_get (occurrences set) place ≡ Some first → slice_get (occurrences set) later ≡ Some second → nominal_of first ≤ℤ nominal_of second
by_place set place later first second below here there =
    ⊎_elim
    (λ (same : place ≡ later).
    let here_too : slice_get (occurrences set) later ≡ Some first = rw (← same) here in
    let equal : nominal_of first ≡ nominal_of second = ap nominal_of (same_one first second (sym here_too ∙ there)) in
    omega (arith, ints))
    (⊎_elim
    (λ (lt : place < later). not_later first second (occurrences_strict set place later first second lt here there))
    (λ (gt : later < place). absurd (omega arith)))
    (cases_order place later)
  where
    same_one : (x y : Occurrence) → Some x ≡ Some y → x ≡ y
    same_one x y e = cc

-- ---- where the walk may start
early : (nominal start until instant shifted : ℤ) → nominal ≤ℤ start → (start +ℤ pos 345_600) <ℤ until → IsWithin LONGEST_OFFSET (instant -ℤ nominal) → IsWithin LONGEST_OFFSET shifted → instant <ℤ (until -ℤ shifted)
early nominal start until instant shifted below start_early near shift_in = omega (arith, ints, near, shift_in)

comes_early : (set : RuleSet) (stdoff year save : ℤ) (moment : Moment) (next start : Occurrence) (instant : ℤ) → IsShift stdoff → IsShift save → nominal_of next ≤ℤ nominal_of start → (nominal_of start +ℤ pos 345_600) <ℤ nominal_second year moment → ComesAt set stdoff next instant → instant <ℤ until_with stdoff year moment save
comes_early set stdoff year save moment next start instant stdoff_in save_in below start_early comes =
    early (nominal_of next) (nominal_of start) (nominal_second year moment) instant (shift moment.kind stdoff save) below start_early (comes_near set stdoff next instant stdoff_in comes) (shift_near moment.kind stdoff save stdoff_in save_in)

next_early : (set : RuleSet) (stdoff year : ℤ) (moment : Moment) (start earlier : Occurrence) (place later : ℕ) → IsShift stdoff → (nominal_of start +ℤ pos 345_600) <ℤ nominal_second year moment → slice_get (occurrences set) place ≡ Some earlier → slice_get (occurrences set) later ≡ Some start → place < later → NextBefore set stdoff earlier (until_with stdoff year moment earlier.rule.save)
next_early set stdoff year moment start earlier place later stdoff_in start_early here there below =
    let next = has_place (occurrences set) (suc place) later start (omega arith) there in
    let is = at_place set (suc place) next.0 next.1 in
    let comes = comes_somewhen set stdoff next.0 is in
    record {
      next = next.0;
      its_instant = comes.0;
      is = is;
      previous = previous_at set place earlier next.0 here next.1;
      comes = comes.1;
      before = comes_early set stdoff year earlier.rule.save moment next.0 start comes.0 stdoff_in earlier.rule.save_in (by_place set (suc place) later next.0 start (omega arith) next.1 there) start_early comes.1;
    }

no_save : IsShift (pos 0)
no_save = (omega (arith, ints), omega (arith, ints))

-- an occurrence four days before the UNTIL is passed by each reading of it
pub starts_passed : (set : RuleSet) (stdoff year : ℤ) (moment : Moment) (start : Occurrence) → IsShift stdoff → IsOccurrence set start → (nominal_of start +ℤ pos 345_600) <ℤ nominal_second year moment → Passed set stdoff year moment start
starts_passed set stdoff year moment start stdoff_in is start_early =
    let its = place_of set start is in
    let first = has_place (occurrences set) 0 its.0 start (omega arith) its.1 in
    let first_is = at_place set 0 first.0 first.1 in
    let first_comes = comes_somewhen set stdoff first.0 first_is in
    record {
      is = is;
      passed = λ earlier earlier_is before.
          let place = place_of set earlier earlier_is in
          next_early set stdoff year moment start earlier place.0 its.0 stdoff_in start_early place.1 its.1 (occurrences_places set place.0 its.0 earlier start place.1 its.1 before);
      passed_first = record {
        first = first.0;
        its_instant = first_comes.0;
        is = first_is;
        is_first = first_at set first.0 first.1;
        comes = first_comes.1;
        before = comes_early set stdoff year (pos 0) moment first.0 start first_comes.0 stdoff_in no_save (by_place set 0 its.0 first.0 start (omega arith) first.1 its.1) start_early first_comes.1;
      };
    }

-- ---- one step
-- it comes on the clock that the one before it keeps
pub comes_after : (set : RuleSet) (stdoff : ℤ) (previous next : Occurrence) (instant : ℤ) → IsPrevious set previous next → instant ≡ (nominal_of next -ℤ shift next.rule.moment.kind stdoff previous.rule.save) → ComesAt set stdoff next instant
comes_after set stdoff previous next instant is on_its_clock =
    record { save = previous.rule.save; save_before = inr (previous, is, refl); on_its_clock = on_its_clock }

pub comes_first : (set : RuleSet) (stdoff : ℤ) (first : Occurrence) (instant : ℤ) → IsFirst set first → instant ≡ (nominal_of first -ℤ shift first.rule.moment.kind stdoff (pos 0)) → ComesAt set stdoff first instant
comes_first set stdoff first instant is on_its_clock =
    record { save = pos 0; save_before = inl (refl, is); on_its_clock = on_its_clock }

pub step_passed : (set : RuleSet) (stdoff year : ℤ) (moment : Moment) (under next : Occurrence) (instant : ℤ) → Passed set stdoff year moment under → IsOccurrence set next → IsPrevious set under next → ComesAt set stdoff next instant → instant <ℤ until_with stdoff year moment under.rule.save → Passed set stdoff year moment next
step_passed set stdoff year moment under next instant passed is previous comes before =
    record {
      is = is;
      passed = λ earlier earlier_is earlier_before.
          ⊎_elim
          (λ (same : earlier ≡ under).
          rw same (record { next = next; its_instant = instant; is = is; previous = previous; comes = comes; before = before }))
          (λ (further : precedes earlier under ≡ true). passed.passed earlier earlier_is further)
          (previous.last earlier earlier_is earlier_before);
      passed_first = passed.passed_first;
    }

pub first_passed : (set : RuleSet) (stdoff year : ℤ) (moment : Moment) (first : Occurrence) (instant : ℤ) → IsOccurrence set first → IsFirst set first → ComesAt set stdoff first instant → instant <ℤ until_with stdoff year moment (pos 0) → Passed set stdoff year moment first
first_passed set stdoff year moment first instant is is_first comes before =
    record {
      is = is;
      passed = λ earlier earlier_is earlier_before. not_both (precedes earlier first) earlier_before (is_first earlier earlier_is);
      passed_first = record { first = first; its_instant = instant; is = is; is_first = is_first; comes = comes; before = before };
    }

-- ---- where the walk ends
next_once : (set : RuleSet) (previous first second : Occurrence) → IsOccurrence set first → IsOccurrence set second → IsPrevious set previous first → IsPrevious set previous second → first ≡ second
next_once set previous first second is is_too here there =
    ⊎_elim (λ (same : first ≡ second). same)
    (λ (differ : (precedes first second ≡ true) ⊎ (precedes second first ≡ true)).
    ⊎_elim (λ (before : precedes first second ≡ true). between previous first second is here.before before there)
    (λ (after : precedes second first ≡ true). sym (between previous second first is_too there.before after here))
    differ)
    (occurrences_total set first second is is_too)
  where
    between : (previous middle later : Occurrence) → IsOccurrence set middle → precedes previous middle ≡ true → precedes middle later ≡ true → IsPrevious set previous later → middle ≡ later
    between previous middle later stands after before previous_is =
        ⊎_elim
        (λ (same : middle ≡ previous).
        let itself : precedes previous previous ≡ true = rw same at after in
        not_both (precedes previous previous) itself (precedes_asym previous previous itself))
        (λ (earlier : precedes middle previous ≡ true).
        not_both (precedes middle previous) earlier (precedes_asym previous middle after))
        (previous_is.last middle stands before)

pub ends_under : (set : RuleSet) (stdoff year : ℤ) (moment : Moment) (under next : Occurrence) (instant : ℤ) → Passed set stdoff year moment under → IsOccurrence set next → IsPrevious set under next → ComesAt set stdoff next instant → until_with stdoff year moment under.rule.save ≤ℤ instant → IsUntilUnder set stdoff year moment under
ends_under set stdoff year moment under next instant passed is previous comes reached =
    record {
      is = passed.is;
      reaches = λ other its_instant other_is other_previous other_comes.
          let same : other ≡ next = next_once set under other next other_is is other_previous previous in
          let other_comes_too : ComesAt set stdoff next its_instant = rw same at other_comes in
          let equal : instant ≡ its_instant = comes_once set stdoff next instant its_instant is comes other_comes_too in
          rw (← equal) reached;
      passed = passed.passed;
      passed_first = passed.passed_first;
    }

pub ends_under_last : (set : RuleSet) (stdoff year : ℤ) (moment : Moment) (under : Occurrence) → Passed set stdoff year moment under → ((other : Occurrence) → IsOccurrence set other → precedes under other ≡ false) → IsUntilUnder set stdoff year moment under
ends_under_last set stdoff year moment under passed none_later =
    record {
      is = passed.is;
      reaches = λ other its_instant other_is other_previous other_comes. not_both (precedes under other) other_previous.before (none_later other other_is);
      passed = passed.passed;
      passed_first = passed.passed_first;
    }

first_once : (set : RuleSet) (first second : Occurrence) → IsOccurrence set first → IsOccurrence set second → IsFirst set first → IsFirst set second → first ≡ second
first_once set first second is is_too here there =
    ⊎_elim (λ (same : first ≡ second). same)
    (λ (differ : (precedes first second ≡ true) ⊎ (precedes second first ≡ true)).
    ⊎_elim (λ (before : precedes first second ≡ true). not_both (precedes first second) before (there first is))
    (λ (after : precedes second first ≡ true). not_both (precedes second first) after (here second is_too))
    differ)
    (occurrences_total set first second is is_too)

pub ends_before_first : (set : RuleSet) (stdoff until : ℤ) (first : Occurrence) (instant : ℤ) → IsOccurrence set first → IsFirst set first → ComesAt set stdoff first instant → until ≤ℤ instant → FirstNotBefore set stdoff until
ends_before_first set stdoff until first instant is is_first comes reached other its_instant other_is other_first other_comes =
    let same : other ≡ first = first_once set other first other_is is other_first is_first in
    let other_comes_too : ComesAt set stdoff first its_instant = rw same at other_comes in
    let equal : instant ≡ its_instant = comes_once set stdoff first instant its_instant is comes other_comes_too in
    rw (← equal) reached

pub ends_without_any : (set : RuleSet) (stdoff until : ℤ) → ((other : Occurrence) → IsOccurrence set other → ⊥) → FirstNotBefore set stdoff until
ends_without_any set stdoff until none other its_instant other_is other_first other_comes = absurd (none other other_is)

-- ---- the first one, where all are later than a second
pub all_after : (set : RuleSet) (second : ℤ) (line : ℕ) (other : Occurrence) → NoneBy set second → IsOccurrence set other → is_after (record { second = second; line = line }) other ≡ true
all_after set second line other none is =
    or_left (int_lt second (nominal_of other)) (int_eq second (nominal_of other) && nat_lt line other.rule.line) (lt-int_lt second (nominal_of other) (none other is))

pub is_first_after : (set : RuleSet) (second : ℤ) (line : ℕ) (found : Placed) → NoneBy set second → FirstAfter set (record { second = second; line = line }) found → IsFirst set found.occurrence
is_first_after set second line found none first other is =
    ⊎_elim
    (λ (same : other ≡ found.occurrence).
    rw same (never_itself found.occurrence))
    (λ (later : precedes found.occurrence other ≡ true). precedes_asym found.occurrence other later)
    (first.first other is (all_after set second line other none is))
  where
    never_itself : (x : Occurrence) → precedes x x ≡ false
    never_itself x =
        false_from_ne_true (precedes x x) (λ itself. not_both (precedes x x) itself (precedes_asym x x itself))

pub none_after_all : (set : RuleSet) (second : ℤ) (line : ℕ) → NoneBy set second → IsFirstAfter set (record { second = second; line = line }) None → (other : Occurrence) → IsOccurrence set other → ⊥
none_after_all set second line none after other is =
    not_both (is_after (record { second = second; line = line }) other) (all_after set second line other none is) (after other is)

-- ---- what the code has at hand: two instants, and which is earlier
pub first_passes : (set : RuleSet) (stdoff year : ℤ) (moment : Moment) (second : ℤ) (line : ℕ) (found : Placed) (instant until : ℤ) → NoneBy set second → FirstAfter set (record { second = second; line = line }) found → instant ≡ (nominal_of found.occurrence -ℤ shift found.occurrence.rule.moment.kind stdoff (pos 0)) → until ≡ until_with stdoff year moment (pos 0) → instant <ℤ until → Passed set stdoff year moment found.occurrence
first_passes set stdoff year moment second line found instant until none first on_its_clock until_is before =
    let is_first = is_first_after set second line found none first in
    first_passed set stdoff year moment found.occurrence instant first.is is_first (comes_first set stdoff found.occurrence instant is_first on_its_clock) (rw (← until_is) before)

pub first_stops : (set : RuleSet) (stdoff year : ℤ) (moment : Moment) (second : ℤ) (line : ℕ) (found : Placed) (instant until : ℤ) → NoneBy set second → FirstAfter set (record { second = second; line = line }) found → instant ≡ (nominal_of found.occurrence -ℤ shift found.occurrence.rule.moment.kind stdoff (pos 0)) → until ≡ until_with stdoff year moment (pos 0) → until ≤ℤ instant → FirstNotBefore set stdoff (until_with stdoff year moment (pos 0))
first_stops set stdoff year moment second line found instant until none first on_its_clock until_is reached =
    let is_first = is_first_after set second line found none first in
    ends_before_first set stdoff (until_with stdoff year moment (pos 0)) found.occurrence instant first.is is_first (comes_first set stdoff found.occurrence instant is_first on_its_clock) (rw (← until_is) reached)

pub none_stops : (set : RuleSet) (stdoff year : ℤ) (moment : Moment) (second : ℤ) (line : ℕ) → NoneBy set second → IsFirstAfter set (record { second = second; line = line }) None → FirstNotBefore set stdoff (until_with stdoff year moment (pos 0))
none_stops set stdoff year moment second line none after =
    ends_without_any set stdoff (until_with stdoff year moment (pos 0)) (none_after_all set second line none after)

pub last_passes : (set : RuleSet) (stdoff year : ℤ) (moment : Moment) (second : ℤ) (found : Placed) → IsShift stdoff → (second +ℤ pos 345_601) ≡ nominal_second year moment → LastBy set second found → Passed set stdoff year moment found.occurrence
last_passes set stdoff year moment second found stdoff_in is last =
    let by = last.by in
    starts_passed set stdoff year moment found.occurrence stdoff_in last.is (sooner (nominal_of found.occurrence) second (nominal_second year moment) by is)
  where
    sooner : (nominal second until : ℤ) → nominal ≤ℤ second → (second +ℤ pos 345_601) ≡ until → (nominal +ℤ pos 345_600) <ℤ until
    sooner nominal second until by is = omega (arith, ints)

pub next_passes : (set : RuleSet) (stdoff year : ℤ) (moment : Moment) (under : Occurrence) (next : Placed) (instant until : ℤ) → Passed set stdoff year moment under → IsNextOf set under (Some next) → instant ≡ (nominal_of next.occurrence -ℤ shift next.occurrence.rule.moment.kind stdoff under.rule.save) → until ≡ until_with stdoff year moment under.rule.save → instant <ℤ until → PassesNext set stdoff year moment under (Some next)
next_passes set stdoff year moment under next instant until passed is on_its_clock until_is before =
    (is.2.before, step_passed set stdoff year moment under next.occurrence instant passed is.1 is.2 (comes_after set stdoff under next.occurrence instant is.2 on_its_clock) (rw (← until_is) before))

pub next_stops : (set : RuleSet) (stdoff year : ℤ) (moment : Moment) (under : Occurrence) (next : Placed) (instant until : ℤ) → Passed set stdoff year moment under → IsNextOf set under (Some next) → instant ≡ (nominal_of next.occurrence -ℤ shift next.occurrence.rule.moment.kind stdoff under.rule.save) → until ≡ until_with stdoff year moment under.rule.save → until ≤ℤ instant → IsUntilUnder set stdoff year moment under
next_stops set stdoff year moment under next instant until passed is on_its_clock until_is reached =
    ends_under set stdoff year moment under next.occurrence instant passed is.1 is.2 (comes_after set stdoff under next.occurrence instant is.2 on_its_clock) (rw (← until_is) reached)

-- ---- the walk is not endless: fewer and fewer occurrences are later
abbrev pub later_count : RuleSet → Occurrence → ℕ
later_count set occurrence = count_by (precedes occurrence) (occurrences set)

count_yes : {X : Type 0} (p : X → Bool) (x : X) (xs : List X) → p x ≡ true → count_by p (x ∷ xs) ≡ 1 + count_by p xs
count_yes {X} p x xs yes_it = sum_by-cons (λ (y : X). cond (p y) 1 0) x xs ∙ rw yes_it refl

count_no : {X : Type 0} (p : X → Bool) (x : X) (xs : List X) → p x ≡ false → count_by p (x ∷ xs) ≡ count_by p xs
count_no {X} p x xs no_it =
    sum_by-cons (λ (y : X). cond (p y) 1 0) x xs ∙ rw no_it (omega arith)

count_fewer : {X : Type 0} (p q : X → Bool) (xs : List X) → ((x : X) → q x ≡ true → p x ≡ true) → count_by q xs ≤ count_by p xs
count_fewer p q [] holds = omega arith
count_fewer p q (x ∷ xs) holds =
    by_test (q x)
    (λ in_q. omega (arith, count_yes q x xs in_q, count_yes p x xs (holds x in_q), count_fewer p q xs holds))
    (λ not_q.
    by_test (p x) (λ in_p. omega (arith, count_no q x xs not_q, count_yes p x xs in_p, count_fewer p q xs holds))
    (λ not_p. omega (arith, count_no q x xs not_q, count_no p x xs not_p, count_fewer p q xs holds)))

count_less : {X : Type 0} (p q : X → Bool) (xs : List X) (y : X) → ((x : X) → q x ≡ true → p x ≡ true) → In y xs → p y ≡ true → q y ≡ false → count_by q xs < count_by p xs
count_less p q [] y holds has in_p not_q = absurd has
count_less p q (x ∷ xs) y holds has in_p not_q =
    ⊎_elim
    (λ (same : x ≡ y).
    let x_in_p : p x ≡ true = rw same in_p in
    let x_not_q : q x ≡ false = rw same not_q in
    omega (arith, count_no q x xs x_not_q, count_yes p x xs x_in_p, count_fewer p q xs holds))
    (λ (later : In y xs).
    by_test (q x)
    (λ in_q. omega (arith, count_yes q x xs in_q, count_yes p x xs (holds x in_q), count_less p q xs y holds later in_p not_q))
    (λ not_q_too.
    by_test (p x) (λ in_p_too. omega (arith, count_no q x xs not_q_too, count_yes p x xs in_p_too, count_less p q xs y holds later in_p not_q))
    (λ not_p. omega (arith, count_no q x xs not_q_too, count_no p x xs not_p, count_less p q xs y holds later in_p not_q))))
    has

pub later_falls : (set : RuleSet) (under next : Occurrence) → IsOccurrence set next → precedes under next ≡ true → later_count set next < later_count set under
later_falls set under next is before =
    count_less (precedes under) (precedes next) (occurrences set) next (λ other after. precedes_trans under next other before after) (In-occurrences set next is) before
    (false_from_ne_true (precedes next next) (λ itself. not_both (precedes next next) itself (precedes_asym next next itself)))

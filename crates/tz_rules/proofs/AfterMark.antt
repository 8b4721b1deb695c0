-- What comes first after a mark.
use Rattle.std.proofs.Common.{◌≡◌, ℕ, ◌+◌, ◌≤◌, ◌<◌, true, false, ◌&&◌, ◌⊎◌, inl, inr, ⊎_elim, sym, ap, subst, ◌∙◌, arith, ℤ, pos, ◌+ℤ◌, ◌<ℤ◌, ◌≤ℤ◌, nat_lt, Option, Some, None}
use Rattle.std.specs.Prelude.{int_lt, slice_get}
use Rattle.std.specs.Ordering.{int_eq}
use Rattle.std.proofs.lemmas.Int.{ints, by_lt_z}
use Rattle.std.proofs.lemmas.Bool.{or_left, and_parts, or_cases, false_from_ne_true}
use Rattle.tz_types.specs.declared.rule.Rule.{Rule}
use Rattle.tz_types.specs.declared.rule_set.RuleSet.{RuleSet}
use Rattle.tz_specs.specs.Occurrence.{Occurrence, nominal_of, precedes}
use Rattle.tz_specs.specs.Standing.{IsOccurrence}
use Rattle.tz_specs.specs.Effect.{IsPrevious}
use Rattle.tz_specs.proofs.Tests.{by_test, not_both, int_lt-true, lt-int_lt, int_eq-true}
use Rattle.tz_specs.proofs.OrderLemmas.{true-precedes, precedes_asym, precedes_trans}
use Rattle.tz_specs.proofs.OccurrenceLemmas.{rises_in_rule, occurrences_total}
use Rattle.tz_rules.specs.declared.mark.Mark.{Mark}
use Rattle.tz_rules.specs.declared.placed.Placed.{Placed}
use Rattle.tz_rules.specs.Occurs.{OccursIn}
use Rattle.tz_rules.specs.Placed.{StandsIn}
use Rattle.tz_rules.specs.Mark.{is_after, IsEarliestYear}
use Rattle.tz_rules.specs.Search.{in_year, IsFirstYear, IsLastYear, IsYearCount, FirstOfRule, IsFirstOfRule, FirstFrom, IsFirstFrom, IsFirstAfter, IsNextOf, earlier_of, through_of}
use Rattle.tz_rules.proofs.YearBounds.{two_years_earlier}
use Rattle.tz_rules.proofs.BeforeMark.{occurs_between, precedes_self, by_place, same_rule, is_of_stands, occurs_of_is, place_of_is}

-- ---- tests on marks
pub later_is_after : (mark : Mark) (occurrence : Occurrence) → mark.second <ℤ nominal_of occurrence → is_after mark occurrence ≡ true
later_is_after mark occurrence lt =
    or_left (int_lt mark.second (nominal_of occurrence)) (int_eq mark.second (nominal_of occurrence) && nat_lt mark.line occurrence.rule.line)
    (lt-int_lt mark.second (nominal_of occurrence) lt)

pub after_is_from : (mark : Mark) (occurrence : Occurrence) → is_after mark occurrence ≡ true → mark.second ≤ℤ nominal_of occurrence
after_is_from mark occurrence h =
    ⊎_elim
    (λ (lt : int_lt mark.second (nominal_of occurrence) ≡ true).
    let less = int_lt-true mark.second (nominal_of occurrence) lt in
    omega (arith, ints))
    (λ (both : (int_eq mark.second (nominal_of occurrence) && nat_lt mark.line occurrence.rule.line) ≡ true).
    let same = int_eq-true mark.second (nominal_of occurrence) (and_parts (int_eq mark.second (nominal_of occurrence)) (nat_lt mark.line occurrence.rule.line) both).0 in
    omega (arith, ints, same))
    (or_cases (int_lt mark.second (nominal_of occurrence)) (int_eq mark.second (nominal_of occurrence) && nat_lt mark.line occurrence.rule.line) h)

-- a rule that is over before the earliest year has no occurrence after the mark
pub over_first : (rule : Rule) (place : ℕ) (earliest through : ℤ) (mark : Mark) → IsEarliestYear mark.second earliest → rule.to <ℤ earliest → IsFirstOfRule rule place through mark None
over_first rule place earliest through mark is_earliest over = λ year occurs up_to.
    false_from_ne_true (is_after mark (in_year rule year))
    (λ after.
    let from = is_earliest.none_earlier rule year occurs (after_is_from mark (in_year rule year) after) in
    omega (arith, ints, occurs.through))

-- ---- one rule, from its first year up
abbrev pub NoneBelow : Rule → ℤ → ℤ → Mark → Type 0
NoneBelow rule through bottom mark =
    (year : ℤ) → OccursIn rule year → year ≤ℤ through → year <ℤ bottom → is_after mark (in_year rule year) ≡ false

pub none_below_first : (rule : Rule) (earliest through first bottom : ℤ) (mark : Mark) → IsEarliestYear mark.second earliest → IsFirstYear rule earliest first → bottom ≡ first → NoneBelow rule through bottom mark
none_below_first rule earliest through first bottom mark is_earliest is_first bottom_is year occurs up_to below =
    false_from_ne_true (is_after mark (in_year rule year))
    (λ after.
    let from = is_earliest.none_earlier rule year occurs (after_is_from mark (in_year rule year) after) in
    let within = is_first.least year occurs from in
    omega (arith, ints))

pub none_below_more : (rule : Rule) (through bottom next : ℤ) (mark : Mark) → next ≡ (bottom +ℤ pos 1) → is_after mark (in_year rule bottom) ≡ false → NoneBelow rule through bottom mark → NoneBelow rule through next mark
none_below_more rule through bottom next mark next_is here below year occurs up_to lower =
    by_lt_z year bottom (λ (lt : year <ℤ bottom). below year occurs up_to lt)
    (λ le. let same : bottom ≡ year = omega (arith, ints) in rw (← same) here)

-- two years above the first one it is surely after the mark
pub two_looks_on : (rule : Rule) (earliest through first last : ℤ) (mark : Mark) (count on : ℕ) → IsEarliestYear mark.second earliest → IsFirstYear rule earliest first → IsLastYear rule through last → IsYearCount first last count → on ≤ count → NoneBelow rule through (first +ℤ pos on) mark → on ≤ 2
two_looks_on rule earliest through first last mark count on is_earliest is_first is_last is_count within below =
    by_lt_z last first (λ lt. omega (arith, is_count.none lt))
    (λ le.
    let is = is_count.some le in
    by_lt_z (pos 2) (pos on)
    (λ (more : pos 2 <ℤ pos on).
    let year = first +ℤ pos 2 in
    let occurs = occurs_between rule earliest through first last year is_first is_last (omega (arith, ints)) (omega (arith, ints, is)) in
    let sure = is_earliest.sure rule year occurs (omega (arith, ints, is_first.since_on)) in
    not_both (is_after mark (in_year rule year)) (later_is_after mark (in_year rule year) sure)
    (below year occurs (omega (arith, ints, is_last.up_to, is)) (omega (arith, ints))))
    (λ few. omega (arith, ints)))

pub look_on_occurs : (rule : Rule) (earliest through first last year : ℤ) (count on : ℕ) → IsFirstYear rule earliest first → IsLastYear rule through last → IsYearCount first last count → on < count → year ≡ (first +ℤ pos on) → OccursIn rule year
look_on_occurs rule earliest through first last year count on is_first is_last is_count within is =
    by_lt_z last first (λ lt. absurd (omega (arith, is_count.none lt)))
    (λ le.
    let count_is = is_count.some le in
    occurs_between rule earliest through first last year is_first is_last (omega (arith, ints)) (omega (arith, ints, count_is)))

pub look_on_through : (rule : Rule) (through first last year : ℤ) (count on : ℕ) → IsLastYear rule through last → IsYearCount first last count → on < count → year ≡ (first +ℤ pos on) → year ≤ℤ through
look_on_through rule through first last year count on is_last is_count within is =
    by_lt_z last first (λ lt. absurd (omega (arith, is_count.none lt)))
    (λ le. let count_is = is_count.some le in omega (arith, ints, is_last.up_to, count_is))

pub first_is : (rule : Rule) (place : ℕ) (through bottom : ℤ) (mark : Mark) (found : Placed) → found ≡ record { place = place; occurrence = in_year rule bottom } → OccursIn rule bottom → bottom ≤ℤ through → is_after mark found.occurrence ≡ true → NoneBelow rule through bottom mark → FirstOfRule rule place mark found
first_is rule place through bottom mark found is occurs up_to after below =
    let year : found.occurrence.year ≡ bottom = ap (λ (p : Placed). p.occurrence.year) is in
    let occurrence : found.occurrence ≡ in_year rule bottom = ap (λ (p : Placed). p.occurrence) is in
    let of_year : in_year rule bottom ≡ in_year rule found.occurrence.year = ap (in_year rule) (sym year) in
    record {
      is = is ∙ ap (λ (o : Occurrence). record { place = place; occurrence = o }) of_year;
      occurs = rw year occurs;
      after = ap (is_after mark) (sym (occurrence ∙ of_year)) ∙ after;
      first = λ earlier occurs_earlier before. below earlier occurs_earlier (omega (arith, ints, year)) (omega (arith, ints, year));
    }

pub none_on : (rule : Rule) (place : ℕ) (through first last : ℤ) (mark : Mark) (count on : ℕ) → IsLastYear rule through last → IsYearCount first last count → count ≤ on → on ≤ count → NoneBelow rule through (first +ℤ pos on) mark → IsFirstOfRule rule place through mark None
none_on rule place through first last mark count on is_last is_count done within below year occurs up_to =
    let high = is_last.greatest year occurs up_to in
    by_lt_z last first
    (λ lt. below year occurs up_to (omega (arith, ints, is_count.none lt)))
    (λ le. below year occurs up_to (omega (arith, ints, is_count.some le)))

-- ---- the rules of a set
-- what doesn't come before one doesn't come before an earlier one
pub not_before_earlier : (x y z : Occurrence) → precedes y x ≡ true → precedes z x ≡ false → precedes z y ≡ false
not_before_earlier x y z earlier fails =
    false_from_ne_true (precedes z y) (λ h. not_both (precedes z x) (precedes_trans z y x h earlier) fails)

pub not_before_later : (x y z : Occurrence) → precedes y x ≡ false → (z ≡ y) ⊎ (precedes y z ≡ true) → precedes z x ≡ false
not_before_later x y z fails later =
    false_from_ne_true (precedes z x)
    (λ h.
    ⊎_elim (λ (same : z ≡ y). let h' : precedes y x ≡ true = rw (← same) h in not_both (precedes y x) h' fails)
    (λ (after : precedes y z ≡ true). not_both (precedes y x) (precedes_trans y z x after h) fails)
    later)

-- an occurrence of the rule after the mark is the first one or comes after it
pub own_from : (rule : Rule) (place : ℕ) (mark : Mark) (found : Placed) (year : ℤ) → FirstOfRule rule place mark found → OccursIn rule year → is_after mark (in_year rule year) ≡ true → (in_year rule year ≡ found.occurrence) ⊎ (precedes found.occurrence (in_year rule year) ≡ true)
own_from rule place mark found year is occurs after =
    let found_is : found.occurrence ≡ in_year rule found.occurrence.year = ap (λ (p : Placed). p.occurrence) is.is in
    by_lt_z year found.occurrence.year
    (λ lt. not_both (is_after mark (in_year rule year)) after (is.first year occurs lt))
    (λ le.
    by_lt_z found.occurrence.year year
    (λ lt.
    let rises = rises_in_rule rule found.occurrence.year year is.occurs.year_in lt in
    inr (ap (λ (o : Occurrence). precedes o (in_year rule year)) found_is ∙ true-precedes (in_year rule found.occurrence.year) (in_year rule year) (inl rises)))
    (λ ge.
    let same : year ≡ found.occurrence.year = omega (arith, ints) in
    inl (ap (in_year rule) same ∙ sym found_is)))

abbrev pub with_first : Option Placed → Option Placed → Option Placed
with_first first None = first
with_first first (Some found) = Some (earlier_of first found)

pub own_stands_after : (set : RuleSet) (rule : Rule) (place : ℕ) (mark : Mark) (found : Placed) → slice_get set.rules place ≡ Some rule → FirstOfRule rule place mark found → StandsIn set found × (is_after mark found.occurrence ≡ true)
own_stands_after set rule place mark found here is =
    let found_is : found.occurrence ≡ in_year rule found.occurrence.year = ap (λ (p : Placed). p.occurrence) is.is in
    let at : found.place ≡ place = ap (λ (p : Placed). p.place) is.is in
    let rule_is : found.occurrence.rule ≡ rule = ap (λ (p : Placed). p.occurrence.rule) is.is in (
      record {
        of_rule = rw (at, rule_is) here;
        occurs = rw rule_is is.occurs;
      },
      ap (is_after mark) found_is ∙ is.after,
    )

abbrev OwnFrom : Placed → ℤ → Rule → Type 0
OwnFrom found year r = (in_year r year ≡ found.occurrence) ⊎ (precedes found.occurrence (in_year r year) ≡ true)

first_none_none : (set : RuleSet) (mark : Mark) (place : ℕ) (rule : Rule) → slice_get set.rules place ≡ Some rule → IsFirstFrom set mark (place + 1) None → IsFirstOfRule rule place (through_of None) mark None → IsFirstFrom set mark place None
first_none_none set mark place rule here so_far own at other year within there occurs =
    by_place place at within
    (λ same.
    let is : rule ≡ other = same_rule set place at rule other same here there in
    let occurs' : OccursIn rule year = rw is occurs in
    ap (λ (r : Rule). is_after mark (in_year r year)) (sym is) ∙ own year occurs' (omega (arith, ints, occurs'.year_in)))
    (λ later. so_far at other year later there occurs)

first_none_some : (set : RuleSet) (mark : Mark) (place : ℕ) (rule : Rule) (found : Placed) → slice_get set.rules place ≡ Some rule → IsFirstFrom set mark (place + 1) None → FirstOfRule rule place mark found → FirstFrom set mark place found
first_none_some set mark place rule found here so_far own =
    let stands = own_stands_after set rule place mark found here own in
    record {
      stands = stands.0;
      after = stands.1;
      first = λ at other year within there occurs after.
          by_place place at within
          (λ same.
          let is : rule ≡ other = same_rule set place at rule other same here there in
          not_before_later found.occurrence found.occurrence (in_year other year) (precedes_self found.occurrence)
          (subst (OwnFrom found year) is (own_from rule place mark found year own (rw is occurs) (rw is after))))
          (λ later. not_both (is_after mark (in_year other year)) after (so_far at other year later there occurs));
    }

first_some_none : (set : RuleSet) (mark : Mark) (place : ℕ) (rule : Rule) (first : Placed) → slice_get set.rules place ≡ Some rule → FirstFrom set mark (place + 1) first → IsFirstOfRule rule place (through_of (Some first)) mark None → FirstFrom set mark place first
first_some_none set mark place rule first here so_far own =
    record {
      stands = so_far.stands;
      after = so_far.after;
      first = λ at other year within there occurs after.
          by_place place at within
          (λ same.
          let is : rule ≡ other = same_rule set place at rule other same here there in
          let occurs' : OccursIn rule year = rw is occurs in
          let after' : is_after mark (in_year rule year) ≡ true = rw is after in
          by_lt_z (first.occurrence.year +ℤ pos 1) year
          (λ (late : (first.occurrence.year +ℤ pos 1) <ℤ year).
          let less = two_years_earlier first.occurrence.rule other first.occurrence.year year so_far.stands.occurs occurs (omega (arith, ints)) in
          precedes_asym first.occurrence (in_year other year) (true-precedes first.occurrence (in_year other year) (inl less)))
          (λ le. not_both (is_after mark (in_year rule year)) after' (own year occurs' le)))
          (λ later. so_far.first at other year later there occurs after);
    }

first_some_earlier : (set : RuleSet) (mark : Mark) (place : ℕ) (rule : Rule) (first found : Placed) → slice_get set.rules place ≡ Some rule → FirstFrom set mark (place + 1) first → FirstOfRule rule place mark found → precedes found.occurrence first.occurrence ≡ true → FirstFrom set mark place found
first_some_earlier set mark place rule first found here so_far own earlier =
    let stands = own_stands_after set rule place mark found here own in
    record {
      stands = stands.0;
      after = stands.1;
      first = λ at other year within there occurs after.
          by_place place at within
          (λ same.
          let is : rule ≡ other = same_rule set place at rule other same here there in
          not_before_later found.occurrence found.occurrence (in_year other year) (precedes_self found.occurrence)
          (subst (OwnFrom found year) is (own_from rule place mark found year own (rw is occurs) (rw is after))))
          (λ later. not_before_earlier first.occurrence found.occurrence (in_year other year) earlier (so_far.first at other year later there occurs after));
    }

first_some_later : (set : RuleSet) (mark : Mark) (place : ℕ) (rule : Rule) (first found : Placed) → slice_get set.rules place ≡ Some rule → FirstFrom set mark (place + 1) first → FirstOfRule rule place mark found → precedes found.occurrence first.occurrence ≡ false → FirstFrom set mark place first
first_some_later set mark place rule first found here so_far own not_earlier =
    record {
      stands = so_far.stands;
      after = so_far.after;
      first = λ at other year within there occurs after.
          by_place place at within
          (λ same.
          let is : rule ≡ other = same_rule set place at rule other same here there in
          not_before_later first.occurrence found.occurrence (in_year other year) not_earlier
          (subst (OwnFrom found year) is (own_from rule place mark found year own (rw is occurs) (rw is after))))
          (λ later. so_far.first at other year later there occurs after);
    }

pub first_with_is : (set : RuleSet) (mark : Mark) (place : ℕ) (rule : Rule) (first own : Option Placed) → slice_get set.rules place ≡ Some rule → IsFirstFrom set mark (place + 1) first → IsFirstOfRule rule place (through_of first) mark own → IsFirstFrom set mark place (with_first first own)
first_with_is set mark place rule None None here so_far own =
    first_none_none set mark place rule here so_far own
first_with_is set mark place rule None (Some found) here so_far own =
    first_none_some set mark place rule found here so_far own
first_with_is set mark place rule (Some first) None here so_far own =
    first_some_none set mark place rule first here so_far own
first_with_is set mark place rule (Some first) (Some found) here so_far own =
    by_test (precedes found.occurrence first.occurrence)
    (λ earlier. rw earlier (first_some_earlier set mark place rule first found here so_far own earlier))
    (λ not_earlier. rw not_earlier (first_some_later set mark place rule first found here so_far own not_earlier))

-- ---- the whole set
pub first_of_all : (set : RuleSet) (mark : Mark) (from : ℕ) (first : Option Placed) → from ≡ 0 → IsFirstFrom set mark from first → IsFirstAfter set mark first
first_of_all set mark from None whole none =
    λ other is.
    let there = place_of_is set other is in
    none there.0 other.rule other.year (omega arith) there.1 (occurs_of_is set other is)
first_of_all set mark from (Some found) whole first =
    let is_found = is_of_stands set found first.stands in
    record {
      stands = first.stands;
      is = is_found;
      after = first.after;
      first = λ other is after.
          let there = place_of_is set other is in
          let not_before = first.first there.0 other.rule other.year (omega arith) there.1 (occurs_of_is set other is) after in
          ⊎_elim (λ (same : other ≡ found.occurrence). inl same)
          (⊎_elim (λ (before : precedes other found.occurrence ≡ true). not_both (precedes other found.occurrence) before not_before)
          (λ (later : precedes found.occurrence other ≡ true). inr later))
          (occurrences_total set other found.occurrence is is_found);
    }

pub next_is_previous : (set : RuleSet) (occurrence next : Occurrence) → IsOccurrence set occurrence → precedes occurrence next ≡ true → ((other : Occurrence) → IsOccurrence set other → precedes occurrence other ≡ true → (other ≡ next) ⊎ (precedes next other ≡ true)) → IsPrevious set occurrence next
next_is_previous set occurrence next is after first =
    record {
      is = is;
      before = after;
      last = λ other other_is before.
          ⊎_elim (λ (same : other ≡ occurrence). inl same)
          (⊎_elim (λ (earlier : precedes other occurrence ≡ true). inr earlier)
          (λ (later : precedes occurrence other ≡ true).
          ⊎_elim
          (λ (same : other ≡ next).
          let itself : precedes next next ≡ true = rw same at before in
          not_both (precedes next next) itself (precedes_self next))
          (λ (beyond : precedes next other ≡ true). not_both (precedes next other) beyond (precedes_asym other next before))
          (first other other_is later)))
          (occurrences_total set other occurrence other_is is);
    }

pub next_of_mark : (set : RuleSet) (occurrence : Occurrence) (mark : Mark) (found : Option Placed) → IsOccurrence set occurrence → mark ≡ record { second = nominal_of occurrence; line = occurrence.rule.line } → IsFirstAfter set mark found → IsNextOf set occurrence found
next_of_mark set occurrence mark None is mark_is none =
    λ other other_is. let none' = rw mark_is at (none other other_is) in none'
next_of_mark set occurrence mark (Some found) is mark_is first = (
  first.stands,
  first.is,
  next_is_previous set occurrence found.occurrence is (let after' = rw mark_is at first.after in after')
      (λ other other_is after. first.first other other_is (ap (λ (m : Mark). is_after m other) mark_is ∙ after)),
)

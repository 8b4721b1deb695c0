-- What comes last before a mark.
use Rattle.std.proofs.Common.{◌≡◌, ℕ, ◌+◌, ◌≤◌, ◌<◌, true, false, ◌&&◌, ◌⊎◌, inl, inr, ⊎_elim, sym, ap, subst, ◌∙◌, arith, ℤ, pos, ◌+ℤ◌, ◌-ℤ◌, ◌<ℤ◌, ◌≤ℤ◌, nat_lt, Option, Some, None, List, length, get_or}
use Rattle.std.specs.Prelude.{int_lt, slice_get}
use Rattle.std.specs.Ordering.{int_eq}
use Rattle.std.proofs.lemmas.Int.{ints, by_lt_z}
use Rattle.std.proofs.lemmas.Bool.{or_left, and_parts, or_cases, false_from_ne_true, cases_order, ltb-true}
use Rattle.std.proofs.lemmas.Option.{same_Some, slice_get-get_or}
use Rattle.tz_types.specs.declared.rule.Rule.{Rule}
use Rattle.tz_types.specs.declared.rule_set.RuleSet.{RuleSet}
use Rattle.tz_specs.specs.Occurrence.{Occurrence, nominal_of, precedes}
use Rattle.tz_specs.proofs.Tests.{by_test, not_both, int_lt-true, lt-int_lt, int_eq-true}
use Rattle.tz_specs.specs.Standing.{IsOccurrence}
use Rattle.tz_specs.proofs.ListLemmas.{In-from_Contains, Contains-from_In, In-from_get, get_from_In}
use Rattle.tz_specs.proofs.OrderLemmas.{true-precedes, precedes_asym, precedes_trans}
use Rattle.tz_specs.proofs.OccurrenceLemmas.{rises_in_rule, occurrences_total}
use Rattle.tz_rules.proofs.YearBounds.{two_years_earlier}
use Rattle.tz_rules.specs.declared.mark.Mark.{Mark}
use Rattle.tz_rules.specs.declared.placed.Placed.{Placed}
use Rattle.tz_rules.specs.Occurs.{OccursIn}
use Rattle.tz_rules.specs.Placed.{StandsIn}
use Rattle.tz_rules.specs.Mark.{is_before, IsLatestYear}
use Rattle.tz_rules.specs.Search.{in_year, IsFirstYear, IsLastYear, IsYearCount, LastOfRule, IsLastOfRule, LastFrom, IsLastFrom, IsLastBefore, IsLastBy, IsPreviousOf, later_of, since_of}

-- ---- tests on marks
pub earlier_is_before : (mark : Mark) (occurrence : Occurrence) → nominal_of occurrence <ℤ mark.second → is_before mark occurrence ≡ true
earlier_is_before mark occurrence lt =
    or_left (int_lt (nominal_of occurrence) mark.second) (int_eq (nominal_of occurrence) mark.second && nat_lt occurrence.rule.line mark.line)
    (lt-int_lt (nominal_of occurrence) mark.second lt)

pub before_is_by : (mark : Mark) (occurrence : Occurrence) → is_before mark occurrence ≡ true → nominal_of occurrence ≤ℤ mark.second
before_is_by mark occurrence h =
    ⊎_elim
    (λ (lt : int_lt (nominal_of occurrence) mark.second ≡ true).
    let less = int_lt-true (nominal_of occurrence) mark.second lt in
    omega (arith, ints))
    (λ (both : (int_eq (nominal_of occurrence) mark.second && nat_lt occurrence.rule.line mark.line) ≡ true).
    let same = int_eq-true (nominal_of occurrence) mark.second (and_parts (int_eq (nominal_of occurrence) mark.second) (nat_lt occurrence.rule.line mark.line) both).0 in
    omega (arith, ints, same))
    (or_cases (int_lt (nominal_of occurrence) mark.second) (int_eq (nominal_of occurrence) mark.second && nat_lt occurrence.rule.line mark.line) h)

-- ---- one rule, from its last year down
abbrev pub NoneAbove : Rule → ℤ → ℤ → Mark → Type 0
NoneAbove rule since top mark =
    (year : ℤ) → OccursIn rule year → since ≤ℤ year → top <ℤ year → is_before mark (in_year rule year) ≡ false

pub none_above_last : (rule : Rule) (since latest last top : ℤ) (mark : Mark) → IsLatestYear mark.second latest → IsLastYear rule latest last → top ≡ last → NoneAbove rule since top mark
none_above_last rule since latest last top mark is_latest is_last top_is year occurs since_on above =
    false_from_ne_true (is_before mark (in_year rule year))
    (λ before.
    let by = is_latest.none_later rule year occurs (before_is_by mark (in_year rule year) before) in
    let within = is_last.greatest year occurs by in
    omega (arith, ints))

pub none_above_more : (rule : Rule) (since top next : ℤ) (mark : Mark) → next ≡ (top -ℤ pos 1) → is_before mark (in_year rule top) ≡ false → NoneAbove rule since top mark → NoneAbove rule since next mark
none_above_more rule since top next mark next_is here above year occurs since_on higher =
    by_lt_z top year (λ (lt : top <ℤ year). above year occurs since_on lt)
    (λ le. let same : top ≡ year = omega (arith, ints) in rw (← same) here)

pub occurs_between : (rule : Rule) (since latest first last year : ℤ) → IsFirstYear rule since first → IsLastYear rule latest last → first ≤ℤ year → year ≤ℤ last → OccursIn rule year
occurs_between rule since latest first last year is_first is_last low high =
    record {
      since = omega (arith, ints, is_first.from);
      through = omega (arith, ints, is_last.to);
      year_in = (omega (arith, ints, is_first.low), omega (arith, ints, is_last.high));
    }

-- two years below the last one it is surely before the mark
pub two_looks : (rule : Rule) (since latest first last : ℤ) (mark : Mark) (count back : ℕ) → IsLatestYear mark.second latest → IsFirstYear rule since first → IsLastYear rule latest last → IsYearCount first last count → back ≤ count → NoneAbove rule since (last -ℤ pos back) mark → back ≤ 2
two_looks rule since latest first last mark count back is_latest is_first is_last is_count within above =
    by_lt_z last first (λ lt. omega (arith, is_count.none lt))
    (λ le.
    let is = is_count.some le in
    by_lt_z (pos 2) (pos back)
    (λ (more : pos 2 <ℤ pos back).
    let year = last -ℤ pos 2 in
    let occurs = occurs_between rule since latest first last year is_first is_last (omega (arith, ints, is)) (omega (arith, ints)) in
    let sure = is_latest.sure rule year occurs (omega (arith, ints, is_last.up_to)) in
    not_both (is_before mark (in_year rule year)) (earlier_is_before mark (in_year rule year) sure)
    (above year occurs (omega (arith, ints, is_first.since_on)) (omega (arith, ints))))
    (λ few. omega (arith, ints)))

-- the year looked at is one of the rule's
pub look_occurs : (rule : Rule) (since latest first last year : ℤ) (count back : ℕ) → IsFirstYear rule since first → IsLastYear rule latest last → IsYearCount first last count → back < count → year ≡ (last -ℤ pos back) → OccursIn rule year
look_occurs rule since latest first last year count back is_first is_last is_count within is =
    by_lt_z last first (λ lt. absurd (omega (arith, is_count.none lt)))
    (λ le.
    let count_is = is_count.some le in
    occurs_between rule since latest first last year is_first is_last (omega (arith, ints, count_is)) (omega (arith, ints)))

pub look_since : (rule : Rule) (since first last year : ℤ) (count back : ℕ) → IsFirstYear rule since first → IsYearCount first last count → back < count → year ≡ (last -ℤ pos back) → since ≤ℤ year
look_since rule since first last year count back is_first is_count within is =
    by_lt_z last first (λ lt. absurd (omega (arith, is_count.none lt)))
    (λ le. let count_is = is_count.some le in omega (arith, ints, is_first.since_on, count_is))

pub last_is : (rule : Rule) (place : ℕ) (since top : ℤ) (mark : Mark) (found : Placed) → found ≡ record { place = place; occurrence = in_year rule top } → OccursIn rule top → since ≤ℤ top → is_before mark found.occurrence ≡ true → NoneAbove rule since top mark → LastOfRule rule place mark found
last_is rule place since top mark found is occurs since_on before above =
    let year : found.occurrence.year ≡ top = ap (λ (p : Placed). p.occurrence.year) is in
    let occurrence : found.occurrence ≡ in_year rule top = ap (λ (p : Placed). p.occurrence) is in
    let of_year : in_year rule top ≡ in_year rule found.occurrence.year = ap (in_year rule) (sym year) in
    record {
      is = is ∙ ap (λ (o : Occurrence). record { place = place; occurrence = o }) of_year;
      occurs = rw year occurs;
      before = ap (is_before mark) (sym (occurrence ∙ of_year)) ∙ before;
      last = λ later occurs_later after. above later occurs_later (omega (arith, ints, year)) (omega (arith, ints, year));
    }

pub none_is : (rule : Rule) (place : ℕ) (since first last : ℤ) (mark : Mark) (count back : ℕ) → IsFirstYear rule since first → IsYearCount first last count → count ≤ back → back ≤ count → NoneAbove rule since (last -ℤ pos back) mark → IsLastOfRule rule place since mark None
none_is rule place since first last mark count back is_first is_count done within above year occurs since_on =
    let low = is_first.least year occurs since_on in
    by_lt_z last first
    (λ lt. above year occurs since_on (omega (arith, ints, is_count.none lt)))
    (λ le. above year occurs since_on (omega (arith, ints, is_count.some le)))

-- ---- the rules of a set
pub precedes_self : (x : Occurrence) → precedes x x ≡ false
precedes_self x = false_from_ne_true (precedes x x) (λ h. not_both (precedes x x) h (precedes_asym x x h))

-- what doesn't come after one doesn't come after a later one
pub not_after_later : (x y z : Occurrence) → precedes x y ≡ true → precedes x z ≡ false → precedes y z ≡ false
not_after_later x y z later fails =
    false_from_ne_true (precedes y z) (λ h. not_both (precedes x z) (precedes_trans x y z later h) fails)

pub not_after_earlier : (x y z : Occurrence) → precedes x y ≡ false → (z ≡ y) ⊎ (precedes z y ≡ true) → precedes x z ≡ false
not_after_earlier x y z fails earlier =
    false_from_ne_true (precedes x z)
    (λ h.
    ⊎_elim (λ (same : z ≡ y). let h' : precedes x y ≡ true = rw (← same) h in not_both (precedes x y) h' fails)
    (λ (before : precedes z y ≡ true). not_both (precedes x y) (precedes_trans x z y h before) fails)
    earlier)

-- an occurrence of the rule before the mark is the last one or precedes it
pub own_up_to : (rule : Rule) (place : ℕ) (mark : Mark) (found : Placed) (year : ℤ) → LastOfRule rule place mark found → OccursIn rule year → is_before mark (in_year rule year) ≡ true → (in_year rule year ≡ found.occurrence) ⊎ (precedes (in_year rule year) found.occurrence ≡ true)
own_up_to rule place mark found year is occurs before =
    let found_is : found.occurrence ≡ in_year rule found.occurrence.year = ap (λ (p : Placed). p.occurrence) is.is in
    by_lt_z found.occurrence.year year
    (λ lt. not_both (is_before mark (in_year rule year)) before (is.last year occurs lt))
    (λ le.
    by_lt_z year found.occurrence.year
    (λ lt.
    let rises = rises_in_rule rule year found.occurrence.year occurs.year_in lt in
    inr (ap (precedes (in_year rule year)) found_is ∙ true-precedes (in_year rule year) (in_year rule found.occurrence.year) (inl rises)))
    (λ ge.
    let same : year ≡ found.occurrence.year = omega (arith, ints) in
    inl (ap (in_year rule) same ∙ sym found_is)))

pub by_place : {P : Type 0} (from place : ℕ) → from ≤ place → (place ≡ from → P) → (from + 1 ≤ place → P) → P
by_place from place within here later =
    ⊎_elim (λ (same : place ≡ from). here same)
    (⊎_elim (λ (lt : place < from). absurd (omega arith)) (λ (gt : from < place). later (omega arith)))
    (cases_order place from)

pub same_rule : (set : RuleSet) (place at : ℕ) (rule other : Rule) → at ≡ place → slice_get set.rules place ≡ Some rule → slice_get set.rules at ≡ Some other → rule ≡ other
same_rule set place at rule other same here there =
    let there' : slice_get set.rules place ≡ Some other = rw same at there in
    same_Some rule other (sym here ∙ there')

abbrev pub with_last : Option Placed → Option Placed → Option Placed
with_last last None = last
with_last last (Some found) = Some (later_of last found)

pub own_stands : (set : RuleSet) (rule : Rule) (place : ℕ) (mark : Mark) (found : Placed) → slice_get set.rules place ≡ Some rule → LastOfRule rule place mark found → StandsIn set found × (is_before mark found.occurrence ≡ true)
own_stands set rule place mark found here is =
    let found_is : found.occurrence ≡ in_year rule found.occurrence.year = ap (λ (p : Placed). p.occurrence) is.is in
    let at : found.place ≡ place = ap (λ (p : Placed). p.place) is.is in
    let rule_is : found.occurrence.rule ≡ rule = ap (λ (p : Placed). p.occurrence.rule) is.is in (
      record {
        of_rule = rw (at, rule_is) here;
        occurs = rw rule_is is.occurs;
      },
      ap (is_before mark) found_is ∙ is.before,
    )

last_none_none : (set : RuleSet) (mark : Mark) (place : ℕ) (rule : Rule) → slice_get set.rules place ≡ Some rule → IsLastFrom set mark (place + 1) None → IsLastOfRule rule place (since_of None) mark None → IsLastFrom set mark place None
last_none_none set mark place rule here so_far own at other year within there occurs =
    by_place place at within
    (λ same.
    let is : rule ≡ other = same_rule set place at rule other same here there in
    let occurs' : OccursIn rule year = rw is occurs in
    ap (λ (r : Rule). is_before mark (in_year r year)) (sym is) ∙ own year occurs' (omega (arith, ints, occurs'.year_in)))
    (λ later. so_far at other year later there occurs)

last_none_some : (set : RuleSet) (mark : Mark) (place : ℕ) (rule : Rule) (found : Placed) → slice_get set.rules place ≡ Some rule → IsLastFrom set mark (place + 1) None → LastOfRule rule place mark found → LastFrom set mark place found
last_none_some set mark place rule found here so_far own =
    let stands = own_stands set rule place mark found here own in
    record {
      stands = stands.0;
      before = stands.1;
      last = λ at other year within there occurs before.
          by_place place at within
          (λ same.
          let is : rule ≡ other = same_rule set place at rule other same here there in
          not_after_earlier found.occurrence found.occurrence (in_year other year) (precedes_self found.occurrence)
          (subst (λ (r : Rule). (in_year r year ≡ found.occurrence) ⊎ (precedes (in_year r year) found.occurrence ≡ true)) is
          (own_up_to rule place mark found year own (rw is occurs) (rw is before))))
          (λ later. not_both (is_before mark (in_year other year)) before (so_far at other year later there occurs));
    }

last_some_none : (set : RuleSet) (mark : Mark) (place : ℕ) (rule : Rule) (last : Placed) → slice_get set.rules place ≡ Some rule → LastFrom set mark (place + 1) last → IsLastOfRule rule place (since_of (Some last)) mark None → LastFrom set mark place last
last_some_none set mark place rule last here so_far own =
    record {
      stands = so_far.stands;
      before = so_far.before;
      last = λ at other year within there occurs before.
          by_place place at within
          (λ same.
          let is : rule ≡ other = same_rule set place at rule other same here there in
          let occurs' : OccursIn rule year = rw is occurs in
          let before' : is_before mark (in_year rule year) ≡ true = rw is before in
          by_lt_z year (last.occurrence.year -ℤ pos 1)
          (λ (early : year <ℤ (last.occurrence.year -ℤ pos 1)).
          let less = two_years_earlier other last.occurrence.rule year last.occurrence.year occurs so_far.stands.occurs (omega (arith, ints)) in
          precedes_asym (in_year other year) last.occurrence (true-precedes (in_year other year) last.occurrence (inl less)))
          (λ le. not_both (is_before mark (in_year rule year)) before' (own year occurs' le)))
          (λ later. so_far.last at other year later there occurs before);
    }

last_some_later : (set : RuleSet) (mark : Mark) (place : ℕ) (rule : Rule) (last found : Placed) → slice_get set.rules place ≡ Some rule → LastFrom set mark (place + 1) last → LastOfRule rule place mark found → precedes last.occurrence found.occurrence ≡ true → LastFrom set mark place found
last_some_later set mark place rule last found here so_far own later =
    let stands = own_stands set rule place mark found here own in
    record {
      stands = stands.0;
      before = stands.1;
      last = λ at other year within there occurs before.
          by_place place at within
          (λ same.
          let is : rule ≡ other = same_rule set place at rule other same here there in
          not_after_earlier found.occurrence found.occurrence (in_year other year) (precedes_self found.occurrence)
          (subst (λ (r : Rule). (in_year r year ≡ found.occurrence) ⊎ (precedes (in_year r year) found.occurrence ≡ true)) is
          (own_up_to rule place mark found year own (rw is occurs) (rw is before))))
          (λ after. not_after_later last.occurrence found.occurrence (in_year other year) later (so_far.last at other year after there occurs before));
    }

last_some_earlier : (set : RuleSet) (mark : Mark) (place : ℕ) (rule : Rule) (last found : Placed) → slice_get set.rules place ≡ Some rule → LastFrom set mark (place + 1) last → LastOfRule rule place mark found → precedes last.occurrence found.occurrence ≡ false → LastFrom set mark place last
last_some_earlier set mark place rule last found here so_far own not_later =
    record {
      stands = so_far.stands;
      before = so_far.before;
      last = λ at other year within there occurs before.
          by_place place at within
          (λ same.
          let is : rule ≡ other = same_rule set place at rule other same here there in
          not_after_earlier last.occurrence found.occurrence (in_year other year) not_later
          (subst (λ (r : Rule). (in_year r year ≡ found.occurrence) ⊎ (precedes (in_year r year) found.occurrence ≡ true)) is
          (own_up_to rule place mark found year own (rw is occurs) (rw is before))))
          (λ later. so_far.last at other year later there occurs before);
    }

pub last_with_is : (set : RuleSet) (mark : Mark) (place : ℕ) (rule : Rule) (last own : Option Placed) → slice_get set.rules place ≡ Some rule → IsLastFrom set mark (place + 1) last → IsLastOfRule rule place (since_of last) mark own → IsLastFrom set mark place (with_last last own)
last_with_is set mark place rule None None here so_far own =
    last_none_none set mark place rule here so_far own
last_with_is set mark place rule None (Some found) here so_far own =
    last_none_some set mark place rule found here so_far own
last_with_is set mark place rule (Some last) None here so_far own =
    last_some_none set mark place rule last here so_far own
last_with_is set mark place rule (Some last) (Some found) here so_far own =
    by_test (precedes last.occurrence found.occurrence)
    (λ later. rw later (last_some_later set mark place rule last found here so_far own later))
    (λ not_later. rw not_later (last_some_earlier set mark place rule last found here so_far own not_later))

-- a rule that is over before a year has no occurrence from that year on
pub over_before : (rule : Rule) (place : ℕ) (since : ℤ) (mark : Mark) → rule.to <ℤ since → IsLastOfRule rule place since mark None
over_before rule place since mark over = λ year occurs from. absurd (omega (arith, ints, occurs.through))

pub rule_at : (set : RuleSet) (rules : List Rule) (place : ℕ) (rule : Rule) → rules ≡ set.rules → place < length set.rules → rule ≡ get_or rules place rule → slice_get set.rules place ≡ Some rule
rule_at set rules place rule is within at =
    let at' : rule ≡ get_or set.rules place rule = rw is at at in
    slice_get-get_or set.rules place rule within ∙ ap (λ (r : Rule). Some r) (sym at')

-- ---- the whole set
pub is_of_stands : (set : RuleSet) (found : Placed) → StandsIn set found → IsOccurrence set found.occurrence
is_of_stands set found stands =
    record {
      of_rule = Contains-from_In set.rules found.occurrence.rule (In-from_get set.rules found.place found.occurrence.rule stands.of_rule);
      since = stands.occurs.since;
      through = stands.occurs.through;
      year_in = stands.occurs.year_in;
    }

pub occurs_of_is : (set : RuleSet) (other : Occurrence) → IsOccurrence set other → OccursIn other.rule other.year
occurs_of_is set other is = record { since = is.since; through = is.through; year_in = is.year_in }

pub place_of_is : (set : RuleSet) (other : Occurrence) → IsOccurrence set other → (place : ℕ) × (slice_get set.rules place ≡ Some other.rule)
place_of_is set other is =
    get_from_In set.rules other.rule (In-from_Contains set.rules other.rule is.of_rule)

pub last_of_all : (set : RuleSet) (mark : Mark) (from : ℕ) (last : Option Placed) → from ≡ 0 → IsLastFrom set mark from last → IsLastBefore set mark last
last_of_all set mark from None whole none =
    λ other is.
    let there = place_of_is set other is in
    none there.0 other.rule other.year (omega arith) there.1 (occurs_of_is set other is)
last_of_all set mark from (Some found) whole last =
    let is_found = is_of_stands set found last.stands in
    record {
      stands = last.stands;
      is = is_found;
      before = last.before;
      last = λ other is before.
          let there = place_of_is set other is in
          let not_after = last.last there.0 other.rule other.year (omega arith) there.1 (occurs_of_is set other is) before in
          ⊎_elim (λ (same : other ≡ found.occurrence). inl same)
          (⊎_elim (λ (first : precedes other found.occurrence ≡ true). inr first)
          (λ (after : precedes found.occurrence other ≡ true). not_both (precedes found.occurrence other) after not_after))
          (occurrences_total set other found.occurrence is is_found);
    }

pub previous_of_mark : (set : RuleSet) (occurrence : Occurrence) (mark : Mark) (found : Option Placed) → mark ≡ record { second = nominal_of occurrence; line = occurrence.rule.line } → IsLastBefore set mark found → IsPreviousOf set occurrence found
previous_of_mark set occurrence mark None mark_is none =
    λ other is. let none' = rw mark_is at (none other is) in none'
previous_of_mark set occurrence mark (Some found) mark_is last = (
  last.stands,
  record {
    is = last.is;
    before = let before' = rw mark_is at last.before in before';
    last = λ other is before. last.last other is (ap (λ (m : Mark). is_before m other) mark_is ∙ before);
  },
)

by_is_before : (second : ℤ) (mark : Mark) (occurrence : Occurrence) → mark.second ≡ (second +ℤ pos 1) → nominal_of occurrence ≤ℤ second → is_before mark occurrence ≡ true
by_is_before second mark occurrence is by =
    earlier_is_before mark occurrence (omega (arith, ints, is))

pub before_is_by_second : (second : ℤ) (mark : Mark) (occurrence : Occurrence) → mark.second ≡ (second +ℤ pos 1) → mark.line ≡ 0 → is_before mark occurrence ≡ true → nominal_of occurrence ≤ℤ second
before_is_by_second second mark occurrence is line before =
    ⊎_elim
    (λ (lt : int_lt (nominal_of occurrence) mark.second ≡ true).
    let less = int_lt-true (nominal_of occurrence) mark.second lt in
    omega (arith, ints, is))
    (λ (both : (int_eq (nominal_of occurrence) mark.second && nat_lt occurrence.rule.line mark.line) ≡ true).
    let below = ltb-true occurrence.rule.line mark.line (and_parts (int_eq (nominal_of occurrence) mark.second) (nat_lt occurrence.rule.line mark.line) both).1 in
    absurd (omega (arith, below, line)))
    (or_cases (int_lt (nominal_of occurrence) mark.second) (int_eq (nominal_of occurrence) mark.second && nat_lt occurrence.rule.line mark.line) before)

pub last_by_mark : (set : RuleSet) (second : ℤ) (mark : Mark) (found : Option Placed) → mark.second ≡ (second +ℤ pos 1) → mark.line ≡ 0 → IsLastBefore set mark found → IsLastBy set second found
last_by_mark set second mark None is line none =
    λ other other_is.
    by_lt_z second (nominal_of other) (λ lt. lt)
    (λ le. not_both (is_before mark other) (by_is_before second mark other is le) (none other other_is))
last_by_mark set second mark (Some found) is line last =
    record {
      stands = last.stands;
      is = last.is;
      by = before_is_by_second second mark found.occurrence is line last.before;
      last = λ other other_is by. last.last other other_is (by_is_before second mark other is by);
    }

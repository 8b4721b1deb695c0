-- Which occurrences a rule set has, and that no two of them stand alike.
use Rattle.std.proofs.Common.{◌≡◌, ℕ, ◌<◌, true, ◌⊎◌, inl, inr, ⊎_elim, refl, sym, ap, subst, ◌∙◌, arith, List, [], ◌∷◌, map, ℤ, pos, negsuc, ◌+ℤ◌, ◌-ℤ◌, ◌<ℤ◌, ◌≤ℤ◌, nat_lt, Some, IsTrue}
use Rattle.std.specs.Prelude.{int_le, slice_get, filter, flat_map}
use Rattle.std.specs.List.{range_with_len}
use Rattle.std.proofs.lemmas.Int.{ints, by_lt_z}
use Rattle.std.proofs.lemmas.Bool.{and_parts, and_from, ltb-true, cases_order}
use Rattle.std.proofs.lemmas.Option.{same_Some}
use Rattle.tz_types.specs.declared.limit.TheConstants.{LAST_RULE_YEAR}
use Rattle.tz_types.specs.declared.rule.Rule.{Rule}
use Rattle.tz_types.specs.declared.rule_set.RuleSet.{RuleSet}
use Rattle.tz_types.specs.Order.{ascends, ascends_after}
use Rattle.tz_types.specs.Year.{IsRuleYear}
use Rattle.tz_specs.specs.Occurrence.{Occurrence, nominal_second, nominal_of, rule_years, is_year_of, occurrences_of_rule, precedes, occurrences}
use Rattle.tz_specs.specs.Standing.{IsOccurrence}
use Rattle.tz_specs.proofs.Tests.{int_le-true, le-int_le, not_both}
use Rattle.tz_specs.proofs.ListLemmas.{In, In-from_Contains, Contains-from_In, In-map, In-map_back, In-filter, In-filter_back, In-flat_map, In-flat_map_back, In-range, In-range_back, Pairs, Pairs-map, Pairs-filter, Pairs-range, Pairs-flat_map}
use Rattle.tz_specs.proofs.DayLemmas.{nominal_rises, nominal_apart}
use Rattle.tz_specs.proofs.OrderLemmas.{true-precedes, In-in_order, In-in_order_back, NotAfter, Differs, in_order_ordered, in_order_differs, strictly, precedes_asym}

-- ---- the years
abbrev year_number : ℕ → ℤ
year_number n = pos n -ℤ pos LAST_RULE_YEAR

rule_years_is : (count : ℕ) → 19_997 ≡ count → rule_years ≡ map year_number (range_with_len 0 count)
unfolding rule_years
rule_years_is count e = ap (λ (n : ℕ). map year_number (range_with_len 0 n)) e

pub natural_of : (z : ℤ) → pos 0 ≤ℤ z → (n : ℕ) × (pos n ≡ z)
natural_of (pos n) h = (n, refl)
natural_of (negsuc n) h = absurd (omega (arith, ints))

years-back : (count : ℕ) → 19_997 ≡ count → (year : ℤ) → In year (map year_number (range_with_len 0 count)) → IsRuleYear year
years-back count e year has =
    let there = In-map_back year_number (range_with_len 0 count) year has in
    let within = In-range_back count 0 there.0 there.1 in
    let is : (pos there.0 -ℤ pos LAST_RULE_YEAR) ≡ year = there.2 in
    (omega (arith, ints, within), omega (arith, ints, within))

years-in : (count : ℕ) → 19_997 ≡ count → (year : ℤ) → IsRuleYear year → In year (map year_number (range_with_len 0 count))
years-in count e year within =
    let n = natural_of (year +ℤ pos LAST_RULE_YEAR) (omega (arith, ints, within)) in
    let is : pos n.0 ≡ (year +ℤ pos LAST_RULE_YEAR) = n.1 in
    let low : pos n.0 <ℤ pos 19_997 = omega (arith, ints, within) in
    let same : year_number n.0 ≡ year = omega (arith, ints) in
    let there = In-map year_number (range_with_len 0 count) n.0 (In-range count 0 n.0 (omega arith) (omega (arith, ints))) in
    subst (λ (y : ℤ). In y (map year_number (range_with_len 0 count))) same there

years-rise : (count : ℕ) → Pairs (λ (a b : ℤ). a <ℤ b) (map year_number (range_with_len 0 count))
years-rise count =
    Pairs-map (λ (m n : ℕ). m < n) (λ (a b : ℤ). a <ℤ b) year_number (range_with_len 0 count) (λ m n here there below. omega (arith, ints))
    (Pairs-range count 0)

pub In-rule_years : (count : ℕ) → 19_997 ≡ count → (year : ℤ) → IsRuleYear year → In year rule_years
In-rule_years count e year within = rw (rule_years_is count e) (years-in count e year within)

pub In-rule_years_back : (count : ℕ) → 19_997 ≡ count → (year : ℤ) → In year rule_years → IsRuleYear year
In-rule_years_back count e year has =
    let has' = rw (rule_years_is count e) at has in
    years-back count e year has'

pub rule_years_rise : (count : ℕ) → 19_997 ≡ count → Pairs (λ (a b : ℤ). a <ℤ b) rule_years
rule_years_rise count e = rw (rule_years_is count e) (years-rise count)

-- ---- one rule
pub is_year_of-parts : (rule : Rule) (year : ℤ) → is_year_of rule year ≡ true → (rule.from ≤ℤ year) × (year ≤ℤ rule.to)
is_year_of-parts rule year h =
    let parts = and_parts (int_le rule.from year) (int_le year rule.to) h in
    (int_le-true rule.from year parts.0, int_le-true year rule.to parts.1)

pub is_year_of-from : (rule : Rule) (year : ℤ) → rule.from ≤ℤ year → year ≤ℤ rule.to → is_year_of rule year ≡ true
is_year_of-from rule year low high =
    and_from (int_le rule.from year) (int_le year rule.to) (le-int_le rule.from year low) (le-int_le year rule.to high)

pub In-of_rule : (occurrence : Occurrence) → occurrence.rule.from ≤ℤ occurrence.year → occurrence.year ≤ℤ occurrence.rule.to → IsRuleYear occurrence.year → In occurrence (occurrences_of_rule occurrence.rule)
In-of_rule occurrence since through year_in =
    let rule = occurrence.rule in
    In-map (λ (year : ℤ). record { rule = rule; year = year }) (filter (is_year_of rule) rule_years) occurrence.year
    (In-filter (is_year_of rule) rule_years occurrence.year (In-rule_years 19_997 refl occurrence.year year_in)
    (is_year_of-from rule occurrence.year since through))

-- what an element of the occurrences of a rule is
abbrev OfRule : Rule → Occurrence → Type 0
OfRule rule occurrence =
    (occurrence.rule ≡ rule) × (rule.from ≤ℤ occurrence.year) × (occurrence.year ≤ℤ rule.to) × IsRuleYear occurrence.year

pub In-of_rule_back : (rule : Rule) (occurrence : Occurrence) → In occurrence (occurrences_of_rule rule) → OfRule rule occurrence
In-of_rule_back rule occurrence has =
    let there = In-map_back {Y = Occurrence} (λ (year : ℤ). record { rule = rule; year = year }) (filter (is_year_of rule) rule_years) occurrence has in
    let kept = In-filter_back (is_year_of rule) rule_years there.0 there.1 in
    let years = is_year_of-parts rule there.0 kept.1 in
    let at_made : OfRule rule (record { rule = rule; year = there.0 }) =
    (refl, years.0, years.1, In-rule_years_back 19_997 refl there.0 kept.0) in
    subst (λ (o : Occurrence). OfRule rule o) there.2 at_made

-- of one rule, the later year comes later
pub rises_in_rule : (rule : Rule) (year later : ℤ) → IsRuleYear year → year <ℤ later → nominal_second year rule.moment <ℤ nominal_second later rule.moment
rises_in_rule rule year later within below =
    nominal_rises year later rule.from rule.to rule.moment (omega (arith, ints, within)) below rule.day_in

rule_differs : (rule : Rule) → Pairs Differs (occurrences_of_rule rule)
rule_differs rule =
    Pairs-map (λ (a b : ℤ). a <ℤ b) Differs (λ (year : ℤ). record { rule = rule; year = year }) (filter (is_year_of rule) rule_years)
    (λ year later here there below.
    let within = In-rule_years_back 19_997 refl year (In-filter_back (is_year_of rule) rule_years year here).0 in
    inl (true-precedes (record { rule = rule; year = year }) (record { rule = rule; year = later }) (inl (rises_in_rule rule year later within below))))
    (Pairs-filter (λ (a b : ℤ). a <ℤ b) (is_year_of rule) rule_years (rule_years_rise 19_997 refl))

-- ---- the rules of a set
abbrev pub LineBefore : Rule → Rule → Type 0
LineBefore first second = first.line < second.line

lines_after : (line : ℕ) (rules : List Rule) → ascends_after nat_lt line (map (λ rule. rule.line) rules) ≡ true → ((rule : Rule) → In rule rules → line < rule.line) × Pairs LineBefore rules
lines_after line [] h = (λ rule has. absurd has, tt)
lines_after line (first ∷ rules) h =
    let parts = and_parts (nat_lt line first.line) (ascends_after nat_lt first.line (map (λ rule. rule.line) rules)) h in
    let below : line < first.line = ltb-true line first.line parts.0 in
    let rest = lines_after first.line rules parts.1 in (
      λ rule has.
          ⊎_elim (λ (same : first ≡ rule). subst (λ (r : Rule). line < r.line) same below)
          (λ (later : In rule rules). let above : first.line < rule.line = rest.0 rule later in omega arith)
          has,
      rest,
    )

pub lines_rise : (rules : List Rule) → IsTrue (ascends nat_lt (map (λ rule. rule.line) rules)) → Pairs LineBefore rules
lines_rise [] h = tt
lines_rise (first ∷ rules) h = lines_after first.line rules h

-- the line tells the rule
pub same_line : (rules : List Rule) (first second : Rule) → Pairs LineBefore rules → In first rules → In second rules → first.line ≡ second.line → first ≡ second
same_line [] first second pairs here there same = absurd here
same_line (rule ∷ rules) first second pairs here there same =
    ⊎_elim
    (λ (is_first : rule ≡ first).
    ⊎_elim (λ (is_second : rule ≡ second). sym is_first ∙ is_second)
    (λ (later : In second rules).
    let below : rule.line < second.line = pairs.0 second later in
    let lines : rule.line ≡ first.line = ap (λ (r : Rule). r.line) is_first in
    absurd (omega arith))
    there)
    (λ (earlier : In first rules).
    ⊎_elim
    (λ (is_second : rule ≡ second).
    let below : rule.line < first.line = pairs.0 first earlier in
    let lines : rule.line ≡ second.line = ap (λ (r : Rule). r.line) is_second in
    absurd (omega arith))
    (λ (later : In second rules). same_line rules first second pairs.1 earlier later same)
    there)
    here

lines_differ : (x y : Occurrence) → x.rule.line < y.rule.line → Differs x y
lines_differ x y below =
    by_lt_z (nominal_of x) (nominal_of y) (λ lt. inl (true-precedes x y (inl lt)))
    (λ le.
    by_lt_z (nominal_of y) (nominal_of x) (λ gt. inr (true-precedes y x (inl gt)))
    (λ ge.
    let same : nominal_of x ≡ nominal_of y = omega (arith, ints) in
    inl (true-precedes x y (inr (same, below)))))

set_differs : (rules : List Rule) → Pairs LineBefore rules → Pairs Differs (flat_map occurrences_of_rule rules)
set_differs rules lines =
    Pairs-flat_map LineBefore Differs occurrences_of_rule rules (λ rule here. rule_differs rule)
    (λ first second x y here there below in_first in_second.
    let of_first : x.rule ≡ first = (In-of_rule_back first x in_first).0 in
    let of_second : y.rule ≡ second = (In-of_rule_back second y in_second).0 in
    let first_line : x.rule.line ≡ first.line = ap (λ (r : Rule). r.line) of_first in
    let second_line : y.rule.line ≡ second.line = ap (λ (r : Rule). r.line) of_second in
    lines_differ x y (omega arith))
    lines

-- ---- the list of a set
pub In-occurrences : (set : RuleSet) (occurrence : Occurrence) → IsOccurrence set occurrence → In occurrence (occurrences set)
unfolding occurrences
In-occurrences set occurrence is =
    In-in_order (flat_map occurrences_of_rule set.rules) occurrence
    (In-flat_map occurrences_of_rule set.rules occurrence.rule occurrence (In-from_Contains set.rules occurrence.rule is.of_rule)
    (In-of_rule occurrence is.since is.through is.year_in))

is_occurrence : (set : RuleSet) (rule : Rule) (occurrence : Occurrence) → In rule set.rules → OfRule rule occurrence → IsOccurrence set occurrence
is_occurrence set rule occurrence here of_rule =
    record {
      of_rule = Contains-from_In set.rules occurrence.rule (rw of_rule.0 here);
      since = rw of_rule.0 of_rule.1;
      through = rw of_rule.0 of_rule.2;
      year_in = of_rule.3;
    }

pub In-occurrences_back : (set : RuleSet) (occurrence : Occurrence) → In occurrence (occurrences set) → IsOccurrence set occurrence
unfolding occurrences
In-occurrences_back set occurrence has =
    let in_some = In-in_order_back (flat_map occurrences_of_rule set.rules) occurrence has in
    let there = In-flat_map_back occurrences_of_rule set.rules occurrence in_some in
    is_occurrence set there.0 occurrence there.1 (In-of_rule_back there.0 occurrence there.2)

pub occurrences_ordered : (set : RuleSet) → Pairs NotAfter (occurrences set)
unfolding occurrences
occurrences_ordered set = in_order_ordered (flat_map occurrences_of_rule set.rules)

pub occurrences_differ : (set : RuleSet) → Pairs Differs (occurrences set)
unfolding occurrences
occurrences_differ set =
    in_order_differs (flat_map occurrences_of_rule set.rules) (set_differs set.rules (lines_rise set.rules set.in_line_order))

-- to stand earlier is to precede
pub occurrences_strict : (set : RuleSet) (place later : ℕ) (x y : Occurrence) → place < later → slice_get (occurrences set) place ≡ Some x → slice_get (occurrences set) later ≡ Some y → precedes x y ≡ true
occurrences_strict set place later x y before here there =
    strictly (occurrences set) place later x y (occurrences_ordered set) (occurrences_differ set) before here there

same_parts : (x y : Occurrence) → x.rule ≡ y.rule → x.year ≡ y.year → x ≡ y
same_parts x y rules years = λ i. record { rule = rules i; year = years i }

-- one nominal second and one line are one occurrence
pub same_occurrence : (set : RuleSet) (x y : Occurrence) → IsOccurrence set x → IsOccurrence set y → nominal_of x ≡ nominal_of y → x.rule.line ≡ y.rule.line → x ≡ y
same_occurrence set x y here there seconds lines =
    let rules : x.rule ≡ y.rule = same_line set.rules x.rule y.rule (lines_rise set.rules set.in_line_order) (In-from_Contains set.rules x.rule here.of_rule) (In-from_Contains set.rules y.rule there.of_rule) lines in
    let moments : nominal_second y.year x.rule.moment ≡ nominal_of y = ap (λ (r : Rule). nominal_second y.year r.moment) rules in
    by_lt_z x.year y.year
    (λ below.
    let rises : nominal_of x <ℤ nominal_second y.year x.rule.moment = rises_in_rule x.rule x.year y.year here.year_in below in
    absurd (omega (arith, ints)))
    (λ le.
    by_lt_z y.year x.year
    (λ above.
    let rises : nominal_second y.year x.rule.moment <ℤ nominal_of x = rises_in_rule x.rule y.year x.year there.year_in above in
    absurd (omega (arith, ints)))
    (λ ge. same_parts x y rules (omega (arith, ints))))

-- to precede is to stand earlier
pub occurrences_places : (set : RuleSet) (place other : ℕ) (x y : Occurrence) → slice_get (occurrences set) place ≡ Some x → slice_get (occurrences set) other ≡ Some y → precedes x y ≡ true → place < other
occurrences_places set place other x y here there first =
    ⊎_elim
    (λ (same : place ≡ other).
    let again : slice_get (occurrences set) place ≡ Some y = rw same there in
    let equal : x ≡ y = same_Some x y (sym here ∙ again) in
    let itself : precedes x x ≡ true = rw (← equal) at first in
    not_both (precedes x x) itself (precedes_asym x x itself))
    (⊎_elim (λ (lt : place < other). lt)
    (λ (gt : other < place).
    not_both (precedes y x) (occurrences_strict set other place y x gt there here) (precedes_asym x y first)))
    (cases_order place other)

-- of two different ones, one precedes the other
pub occurrences_total : (set : RuleSet) (x y : Occurrence) → IsOccurrence set x → IsOccurrence set y → (x ≡ y) ⊎ Differs x y
occurrences_total set x y here there =
    by_lt_z (nominal_of x) (nominal_of y) (λ lt. inr (inl (true-precedes x y (inl lt))))
    (λ le.
    by_lt_z (nominal_of y) (nominal_of x) (λ gt. inr (inr (true-precedes y x (inl gt))))
    (λ ge.
    let same : nominal_of x ≡ nominal_of y = omega (arith, ints) in
    ⊎_elim (λ (lines : x.rule.line ≡ y.rule.line). inl (same_occurrence set x y here there same lines))
    (⊎_elim (λ (below : x.rule.line < y.rule.line). inr (inl (true-precedes x y (inr (same, below)))))
    (λ (above : y.rule.line < x.rule.line). inr (inr (true-precedes y x (inr (sym same, above))))))
    (cases_order x.rule.line y.rule.line)))

-- of one rule, two years are at least 350 days apart
pub apart_in_rule : (rule : Rule) (year later : ℤ) → IsRuleYear year → year <ℤ later → (nominal_second year rule.moment +ℤ pos 30_240_000) ≤ℤ nominal_second later rule.moment
apart_in_rule rule year later within below =
    nominal_apart year later rule.from rule.to rule.moment (omega (arith, ints, within)) below rule.day_in

-- Which occurrences are looked at, and what is left out: of each rule only years before two that have come, and years
-- behind one that hasn't.
use Rattle.std.proofs.Common.{◌≡◌, ℕ, zero, suc, ◌+◌, ◌<◌, ◌≤◌, ◌⊎◌, inl, inr, ⊎_elim, refl, sym, ap, subst, ◌∙◌, arith, List, [], ◌∷◌, ◌++◌, length, ℤ, pos, negsuc, neg_ℤ, ◌+ℤ◌, ◌-ℤ◌, ◌<ℤ◌, ◌≤ℤ◌, append_assoc, append-nil, ◌*◌, add-one, take, get_or}
use Rattle.std.specs.Prelude.{unsigned_abs, flat_map}
use Rattle.std.proofs.Math.Nat.{suc-mul, mul-le-mul_right}
use Rattle.std.proofs.lemmas.List.{take_more}
use Rattle.std.specs.Int.{int_min, int_max}
use Rattle.std.proofs.lemmas.Int.{ints, clamps, by_lt_z}
use Rattle.std.proofs.lemmas.Bool.{cases_order}
use Rattle.jiff_core.specs.Calendar.{IsYear}
use Rattle.jiff_core.proofs.SignedLemmas.{signed_arith}
use Rattle.tz_types.specs.declared.limit.TheConstants.{LONGEST_OFFSET}
use Rattle.tz_types.specs.declared.rule.Rule.{Rule}
use Rattle.tz_types.specs.Calendar.{LiesInYear}
use Rattle.tz_types.specs.Year.{IsRuleYear}
use Rattle.tz_specs.specs.Occurrence.{Occurrence, nominal_second}
use Rattle.tz_specs.proofs.Tests.{le-int_lt, lt-int_lt}
use Rattle.tz_specs.proofs.ListLemmas.{In, In-append_cases, In-append_left, In-append_right}
use Rattle.tz_specs.proofs.DayLemmas.{nominal_near}
use Rattle.tz_specs.proofs.OccurrenceLemmas.{natural_of}
use Rattle.tz_specs.proofs.YearLemmas.{lies_once}
use Rattle.tz_rules.specs.Search.{in_year}
use Rattle.tz_rules.proofs.YearBounds.{starts_apart, starts_rise}
use Rattle.tz_expand.specs.Stretch.{TouchesYears}
use Rattle.tz_expand.specs.Looks.{since, through, first_look, last_look, years_through, looks_from, looks_count, IsSpan, AreYearsNear}

-- ---- how many years there are
abs_is : (z : ℤ) → pos 0 ≤ℤ z → pos (unsigned_abs z) ≡ z
abs_is (pos n) h = refl
abs_is (negsuc n) h = absurd (omega (arith, ints))

pub years_through_is : (first last : ℤ) → first ≤ℤ last → pos (years_through first last) ≡ ((last -ℤ first) +ℤ pos 1)
years_through_is first last rises =
    let abs = abs_is (last -ℤ first) (omega (arith, ints)) in
    rw (le-int_lt last first rises) (omega (arith, ints))

pub years_through_none : (first last : ℤ) → last <ℤ first → years_through first last ≡ 0
years_through_none first last falls = rw (lt-int_lt last first falls) refl

pub within_years : (first last : ℤ) (n : ℕ) → n < years_through first last → (first +ℤ pos n) ≤ℤ last
within_years first last n low =
    by_lt_z last first (λ falls. absurd (omega (arith, years_through_none first last falls)))
    (λ rises. omega (arith, ints, years_through_is first last rises))

-- ---- the looks at one rule
pub looks-back : (rule : Rule) (first : ℤ) (count : ℕ) (o : Occurrence) → In o (looks_from rule first count) → (n : ℕ) × (n < count) × (in_year rule (first +ℤ pos n) ≡ o)
looks-back rule first zero o has = absurd has
looks-back rule first (suc count) o has =
    ⊎_elim
    (λ (earlier : In o (looks_from rule first count)).
    let there = looks-back rule first count o earlier in
    (there.0, omega (arith, there.1), there.2))
    (λ (last : In o (in_year rule (first +ℤ pos count) ∷ [])).
    ⊎_elim (λ (same : in_year rule (first +ℤ pos count) ≡ o). (count, omega arith, same)) (λ (none : ⊥). absurd none) last)
    (In-append_cases (looks_from rule first count) (in_year rule (first +ℤ pos count) ∷ []) o has)

pub looks-at : (rule : Rule) (first : ℤ) (count n : ℕ) → n < count → In (in_year rule (first +ℤ pos n)) (looks_from rule first count)
looks-at rule first zero n low = absurd (omega arith)
looks-at rule first (suc count) n low =
    ⊎_elim
    (λ (same : n ≡ count).
    In-append_right (looks_from rule first count) (in_year rule (first +ℤ pos count) ∷ []) (in_year rule (first +ℤ pos n)) (inl (ap (λ (m : ℕ). in_year rule (first +ℤ pos m)) (sym same))))
    (⊎_elim
    (λ (lt : n < count).
    In-append_left (looks_from rule first count) (in_year rule (first +ℤ pos count) ∷ []) (in_year rule (first +ℤ pos n)) (looks-at rule first count n lt))
    (λ (gt : count < n). absurd (omega arith)))
    (cases_order n count)

-- a year of those looked at
pub year_looked : (rule : Rule) (first last year : ℤ) → first ≤ℤ year → year ≤ℤ last → In (in_year rule year) (looks_from rule first (years_through first last))
year_looked rule first last year low high =
    let n = natural_of (year -ℤ first) (omega (arith, ints)) in
    let is : pos n.0 ≡ (year -ℤ first) = n.1 in
    let count = years_through_is first last (omega (arith, ints)) in
    let same : (first +ℤ pos n.0) ≡ year = omega (arith, ints) in
    subst (λ (y : ℤ). In (in_year rule y) (looks_from rule first (years_through first last))) same (looks-at rule first (years_through first last) n.0 (omega (arith, ints)))

pub since_from : (rule : Rule) (year : ℤ) → rule.from ≤ℤ year → IsRuleYear year → since rule ≤ℤ year
since_from rule year low within = omega (arith, ints, clamps, within)

pub through_from : (rule : Rule) (year : ℤ) → year ≤ℤ rule.to → IsRuleYear year → year ≤ℤ through rule
through_from rule year high within = omega (arith, ints, clamps, within)

pub since-years : (rule : Rule) (year : ℤ) → since rule ≤ℤ year → (rule.from ≤ℤ year) × (neg_ℤ (pos 9998) ≤ℤ year)
since-years rule year low = (omega (arith, ints, clamps), omega (arith, ints, clamps))

pub through-years : (rule : Rule) (year : ℤ) → year ≤ℤ through rule → (year ≤ℤ rule.to) × (year ≤ℤ pos 9998)
through-years rule year high = (omega (arith, ints, clamps), omega (arith, ints, clamps))

pub look_low : (s t a : ℤ) → s ≤ℤ int_max s (int_min a (t -ℤ pos 1))
look_low s t a = omega (arith, ints, clamps)

pub look_high : (s t b : ℤ) → int_min t (int_max b s) ≤ℤ t
look_high s t b = omega (arith, ints, clamps)

-- a year of the rule is looked at, or lies before two that are, or behind one
abbrev pub Looked : ℤ → ℤ → ℤ → ℤ → ℤ → Type 0
Looked a b first last year =
    ((first ≤ℤ year) × (year ≤ℤ last))
    ⊎ (((year <ℤ first) × ((first +ℤ pos 1) ≤ℤ last) × (first ≤ℤ a))
    ⊎ ((last <ℤ year) × (b ≤ℤ last) × (first ≤ℤ last)))

pub looked_cases : (s t a b first last year : ℤ) → first ≡ int_max s (int_min a (t -ℤ pos 1)) → last ≡ int_min t (int_max b s) → s ≤ℤ year → year ≤ℤ t → (a +ℤ pos 5) ≤ℤ b → Looked a b first last year
looked_cases s t a b first last year first_is last_is since_it through_it apart =
    by_lt_z year first
    (λ before. inr (inl (before, omega (arith, ints, clamps), omega (arith, ints, clamps))))
    (λ from.
    by_lt_z last year (λ behind. inr (inr (behind, omega (arith, ints, clamps), omega (arith, ints, clamps))))
    (λ within. inl (from, within)))

-- how many looks at a rule there are
pub few_looks : (s t a b first last : ℤ) → first ≡ int_max s (int_min a (t -ℤ pos 1)) → last ≡ int_min t (int_max b s) → (a +ℤ pos 5) ≤ℤ b → years_through first last ≤ years_through a b
few_looks s t a b first last first_is last_is apart =
    let all = years_through_is a b (omega (arith, ints)) in
    by_lt_z last first (λ falls. omega (arith, years_through_none first last falls))
    (λ rises. omega (arith, ints, clamps, years_through_is first last rises))

-- ---- years and their seconds
pub years_rise : (t later year later_year : ℤ) → IsYear year → IsYear later_year → LiesInYear t year → LiesInYear later later_year → t ≤ℤ later → year ≤ℤ later_year
years_rise t later year later_year year_in later_in lies later_lies rises =
    by_lt_z later_year year
    (λ falls.
    let starts = starts_rise (later_year +ℤ pos 1) year (omega (arith, signed_arith, later_in)) (omega (arith, signed_arith)) in
    let from = lies.from in
    let before = later_lies.before in
    absurd (omega (arith, signed_arith, starts, from, before)))
    (λ le. le)

pub are_years_near : (from to before year later_year first last : ℤ) → before ≡ (to -ℤ pos 1) → first ≡ (year -ℤ pos 3) → last ≡ (later_year +ℤ pos 2) → LiesInYear from year → LiesInYear before later_year → AreYearsNear from to first last
are_years_near from to before year later_year first last before_is first_is last_is lies later_lies =
    let begins : (first +ℤ pos 3) ≡ year = omega (arith, signed_arith) in
    let ends : (last -ℤ pos 2) ≡ later_year = omega (arith, signed_arith) in
    record { begins = rw begins lies; ends = rw (ends, ← before_is) later_lies }

pub is_span : (from to before year later_year first last : ℤ) → before ≡ (to -ℤ pos 1) → from <ℤ to → first ≡ (year -ℤ pos 3) → last ≡ (later_year +ℤ pos 2) → IsYear year → IsYear later_year → LiesInYear from year → LiesInYear before later_year → IsSpan first last
is_span from to before year later_year first last before_is rises first_is last_is year_in later_in lies later_lies =
    let years = years_rise from before year later_year year_in later_in lies later_lies (omega (arith, signed_arith)) in
    record {
      low = omega (arith, signed_arith, year_in);
      ordered = omega (arith, signed_arith);
      high = omega (arith, signed_arith, later_in);
    }

-- an occurrence of a year before the stretch's has come two days before it begins
pub come_before : (rule : Rule) (from year first : ℤ) → rule.from ≤ℤ year → year ≤ℤ rule.to → IsRuleYear year → LiesInYear from (first +ℤ pos 3) → year ≤ℤ (first +ℤ pos 1) → first ≤ℤ pos 10_010 → nominal_second year rule.moment ≤ℤ (from -ℤ pos LONGEST_OFFSET)
come_before rule from year first low high within lies before bound =
    let near = nominal_near rule year (year +ℤ pos 1) within low high refl in
    let apart = starts_apart (year +ℤ pos 1) (first +ℤ pos 3) (omega (arith, signed_arith, within)) (omega (arith, signed_arith)) in
    let begun = lies.from in
    omega (arith, signed_arith, near.1, apart, begun)

-- and one of a year behind the stretch's comes more than two days after it ends
pub comes_after : (rule : Rule) (to year last : ℤ) → rule.from ≤ℤ year → year ≤ℤ rule.to → IsRuleYear year → LiesInYear (to -ℤ pos 1) (last -ℤ pos 2) → last ≤ℤ year → neg_ℤ (pos 9_998) ≤ℤ last → (to +ℤ pos LONGEST_OFFSET) <ℤ nominal_second year rule.moment
comes_after rule to year last low high within lies after bound =
    let near = nominal_near rule year (year +ℤ pos 1) within low high refl in
    let apart = starts_apart ((last -ℤ pos 2) +ℤ pos 1) last (omega (arith, signed_arith)) (omega (arith, signed_arith)) in
    let rise = starts_rise last year (omega (arith, signed_arith)) after in
    let ended = lies.before in
    omega (arith, signed_arith, near.0, apart, rise, ended)

-- ---- the years of a rule, told one after another
pub first_look_is : (rule : Rule) (near own_since own_through less low first : ℤ) → own_since ≡ since rule → own_through ≡ through rule → less ≡ (own_through -ℤ pos 1) → low ≡ int_min near less → first ≡ int_max own_since low → first ≡ first_look rule near
first_look_is rule near own_since own_through less low first since_is through_is less_is low_is first_is =
    rw (first_is, low_is, less_is, through_is, since_is) refl

pub last_look_is : (rule : Rule) (near own_since own_through high last : ℤ) → own_since ≡ since rule → own_through ≡ through rule → high ≡ int_max near own_since → last ≡ int_min own_through high → last ≡ last_look rule near
last_look_is rule near own_since own_through high last since_is through_is high_is last_is =
    rw (last_is, high_is, through_is, since_is) refl

-- one look more at a rule
pub look_pushed : (rule : Rule) (first year : ℤ) (count next : ℕ) (before list after : List Occurrence) (look : Occurrence) → next ≡ suc count → list ≡ before ++ looks_from rule first count → look ≡ in_year rule year → year ≡ (first +ℤ pos count) → after ≡ list ++ look ∷ [] → after ≡ before ++ looks_from rule first next
look_pushed rule first year count next before list after look follows so_far is year_is pushed =
    rw (pushed, so_far, is, year_is, follows) (append_assoc before (looks_from rule first count) (in_year rule (first +ℤ pos count) ∷ []))

pub through_bounds : (rule : Rule) (own_through : ℤ) → own_through ≡ through rule → (neg_ℤ (pos 999_999_999) ≤ℤ own_through) × (own_through ≤ℤ pos 9998)
through_bounds rule own_through is =
    let within = rule.to_in in
    rw is (omega (arith, ints, clamps, within), omega (arith, ints, clamps))

-- ---- the looks at a set, rule by rule
pub set_pushed : (looks : Rule → List Occurrence) (rules : List Rule) (rule : Rule) (place : ℕ) (list after : List Occurrence) → place < length rules → rule ≡ get_or rules place rule → list ≡ flat_map looks (take place rules) → after ≡ list ++ looks rule → after ≡ flat_map looks (take (place + 1) rules)
set_pushed looks rules rule place list after low is so_far pushed =
    let here : take (place + 1) rules ≡ take place rules ++ rule ∷ [] = take_more rules place rule low ∙ ap (λ (z : Rule). take place rules ++ z ∷ []) (sym is) in
    pushed ∙ ap (λ (z : List Occurrence). z ++ looks rule) so_far ∙ sym (flat_map-push looks (take place rules) rule) ∙ ap (flat_map looks) (sym here)
  where
    flat_map-push : (looks : Rule → List Occurrence) (rules : List Rule) (rule : Rule) → flat_map looks (rules ++ rule ∷ []) ≡ flat_map looks rules ++ looks rule
    flat_map-push looks [] rule = append-nil (looks rule)
    flat_map-push looks (first ∷ rules) rule =
        ap (λ (z : List Occurrence). looks first ++ z) (flat_map-push looks rules rule) ∙ sym (append_assoc (looks first) (flat_map looks rules) (looks rule))

pub steps_more : (place wide few start before after : ℕ) → before ≤ start + place * wide → after ≤ before + few → few ≤ wide → after ≤ start + (place + 1) * wide
steps_more place wide few start before after so_far more few_enough =
    let next : (place + 1) * wide ≡ place * wide + wide = rw (add-one, suc-mul) (omega arith) in
    omega arith

pub steps_within : (place all wide start after : ℕ) → place < all → after ≤ start + (place + 1) * wide → after ≤ start + all * wide
steps_within place all wide start after low so_far =
    let less : (place + 1) * wide ≤ all * wide = mul-le-mul_right wide (omega arith) in
    omega arith

pub few_looks_at : (first last : ℤ) (rule : Rule) → IsSpan first last → looks_count first last rule ≤ years_through first last
few_looks_at first last rule span =
    few_looks (since rule) (through rule) first last (first_look rule first) (last_look rule last) refl refl span.ordered

-- ---- the years that a stretch touches
pub years_touched : (from to first last : ℤ) (years : ℕ) → IsSpan first last → AreYearsNear from to first last → TouchesYears from to years → years_through first last ≤ years + 12
years_touched from to first last years span near touches =
    let ordered = span.ordered in
    let low = span.low in
    let high = span.high in
    let year_in : IsYear (first +ℤ pos 3) = (omega (arith, ints), omega (arith, ints)) in
    let later_in : IsYear (last -ℤ pos 2) = (omega (arith, ints), omega (arith, ints)) in
    let begin = lies_once from (first +ℤ pos 3) touches.first year_in touches.first_in near.begins touches.begins in
    let end = lies_once (to -ℤ pos 1) (last -ℤ pos 2) touches.last later_in touches.last_in near.ends touches.ends in
    let all = years_through_is first last (omega (arith, ints)) in
    let counted = touches.counted in
    omega (arith, ints)

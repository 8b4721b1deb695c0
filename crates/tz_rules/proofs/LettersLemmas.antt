-- The first occurrence with save 0, rule by rule.
use Rattle.std.proofs.Common.{◌≡◌, ℕ, ◌+◌, ◌<◌, true, false, ◌⊎◌, inl, inr, ⊎_elim, refl, sym, ap, ◌∙◌, arith, [], length, ℤ, pos, neg_ℤ, ◌<ℤ◌, ◌≤ℤ◌, Option, Some, None}
use Rattle.std.specs.Prelude.{slice_get}
use Rattle.std.proofs.lemmas.Int.{ints, by_lt_z}
use Rattle.std.proofs.lemmas.Bool.{cases_order}
use Rattle.std.proofs.lemmas.Option.{same_Some, slice_get_within}
use Rattle.tz_types.specs.declared.rule.Rule.{Rule}
use Rattle.tz_types.specs.declared.rule_set.RuleSet.{RuleSet}
use Rattle.tz_specs.specs.Occurrence.{Occurrence, precedes}
use Rattle.tz_specs.specs.Until.{Rules}
use Rattle.tz_specs.specs.Before.{letters_before}
use Rattle.tz_specs.specs.Standing.{IsOccurrence}
use Rattle.tz_specs.proofs.Tests.{not_both}
use Rattle.tz_specs.proofs.ListLemmas.{In-from_get, In-from_Contains, Contains-from_In, get_from_In}
use Rattle.tz_specs.proofs.OrderLemmas.{true-precedes, precedes_trans}
use Rattle.tz_specs.proofs.OccurrenceLemmas.{rises_in_rule, occurrences_total}
use Rattle.tz_specs.proofs.EffectLemmas.{letters_of_first, no_letters}
use Rattle.tz_rules.specs.declared.placed.Placed.{Placed}
use Rattle.tz_rules.specs.Occurs.{OccursIn}
use Rattle.tz_rules.specs.Search.{IsFirstYear, IsLastYear}
use Rattle.tz_rules.specs.Letters.{StandsBelow, FirstBelow, IsFirstBelow, FirstOfStandard, IsFirstOfStandard}

-- ---- what stands among the first rules
pub none_below : (set : RuleSet) → IsFirstBelow set 0 None
none_below set other stands = no_place stands.place stands.below
  where
    no_place : (place : ℕ) → place < 0 → ⊥
    no_place place h = omega arith

pub below_is : (set : RuleSet) (count : ℕ) (occurrence : Occurrence) → StandsBelow set count occurrence → IsOccurrence set occurrence
below_is set count occurrence stands =
    record {
      of_rule = Contains-from_In set.rules occurrence.rule (In-from_get set.rules stands.place occurrence.rule stands.of_rule);
      since = stands.occurs.since;
      through = stands.occurs.through;
      year_in = stands.occurs.year_in;
    }

more_below : (set : RuleSet) (count : ℕ) (occurrence : Occurrence) → StandsBelow set count occurrence → StandsBelow set (count + 1) occurrence
more_below set count occurrence stands =
    record {
      place = stands.place;
      below = one_more stands.place count stands.below;
      of_rule = stands.of_rule;
      occurs = stands.occurs;
      standard = stands.standard;
    }
  where
    one_more : (place count : ℕ) → place < count → place < count + 1
    one_more place count h = omega arith

-- of the rules up to a place, one of those before it or the one there
below_cases : (set : RuleSet) (count : ℕ) (rule : Rule) (occurrence : Occurrence) → slice_get set.rules count ≡ Some rule → StandsBelow set (count + 1) occurrence → StandsBelow set count occurrence ⊎ (occurrence.rule ≡ rule)
below_cases set count rule occurrence there stands =
    ⊎_elim
    (λ (same : stands.place ≡ count).
    let at : slice_get set.rules count ≡ Some occurrence.rule = rw same at stands.of_rule in
    inr (same_Some occurrence.rule rule (sym at ∙ there)))
    (⊎_elim
    (λ (lt : stands.place < count).
    inl (record {
      place = stands.place;
      below = lt;
      of_rule = stands.of_rule;
      occurs = stands.occurs;
      standard = stands.standard;
    }))
    (λ (gt : count < stands.place). absurd (too_far stands.place count stands.below gt)))
    (cases_order stands.place count)
  where
    too_far : (place count : ℕ) → place < count + 1 → count < place → ⊥
    too_far place count h k = omega arith

-- ---- of one rule
pub first_of_it : (rule : Rule) (place : ℕ) (year last : ℤ) (found : Placed) → found ≡ record { place = place; occurrence = record { rule = rule; year = year } } → IsFirstYear rule (neg_ℤ (pos 9998)) year → IsLastYear rule (pos 9998) last → year ≤ℤ last → rule.save ≡ pos 0 → FirstOfStandard rule place found
first_of_it rule place year last found is first final within standard =
    let year_is : found.occurrence.year ≡ year = ap (λ (p : Placed). p.occurrence.year) is in
    record {
      is = is ∙ ap (λ (y : ℤ). record { place = place; occurrence = record { rule = rule; year = y } }) (sym year_is);
      occurs = rw year_is (record {
        since = first.from;
        through = omega (arith, ints, final.to);
        year_in = (first.low, omega (arith, ints, final.high));
      });
      standard = standard;
      first = λ other occurs. rw year_is (first.least other occurs occurs.year_in.0);
    }

-- ---- one more rule
-- it has no occurrence with save 0
pub step_none : (set : RuleSet) (count : ℕ) (rule : Rule) (best : Option Placed) → slice_get set.rules count ≡ Some rule → IsFirstOfStandard rule count None → IsFirstBelow set count best → IsFirstBelow set (count + 1) best
step_none set count rule None there none before = λ other stands.
    ⊎_elim (λ (below : StandsBelow set count other). before other below)
    (λ (same : other.rule ≡ rule).
    let standard : rule.save ≡ pos 0 = rw same at stands.standard in
    let occurs : OccursIn rule other.year = rw same at stands.occurs in
    none standard other.year occurs)
    (below_cases set count rule other there stands)
step_none set count rule (Some found) there none before =
    record {
      is = more_below set count found.occurrence before.is;
      first = λ other stands.
          ⊎_elim (λ (below : StandsBelow set count other). before.first other below)
          (λ (same : other.rule ≡ rule).
          let standard : rule.save ≡ pos 0 = rw same at stands.standard in
          let occurs : OccursIn rule other.year = rw same at stands.occurs in
          absurd (none standard other.year occurs))
          (below_cases set count rule other there stands);
    }

-- its first occurrence precedes its others
first_in_rule : (rule : Rule) (year later : ℤ) → OccursIn rule year → year <ℤ later → precedes (record { rule = rule; year = year }) (record { rule = rule; year = later }) ≡ true
first_in_rule rule year later occurs below =
    true-precedes (record { rule = rule; year = year }) (record { rule = rule; year = later }) (inl (rises_in_rule rule year later occurs.year_in below))

same_parts : (x y : Occurrence) → x.rule ≡ y.rule → x.year ≡ y.year → x ≡ y
same_parts x y rules years = λ i. record { rule = rules i; year = years i }

own_first : (rule : Rule) (year : ℤ) (other : Occurrence) → OccursIn rule year → ((later : ℤ) → OccursIn rule later → year ≤ℤ later) → other.rule ≡ rule → OccursIn other.rule other.year → (other ≡ record { rule = rule; year = year }) ⊎ (precedes (record { rule = rule; year = year }) other ≡ true)
own_first rule year other occurs first same its =
    let its_too : OccursIn rule other.year = rw same at its in
    let low : year ≤ℤ other.year = first other.year its_too in
    by_lt_z year other.year
    (λ below.
    let before = first_in_rule rule year other.year occurs below in
    let is : other ≡ record { rule = rule; year = other.year } = same_parts other (record { rule = rule; year = other.year }) same refl in
    inr (rw is before))
    (λ le.
    let years : other.year ≡ year = omega (arith, ints) in
    inl (same_parts other (record { rule = rule; year = year }) same years))

found_is : (rule : Rule) (count : ℕ) (found : Placed) → FirstOfStandard rule count found → found.occurrence ≡ record { rule = rule; year = found.occurrence.year }
found_is rule count found first = ap (λ (p : Placed). p.occurrence) first.is

found_stands : (set : RuleSet) (count : ℕ) (rule : Rule) (found : Placed) → slice_get set.rules count ≡ Some rule → FirstOfStandard rule count found → StandsBelow set (count + 1) found.occurrence
found_stands set count rule found there first =
    rw (found_is rule count found first) (record {
      place = count;
      below = one_more count;
      of_rule = there;
      occurs = first.occurs;
      standard = first.standard;
    })
  where
    one_more : (count : ℕ) → count < count + 1
    one_more count = omega arith

found_first : (set : RuleSet) (count : ℕ) (rule : Rule) (found : Placed) (other : Occurrence) → FirstOfStandard rule count found → other.rule ≡ rule → OccursIn other.rule other.year → (other ≡ found.occurrence) ⊎ (precedes found.occurrence other ≡ true)
found_first set count rule found other first same its =
    rw (found_is rule count found first) (own_first rule found.occurrence.year other first.occurs first.first same its)

pub step_first : (set : RuleSet) (count : ℕ) (rule : Rule) (found : Placed) → slice_get set.rules count ≡ Some rule → FirstOfStandard rule count found → IsFirstBelow set count None → FirstBelow set (count + 1) found.occurrence
step_first set count rule found there first before =
    record {
      is = found_stands set count rule found there first;
      first = λ other stands.
          ⊎_elim (λ (below : StandsBelow set count other). absurd (before other below))
          (λ (same : other.rule ≡ rule). found_first set count rule found other first same stands.occurs)
          (below_cases set count rule other there stands);
    }

-- it precedes the best so far
pub step_earlier : (set : RuleSet) (count : ℕ) (rule : Rule) (found best : Placed) → slice_get set.rules count ≡ Some rule → FirstOfStandard rule count found → FirstBelow set count best.occurrence → precedes found.occurrence best.occurrence ≡ true → FirstBelow set (count + 1) found.occurrence
step_earlier set count rule found best there first before earlier =
    record {
      is = found_stands set count rule found there first;
      first = λ other stands.
          ⊎_elim
          (λ (below : StandsBelow set count other).
          ⊎_elim (λ (same : other ≡ best.occurrence). inr (rw same earlier))
          (λ (later : precedes best.occurrence other ≡ true). inr (precedes_trans found.occurrence best.occurrence other earlier later))
          (before.first other below))
          (λ (same : other.rule ≡ rule). found_first set count rule found other first same stands.occurs)
          (below_cases set count rule other there stands);
    }

-- the best so far stays
pub step_later : (set : RuleSet) (count : ℕ) (rule : Rule) (found best : Placed) → slice_get set.rules count ≡ Some rule → FirstOfStandard rule count found → FirstBelow set count best.occurrence → precedes found.occurrence best.occurrence ≡ false → FirstBelow set (count + 1) best.occurrence
step_later set count rule found best there first before later =
    record {
      is = more_below set count best.occurrence before.is;
      first = λ other stands.
          ⊎_elim (λ (below : StandsBelow set count other). before.first other below)
          (λ (same : other.rule ≡ rule).
          let best_is = below_is set count best.occurrence before.is in
          let found_occurs = below_is set (count + 1) found.occurrence (found_stands set count rule found there first) in
          ⊎_elim
          (λ (is : other ≡ found.occurrence). rw is (not_before best.occurrence found.occurrence best_is found_occurs later))
          (λ (after : precedes found.occurrence other ≡ true).
          ⊎_elim
          (λ (equal : found.occurrence ≡ best.occurrence). inr (rw (← equal) after))
          (λ (before_found : precedes best.occurrence found.occurrence ≡ true). inr (precedes_trans best.occurrence found.occurrence other before_found after))
          (not_before best.occurrence found.occurrence best_is found_occurs later))
          (found_first set count rule found other first same stands.occurs))
          (below_cases set count rule other there stands);
    }
  where
    not_before : (best found : Occurrence) → IsOccurrence set best → IsOccurrence set found → precedes found best ≡ false → (found ≡ best) ⊎ (precedes best found ≡ true)
    not_before best found best_is found_is later =
        ⊎_elim (λ (same : best ≡ found). inl (sym same))
        (λ (differ : (precedes best found ≡ true) ⊎ (precedes found best ≡ true)).
        ⊎_elim (λ (first : precedes best found ≡ true). inr first)
        (λ (second : precedes found best ≡ true). not_both (precedes found best) second later)
        differ)
        (occurrences_total set best found best_is found_is)

-- ---- the whole set
stands_below_all : (set : RuleSet) (occurrence : Occurrence) → IsOccurrence set occurrence → occurrence.rule.save ≡ pos 0 → StandsBelow set (length set.rules) occurrence
stands_below_all set occurrence is standard =
    let there = get_from_In set.rules occurrence.rule (In-from_Contains set.rules occurrence.rule is.of_rule) in
    record {
      place = there.0;
      below = slice_get_within set.rules there.0 occurrence.rule there.1;
      of_rule = there.1;
      occurs = record { since = is.since; through = is.through; year_in = is.year_in };
      standard = standard;
    }

pub letters_found : (set : RuleSet) (found : Occurrence) → FirstBelow set (length set.rules) found → letters_before (Rules set) ≡ found.rule.letters
letters_found set found first =
    letters_of_first set found
    (record {
      is = below_is set (length set.rules) found first.is;
      standard = first.is.standard;
      first = λ other is standard. first.first other (stands_below_all set other is standard);
    })

pub letters_none : (set : RuleSet) → IsFirstBelow set (length set.rules) None → letters_before (Rules set) ≡ []
letters_none set none =
    no_letters set (λ other is standard. none other (stands_below_all set other is standard))

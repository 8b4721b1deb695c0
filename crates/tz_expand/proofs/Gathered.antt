-- The looks at a set have all occurrences that may change the stretch, and of each rule one more before and behind.
use Rattle.std.proofs.Common.{◌≡◌, ℕ, zero, suc, ◌<◌, ◌⊎◌, inl, inr, ⊎_elim, refl, sym, ap, subst, arith, List, [], ◌∷◌, ℤ, pos, ◌+ℤ◌, ◌-ℤ◌, ◌<ℤ◌, ◌≤ℤ◌}
use Rattle.std.specs.List.Sorted.{IsPermutation}
use Rattle.std.proofs.lemmas.Int.{ints, by_lt_z}
use Rattle.std.proofs.lemmas.List.Sorted.{IsPermutation-sym, Contains-permutation}
use Rattle.tz_types.specs.declared.limit.TheConstants.{LONGEST_OFFSET}
use Rattle.tz_types.specs.declared.rule.Rule.{Rule}
use Rattle.tz_types.specs.declared.rule_set.RuleSet.{RuleSet}
use Rattle.tz_types.specs.Year.{IsRuleYear}
use Rattle.tz_specs.specs.Occurrence.{Occurrence, nominal_of}
use Rattle.tz_specs.specs.Standing.{IsOccurrence}
use Rattle.tz_specs.proofs.ListLemmas.{In, In-from_Contains, Contains-from_In, In-flat_map, In-flat_map_back, Pairs, Pairs-append, Pairs-flat_map}
use Rattle.tz_specs.proofs.OrderLemmas.{Differs, true-precedes}
use Rattle.tz_specs.proofs.OccurrenceLemmas.{rises_in_rule, apart_in_rule, LineBefore, lines_rise}
use Rattle.tz_expand.specs.Looks.{since, through, first_look, last_look, looks_from, looks_count, looks_of, looks_of_set, IsSpan, AreYearsNear, AreLooksNear}
use Rattle.tz_expand.proofs.Strict.{Before, strict_from_sorted}
use Rattle.tz_rules.specs.Search.{in_year}
use Rattle.tz_expand.proofs.LookLemmas.{within_years, looks-back, year_looked, since_from, through_from, since-years, through-years, look_low, look_high, looked_cases, come_before, comes_after}

-- two of its rule behind it have come two days before the stretch
pub record Earlier (list : List Occurrence) (from : ℤ) (o : Occurrence) : Type 0 where
  pub first : Occurrence
  pub second : Occurrence
  pub first_in : In first list
  pub second_in : In second list
  pub before : Before o first
  pub rising : Before first second
  pub come : nominal_of second ≤ℤ (from -ℤ pos LONGEST_OFFSET)

-- one of its rule before it comes more than two days after the stretch
pub record Later (list : List Occurrence) (to : ℤ) (o : Occurrence) : Type 0 where
  pub first : Occurrence
  pub first_in : In first list
  pub after : (to +ℤ pos LONGEST_OFFSET) <ℤ nominal_of first
  pub apart : (nominal_of first +ℤ pos 30_240_000) ≤ℤ nominal_of o

pub record Gathers (set : RuleSet) (from to : ℤ) (list : List Occurrence) : Type 0 where
  pub known : (o : Occurrence) → In o list → IsOccurrence set o
  pub told : (o : Occurrence) → IsOccurrence set o → In o list ⊎ (Earlier list from o ⊎ Later list to o)

pub known_look : (set : RuleSet) (first last : ℤ) (o : Occurrence) → In o (looks_of_set first last set) → IsOccurrence set o
known_look set first last o has =
    let there = In-flat_map_back (looks_of first last) set.rules o has in
    let rule = there.0 in
    let look = looks-back rule (first_look rule first) (looks_count first last rule) o there.2 in
    let low = look_low (since rule) (through rule) first in
    let high = look_high (since rule) (through rule) last in
    let within = within_years (first_look rule first) (last_look rule last) look.0 look.1 in
    let year = first_look rule first +ℤ pos look.0 in
    let from = since-years rule year (omega (arith, ints)) in
    let to = through-years rule year (omega (arith, ints)) in
    let made : IsOccurrence set (in_year rule year) =
    record {
      of_rule = Contains-from_In set.rules rule there.1;
      since = from.0;
      through = to.0;
      year_in = (from.1, to.1);
    } in
    subst (IsOccurrence set) look.2 made

rule_year : (rule : Rule) (year : ℤ) → since rule ≤ℤ year → year ≤ℤ through rule → IsRuleYear year
rule_year rule year low high = ((since-years rule year low).1, (through-years rule year high).1)

look_among : (set : RuleSet) (first last : ℤ) (rule : Rule) (year : ℤ) → In rule set.rules → first_look rule first ≤ℤ year → year ≤ℤ last_look rule last → In (in_year rule year) (looks_of_set first last set)
look_among set first last rule year among low high =
    In-flat_map (looks_of first last) set.rules rule (in_year rule year) among (year_looked rule (first_look rule first) (last_look rule last) year low high)

earlier_look : (set : RuleSet) (from to first last : ℤ) (o : Occurrence) → IsSpan first last → AreYearsNear from to first last → IsOccurrence set o → o.year <ℤ first_look o.rule first → (first_look o.rule first +ℤ pos 1) ≤ℤ last_look o.rule last → first_look o.rule first ≤ℤ first → Earlier (looks_of_set first last set) from o
earlier_look set from to first last o span near is before two by =
    let rule = o.rule in
    let year = first_look rule first in
    let among = In-from_Contains set.rules rule is.of_rule in
    let low : since rule ≤ℤ year = look_low (since rule) (through rule) first in
    let high : last_look rule last ≤ℤ through rule = look_high (since rule) (through rule) last in
    let next_in : IsRuleYear (year +ℤ pos 1) = rule_year rule (year +ℤ pos 1) (omega (arith, ints)) (omega (arith, ints)) in
    let year_in : IsRuleYear year = rule_year rule year low (omega (arith, ints)) in
    let to_next = through-years rule (year +ℤ pos 1) (omega (arith, ints)) in
    let from_next = since-years rule (year +ℤ pos 1) (omega (arith, ints)) in
    let least = span.ordered in
    let most = span.high in
    record {
      first = in_year rule year;
      second = in_year rule (year +ℤ pos 1);
      first_in = look_among set first last rule year among (omega (arith, ints)) (omega (arith, ints));
      second_in = look_among set first last rule (year +ℤ pos 1) among (omega (arith, ints)) two;
      before = true-precedes o (in_year rule year) (inl (rises_in_rule rule o.year year is.year_in before));
      rising = true-precedes (in_year rule year) (in_year rule (year +ℤ pos 1)) (inl (rises_in_rule rule year (year +ℤ pos 1) year_in (omega (arith, ints))));
      come = come_before rule from (year +ℤ pos 1) first from_next.0 to_next.0 next_in near.begins (omega (arith, ints)) (omega (arith, ints));
    }

later_look : (set : RuleSet) (from to first last : ℤ) (o : Occurrence) → IsSpan first last → AreYearsNear from to first last → IsOccurrence set o → last_look o.rule last <ℤ o.year → last ≤ℤ last_look o.rule last → first_look o.rule first ≤ℤ last_look o.rule last → Later (looks_of_set first last set) to o
later_look set from to first last o span near is behind after some =
    let rule = o.rule in
    let year = last_look rule last in
    let among = In-from_Contains set.rules rule is.of_rule in
    let low : since rule ≤ℤ first_look rule first = look_low (since rule) (through rule) first in
    let high : year ≤ℤ through rule = look_high (since rule) (through rule) last in
    let from_it = since-years rule year (omega (arith, ints)) in
    let to_it = through-years rule year high in
    let least = span.low in
    let ordered = span.ordered in
    record {
      first = in_year rule year;
      first_in = look_among set first last rule year among some (omega (arith, ints));
      after = comes_after rule to year last from_it.0 to_it.0 (from_it.1, to_it.1) near.ends after (omega (arith, ints));
      apart = apart_in_rule rule year o.year (from_it.1, to_it.1) behind;
    }

pub gathers_looks : (set : RuleSet) (from to first last : ℤ) → IsSpan first last → AreYearsNear from to first last → Gathers set from to (looks_of_set first last set)
gathers_looks set from to first last span near =
    record {
      known = known_look set first last;
      told = λ o is.
          let rule = o.rule in
          let begin = first_look rule first in
          let end = last_look rule last in
          ⊎_elim
          (λ (here : (begin ≤ℤ o.year) × (o.year ≤ℤ end)).
          inl (look_among set first last rule o.year (In-from_Contains set.rules rule is.of_rule) here.0 here.1))
          (⊎_elim
          (λ (early : (o.year <ℤ begin) × ((begin +ℤ pos 1) ≤ℤ end) × (begin ≤ℤ first)).
          inr (inl (earlier_look set from to first last o span near is early.0 early.1 early.2)))
          (λ (late : (end <ℤ o.year) × (last ≤ℤ end) × (begin ≤ℤ end)).
          inr (inr (later_look set from to first last o span near is late.0 late.1 late.2))))
          (looked_cases (since rule) (through rule) first last begin end o.year refl refl (since_from rule o.year is.since is.year_in) (through_from rule o.year is.through is.year_in) span.ordered);
    }

-- ---- in another order
In-permutation : (xs ys : List Occurrence) (o : Occurrence) → IsPermutation xs ys → In o xs → In o ys
In-permutation xs ys o same has =
    In-from_Contains ys o (Contains-permutation xs ys o same (Contains-from_In xs o has))

pub gathers_in_order : (set : RuleSet) (from to : ℤ) (found list : List Occurrence) → IsPermutation found list → Gathers set from to found → Gathers set from to list
gathers_in_order set from to found list same gathers =
    record {
      known = λ o has. gathers.known o (In-permutation list found o (IsPermutation-sym found list same) has);
      told = λ o is.
          ⊎_elim (λ (here : In o found). inl (In-permutation found list o same here))
          (⊎_elim
          (λ (early : Earlier found from o).
          inr (inl (record {
            first = early.first;
            second = early.second;
            first_in = In-permutation found list early.first same early.first_in;
            second_in = In-permutation found list early.second same early.second_in;
            before = early.before;
            rising = early.rising;
            come = early.come;
          })))
          (λ (late : Later found to o).
          inr (inr (record {
            first = late.first;
            first_in = In-permutation found list late.first same late.first_in;
            after = late.after;
            apart = late.apart;
          }))))
          (gathers.told o is);
    }

-- ---- no look is told twice
looks_differ : (rule : Rule) (first : ℤ) (count : ℕ) → ((n : ℕ) → n < count → IsRuleYear (first +ℤ pos n)) → Pairs Differs (looks_from rule first count)
looks_differ rule first zero years = tt
looks_differ rule first (suc count) years =
    let last = in_year rule (first +ℤ pos count) in
    Pairs-append Differs (looks_from rule first count) (last ∷ []) (looks_differ rule first count (λ n low. years n (omega arith))) (λ y has. absurd has, tt)
    (λ x y here there.
    let look = looks-back rule first count x here in
    let rises = rises_in_rule rule (first +ℤ pos look.0) (first +ℤ pos count) (years look.0 (omega (arith, look.1))) (omega (arith, ints, look.1)) in
    ⊎_elim
    (λ (same : last ≡ y).
    let made : Differs (in_year rule (first +ℤ pos look.0)) last = inl (true-precedes (in_year rule (first +ℤ pos look.0)) last (inl rises)) in
    let of_x : Differs x last = subst (λ (o : Occurrence). Differs o last) look.2 made in
    subst (λ (o : Occurrence). Differs x o) same of_x)
    (λ (none : ⊥). absurd none)
    there)

lines_differ : (x y : Occurrence) → x.rule.line < y.rule.line → Differs x y
lines_differ x y below =
    by_lt_z (nominal_of x) (nominal_of y) (λ lt. inl (true-precedes x y (inl lt)))
    (λ le.
    by_lt_z (nominal_of y) (nominal_of x) (λ gt. inr (true-precedes y x (inl gt)))
    (λ ge.
    let same : nominal_of x ≡ nominal_of y = omega (arith, ints) in
    inl (true-precedes x y (inr (same, below)))))

look_line : (first last : ℤ) (rule : Rule) (o : Occurrence) → In o (looks_of first last rule) → o.rule.line ≡ rule.line
look_line first last rule o has =
    let look = looks-back rule (first_look rule first) (looks_count first last rule) o has in
    sym (ap (λ (x : Occurrence). x.rule.line) look.2)

pub set_looks_differ : (set : RuleSet) (first last : ℤ) → Pairs Differs (looks_of_set first last set)
set_looks_differ set first last =
    Pairs-flat_map LineBefore Differs (looks_of first last) set.rules
    (λ rule here.
    let low = look_low (since rule) (through rule) first in
    let high = look_high (since rule) (through rule) last in
    looks_differ rule (first_look rule first) (looks_count first last rule)
    (λ n below.
    let within = within_years (first_look rule first) (last_look rule last) n below in
    rule_year rule (first_look rule first +ℤ pos n) (omega (arith, ints)) (omega (arith, ints))))
    (λ rule other x y here there lines in_rule in_other.
    let line = look_line first last rule x in_rule in
    let other_line = look_line first last other y in_other in
    lines_differ x y (omega arith))
    (lines_rise set.rules set.in_line_order)

pub looks_rise : (set : RuleSet) (from to : ℤ) (list : List Occurrence) → AreLooksNear set from to list → Pairs Before list
looks_rise set from to list looks =
    strict_from_sorted (looks_of_set looks.first looks.last set) list (set_looks_differ set looks.first looks.last) looks.in_order

pub looks_gather : (set : RuleSet) (from to : ℤ) (list : List Occurrence) → AreLooksNear set from to list → Gathers set from to list
looks_gather set from to list looks =
    gathers_in_order set from to (looks_of_set looks.first looks.last set) list looks.in_order.same
    (gathers_looks set from to looks.first looks.last looks.span looks.near)

-- The search for the occurrence in effect.
use Rattle.std.proofs.Common.{◌≡◌, ℕ, ◌+◌, ◌≤◌, ◌<◌, true, false, ◌⊎◌, inl, inr, ⊎_elim, refl, sym, ap, subst, ◌∙◌, arith, ℤ, pos, neg_ℤ, ◌+ℤ◌, ◌-ℤ◌, ◌<ℤ◌, ◌≤ℤ◌, Option, Some, None, length}
use Rattle.std.specs.Prelude.{slice_get}
use Rattle.std.proofs.lemmas.Int.{ints, by_lt_z}
use Rattle.std.proofs.lemmas.Bool.{cases_order}
use Rattle.std.proofs.lemmas.Option.{slice_get_within}
use Rattle.tz_types.specs.declared.limit.TheConstants.{LONGEST_OFFSET}
use Rattle.tz_types.specs.Amount.{IsShift}
use Rattle.tz_types.specs.declared.rule.Rule.{Rule}
use Rattle.tz_types.specs.declared.rule_set.RuleSet.{RuleSet}
use Rattle.tz_specs.specs.Occurrence.{Occurrence, nominal_of, nominal_second, precedes}
use Rattle.tz_specs.specs.Standing.{IsOccurrence}
use Rattle.tz_specs.specs.Effect.{ComesAt}
use Rattle.tz_specs.proofs.Tests.{by_test, not_both, int_le-true}
use Rattle.tz_specs.proofs.OrderLemmas.{true-precedes, precedes_asym}
use Rattle.tz_specs.proofs.OccurrenceLemmas.{apart_in_rule}
use Rattle.tz_specs.proofs.EffectLemmas.{comes_somewhen, comes_once}
use Rattle.tz_rules.specs.declared.mark.Mark.{Mark}
use Rattle.tz_rules.specs.Mark.{is_before}
use Rattle.tz_rules.specs.declared.placed.Placed.{Placed}
use Rattle.tz_rules.specs.Occurs.{OccursIn}
use Rattle.tz_rules.specs.Search.{in_year, LastOfRule, IsLastOfRule, IsLastBy}
use Rattle.tz_rules.specs.InEffect.{IsState, HasCome, is_settled, follows, LastCome, IsLastCome, ComesLater}
use Rattle.tz_rules.proofs.Instants.{comes_after, comes_by}
use Rattle.tz_rules.proofs.BeforeMark.{earlier_is_before, before_is_by_second, own_stands, precedes_self, not_after_later, same_rule, is_of_stands, occurs_of_is, place_of_is}

-- ---- what lies two days before has come, what lies more than two days after hasn't
pub settled_has_come : (set : RuleSet) (stdoff t : ℤ) (occurrence : Occurrence) → IsShift stdoff → IsOccurrence set occurrence → nominal_of occurrence ≤ℤ (t -ℤ pos LONGEST_OFFSET) → HasCome set stdoff t occurrence
settled_has_come set stdoff t occurrence within is by =
    let comes = comes_somewhen set stdoff occurrence is in
    record {
      instant = comes.0;
      comes = comes.1;
      come = comes_by set stdoff occurrence comes.0 t within comes.1 (omega (arith, ints));
    }

pub come_is_near : (set : RuleSet) (stdoff t : ℤ) (occurrence : Occurrence) → IsShift stdoff → HasCome set stdoff t occurrence → nominal_of occurrence ≤ℤ (t +ℤ pos LONGEST_OFFSET)
come_is_near set stdoff t occurrence within has =
    by_lt_z (t +ℤ pos LONGEST_OFFSET) (nominal_of occurrence)
    (λ late.
    let after = comes_after set stdoff occurrence has.instant t within has.comes (omega (arith, ints)) in
    let come = has.come in
    absurd (omega (arith, ints)))
    (λ le. le)

-- ---- where the last one up to two days after has come
pub settled_is_state : (set : RuleSet) (stdoff t second : ℤ) (found : Option Placed) → IsShift stdoff → second ≡ (t +ℤ pos LONGEST_OFFSET) → IsLastBy set second found → is_settled t found ≡ true → IsState set stdoff t found
settled_is_state set stdoff t second None within second_is none settled =
    λ other instant is comes.
    let late = none other is in
    comes_after set stdoff other instant t within comes (omega (arith, ints))
settled_is_state set stdoff t second (Some found) within second_is last settled =
    let by = int_le-true (nominal_of found.occurrence) (t -ℤ pos LONGEST_OFFSET) settled in
    let has = settled_has_come set stdoff t found.occurrence within last.is by in (
      last.stands,
      record {
        is = last.is;
        instant = has.instant;
        comes = has.comes;
        come = has.come;
        none_later = λ other instant is after comes.
            by_lt_z second (nominal_of other)
            (λ late. comes_after set stdoff other instant t within comes (omega (arith, ints)))
            (λ le.
            ⊎_elim
            (λ (same : other ≡ found.occurrence).
            let itself : precedes found.occurrence found.occurrence ≡ true = rw same at after in
            not_both (precedes found.occurrence found.occurrence) itself (precedes_self found.occurrence))
            (λ (before : precedes other found.occurrence ≡ true). not_both (precedes found.occurrence other) after (precedes_asym other found.occurrence before))
            (last.last other is le));
      },
    )

-- ---- else: from those two days before, rule by rule
pub come_at_first : (set : RuleSet) (stdoff t second : ℤ) (found : Option Placed) → IsShift stdoff → second ≡ (t -ℤ pos LONGEST_OFFSET) → IsLastBy set second found → IsLastCome set stdoff t 0 found
come_at_first set stdoff t second None within second_is none =
    record { settled = λ other is. let late = none other is in omega (arith, ints); none = λ place rule year low. absurd (omega arith) }
come_at_first set stdoff t second (Some found) within second_is last =
    record {
      stands = last.stands;
      come = settled_has_come set stdoff t found.occurrence within last.is (let by = last.by in omega (arith, ints));
      settled = λ other is by.
          ⊎_elim (λ (same : other ≡ found.occurrence). rw same (precedes_self found.occurrence))
          (λ (before : precedes other found.occurrence ≡ true). precedes_asym other found.occurrence before)
          (last.last other is (omega (arith, ints)));
      last = λ place rule year low. absurd (omega arith);
    }

-- the place before or at the last one
by_below : {P : Type 0} (place at : ℕ) → at < place + 1 → (at < place → P) → (at ≡ place → P) → P
by_below place at low below here =
    ⊎_elim (λ (same : at ≡ place). here same)
    (⊎_elim (λ (lt : at < place). below lt) (λ (gt : place < at). absurd (omega arith)))
    (cases_order at place)

-- what has come of the rule is the one found, or comes two days before t on its own clock
own_come : (set : RuleSet) (stdoff t : ℤ) (place : ℕ) (rule : Rule) (mark : Mark) (found : Placed) (year : ℤ) → IsShift stdoff → mark.second ≡ (t +ℤ pos 172_801) → mark.line ≡ 0 → LastOfRule rule place mark found → OccursIn rule year → HasCome set stdoff t (in_year rule year) → (in_year rule year ≡ found.occurrence) ⊎ (nominal_second year rule.moment ≤ℤ (t -ℤ pos LONGEST_OFFSET))
own_come set stdoff t place rule mark found year within mark_is line own occurs has =
    let near = come_is_near set stdoff t (in_year rule year) within has in
    let found_is : found.occurrence ≡ in_year rule found.occurrence.year = ap (λ (p : Placed). p.occurrence) own.is in
    let by = before_is_by_second (t +ℤ pos LONGEST_OFFSET) mark (in_year rule found.occurrence.year) (omega (arith, ints, mark_is)) line own.before in
    by_lt_z found.occurrence.year year
    (λ lt.
    not_both (is_before mark (in_year rule year)) (earlier_is_before mark (in_year rule year) (omega (arith, ints, mark_is))) (own.last year occurs lt))
    (λ le.
    by_lt_z year found.occurrence.year
    (λ lt.
    let apart = apart_in_rule rule year found.occurrence.year occurs.year_in lt in
    inr (omega (arith, ints)))
    (λ ge.
    let same : year ≡ found.occurrence.year = omega (arith, ints) in
    inl (ap (in_year rule) same ∙ sym found_is)))

-- an occurrence doesn't come after the one found, and there is none where none is found
abbrev NotAfterLast : Option Placed → Occurrence → Type 0
NotAfterLast None x = ⊥
NotAfterLast (Some last) x = precedes last.occurrence x ≡ false

settled_not_after : (set : RuleSet) (stdoff t : ℤ) (place : ℕ) (last : Option Placed) (x : Occurrence) → IsLastCome set stdoff t place last → IsOccurrence set x → nominal_of x ≤ℤ (t -ℤ pos LONGEST_OFFSET) → NotAfterLast last x
settled_not_after set stdoff t place None x so_far is by =
    let late = so_far.settled x is in
    omega (arith, ints)
settled_not_after set stdoff t place (Some last) x so_far is by = so_far.settled x is by

occurrence_in : (set : RuleSet) (place : ℕ) (rule : Rule) (year : ℤ) → slice_get set.rules place ≡ Some rule → OccursIn rule year → IsOccurrence set (in_year rule year)
occurrence_in set place rule year here occurs =
    is_of_stands set (record { place = place; occurrence = in_year rule year }) (record { of_rule = here; occurs = occurs })

come_unchanged : (set : RuleSet) (stdoff t : ℤ) (place : ℕ) (rule : Rule) (last : Option Placed) → slice_get set.rules place ≡ Some rule → IsLastCome set stdoff t place last → ((year : ℤ) → OccursIn rule year → HasCome set stdoff t (in_year rule year) → NotAfterLast last (in_year rule year)) → IsLastCome set stdoff t (place + 1) last
come_unchanged set stdoff t place rule None here so_far own =
    record {
      settled = so_far.settled;
      none = λ at other year low there occurs has.
          by_below place at low (λ below. so_far.none at other year below there occurs has)
          (λ same.
          let is : rule ≡ other = same_rule set place at rule other same here there in
          own year (rw is occurs) (rw is has));
    }
come_unchanged set stdoff t place rule (Some last) here so_far own =
    record {
      stands = so_far.stands;
      come = so_far.come;
      settled = so_far.settled;
      last = λ at other year low there occurs has.
          by_below place at low (λ below. so_far.last at other year below there occurs has)
          (λ same.
          let is : rule ≡ other = same_rule set place at rule other same here there in
          let not_after = own year (rw is occurs) (rw is has) in
          ap (λ (r : Rule). precedes last.occurrence (in_year r year)) (sym is) ∙ not_after);
    }

pub come_none : (set : RuleSet) (stdoff t : ℤ) (place : ℕ) (rule : Rule) (since : ℤ) (mark : Mark) (last : Option Placed) → IsShift stdoff → mark.second ≡ (t +ℤ pos 172_801) → since ≡ neg_ℤ (pos 9998) → slice_get set.rules place ≡ Some rule → IsLastOfRule rule place since mark None → IsLastCome set stdoff t place last → IsLastCome set stdoff t (place + 1) last
come_none set stdoff t place rule since mark last within mark_is since_is here none so_far =
    come_unchanged set stdoff t place rule last here so_far
    (λ year occurs has.
    let near = come_is_near set stdoff t (in_year rule year) within has in
    not_both (is_before mark (in_year rule year)) (earlier_is_before mark (in_year rule year) (omega (arith, ints, mark_is)))
    (none year occurs (omega (arith, ints, since_is, occurs.year_in))))

found_not_after : (set : RuleSet) (stdoff t : ℤ) (place : ℕ) (last : Option Placed) (found : Placed) → IsLastCome set stdoff t place last → IsOccurrence set found.occurrence → ¬ (ComesLater set stdoff t last found) → HasCome set stdoff t found.occurrence → NotAfterLast last found.occurrence
found_not_after set stdoff t place None found so_far is not_later has =
    by_lt_z (t -ℤ pos LONGEST_OFFSET) (nominal_of found.occurrence)
    (λ near. not_later (record { near = near; follows_it = refl; come = has }))
    (λ by. settled_not_after set stdoff t place None found.occurrence so_far is by)
found_not_after set stdoff t place (Some last) found so_far is not_later has =
    by_lt_z (t -ℤ pos LONGEST_OFFSET) (nominal_of found.occurrence)
    (λ near.
    by_test (precedes last.occurrence found.occurrence)
    (λ later. absurd (not_later (record { near = near; follows_it = later; come = has })))
    (λ fails. fails))
    (λ by. settled_not_after set stdoff t place (Some last) found.occurrence so_far is by)

pub come_not_later : (set : RuleSet) (stdoff t : ℤ) (place : ℕ) (rule : Rule) (mark : Mark) (last : Option Placed) (found : Placed) → IsShift stdoff → mark.second ≡ (t +ℤ pos 172_801) → mark.line ≡ 0 → slice_get set.rules place ≡ Some rule → LastOfRule rule place mark found → IsLastCome set stdoff t place last → ¬ (ComesLater set stdoff t last found) → IsLastCome set stdoff t (place + 1) last
come_not_later set stdoff t place rule mark last found within mark_is line here own so_far not_later =
    let is_found : IsOccurrence set found.occurrence = is_of_stands set found (own_stands set rule place mark found here own).0 in
    come_unchanged set stdoff t place rule last here so_far
    (λ year occurs has.
    ⊎_elim
    (λ (same : in_year rule year ≡ found.occurrence).
    subst (NotAfterLast last) (sym same) (found_not_after set stdoff t place last found so_far is_found not_later (subst (HasCome set stdoff t) same has)))
    (λ (by : nominal_second year rule.moment ≤ℤ (t -ℤ pos LONGEST_OFFSET)). settled_not_after set stdoff t place last (in_year rule year) so_far (occurrence_in set place rule year here occurs) by)
    (own_come set stdoff t place rule mark found year within mark_is line own occurs has))

after_last : (set : RuleSet) (stdoff t : ℤ) (place at : ℕ) (last : Option Placed) (found : Placed) (other : Rule) (year : ℤ) → IsLastCome set stdoff t place last → follows last found ≡ true → at < place → slice_get set.rules at ≡ Some other → OccursIn other year → HasCome set stdoff t (in_year other year) → precedes found.occurrence (in_year other year) ≡ false
after_last set stdoff t place at None found other year so_far later below there occurs has =
    absurd (so_far.none at other year below there occurs has)
after_last set stdoff t place at (Some last) found other year so_far later below there occurs has =
    not_after_later last.occurrence found.occurrence (in_year other year) later (so_far.last at other year below there occurs has)

pub come_later : (set : RuleSet) (stdoff t : ℤ) (place : ℕ) (rule : Rule) (mark : Mark) (last : Option Placed) (found : Placed) → IsShift stdoff → mark.second ≡ (t +ℤ pos 172_801) → mark.line ≡ 0 → slice_get set.rules place ≡ Some rule → LastOfRule rule place mark found → IsLastCome set stdoff t place last → ComesLater set stdoff t last found → LastCome set stdoff t (place + 1) found
come_later set stdoff t place rule mark last found within mark_is line here own so_far later =
    let earlier : (x : Occurrence) → nominal_of x <ℤ nominal_of found.occurrence → precedes found.occurrence x ≡ false = λ x less. precedes_asym x found.occurrence (true-precedes x found.occurrence (inl less)) in
    let near = later.near in
    record {
      stands = (own_stands set rule place mark found here own).0;
      come = later.come;
      settled = λ other is by. earlier other (omega (arith, ints));
      last = λ at other year low there occurs has.
          by_below place at low
          (λ below. after_last set stdoff t place at last found other year so_far later.follows_it below there occurs has)
          (λ same.
          let is : rule ≡ other = same_rule set place at rule other same here there in
          ap (λ (r : Rule). precedes found.occurrence (in_year r year)) (sym is)
          ∙ ⊎_elim (λ (itself : in_year rule year ≡ found.occurrence). subst (λ (x : Occurrence). precedes found.occurrence x ≡ false) (sym itself) (precedes_self found.occurrence))
          (λ (by : nominal_second year rule.moment ≤ℤ (t -ℤ pos LONGEST_OFFSET)). earlier (in_year rule year) (omega (arith, ints)))
          (own_come set stdoff t place rule mark found year within mark_is line own (rw is occurs) (rw is has)));
    }

-- ---- all rules
pub last_come_is_state : (set : RuleSet) (stdoff t : ℤ) (place : ℕ) (last : Option Placed) → length set.rules ≤ place → IsLastCome set stdoff t place last → IsState set stdoff t last
last_come_is_state set stdoff t place None whole none =
    λ other instant is comes.
    let there = place_of_is set other is in
    by_lt_z t instant (λ lt. lt)
    (λ le.
    let low = slice_get_within set.rules there.0 other.rule there.1 in
    absurd (none.none there.0 other.rule other.year (omega (arith, low)) there.1 (occurs_of_is set other is) (record { instant = instant; comes = comes; come = le })))
last_come_is_state set stdoff t place (Some found) whole last = (
  last.stands,
  record {
    is = is_of_stands set found last.stands;
    instant = last.come.instant;
    comes = last.come.comes;
    come = last.come.come;
    none_later = λ other instant is after comes.
        let there = place_of_is set other is in
        by_lt_z t instant (λ lt. lt)
        (λ le.
        let low = slice_get_within set.rules there.0 other.rule there.1 in
        not_both (precedes found.occurrence other) after
        (last.last there.0 other.rule other.year (omega (arith, low)) there.1 (occurs_of_is set other is) (record { instant = instant; comes = comes; come = le })));
  },
)

-- ---- what the test of one occurrence tells
pub comes_later_is : (set : RuleSet) (stdoff t : ℤ) (last : Option Placed) (found : Placed) (instant : ℤ) → (t -ℤ pos LONGEST_OFFSET) <ℤ nominal_of found.occurrence → follows last found ≡ true → ComesAt set stdoff found.occurrence instant → instant ≤ℤ t → ComesLater set stdoff t last found
comes_later_is set stdoff t last found instant near later comes by =
    record { near = near; follows_it = later; come = record { instant = instant; comes = comes; come = by } }

pub not_come_yet : (set : RuleSet) (stdoff t : ℤ) (last : Option Placed) (found : Placed) (instant : ℤ) → IsOccurrence set found.occurrence → ComesAt set stdoff found.occurrence instant → t <ℤ instant → ¬ (ComesLater set stdoff t last found)
not_come_yet set stdoff t last found instant is comes after later =
    let same = comes_once set stdoff found.occurrence instant later.come.instant is comes later.come.comes in
    let come = later.come.come in
    omega (arith, ints)

pub not_near : (set : RuleSet) (stdoff t : ℤ) (last : Option Placed) (found : Placed) → nominal_of found.occurrence ≤ℤ (t -ℤ pos LONGEST_OFFSET) → ¬ (ComesLater set stdoff t last found)
not_near set stdoff t last found by later =
    let near = later.near in
    omega (arith, ints)

pub not_following : (set : RuleSet) (stdoff t : ℤ) (last : Option Placed) (found : Placed) → follows last found ≡ false → ¬ (ComesLater set stdoff t last found)
not_following set stdoff t last found fails later = not_both (follows last found) later.follows_it fails

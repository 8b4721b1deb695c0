-- The search for the next change.
use Rattle.std.proofs.Common.{◌≡◌, ℕ, ◌+◌, ◌≤◌, ◌<◌, true, false, ◌&&◌, ◌⊎◌, inl, inr, ⊎_elim, refl, sym, ap, subst, ◌∙◌, arith, ℤ, pos, ◌+ℤ◌, ◌-ℤ◌, ◌<ℤ◌, ◌≤ℤ◌, Option, Some, None, length}
use Rattle.std.specs.Prelude.{int_lt, slice_get}
use Rattle.std.specs.Ordering.{int_eq}
use Rattle.std.proofs.lemmas.Int.{ints, by_lt_z}
use Rattle.std.proofs.lemmas.Bool.{cases_order, or_cases, or_left, or_right, and_parts, and_from}
use Rattle.std.proofs.lemmas.Option.{slice_get_within}
use Rattle.tz_types.specs.declared.limit.TheConstants.{LONGEST_OFFSET}
use Rattle.tz_types.specs.Amount.{IsShift}
use Rattle.tz_types.specs.declared.rule.Rule.{Rule}
use Rattle.tz_types.specs.declared.rule_set.RuleSet.{RuleSet}
use Rattle.tz_specs.specs.Occurrence.{Occurrence, nominal_of, nominal_second, precedes}
use Rattle.tz_specs.specs.Standing.{IsOccurrence}
use Rattle.tz_specs.specs.Effect.{ComesAt, IsInEffect, NoneInEffect}
use Rattle.tz_specs.specs.Around.{IsToCome}
use Rattle.tz_specs.proofs.Tests.{by_test, not_both, int_lt-true, int_lt-false, int_eq-true, eq-int_eq}
use Rattle.tz_specs.proofs.OrderLemmas.{precedes_asym, precedes_trans}
use Rattle.tz_specs.proofs.OccurrenceLemmas.{apart_in_rule}
use Rattle.tz_specs.proofs.EffectLemmas.{comes_once, in_effect_once}
use Rattle.tz_rules.specs.declared.mark.Mark.{Mark}
use Rattle.tz_rules.specs.declared.next_change.Coming.{Coming}
use Rattle.tz_rules.specs.declared.next_change.Window.{Window}
use Rattle.tz_rules.specs.declared.placed.Placed.{Placed}
use Rattle.tz_rules.specs.Occurs.{OccursIn}
use Rattle.tz_rules.specs.Placed.{StandsIn}
use Rattle.tz_rules.specs.Mark.{is_after, IsLatestYear, IsEarliestYear}
use Rattle.tz_rules.specs.Search.{in_year, FirstOfRule, IsFirstOfRule, FirstAfter, IsPreviousOf}
use Rattle.tz_rules.specs.InEffect.{IsState, saved_by}
use Rattle.tz_rules.specs.NextChange.{mark_from, IsWindow, IsSoonest, is_sooner, sooner_of, IsFirstToCome, IsNext, IsNextAfter}
use Rattle.tz_rules.proofs.Instants.{nominal_bounds, comes_after, comes_by, comes_under}
use Rattle.tz_rules.proofs.BeforeMark.{precedes_self, not_after_later, same_rule, is_of_stands, occurs_of_is, place_of_is}
use Rattle.tz_rules.proofs.AfterMark.{later_is_after, after_is_from, own_stands_after, next_is_previous}

-- ---- to come is to stand after the mark of what is in effect
pub to_come_after : (set : RuleSet) (stdoff t : ℤ) (state : Option Placed) (x : Occurrence) → IsState set stdoff t state → IsToCome set stdoff t x → is_after (mark_from state) x ≡ true
to_come_after set stdoff t None x none to_come =
    later_is_after (mark_from None) x (let low = (nominal_bounds set x to_come.0).0 in omega (arith, ints))
to_come_after set stdoff t (Some now) x state to_come =
    ⊎_elim
    (λ (none : NoneInEffect set stdoff t).
    let late = none now.occurrence state.1.instant state.1.is state.1.comes in
    let come = state.1.come in
    absurd (omega (arith, ints)))
    (λ (other : (o : Occurrence) × IsInEffect set stdoff t o × (precedes o x ≡ true)).
    let same = in_effect_once set stdoff t other.0 now.occurrence other.1 state.1 in
    let later : precedes now.occurrence x ≡ true = subst (λ (o : Occurrence). precedes o x ≡ true) same other.2 in
    later)
    to_come.1

pub after_to_come : (set : RuleSet) (stdoff t : ℤ) (state : Option Placed) (x : Occurrence) → IsState set stdoff t state → IsOccurrence set x → is_after (mark_from state) x ≡ true → IsToCome set stdoff t x
after_to_come set stdoff t None x none is after = (is, inl none)
after_to_come set stdoff t (Some now) x state is after =
    (is, inr (now.occurrence, state.1, after))

pub none_to_come : (set : RuleSet) (stdoff t : ℤ) (state : Option Placed) → IsState set stdoff t state → IsFirstToCome set stdoff state None → IsNextAfter set stdoff t None
none_to_come set stdoff t state is none other to_come =
    not_both (is_after (mark_from state) other) (to_come_after set stdoff t state other is to_come) (none other to_come.0)

-- ---- the first of them comes on the clock of what is in effect
state_is_previous : (set : RuleSet) (stdoff t : ℤ) (state : Option Placed) (first : Placed) → IsState set stdoff t state → FirstAfter set (mark_from state) first → IsPreviousOf set first.occurrence state
state_is_previous set stdoff t None first none is =
    λ other other_is.
    let low = (nominal_bounds set other other_is).0 in
    let after = later_is_after (mark_from None) other (omega (arith, ints)) in
    ⊎_elim (λ (same : other ≡ first.occurrence). rw same (precedes_self first.occurrence))
    (λ (later : precedes first.occurrence other ≡ true). precedes_asym first.occurrence other later)
    (is.first other other_is after)
state_is_previous set stdoff t (Some now) first state is =
    (state.0, next_is_previous set now.occurrence first.occurrence state.1.is is.after (λ other other_is after. is.first other other_is after))

pub first_comes : (set : RuleSet) (stdoff t : ℤ) (state : Option Placed) (first : Coming) → IsState set stdoff t state → IsFirstToCome set stdoff state (Some first) → ComesAt set stdoff first.placed.occurrence first.at
first_comes set stdoff t state first is to_come =
    comes_under set stdoff first.placed.occurrence state (saved_by state) first.at (state_is_previous set stdoff t state first.placed is to_come.0) refl to_come.1

pub first_is_soonest : (set : RuleSet) (stdoff t : ℤ) (state : Option Placed) (window : Window) (first : Coming) → IsShift stdoff → IsState set stdoff t state → IsFirstToCome set stdoff state (Some first) → window.mark ≡ mark_from state → window.limit ≡ (nominal_of first.placed.occurrence +ℤ pos 345_600) → IsSoonest set stdoff window 0 first
first_is_soonest set stdoff t state window first within is to_come mark_is limit_is =
    let comes = first_comes set stdoff t state first is to_come in
    record {
      stands = to_come.0.stands;
      after = ap (λ (m : Mark). is_after m first.placed.occurrence) mark_is ∙ to_come.0.after;
      comes = comes;
      within = comes_by set stdoff first.placed.occurrence first.at (window.limit -ℤ pos LONGEST_OFFSET) within comes (omega (arith, ints, limit_is));
      soonest = λ place rule year instant low. absurd (omega arith);
      last = λ place rule year instant low. absurd (omega arith);
    }

pub window_is : (set : RuleSet) (mark : Mark) (window : Window) (first : Placed) → window.mark ≡ mark → window.limit ≡ (nominal_of first.occurrence +ℤ pos 345_600) → IsEarliestYear mark.second window.earliest → IsLatestYear window.limit window.latest → FirstAfter set mark first → IsWindow set window
window_is set mark window first mark_is limit_is earliest latest is =
    record {
      earliest = rw mark_is earliest;
      latest = latest;
      from = λ other other_is after.
          ⊎_elim
          (λ (same : other ≡ first.occurrence).
          let seconds : nominal_of other ≡ nominal_of first.occurrence = ap nominal_of same in
          omega (arith, ints, limit_is))
          (λ (later : precedes first.occurrence other ≡ true).
          let from = after_is_from (record { second = nominal_of first.occurrence; line = first.occurrence.rule.line }) other later in
          omega (arith, ints, limit_is))
          (is.first other other_is (ap (λ (m : Mark). is_after m other) (sym mark_is) ∙ after));
    }

-- ---- one more rule
-- what lies past the window comes later
past_window : (set : RuleSet) (stdoff : ℤ) (window : Window) (place : ℕ) (coming : Coming) (x : Occurrence) (instant : ℤ) → IsShift stdoff → IsSoonest set stdoff window place coming → window.limit <ℤ nominal_of x → ComesAt set stdoff x instant → coming.at <ℤ instant
past_window set stdoff window place coming x instant within so_far past comes =
    let after = comes_after set stdoff x instant (window.limit -ℤ pos LONGEST_OFFSET) within comes (omega (arith, ints)) in
    let by = so_far.within in
    omega (arith, ints)

-- not sooner than the soonest so far, and at the same instant not after it in the order
abbrev NotSooner : RuleSet → ℤ → Coming → Occurrence → Type 0
NotSooner set stdoff coming x =
    (instant : ℤ) → ComesAt set stdoff x instant → (coming.at ≤ℤ instant) × (instant ≡ coming.at → precedes coming.placed.occurrence x ≡ false)

past_not_sooner : (set : RuleSet) (stdoff : ℤ) (window : Window) (place : ℕ) (coming : Coming) (x : Occurrence) → IsShift stdoff → IsSoonest set stdoff window place coming → window.limit <ℤ nominal_of x → NotSooner set stdoff coming x
past_not_sooner set stdoff window place coming x within so_far past instant comes =
    let later = past_window set stdoff window place coming x instant within so_far past comes in
    (omega (arith, ints), λ same. absurd (omega (arith, ints, same)))

by_below : {P : Type 0} (place at : ℕ) → at < place + 1 → (at < place → P) → (at ≡ place → P) → P
by_below place at low below here =
    ⊎_elim (λ (same : at ≡ place). here same)
    (⊎_elim (λ (lt : at < place). below lt) (λ (gt : place < at). absurd (omega arith)))
    (cases_order at place)

soonest_kept : (set : RuleSet) (stdoff : ℤ) (window : Window) (place : ℕ) (rule : Rule) (coming : Coming) → slice_get set.rules place ≡ Some rule → IsSoonest set stdoff window place coming → ((year : ℤ) → OccursIn rule year → is_after window.mark (in_year rule year) ≡ true → NotSooner set stdoff coming (in_year rule year)) → IsSoonest set stdoff window (place + 1) coming
soonest_kept set stdoff window place rule coming here so_far own =
    let own' : (at : ℕ) (other : Rule) (year : ℤ) → at ≡ place → slice_get set.rules at ≡ Some other → OccursIn other year → is_after window.mark (in_year other year) ≡ true → NotSooner set stdoff coming (in_year other year) = λ at other year same there occurs after.
    let is : rule ≡ other = same_rule set place at rule other same here there in
    subst (λ (r : Rule). NotSooner set stdoff coming (in_year r year)) is (own year (rw is occurs) (rw is after)) in
    record {
      stands = so_far.stands;
      after = so_far.after;
      comes = so_far.comes;
      within = so_far.within;
      soonest = λ at other year instant low there occurs after comes.
          by_below place at low (λ below. so_far.soonest at other year instant below there occurs after comes)
          (λ same. (own' at other year same there occurs after instant comes).0);
      last = λ at other year instant low there occurs after comes equal.
          by_below place at low (λ below. so_far.last at other year instant below there occurs after comes equal)
          (λ same. (own' at other year same there occurs after instant comes).1 equal);
    }

pub sooner_none : (set : RuleSet) (stdoff : ℤ) (window : Window) (place : ℕ) (rule : Rule) (latest : ℤ) (mark : Mark) (coming : Coming) → IsShift stdoff → latest ≡ window.latest → mark ≡ window.mark → IsWindow set window → slice_get set.rules place ≡ Some rule → IsFirstOfRule rule place latest mark None → IsSoonest set stdoff window place coming → IsSoonest set stdoff window (place + 1) coming
sooner_none set stdoff window place rule latest mark coming within latest_is mark_is is_window here none so_far =
    soonest_kept set stdoff window place rule coming here so_far
    (λ year occurs after.
    by_lt_z window.limit (nominal_second year rule.moment)
    (λ past. past_not_sooner set stdoff window place coming (in_year rule year) within so_far past)
    (λ by.
    let year_by = is_window.latest.none_later rule year occurs by in
    not_both (is_after window.mark (in_year rule year)) after
    (ap (λ (m : Mark). is_after m (in_year rule year)) (sym mark_is) ∙ none year occurs (omega (arith, ints, latest_is)))))

-- of the rule's occurrences after the mark, all but the first lie past the window
own_or_past : (set : RuleSet) (window : Window) (place : ℕ) (rule : Rule) (found : Placed) (year : ℤ) → IsWindow set window → slice_get set.rules place ≡ Some rule → FirstOfRule rule place window.mark found → OccursIn rule year → is_after window.mark (in_year rule year) ≡ true → (in_year rule year ≡ found.occurrence) ⊎ (window.limit <ℤ nominal_second year rule.moment)
own_or_past set window place rule found year is_window here own occurs after =
    let found_is : found.occurrence ≡ in_year rule found.occurrence.year = ap (λ (p : Placed). p.occurrence) own.is in
    let stands = own_stands_after set rule place window.mark found here own in
    let from = is_window.from found.occurrence (is_of_stands set found stands.0) stands.1 in
    let seconds : nominal_of found.occurrence ≡ nominal_second found.occurrence.year rule.moment = ap nominal_of found_is in
    by_lt_z year found.occurrence.year
    (λ lt. not_both (is_after window.mark (in_year rule year)) after (own.first year occurs lt))
    (λ le.
    by_lt_z found.occurrence.year year
    (λ lt.
    let apart = apart_in_rule rule found.occurrence.year year own.occurs.year_in lt in
    inr (omega (arith, ints, seconds)))
    (λ ge.
    let same : year ≡ found.occurrence.year = omega (arith, ints) in
    inl (ap (in_year rule) same ∙ sym found_is)))

sooner_kept : (set : RuleSet) (stdoff : ℤ) (window : Window) (place : ℕ) (rule : Rule) (found : Placed) (coming : Coming) → IsShift stdoff → IsWindow set window → slice_get set.rules place ≡ Some rule → FirstOfRule rule place window.mark found → IsSoonest set stdoff window place coming → NotSooner set stdoff coming found.occurrence → IsSoonest set stdoff window (place + 1) coming
sooner_kept set stdoff window place rule found coming within is_window here own so_far not_sooner =
    soonest_kept set stdoff window place rule coming here so_far
    (λ year occurs after.
    ⊎_elim (λ (same : in_year rule year ≡ found.occurrence). subst (NotSooner set stdoff coming) (sym same) not_sooner)
    (λ (past : window.limit <ℤ nominal_second year rule.moment). past_not_sooner set stdoff window place coming (in_year rule year) within so_far past)
    (own_or_past set window place rule found year is_window here own occurs after))

pub sooner_past : (set : RuleSet) (stdoff : ℤ) (window : Window) (place : ℕ) (rule : Rule) (found : Placed) (coming : Coming) → IsShift stdoff → IsWindow set window → slice_get set.rules place ≡ Some rule → FirstOfRule rule place window.mark found → IsSoonest set stdoff window place coming → window.limit <ℤ nominal_of found.occurrence → IsSoonest set stdoff window (place + 1) coming
sooner_past set stdoff window place rule found coming within is_window here own so_far past =
    sooner_kept set stdoff window place rule found coming within is_window here own so_far
    (past_not_sooner set stdoff window place coming found.occurrence within so_far past)

same_occurrence : (set : RuleSet) (x y : Placed) → StandsIn set x → StandsIn set y → x.place ≡ y.place → x.occurrence.year ≡ y.occurrence.year → x.occurrence ≡ y.occurrence
same_occurrence set x y here there places years =
    let rules : x.occurrence.rule ≡ y.occurrence.rule = same_rule set x.place y.place x.occurrence.rule y.occurrence.rule (sym places) here.of_rule there.of_rule in
    λ i. record { rule = rules i; year = years i }

pub sooner_same : (set : RuleSet) (stdoff : ℤ) (window : Window) (place : ℕ) (rule : Rule) (found : Placed) (coming : Coming) → IsShift stdoff → IsWindow set window → slice_get set.rules place ≡ Some rule → FirstOfRule rule place window.mark found → IsSoonest set stdoff window place coming → (coming.placed.place ≡ found.place) × (coming.placed.occurrence.year ≡ found.occurrence.year) → IsSoonest set stdoff window (place + 1) coming
sooner_same set stdoff window place rule found coming within is_window here own so_far same =
    let stands = own_stands_after set rule place window.mark found here own in
    let equal = same_occurrence set coming.placed found so_far.stands stands.0 same.0 same.1 in
    sooner_kept set stdoff window place rule found coming within is_window here own so_far
    (subst (NotSooner set stdoff coming) equal
    (λ instant comes.
    let at : instant ≡ coming.at = comes_once set stdoff coming.placed.occurrence instant coming.at (is_of_stands set coming.placed so_far.stands) comes so_far.comes in
    (omega (arith, ints, at), λ _. precedes_self coming.placed.occurrence)))

not_sooner_is : (set : RuleSet) (stdoff : ℤ) (coming found : Coming) → IsOccurrence set found.placed.occurrence → ComesAt set stdoff found.placed.occurrence found.at → is_sooner found coming ≡ false → NotSooner set stdoff coming found.placed.occurrence
not_sooner_is set stdoff coming found is comes fails instant its_comes =
    let at : instant ≡ found.at = comes_once set stdoff found.placed.occurrence instant found.at is its_comes comes in
    let earlier = int_lt found.at coming.at in
    let level = int_eq found.at coming.at && precedes coming.placed.occurrence found.placed.occurrence in (
      by_test earlier (λ (lt : earlier ≡ true). not_both (is_sooner found coming) (or_left earlier level lt) fails)
          (λ (ge : earlier ≡ false). let le = int_lt-false found.at coming.at ge in omega (arith, ints, at)),
      λ same.
          by_test (precedes coming.placed.occurrence found.placed.occurrence)
          (λ (after : precedes coming.placed.occurrence found.placed.occurrence ≡ true).
          not_both (is_sooner found coming)
          (or_right earlier level (and_from (int_eq found.at coming.at) (precedes coming.placed.occurrence found.placed.occurrence) (eq-int_eq found.at coming.at (sym at ∙ same)) after))
          fails)
          (λ not_after. not_after),
    )

-- the parts of being sooner
abbrev Sooner : Coming → Coming → Type 0
Sooner found coming =
    (found.at <ℤ coming.at) ⊎ ((found.at ≡ coming.at) × (precedes coming.placed.occurrence found.placed.occurrence ≡ true))

sooner_parts : (coming found : Coming) → is_sooner found coming ≡ true → Sooner found coming
sooner_parts coming found h =
    let earlier = int_lt found.at coming.at in
    let level = int_eq found.at coming.at && precedes coming.placed.occurrence found.placed.occurrence in
    ⊎_elim (λ (lt : earlier ≡ true). inl (int_lt-true found.at coming.at lt))
    (λ (both : level ≡ true).
    let parts = and_parts (int_eq found.at coming.at) (precedes coming.placed.occurrence found.placed.occurrence) both in
    inr (int_eq-true found.at coming.at parts.0, parts.1))
    (or_cases earlier level h)

soonest_new : (set : RuleSet) (stdoff : ℤ) (window : Window) (place : ℕ) (rule : Rule) (found coming : Coming) → IsShift stdoff → IsWindow set window → slice_get set.rules place ≡ Some rule → FirstOfRule rule place window.mark found.placed → ComesAt set stdoff found.placed.occurrence found.at → IsSoonest set stdoff window place coming → Sooner found coming → IsSoonest set stdoff window (place + 1) found
soonest_new set stdoff window place rule found coming within is_window here own comes so_far sooner =
    let stands = own_stands_after set rule place window.mark found.placed here own in
    let by : found.at ≤ℤ coming.at = ⊎_elim (λ (lt : found.at <ℤ coming.at). omega (arith, ints)) (λ (level : (found.at ≡ coming.at) × (precedes coming.placed.occurrence found.placed.occurrence ≡ true)). omega (arith, ints, level.0)) sooner in
    let limit = so_far.within in
    let before : IsSoonest set stdoff window place found =
    record {
      stands = stands.0;
      after = stands.1;
      comes = comes;
      within = omega (arith, ints);
      soonest = λ at other year instant below there occurs after its_comes.
          let late = so_far.soonest at other year instant below there occurs after its_comes in
          omega (arith, ints);
      last = λ at other year instant below there occurs after its_comes equal.
          let late = so_far.soonest at other year instant below there occurs after its_comes in
          ⊎_elim (λ (lt : found.at <ℤ coming.at). absurd (omega (arith, ints, equal)))
          (λ (level : (found.at ≡ coming.at) × (precedes coming.placed.occurrence found.placed.occurrence ≡ true)).
          not_after_later coming.placed.occurrence found.placed.occurrence (in_year other year) level.1
          (so_far.last at other year instant below there occurs after its_comes (equal ∙ level.0)))
          sooner;
    } in
    sooner_kept set stdoff window place rule found.placed found within is_window here own before
    (λ instant its_comes.
    let at : instant ≡ found.at = comes_once set stdoff found.placed.occurrence instant found.at (is_of_stands set found.placed stands.0) its_comes comes in
    (omega (arith, ints, at), λ _. precedes_self found.placed.occurrence))

pub sooner_is : (set : RuleSet) (stdoff : ℤ) (window : Window) (place : ℕ) (rule : Rule) (found coming : Coming) → IsShift stdoff → IsWindow set window → slice_get set.rules place ≡ Some rule → FirstOfRule rule place window.mark found.placed → ComesAt set stdoff found.placed.occurrence found.at → IsSoonest set stdoff window place coming → IsSoonest set stdoff window (place + 1) (sooner_of coming found)
sooner_is set stdoff window place rule found coming within is_window here own comes so_far =
    by_test (is_sooner found coming)
    (λ (sooner : is_sooner found coming ≡ true). rw sooner (soonest_new set stdoff window place rule found coming within is_window here own comes so_far (sooner_parts coming found sooner)))
    (λ (fails : is_sooner found coming ≡ false).
    let stands = own_stands_after set rule place window.mark found.placed here own in
    rw fails (sooner_kept set stdoff window place rule found.placed coming within is_window here own so_far
    (not_sooner_is set stdoff coming found (is_of_stands set found.placed stands.0) comes fails)))

-- ---- all rules
after_later : (set : RuleSet) (state : Option Placed) (x y : Occurrence) → IsOccurrence set y → is_after (mark_from state) x ≡ true → precedes x y ≡ true → is_after (mark_from state) y ≡ true
after_later set None x y is after later =
    later_is_after (mark_from None) y (let low = (nominal_bounds set y is).0 in omega (arith, ints))
after_later set (Some now) x y is after later = precedes_trans now.occurrence x y after later

pub soonest_is_next : (set : RuleSet) (stdoff t : ℤ) (state : Option Placed) (window : Window) (place : ℕ) (coming : Coming) → IsState set stdoff t state → window.mark ≡ mark_from state → length set.rules ≤ place → IsSoonest set stdoff window place coming → IsNext set stdoff t coming
soonest_is_next set stdoff t state window place coming is mark_is whole so_far =
    let found = coming.placed.occurrence in
    let is_found = is_of_stands set coming.placed so_far.stands in
    let after : is_after (mark_from state) found ≡ true = ap (λ (m : Mark). is_after m found) (sym mark_is) ∙ so_far.after in
    let low : (other : Occurrence) (there : (at : ℕ) × (slice_get set.rules at ≡ Some other.rule)) → there.0 < place = λ other there. let within = slice_get_within set.rules there.0 other.rule there.1 in omega (arith, within) in
    record {
      stands = so_far.stands;
      change = record {
        occurrence = found;
        to_come = after_to_come set stdoff t state found is is_found after;
        comes = so_far.comes;
        soonest = λ other instant to_come comes.
            let there = place_of_is set other to_come.0 in
            so_far.soonest there.0 other.rule other.year instant (low other there) there.1 (occurs_of_is set other to_come.0)
            (ap (λ (m : Mark). is_after m other) mark_is ∙ to_come_after set stdoff t state other is to_come) comes;
      };
      in_effect = record {
        is = is_found;
        instant = coming.at;
        comes = so_far.comes;
        come = omega (arith, ints);
        none_later = λ other instant other_is later comes.
            let there = place_of_is set other other_is in
            let is_occurrence = occurs_of_is set other other_is in
            let its_after : is_after window.mark other ≡ true = ap (λ (m : Mark). is_after m other) mark_is ∙ after_later set state found other other_is after later in
            let late = so_far.soonest there.0 other.rule other.year instant (low other there) there.1 is_occurrence its_after comes in
            by_lt_z coming.at instant (λ lt. lt)
            (λ le.
            not_both (precedes found other) later
            (so_far.last there.0 other.rule other.year instant (low other there) there.1 is_occurrence its_after comes (omega (arith, ints))));
      };
      comes = so_far.comes;
    }

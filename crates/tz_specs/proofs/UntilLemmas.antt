-- Where a line that follows rules ends.
use Rattle.std.proofs.Common.{◌≡◌, ℕ, zero, suc, ◌<◌, true, false, ◌⊎◌, inl, inr, refl, sym, ap, ◌∙◌, arith, List, length, ℤ, pos, Some, None}
use Rattle.std.specs.Prelude.{slice_get, int_le}
use Rattle.std.proofs.lemmas.Option.{slice_get_within}
use Rattle.tz_types.specs.declared.rule_set.RuleSet.{RuleSet}
use Rattle.tz_types.specs.declared.moment.Moment.{Moment}
use Rattle.tz_specs.specs.Occurrence.{Occurrence, precedes, occurrences}
use Rattle.tz_specs.specs.State.{instants}
use Rattle.tz_specs.specs.Until.{Rules, least, until_while, reaches_until, until_instant}
use Rattle.tz_specs.specs.Effect.{IsFirst, IsPrevious, until_with, NextNotBefore, NextBefore, FirstNotBefore, FirstBefore, IsUntilUnder}
use Rattle.tz_specs.proofs.Tests.{not_both, int_le-true, int_le-false, le-int_le, lt-int_le}
use Rattle.tz_specs.proofs.GreatestLemmas.{least_is, least_bound, least_passes, least_below}
use Rattle.tz_specs.proofs.StateLemmas.{by_get}
use Rattle.tz_specs.proofs.OccurrenceLemmas.{occurrences_strict, occurrences_places}
use Rattle.tz_specs.proofs.EffectLemmas.{instants-back, at_place, place_of, previous_at, previous_is, earlier_exists, same_place, first_at, in_force-at, in_force-zero, comes_at_place, place_comes_at, not_within}

reaches-some : (list : List Occurrence) (stdoff year : ℤ) (moment : Moment) (number : ℕ) (next : ℤ) → slice_get (instants stdoff list) number ≡ Some next → reaches_until list stdoff year moment number ≡ int_le (until_while list stdoff year moment number) next
reaches-some list stdoff year moment number next there = rw there

reaches-none : (list : List Occurrence) (stdoff year : ℤ) (moment : Moment) (number : ℕ) → slice_get (instants stdoff list) number ≡ None → reaches_until list stdoff year moment number ≡ true
reaches-none list stdoff year moment number gone = rw gone

pub until_while-zero : (list : List Occurrence) (stdoff year : ℤ) (moment : Moment) → until_while list stdoff year moment 0 ≡ until_with stdoff year moment (pos 0)
until_while-zero list stdoff year moment = rw (in_force-zero list)

pub until_while-at : (list : List Occurrence) (stdoff year : ℤ) (moment : Moment) (place : ℕ) (occurrence : Occurrence) → slice_get list place ≡ Some occurrence → until_while list stdoff year moment (suc place) ≡ until_with stdoff year moment occurrence.rule.save
until_while-at list stdoff year moment place occurrence there = rw (in_force-at list place occurrence there)

-- at 0, and at the number of an occurrence
zero_reaches : (set : RuleSet) (stdoff year : ℤ) (moment : Moment) → FirstNotBefore set stdoff (until_with stdoff year moment (pos 0)) → reaches_until (occurrences set) stdoff year moment 0 ≡ true
zero_reaches set stdoff year moment first =
    let list = occurrences set in
    by_get (instants stdoff list) 0
    (λ instant there.
    let other = instants-back stdoff (pos 0) list 0 instant there in
    let not_before = first other.0 instant (at_place set 0 other.0 other.1) (first_at set other.0 other.1) (comes_at_place set stdoff 0 other.0 instant other.1 there) in
    reaches-some list stdoff year moment 0 instant there
    ∙ le-int_le (until_while list stdoff year moment 0) instant (rw (until_while-zero list stdoff year moment) not_before))
    (λ gone. reaches-none list stdoff year moment 0 gone)

number_reaches : (set : RuleSet) (stdoff year : ℤ) (moment : Moment) (place : ℕ) (occurrence : Occurrence) → slice_get (occurrences set) place ≡ Some occurrence → NextNotBefore set stdoff occurrence (until_with stdoff year moment occurrence.rule.save) → reaches_until (occurrences set) stdoff year moment (suc place) ≡ true
number_reaches set stdoff year moment place occurrence here next =
    let list = occurrences set in
    by_get (instants stdoff list) (suc place)
    (λ instant there.
    let other = instants-back stdoff (pos 0) list (suc place) instant there in
    let not_before = next other.0 instant (at_place set (suc place) other.0 other.1) (previous_at set place occurrence other.0 here other.1) (comes_at_place set stdoff (suc place) other.0 instant other.1 there) in
    reaches-some list stdoff year moment (suc place) instant there
    ∙ le-int_le (until_while list stdoff year moment (suc place)) instant (rw (until_while-at list stdoff year moment place occurrence here) not_before))
    (λ gone. reaches-none list stdoff year moment (suc place) gone)

first_place : (set : RuleSet) (first : Occurrence) (place : ℕ) → IsFirst set first → slice_get (occurrences set) place ≡ Some first → place ≡ 0
first_place set first zero is there = refl
first_place set first (suc place) is there =
    let earlier = earlier_exists (occurrences set) place first there in
    not_both (precedes earlier.0 first) (occurrences_strict set place (suc place) earlier.0 first (omega arith) earlier.1 there)
    (is earlier.0 (at_place set place earlier.0 earlier.1))

zero_fails : (set : RuleSet) (stdoff year : ℤ) (moment : Moment) → FirstBefore set stdoff (until_with stdoff year moment (pos 0)) → reaches_until (occurrences set) stdoff year moment 0 ≡ false
zero_fails set stdoff year moment first =
    let list = occurrences set in
    let its = place_of set first.first first.is in
    let at_zero : its.0 ≡ 0 = first_place set first.first its.0 first.is_first its.1 in
    let here : slice_get list 0 ≡ Some first.first = rw at_zero at its.1 in
    reaches-some list stdoff year moment 0 first.its_instant (place_comes_at set stdoff 0 first.first first.its_instant here first.comes)
    ∙ lt-int_le (until_while list stdoff year moment 0) first.its_instant (rw (until_while-zero list stdoff year moment) first.before)

next_place : (set : RuleSet) (place its : ℕ) (previous next : Occurrence) → slice_get (occurrences set) place ≡ Some previous → slice_get (occurrences set) its ≡ Some next → IsPrevious set previous next → its ≡ suc place
next_place set place zero previous next here there is =
    absurd (below_zero place (occurrences_places set place zero previous next here there is.before))
  where
    below_zero : (n : ℕ) → n < 0 → ⊥
    below_zero n h = omega arith
next_place set place (suc its) previous next here there is =
    let before = previous_is set its previous next is there in
    ap (λ (n : ℕ). suc n) (same_place set its place previous before here)

number_fails : (set : RuleSet) (stdoff year : ℤ) (moment : Moment) (place : ℕ) (occurrence : Occurrence) → slice_get (occurrences set) place ≡ Some occurrence → NextBefore set stdoff occurrence (until_with stdoff year moment occurrence.rule.save) → reaches_until (occurrences set) stdoff year moment (suc place) ≡ false
number_fails set stdoff year moment place occurrence here next =
    let list = occurrences set in
    let its = place_of set next.next next.is in
    let at_next : its.0 ≡ suc place = next_place set place its.0 occurrence next.next here its.1 next.previous in
    let there : slice_get list (suc place) ≡ Some next.next = rw at_next at its.1 in
    reaches-some list stdoff year moment (suc place) next.its_instant (place_comes_at set stdoff (suc place) next.next next.its_instant there next.comes)
    ∙ lt-int_le (until_while list stdoff year moment (suc place)) next.its_instant (rw (until_while-at list stdoff year moment place occurrence here) next.before)

-- ---- the instant of an UNTIL
until_at : (set : RuleSet) (stdoff year : ℤ) (moment : Moment) (number : ℕ) → least (reaches_until (occurrences set) stdoff year moment) (length (occurrences set)) ≡ number → until_instant (Rules set) stdoff year moment ≡ until_while (occurrences set) stdoff year moment number
unfolding until_instant
until_at set stdoff year moment number is = ap (until_while (occurrences set) stdoff year moment) is

pub until_before_first : (set : RuleSet) (stdoff year : ℤ) (moment : Moment) → FirstNotBefore set stdoff (until_with stdoff year moment (pos 0)) → until_instant (Rules set) stdoff year moment ≡ until_with stdoff year moment (pos 0)
until_before_first set stdoff year moment first =
    let list = occurrences set in
    until_at set stdoff year moment 0
    (least_is (reaches_until list stdoff year moment) (length list) 0 (zero_reaches set stdoff year moment first) (omega arith) (λ j below. absurd (omega arith)))
    ∙ until_while-zero list stdoff year moment

fails_below : (set : RuleSet) (stdoff year : ℤ) (moment : Moment) (place : ℕ) (occurrence : Occurrence) → slice_get (occurrences set) place ≡ Some occurrence → IsUntilUnder set stdoff year moment occurrence → (j : ℕ) → j < suc place → reaches_until (occurrences set) stdoff year moment j ≡ false
fails_below set stdoff year moment place occurrence here is zero below = zero_fails set stdoff year moment is.passed_first
fails_below set stdoff year moment place occurrence here is (suc j) below =
    by_get (occurrences set) j
    (λ earlier there.
    number_fails set stdoff year moment j earlier there
    (is.passed earlier (at_place set j earlier there) (occurrences_strict set j place earlier occurrence (omega arith) there here)))
    (λ gone. absurd (not_within (occurrences set) j gone (omega (arith, slice_get_within (occurrences set) place occurrence here))))

pub until_under : (set : RuleSet) (stdoff year : ℤ) (moment : Moment) (occurrence : Occurrence) → IsUntilUnder set stdoff year moment occurrence → until_instant (Rules set) stdoff year moment ≡ until_with stdoff year moment occurrence.rule.save
until_under set stdoff year moment occurrence is =
    let list = occurrences set in
    let here = place_of set occurrence is.is in
    until_at set stdoff year moment (suc here.0)
    (least_is (reaches_until list stdoff year moment) (length list) (suc here.0) (number_reaches set stdoff year moment here.0 occurrence here.1 is.reaches) (omega (arith, slice_get_within list here.0 occurrence here.1)) (fails_below set stdoff year moment here.0 occurrence here.1 is))
    ∙ until_while-at list stdoff year moment here.0 occurrence here.1

-- ---- one of the two is always so
zero_reached : (set : RuleSet) (stdoff year : ℤ) (moment : Moment) → reaches_until (occurrences set) stdoff year moment 0 ≡ true → FirstNotBefore set stdoff (until_with stdoff year moment (pos 0))
zero_reached set stdoff year moment reached first its_instant is is_first comes =
    let list = occurrences set in
    let its = place_of set first is in
    let at_zero : its.0 ≡ 0 = first_place set first its.0 is_first its.1 in
    let here : slice_get list 0 ≡ Some first = rw at_zero at its.1 in
    let tested = sym (reaches-some list stdoff year moment 0 its_instant (place_comes_at set stdoff 0 first its_instant here comes)) ∙ reached in
    let low = int_le-true (until_while list stdoff year moment 0) its_instant tested in
    let low' = rw (until_while-zero list stdoff year moment) at low in
    low'

number_reached : (set : RuleSet) (stdoff year : ℤ) (moment : Moment) (place : ℕ) (occurrence : Occurrence) → slice_get (occurrences set) place ≡ Some occurrence → reaches_until (occurrences set) stdoff year moment (suc place) ≡ true → NextNotBefore set stdoff occurrence (until_with stdoff year moment occurrence.rule.save)
number_reached set stdoff year moment place occurrence here reached next its_instant is previous comes =
    let list = occurrences set in
    let its = place_of set next is in
    let at_next : its.0 ≡ suc place = next_place set place its.0 occurrence next here its.1 previous in
    let there : slice_get list (suc place) ≡ Some next = rw at_next at its.1 in
    let tested = sym (reaches-some list stdoff year moment (suc place) its_instant (place_comes_at set stdoff (suc place) next its_instant there comes)) ∙ reached in
    let low = int_le-true (until_while list stdoff year moment (suc place)) its_instant tested in
    let low' = rw (until_while-at list stdoff year moment place occurrence here) at low in
    low'

zero_failed : (set : RuleSet) (stdoff year : ℤ) (moment : Moment) → reaches_until (occurrences set) stdoff year moment 0 ≡ false → FirstBefore set stdoff (until_with stdoff year moment (pos 0))
zero_failed set stdoff year moment failed =
    let list = occurrences set in
    by_get (instants stdoff list) 0
    (λ instant there.
    let other = instants-back stdoff (pos 0) list 0 instant there in
    let tested = sym (reaches-some list stdoff year moment 0 instant there) ∙ failed in
    let high = int_le-false (until_while list stdoff year moment 0) instant tested in
    record {
      first = other.0;
      its_instant = instant;
      is = at_place set 0 other.0 other.1;
      is_first = first_at set other.0 other.1;
      comes = comes_at_place set stdoff 0 other.0 instant other.1 there;
      before = rw (until_while-zero list stdoff year moment) at high;
    })
    (λ gone. not_both (reaches_until list stdoff year moment 0) (reaches-none list stdoff year moment 0 gone) failed)

number_failed : (set : RuleSet) (stdoff year : ℤ) (moment : Moment) (place : ℕ) (occurrence : Occurrence) → slice_get (occurrences set) place ≡ Some occurrence → reaches_until (occurrences set) stdoff year moment (suc place) ≡ false → NextBefore set stdoff occurrence (until_with stdoff year moment occurrence.rule.save)
number_failed set stdoff year moment place occurrence here failed =
    let list = occurrences set in
    by_get (instants stdoff list) (suc place)
    (λ instant there.
    let other = instants-back stdoff (pos 0) list (suc place) instant there in
    let tested = sym (reaches-some list stdoff year moment (suc place) instant there) ∙ failed in
    let high = int_le-false (until_while list stdoff year moment (suc place)) instant tested in
    record {
      next = other.0;
      its_instant = instant;
      is = at_place set (suc place) other.0 other.1;
      previous = previous_at set place occurrence other.0 here other.1;
      comes = comes_at_place set stdoff (suc place) other.0 instant other.1 there;
      before = rw (until_while-at list stdoff year moment place occurrence here) at high;
    })
    (λ gone. not_both (reaches_until list stdoff year moment (suc place)) (reaches-none list stdoff year moment (suc place) gone) failed)

last_reaches : (set : RuleSet) (stdoff year : ℤ) (moment : Moment) → reaches_until (occurrences set) stdoff year moment (length (occurrences set)) ≡ true
last_reaches set stdoff year moment =
    let list = occurrences set in
    by_get (instants stdoff list) (length list)
    (λ instant there.
    let other = instants-back stdoff (pos 0) list (length list) instant there in
    absurd (not_below (length list) (slice_get_within list (length list) other.0 other.1)))
    (λ gone. reaches-none list stdoff year moment (length list) gone)
  where
    not_below : (n : ℕ) → n < n → ⊥
    not_below n h = omega arith

pub until_cases : (set : RuleSet) (stdoff year : ℤ) (moment : Moment) → FirstNotBefore set stdoff (until_with stdoff year moment (pos 0)) ⊎ ((occurrence : Occurrence) × IsUntilUnder set stdoff year moment occurrence)
until_cases set stdoff year moment = by_number set stdoff year moment (least (reaches_until (occurrences set) stdoff year moment) (length (occurrences set))) refl
  where
    by_number : (set : RuleSet) (stdoff year : ℤ) (moment : Moment) (number : ℕ) → least (reaches_until (occurrences set) stdoff year moment) (length (occurrences set)) ≡ number → FirstNotBefore set stdoff (until_with stdoff year moment (pos 0)) ⊎ ((occurrence : Occurrence) × IsUntilUnder set stdoff year moment occurrence)
    by_number set stdoff year moment zero is =
        let reached : reaches_until (occurrences set) stdoff year moment 0 ≡ true = rw is at (least_passes (reaches_until (occurrences set) stdoff year moment) (length (occurrences set)) (last_reaches set stdoff year moment)) in
        inl (zero_reached set stdoff year moment reached)
    by_number set stdoff year moment (suc place) is =
        let list = occurrences set in
        let reached : reaches_until list stdoff year moment (suc place) ≡ true = rw is at (least_passes (reaches_until list stdoff year moment) (length list) (last_reaches set stdoff year moment)) in
        let below : (j : ℕ) → j < suc place → reaches_until list stdoff year moment j ≡ false = λ j low. least_below (reaches_until list stdoff year moment) (length list) j (rw is low) in
        by_get list place
        (λ occurrence here.
        inr (
          occurrence,
          record {
            is = at_place set place occurrence here;
            reaches = number_reached set stdoff year moment place occurrence here reached;
            passed = λ earlier earlier_is before.
                let its = place_of set earlier earlier_is in
                let low : its.0 < place = occurrences_places set its.0 place earlier occurrence its.1 here before in
                number_failed set stdoff year moment its.0 earlier its.1 (below (suc its.0) (omega arith));
            passed_first = zero_failed set stdoff year moment (below 0 (omega arith));
          },
        ))
        (λ gone. absurd (not_within list place gone (omega (arith, is, least_bound (reaches_until list stdoff year moment) (length list)))))

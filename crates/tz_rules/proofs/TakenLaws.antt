-- What is told of occurrences, at any instant.
use Rattle.std.proofs.Common.{◌≡◌, ⊎_elim, inl, inr, true, arith, ℤ, pos, neg_ℤ, ◌<ℤ◌, ◌≤ℤ◌, refl, Option, Some, None}
use Rattle.std.specs.Prelude.{IsNone, IfSome, ◌↔◌}
use Rattle.std.proofs.lemmas.Int.{ints, by_lt_z}
use Rattle.tz_types.specs.Amount.{IsShift}
use Rattle.tz_types.specs.declared.rule_set.RuleSet.{RuleSet}
use Rattle.tz_specs.specs.Occurrence.{Occurrence, precedes}
use Rattle.tz_specs.specs.Effect.{ComesAt, IsInEffect, NoneInEffect}
use Rattle.tz_specs.specs.Around.{IsToCome, IsNextChange}
use Rattle.tz_specs.proofs.Tests.{not_both}
use Rattle.tz_rules.specs.declared.taken.Taken.{Taken}
use Rattle.tz_rules.specs.declared.next_change.Coming.{Coming}
use Rattle.tz_rules.specs.declared.placed.Placed.{Placed}
use Rattle.tz_rules.specs.InEffect.{IsAsGoodAs, IsState}
use Rattle.tz_rules.specs.NextChange.{IsNext, IsNextAfter}
use Rattle.tz_rules.specs.Taken.{IsTakenOccurrence, IsTakenAt, IsLastTaken, IsNextTaken}
use Rattle.tz_rules.proofs.Instants.{comes_in_time}

-- ---- an instant by which the same have come
pub in_effect_far : (set : RuleSet) (stdoff t near : ℤ) (occurrence : Occurrence) → IsShift stdoff → IsAsGoodAs t near → IsInEffect set stdoff near occurrence → IsInEffect set stdoff t occurrence
in_effect_far set stdoff t near occurrence within same is =
    record {
      is = is.is;
      instant = is.instant;
      comes = is.comes;
      come = same.come is.instant (comes_in_time set stdoff occurrence is.instant within is.is is.comes).0 is.come;
      none_later = λ other instant other_is after comes. same.to_come instant (comes_in_time set stdoff other instant within other_is comes).1 (is.none_later other instant other_is after comes);
    }

pub none_in_effect_far : (set : RuleSet) (stdoff t near : ℤ) → IsShift stdoff → IsAsGoodAs t near → NoneInEffect set stdoff near → NoneInEffect set stdoff t
none_in_effect_far set stdoff t near within same none other instant is comes =
    same.to_come instant (comes_in_time set stdoff other instant within is comes).1 (none other instant is comes)

back : (t near instant : ℤ) → IsAsGoodAs t near → neg_ℤ (pos 377_678_000_000) <ℤ instant → instant <ℤ pos 253_378_000_000 → instant ≤ℤ t → instant ≤ℤ near
back t near instant same low high come =
    by_lt_z near instant
    (λ lt. let late = same.to_come instant high lt in absurd (omega (arith, ints)))
    (λ le. le)

back_to_come : (t near instant : ℤ) → IsAsGoodAs t near → neg_ℤ (pos 377_678_000_000) <ℤ instant → instant <ℤ pos 253_378_000_000 → t <ℤ instant → near <ℤ instant
back_to_come t near instant same low high late =
    by_lt_z near instant (λ lt. lt)
    (λ le. let come = same.come instant low le in absurd (omega (arith, ints)))

in_effect_near : (set : RuleSet) (stdoff t near : ℤ) (occurrence : Occurrence) → IsShift stdoff → IsAsGoodAs t near → IsInEffect set stdoff t occurrence → IsInEffect set stdoff near occurrence
in_effect_near set stdoff t near occurrence within same is =
    let own = comes_in_time set stdoff occurrence is.instant within is.is is.comes in
    record {
      is = is.is;
      instant = is.instant;
      comes = is.comes;
      come = back t near is.instant same own.0 own.1 is.come;
      none_later = λ other instant other_is after comes.
          let its = comes_in_time set stdoff other instant within other_is comes in
          back_to_come t near instant same its.0 its.1 (is.none_later other instant other_is after comes);
    }

none_in_effect_near : (set : RuleSet) (stdoff t near : ℤ) → IsShift stdoff → IsAsGoodAs t near → NoneInEffect set stdoff t → NoneInEffect set stdoff near
none_in_effect_near set stdoff t near within same none other instant is comes =
    let its = comes_in_time set stdoff other instant within is comes in
    back_to_come t near instant same its.0 its.1 (none other instant is comes)

pub to_come_far : (set : RuleSet) (stdoff t near : ℤ) (occurrence : Occurrence) → IsShift stdoff → IsAsGoodAs t near → IsToCome set stdoff near occurrence → IsToCome set stdoff t occurrence
to_come_far set stdoff t near occurrence within same is = (
  is.0,
  ⊎_elim (λ (none : NoneInEffect set stdoff near). inl (none_in_effect_far set stdoff t near within same none))
      (λ (later : (now : Occurrence) × IsInEffect set stdoff near now × (precedes now occurrence ≡ true)). inr (later.0, in_effect_far set stdoff t near later.0 within same later.1, later.2))
      is.1,
)

pub to_come_near : (set : RuleSet) (stdoff t near : ℤ) (occurrence : Occurrence) → IsShift stdoff → IsAsGoodAs t near → IsToCome set stdoff t occurrence → IsToCome set stdoff near occurrence
to_come_near set stdoff t near occurrence within same is = (
  is.0,
  ⊎_elim (λ (none : NoneInEffect set stdoff t). inl (none_in_effect_near set stdoff t near within same none))
      (λ (later : (now : Occurrence) × IsInEffect set stdoff t now × (precedes now occurrence ≡ true)). inr (later.0, in_effect_near set stdoff t near later.0 within same later.1, later.2))
      is.1,
)

pub next_change_far : (set : RuleSet) (stdoff t near change : ℤ) → IsShift stdoff → IsAsGoodAs t near → IsNextChange set stdoff near change → IsNextChange set stdoff t change
next_change_far set stdoff t near change within same next =
    record {
      occurrence = next.occurrence;
      to_come = to_come_far set stdoff t near next.occurrence within same next.to_come;
      comes = next.comes;
      soonest = λ other instant to_come comes. next.soonest other instant (to_come_near set stdoff t near other within same to_come) comes;
    }

-- ---- what is told
pub taken_at : (set : RuleSet) (stdoff t near : ℤ) (found : Placed) (taken : Taken) → IsShift stdoff → IsAsGoodAs t near → IsState set stdoff near (Some found) → IsTakenOccurrence set taken found.occurrence → ComesAt set stdoff found.occurrence taken.at → IsTakenAt set stdoff t taken
taken_at set stdoff t near found taken within same state tells comes =
    (found.occurrence, tells, in_effect_far set stdoff t near found.occurrence within same state.1, comes)

pub next_taken_at : (set : RuleSet) (stdoff t near : ℤ) (coming : Coming) (taken : Taken) → IsShift stdoff → IsAsGoodAs t near → IsNext set stdoff near coming → IsTakenOccurrence set taken coming.placed.occurrence → taken.at ≡ coming.at → IsNextTaken set stdoff t (Some taken)
next_taken_at set stdoff t near coming taken within same next tells at = (
  rw at (next_change_far set stdoff t near coming.at within same next.change),
  (coming.placed.occurrence, tells, rw at next.in_effect, rw at next.comes),
)

pub none_next : (set : RuleSet) (stdoff t near : ℤ) → IsShift stdoff → IsAsGoodAs t near → IsNextAfter set stdoff near None → IsNextTaken set stdoff t None
none_next set stdoff t near within same none other to_come =
    none other (to_come_near set stdoff t near other within same to_come)

-- ---- none exactly where there is none
pub last_none : (set : RuleSet) (stdoff t : ℤ) (result : Option Taken) → IsLastTaken set stdoff t result → IsNone result ↔ NoneInEffect set stdoff t
last_none set stdoff t None is = (λ _. is, λ _. refl)
last_none set stdoff t (Some taken) is = (
  λ gone. not_both true refl gone,
  λ none.
      let effect = is.2 in
      let late = none is.0 effect.instant effect.is effect.comes in
      let come = effect.come in
      absurd (omega (arith, ints)),
)

pub next_none : (set : RuleSet) (stdoff t : ℤ) (result : Option Taken) → IsNextTaken set stdoff t result → IsNone result ↔ ((other : Occurrence) → ¬ (IsToCome set stdoff t other))
next_none set stdoff t None is = (λ _. is, λ _. refl)
next_none set stdoff t (Some taken) is = (λ gone. not_both true refl gone, λ none. absurd (none is.0.occurrence is.0.to_come))

-- the same for a result, as the clauses say it
pub last_some : (set : RuleSet) (stdoff t : ℤ) (result : Option Taken) → IsLastTaken set stdoff t result → IfSome result (λ taken. IsTakenAt set stdoff t taken)
last_some set stdoff t None is = tt
last_some set stdoff t (Some taken) is = is

pub next_some : (set : RuleSet) (stdoff t : ℤ) (result : Option Taken) → IsNextTaken set stdoff t result → IfSome result (λ taken. IsTakenAt set stdoff taken.at taken)
next_some set stdoff t None is = tt
next_some set stdoff t (Some taken) is = is.1

pub next_change_some : (set : RuleSet) (stdoff t : ℤ) (result : Option Taken) → IsNextTaken set stdoff t result → IfSome result (λ taken. IsNextChange set stdoff t taken.at)
next_change_some set stdoff t None is = tt
next_change_some set stdoff t (Some taken) is = is.0

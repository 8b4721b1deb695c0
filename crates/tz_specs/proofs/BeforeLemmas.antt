-- What is in force before any occurrence is in effect.
use Rattle.std.proofs.Common.{◌≡◌, false, true, Bool, ◌⊎◌, inl, inr, ⊎_elim, refl, sym, List, [], ◌∷◌, ℤ, pos}
use Rattle.std.specs.Ordering.{int_eq}
use Rattle.std.proofs.lemmas.Bool.Decides.{Decides-int_eq}
use Rattle.tz_types.specs.declared.rule_set.RuleSet.{RuleSet}
use Rattle.tz_specs.specs.Occurrence.{Occurrence, precedes, occurrences}
use Rattle.tz_specs.specs.State.{in_force}
use Rattle.tz_specs.specs.Until.{Rules}
use Rattle.tz_specs.specs.Before.{letters_before}
use Rattle.tz_specs.specs.Expansion.{Period, state_in}
use Rattle.tz_specs.specs.Standing.{IsOccurrence}
use Rattle.tz_specs.specs.Effect.{NoneInEffect, IsFirstStandard}
use Rattle.tz_specs.proofs.Tests.{by_test, not_both}
use Rattle.tz_specs.proofs.ListLemmas.{In, Pairs}
use Rattle.tz_specs.proofs.OrderLemmas.{precedes_asym}
use Rattle.tz_specs.proofs.OccurrenceLemmas.{In-occurrences, In-occurrences_back}
use Rattle.tz_specs.proofs.EffectLemmas.{occurrences_strictly, in_force-zero, in_force_before}

-- the first of a list in order that passes
record IsFirstThatPasses {X : Type 0} (R : X → X → Type 0) (test : X → Bool) (xs : List X) (x : X) : Type 0 where
  there : In x xs
  passes : test x ≡ true
  first : (other : X) → In other xs → test other ≡ true → (other ≡ x) ⊎ R x other

abbrev NonePasses : {X : Type 0} → (X → Bool) → List X → Type 0
NonePasses {X} test xs = (x : X) → In x xs → test x ≡ false

first_that_passes : {X : Type 0} (R : X → X → Type 0) (test : X → Bool) (xs : List X) → Pairs R xs → ((x : X) × IsFirstThatPasses R test xs x) ⊎ NonePasses test xs
first_that_passes R test [] pairs = inr (λ x has. absurd has)
first_that_passes {X} R test (y ∷ ys) pairs =
    by_test (test y)
    (λ passes.
    inl (
      y,
      record {
        there = inl refl;
        passes = passes;
        first = λ other has other_passes. ⊎_elim (λ (same : y ≡ other). inl (sym same)) (λ (rest : In other ys). inr (pairs.0 other rest)) has;
      },
    ))
    (λ fails.
    ⊎_elim
    (λ (later : (x : X) × IsFirstThatPasses R test ys x).
    inl (
      later.0,
      record {
        there = inr later.1.there;
        passes = later.1.passes;
        first = λ other has other_passes.
            ⊎_elim
            (λ (same : y ≡ other).
            let fails_too : test other ≡ false = rw (← same) fails in
            not_both (test other) other_passes fails_too)
            (λ (rest : In other ys). later.1.first other rest other_passes)
            has;
      },
    ))
    (λ (none : NonePasses test ys).
    inr (λ x has. ⊎_elim (λ (same : y ≡ x). rw (← same) fails) (λ (rest : In x ys). none x rest) has))
    (first_that_passes R test ys pairs.1))

pub first_standard_cases : (set : RuleSet) → ((occurrence : Occurrence) × IsFirstStandard set occurrence) ⊎ ((other : Occurrence) → IsOccurrence set other → ¬ (other.rule.save ≡ pos 0))
first_standard_cases set =
    ⊎_elim
    (λ (first : (x : Occurrence) × IsFirstThatPasses (λ (x y : Occurrence). precedes x y ≡ true) (λ (o : Occurrence). int_eq o.rule.save (pos 0)) (occurrences set) x).
    inl (
      first.0,
      record {
        is = In-occurrences_back set first.0 first.1.there;
        standard = (Decides-int_eq first.0.rule.save (pos 0)).0 first.1.passes;
        first = λ other is standard. first.1.first other (In-occurrences set other is) ((Decides-int_eq other.rule.save (pos 0)).1 standard);
      },
    ))
    (λ (none : NonePasses (λ (o : Occurrence). int_eq o.rule.save (pos 0)) (occurrences set)).
    inr (λ other is standard.
    not_both (int_eq other.rule.save (pos 0)) ((Decides-int_eq other.rule.save (pos 0)).1 standard) (none other (In-occurrences set other is))))
    (first_that_passes (λ (x y : Occurrence). precedes x y ≡ true) (λ (o : Occurrence). int_eq o.rule.save (pos 0)) (occurrences set) (occurrences_strictly set))

pub first_standard_once : (set : RuleSet) (first second : Occurrence) → IsFirstStandard set first → IsFirstStandard set second → first ≡ second
first_standard_once set first second here there =
    ⊎_elim (λ (same : second ≡ first). sym same)
    (λ (before : precedes first second ≡ true).
    ⊎_elim (λ (same : first ≡ second). same)
    (λ (after : precedes second first ≡ true).
    not_both (precedes second first) after (precedes_asym first second before))
    (there.first first here.is here.standard))
    (here.first second there.is there.standard)

pub before_any : (set : RuleSet) → in_force (occurrences set) 0 ≡ record { save = pos 0; daylight = false; letters = letters_before (Rules set) }
before_any set = in_force-zero (occurrences set)

pub before_at : (period : Period) (set : RuleSet) (t : ℤ) → period.following ≡ Rules set → NoneInEffect set period.stdoff t → state_in period t ≡ record { save = pos 0; daylight = false; letters = letters_before (Rules set) }
before_at period set t follows none = rw follows (in_force_before set period.stdoff t none)

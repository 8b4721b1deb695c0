-- The greatest number of rules that a line follows.
use Rattle.std.proofs.Common.{◌≡◌, ℕ, ◌≤◌, ◌<◌, max, ◌⊎◌, inl, inr, ⊎_elim, refl, ap, ◌∙◌, sym, arith, List, [], ◌∷◌}
use Rattle.tz_types.specs.declared.limit.TheConstants.{MOST_RULES}
use Rattle.std.proofs.lemmas.Bool.{cases_lt}
use Rattle.tz_specs.specs.Until.{Following, Nothing, Fixed, Rules}
use Rattle.tz_specs.specs.Expansion.{Period}
use Rattle.tz_specs.specs.RulesFollowed.{rules_followed, most_rules_followed}
use Rattle.tz_specs.proofs.ListLemmas.{In}

pub followed_by_each : (periods : List Period) (period : Period) → In period periods → rules_followed period.following ≤ most_rules_followed periods
followed_by_each [] period has = absurd has
followed_by_each (first ∷ later) period has =
    ⊎_elim
    (λ (same : first ≡ period).
    let count : rules_followed first.following ≡ rules_followed period.following = ap (λ (p : Period). rules_followed p.following) same in
    omega (arith, count))
    (λ (rest : In period later).
    let below : rules_followed period.following ≤ most_rules_followed later = followed_by_each later period rest in
    omega (arith, below))
    has

abbrev FollowsMost : List Period → ℕ → Type 0
FollowsMost periods most = (period : Period) × In period periods × (rules_followed period.following ≡ most)

pub followed_by_some : (periods : List Period) → (most_rules_followed periods ≡ 0) ⊎ ((period : Period) × In period periods × (rules_followed period.following ≡ most_rules_followed periods))
followed_by_some [] = inl refl
followed_by_some (first ∷ later) =
    ⊎_elim
    (λ (below : rules_followed first.following < most_rules_followed later).
    let is : max (rules_followed first.following) (most_rules_followed later) ≡ most_rules_followed later = omega (arith, below) in
    ⊎_elim
    (λ (none : most_rules_followed later ≡ 0). inl (omega (arith, none, below)))
    (λ (some : (period : Period) × In period later × (rules_followed period.following ≡ most_rules_followed later)).
    inr (some.0, inr some.1, some.2 ∙ sym is))
    (followed_by_some later))
    (λ (above : most_rules_followed later ≤ rules_followed first.following).
    inr (first, inl refl, omega (arith, above)))
    (cases_lt (rules_followed first.following) (most_rules_followed later))

following_bound : (following : Following) → rules_followed following ≤ MOST_RULES
following_bound Nothing = omega arith
following_bound (Fixed save daylight) = omega arith
following_bound (Rules set) = set.few_enough

pub followed_bound : (periods : List Period) → most_rules_followed periods ≤ MOST_RULES
followed_bound [] = omega arith
followed_bound (first ∷ later) = omega (arith, following_bound first.following, followed_bound later)

-- Events one after another.
use Rattle.std.proofs.Common.{◌≡◌, ℕ, zero, suc, ◌+◌, ◌<◌, ◌⊎◌, List, [], ◌∷◌, ◌++◌, length, take, get_or, sym, ap, ◌∙◌, subst, ⊎_elim, arith, Some}
use Rattle.std.specs.Prelude.{slice_get}
use Rattle.std.proofs.Math.Seq.{take-suc}
use Rattle.std.proofs.lemmas.Bool.{cases_order}
use Rattle.std.proofs.lemmas.List.{take-take}
use Rattle.std.proofs.lemmas.List.Sums.{fold-append}
use Rattle.std.proofs.lemmas.Option.{slice_get-get_or}
use Rattle.pin_core.specs.Core.{CoreState}
use Rattle.pin_schedule.specs.declared.event.Event.{Event}
use Rattle.pin_schedule.specs.Schedule.{IsAllowed, after_event, after_events, AreAllowed, IsFirstRefused}

-- one event more
allowed_push : (s : CoreState) (events : List Event) (event : Event) → AreAllowed s events → IsAllowed (after_events s events) event → AreAllowed s (events ++ event ∷ [])
allowed_push s [] event all last = (last, tt)
allowed_push s (e ∷ es) event all last = (all.0, allowed_push (after_event s e) es event all.1 last)

module _ (s : CoreState) (events : List Event) (i : ℕ) (d : Event) (low : i < length events) where
  abbrev event : Event
  event = get_or events i d

  one_more : take (i + 1) events ≡ take i events ++ event ∷ []
  one_more = let next : i + 1 ≡ suc i = omega arith in ap (λ n. take n events) next ∙ take-suc events i d low

  pub state_more : after_event (after_events s (take i events)) event ≡ after_events s (take (i + 1) events)
  state_more = sym (ap (after_events s) one_more ∙ fold-append after_event s (take i events) (event ∷ []))

  pub allowed_more : AreAllowed s (take i events) → IsAllowed (after_events s (take i events)) event → AreAllowed s (take (i + 1) events)
  allowed_more before last = subst (AreAllowed s) (sym one_more) (allowed_push s (take i events) event before last)

  pub refused_here : AreAllowed s (take i events) → (IsAllowed (after_events s (take i events)) event → ⊥) → IsFirstRefused s events i
  refused_here before none = record { before = before; refused = (event, slice_get-get_or events i d low, none) }

-- each of these events is allowed where it stands
allowed_at : (s : CoreState) (events : List Event) (k : ℕ) (event : Event) → AreAllowed s events → slice_get events k ≡ Some event → IsAllowed (after_events s (take k events)) event
allowed_at s [] k event all at = absurd (cc)
allowed_at s (e ∷ es) zero event all at = let same : e ≡ event = cc in subst (IsAllowed s) same all.0
allowed_at s (e ∷ es) (suc k) event all at = allowed_at (after_event s e) es k event all.1 at

get_take : (events : List Event) (n k : ℕ) (event : Event) → k < n → slice_get events k ≡ Some event → slice_get (take n events) k ≡ Some event
get_take [] n k event low at = absurd (cc)
get_take (e ∷ es) zero k event low at = absurd (omega arith)
get_take (e ∷ es) (suc n) zero event low at = at
get_take (e ∷ es) (suc n) (suc k) event low at = get_take es n k event (omega arith) at

-- where all are allowed none is the first that isn't
pub none_refused : (s : CoreState) (events : List Event) (index : ℕ) → AreAllowed s events → IsFirstRefused s events index → ⊥
none_refused s events index all first = first.refused.2 (allowed_at s events index first.refused.0 all first.refused.1)

before_refused : (s : CoreState) (events : List Event) (i j : ℕ) → i < j → IsFirstRefused s events i → IsFirstRefused s events j → ⊥
before_refused s events i j low one other =
    let event = one.refused.0 in
    let allowed = allowed_at s (take j events) i event other.before (get_take events j i event low one.refused.1) in
    one.refused.2 (subst (λ (es : List Event). IsAllowed (after_events s es) event) (take-take i j events (omega arith)) allowed)

-- one event at most is
pub one_refused : (s : CoreState) (events : List Event) (i j : ℕ) → IsFirstRefused s events i → IsFirstRefused s events j → i ≡ j
one_refused s events i j one other = ⊎_elim (λ (same : i ≡ j). same)
    (λ (apart : (i < j) ⊎ (j < i)). absurd (⊎_elim (λ (low : i < j). before_refused s events i j low one other) (λ (high : j < i). before_refused s events j i high other one) apart))
    (cases_order i j)

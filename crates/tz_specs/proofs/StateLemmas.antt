-- Which number is the state at an instant.
use Rattle.std.proofs.Common.{◌≡◌, ℕ, zero, suc, ◌<◌, ◌≤◌, false, ⊎_elim, refl, sym, ap, ◌∙◌, arith, List, [], ◌∷◌, length, Option, Some, None, ℤ, ◌<ℤ◌, ◌≤ℤ◌}
use Rattle.std.specs.Prelude.{int_le, slice_get}
use Rattle.std.proofs.lemmas.Option.{slice_get_within, none-some, same_Some}
use Rattle.std.proofs.lemmas.Bool.{cases_order, cases_lt}
use Rattle.std.proofs.lemmas.Int.{ints}
use Rattle.tz_specs.specs.State.{has_come, state_at}
use Rattle.tz_specs.proofs.Tests.{int_le-true, int_le-false, le-int_le, lt-int_le}
use Rattle.tz_specs.proofs.GreatestLemmas.{greatest_bound, greatest_passes, greatest_above, greatest_is, greatest_none}

-- an element of a list, or nothing there
pub by_get : {P X : Type 0} (xs : List X) (place : ℕ) → ((x : X) → slice_get xs place ≡ Some x → P) → (slice_get xs place ≡ None → P) → P
by_get xs place there gone = elim_get (slice_get xs place) refl there gone
  where
    elim_get : {P X : Type 0} {o : Option X} (p : Option X) → o ≡ p → ((x : X) → o ≡ Some x → P) → (o ≡ None → P) → P
    elim_get None e there gone = gone e
    elim_get (Some x) e there gone = there x e

pub has_come-at : (instants : List ℤ) (t : ℤ) (place : ℕ) (instant : ℤ) → slice_get instants place ≡ Some instant → has_come instants t (suc place) ≡ int_le instant t
has_come-at instants t place instant there = rw there

pub has_come-past : (instants : List ℤ) (t : ℤ) (place : ℕ) → slice_get instants place ≡ None → has_come instants t (suc place) ≡ false
has_come-past instants t place gone = rw gone

-- a state that isn't 0 is a number of the list
pub state_at_bound : (instants : List ℤ) (t : ℤ) → state_at instants t ≤ length instants
unfolding state_at
state_at_bound instants t = greatest_bound (has_come instants t) (length instants)

-- its instant has come
pub state_has_come : (instants : List ℤ) (t : ℤ) (place : ℕ) (instant : ℤ) → state_at instants t ≡ suc place → slice_get instants place ≡ Some instant → instant ≤ℤ t
unfolding state_at
state_has_come instants t place instant is there =
    int_le-true instant t
    (sym (has_come-at instants t place instant there) ∙ greatest_passes (has_come instants t) (length instants) place is)

-- and no later one has
pub later_has_not_come : (instants : List ℤ) (t : ℤ) (later : ℕ) (instant : ℤ) → state_at instants t ≤ later → slice_get instants later ≡ Some instant → t <ℤ instant
unfolding state_at
later_has_not_come instants t later instant after there =
    let within : later < length instants = slice_get_within instants later instant there in
    int_le-false instant t
    (sym (has_come-at instants t later instant there) ∙ greatest_above (has_come instants t) (length instants) (suc later) (omega arith) (omega arith))

none_after : (instants : List ℤ) (t : ℤ) (first : ℕ) → ((later : ℕ) (other : ℤ) → first ≤ later → slice_get instants later ≡ Some other → t <ℤ other) → (j : ℕ) → first < j → has_come instants t j ≡ false
none_after instants t first after zero above = refl
none_after instants t first after (suc place) above =
    by_get instants place
    (λ other there. has_come-at instants t place other there ∙ lt-int_le other t (after place other (omega arith) there))
    (λ gone. has_come-past instants t place gone)

-- a number whose instant has come, where no later one's has, is the state
pub state_is : (instants : List ℤ) (t : ℤ) (place : ℕ) (instant : ℤ) → slice_get instants place ≡ Some instant → instant ≤ℤ t → ((later : ℕ) (other : ℤ) → place < later → slice_get instants later ≡ Some other → t <ℤ other) → state_at instants t ≡ suc place
unfolding state_at
state_is instants t place instant there come after =
    let within : place < length instants = slice_get_within instants place instant there in
    greatest_is (has_come instants t) (length instants) place
    (has_come-at instants t place instant there ∙ le-int_le instant t come)
    (omega arith)
    (λ j above low. none_after instants t (suc place) (λ later other later_than there'. after later other (omega arith) there') j above)

-- where none has come, the state is 0
pub state_is_none : (instants : List ℤ) (t : ℤ) → ((place : ℕ) (instant : ℤ) → slice_get instants place ≡ Some instant → t <ℤ instant) → state_at instants t ≡ 0
unfolding state_at
state_is_none instants t after =
    greatest_none (has_come instants t) (length instants)
    (λ j above low. none_after instants t 0 (λ later other from there. after later other there) j above)

-- what is the state at some instant is the state at its own instant
pub state_at_own : (instants : List ℤ) (t : ℤ) (place : ℕ) (instant : ℤ) → state_at instants t ≡ suc place → slice_get instants place ≡ Some instant → state_at instants instant ≡ suc place
state_at_own instants t place instant is there =
    let come : instant ≤ℤ t = state_has_come instants t place instant is there in
    state_is instants instant place instant there (omega (arith, ints))
    (λ later other after there'. let not_yet : t <ℤ other = later_has_not_come instants t later other (omega arith) there' in omega (arith, ints))

pub by_number : {P : Type 0} (n : ℕ) → (n ≡ 0 → P) → ((place : ℕ) → n ≡ suc place → P) → P
by_number zero none some_place = none refl
by_number (suc place) none some_place = some_place place refl

-- the least of the instants after the state is one that takes effect
pub soonest_takes_effect : (us : List ℤ) (t : ℤ) (place : ℕ) (v : ℤ) → state_at us t ≤ place → slice_get us place ≡ Some v → ((other : ℕ) (w : ℤ) → state_at us t ≤ other → slice_get us other ≡ Some w → v ≤ℤ w) → (own : ℕ) × (slice_get us own ≡ Some v) × (state_at us v ≡ suc own)
soonest_takes_effect us t place v after there soonest =
    by_number (state_at us v)
    (λ none.
    let not_yet : v <ℤ v = later_has_not_come us v place v (omega arith) there in
    absurd (omega (arith, ints)))
    (λ own is.
    by_get us own
    (λ w here.
    let come : w ≤ℤ v = state_has_come us v own w is here in
    ⊎_elim
    (λ (low : own < place).
    let not_yet : v <ℤ v = later_has_not_come us v place v (omega arith) there in
    absurd (omega (arith, ints)))
    (λ (high : place ≤ own).
    let late : v ≤ℤ w = soonest own w (omega arith) here in
    let same : w ≡ v = omega (arith, ints) in
    let own_here : slice_get us own ≡ Some v = rw same at here in
    (own, own_here, is))
    (cases_lt own place))
    (λ gone. absurd (past_end us own gone (omega (arith, is, state_at_bound us v)))))
  where
    past_end : (us : List ℤ) (place : ℕ) → slice_get us place ≡ None → suc place ≤ length us → ⊥
    past_end [] place gone within = omega arith
    past_end (u ∷ us) zero gone within = none-some u (sym gone)
    past_end (u ∷ us) (suc place) gone within = past_end us place gone (omega arith)

-- an instant after t that takes effect is after the state
pub takes_effect_later : (us : List ℤ) (t : ℤ) (own : ℕ) (w : ℤ) → slice_get us own ≡ Some w → state_at us w ≡ suc own → t <ℤ w → state_at us t ≤ own
takes_effect_later us t own w here is later =
    by_number (state_at us t) (λ none. omega arith)
    (λ place state.
    ⊎_elim
    (λ (low : own < place).
    by_get us place
    (λ u there.
    let come : u ≤ℤ t = state_has_come us t place u state there in
    let not_yet : w <ℤ u = later_has_not_come us w place u (omega arith) there in
    absurd (omega (arith, ints)))
    (λ gone. absurd (past us place gone (omega (arith, state, state_at_bound us t)))))
    (λ (high : place ≤ own).
    ⊎_elim
    (λ (same : place ≡ own).
    let come : w ≤ℤ t = state_has_come us t own w (state ∙ ap (λ (n : ℕ). suc n) same) here in
    absurd (omega (arith, ints)))
    (⊎_elim (λ (lt : place < own). omega arith) (λ (gt : own < place). absurd (omega arith)))
    (cases_order place own))
    (cases_lt own place))
  where
    past : (us : List ℤ) (place : ℕ) → slice_get us place ≡ None → suc place ≤ length us → ⊥
    past [] place gone within = omega arith
    past (u ∷ us) zero gone within = none-some u (sym gone)
    past (u ∷ us) (suc place) gone within = past us place gone (omega arith)

-- none takes effect between the state's own instant and t
pub none_between : (us : List ℤ) (t : ℤ) (place own : ℕ) (u w : ℤ) → state_at us t ≡ suc place → slice_get us place ≡ Some u → slice_get us own ≡ Some w → state_at us w ≡ suc own → u <ℤ w → w ≤ℤ t → ⊥
none_between us t place own u w state here there is after before =
    ⊎_elim
    (λ (same : own ≡ place).
    let here' : slice_get us own ≡ Some u = rw same here in
    let equal : u ≡ w = same_Some u w (sym here' ∙ there) in
    omega (arith, ints))
    (⊎_elim
    (λ (lt : own < place).
    let not_yet : w <ℤ u = later_has_not_come us w place u (omega arith) here in
    omega (arith, ints))
    (λ (gt : place < own).
    let not_yet : t <ℤ w = later_has_not_come us t own w (omega arith) there in
    omega (arith, ints)))
    (cases_order own place)

-- the state stays from its own instant on
pub state_kept : (us : List ℤ) (t earlier : ℤ) (place : ℕ) (u : ℤ) → state_at us t ≡ suc place → slice_get us place ≡ Some u → u ≤ℤ earlier → earlier ≤ℤ t → state_at us earlier ≡ suc place
state_kept us t earlier place u state here low high =
    state_is us earlier place u here low
    (λ later other after there. let not_yet : t <ℤ other = later_has_not_come us t later other (omega arith) there in omega (arith, ints))

pub state_kept_none : (us : List ℤ) (t earlier : ℤ) → state_at us t ≡ 0 → earlier ≤ℤ t → state_at us earlier ≡ 0
state_kept_none us t earlier state high =
    state_is_none us earlier
    (λ place instant there. let not_yet : t <ℤ instant = later_has_not_come us t place instant (omega arith) there in omega (arith, ints))

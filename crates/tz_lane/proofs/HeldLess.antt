-- The holds of a lane once one of them was let go.
use Rattle.std.proofs.Common.{◌≡◌, ℕ, zero, suc, ◌<◌, Bool, true, false, not, ◌&&◌, eqb, List, [], ◌∷◌, map, Contains, IsPermutation, refl, sym, ap, ◌∙◌, ⊎_elim, arith}
use Rattle.std.specs.Prelude.{count_by, Some, slice_get}
use Rattle.std.specs.List.{remove}
use Rattle.std.proofs.lemmas.Bool.{cases_Bool, and_parts, eqb-true, eq-eqb}
use Rattle.std.proofs.lemmas.List.Sorted.{IsPermutation-refl, IsPermutation-sym, IsPermutation-trans, IsPermutation-cons, IsPermutation-map, Contains-permutation}
use Rattle.pin_core.specs.declared.entry.Entry.{Entry}
use Rattle.pin_core.specs.declared.view.View.{View}
use Rattle.pin_table.specs.Handles.{Handle, pin_of, MadeBy}
use Rattle.pin_table.specs.declared.sitting.Plan.{Plan}
use Rattle.tz_version.specs.Release.{Release}
use Rattle.tz_list.specs.Reload.{release_home, release_source}
use Rattle.tz_lane.specs.declared.lane_hold.LaneHold.{LaneHold}
use Rattle.tz_lane.specs.Holding.{AreHeld}
use Rattle.tz_lane.proofs.Fronts.{taken_off}
use Rattle.tz_lane.proofs.Names.{one_if, counted, HaveSame, same_of_permutation, same_length}

-- ---- pins, by how often each stands in a list ----

same_bool : Bool → Bool → Bool
same_bool true b = b
same_bool false b = not b

-- the pins are one
same_pin : Entry → Entry → Bool
same_pin a b = eqb a.slot b.slot && (eqb a.position b.position && same_bool a.held b.held)

bools_same : (a b : Bool) → same_bool a b ≡ true → a ≡ b
unfolding same_bool
bools_same true true same = refl
bools_same true false same = cc
bools_same false true same = cc
bools_same false false same = refl

bool_itself : (a : Bool) → same_bool a a ≡ true
unfolding same_bool
bool_itself true = refl
bool_itself false = refl

pins_same : (a b : Entry) → same_pin a b ≡ true → a ≡ b
unfolding same_pin
pins_same a b same =
    let slots = and_parts (eqb a.slot b.slot) (eqb a.position b.position && same_bool a.held b.held) same in
    let others = and_parts (eqb a.position b.position) (same_bool a.held b.held) slots.1 in
    λ i. record {
      slot = eqb-true a.slot b.slot slots.0 i;
      position = eqb-true a.position b.position others.0 i;
      held = bools_same a.held b.held others.1 i;
    }

pin_itself : (a : Entry) → same_pin a a ≡ true
unfolding same_pin
pin_itself a =
    both_hold (eqb a.slot a.slot) (eqb a.position a.position && same_bool a.held a.held) (eq-eqb a.slot a.slot refl)
    (both_hold (eqb a.position a.position) (same_bool a.held a.held) (eq-eqb a.position a.position refl) (bool_itself a.held))
  where
    both_hold : (a b : Bool) → a ≡ true → b ≡ true → (a && b) ≡ true
    both_hold a b h k = grind arith

-- where an element counts, one stands that passes
some_there : {A : Type 0} (p : A → Bool) (xs : List A) → 0 < count_by p xs → (k : ℕ) × (x : A) × (slice_get xs k ≡ Some x) × (p x ≡ true)
unfolding one_if
some_there p [] some = absurd (omega (arith, some))
some_there p (y ∷ xs) some =
    ⊎_elim
    (λ (here : p y ≡ true). (0, y, refl, here))
    (λ (away : p y ≡ false).
    let step = counted p y xs in let none = ap one_if away in
    let later = some_there p xs (omega (arith, step, none, some)) in (suc later.0, later.1, later.2, later.3))
    (cases_Bool (p y))

-- a pin that counts stands at a place
pin_there : (pins : List Entry) (pin : Entry) → 0 < count_by (same_pin pin) pins → (k : ℕ) × (slice_get pins k ≡ Some pin)
pin_there pins pin some =
    let found = some_there (same_pin pin) pins some in
    (found.0, found.2 ∙ ap Some (sym (pins_same pin found.1 found.3)))

-- without the first
same_rest : {A : Type 0} (x : A) (xs ys : List A) → HaveSame (x ∷ xs) (x ∷ ys) → HaveSame xs ys
unfolding HaveSame
same_rest x xs ys same p = let left = counted p x xs in let right = counted p x ys in let all = same p in omega (arith, left, right, all)

-- Lists of the same pins are one list but for its order.
permuted : (xs ys : List Entry) → HaveSame xs ys → IsPermutation xs ys
unfolding HaveSame one_if
permuted [] [] same = IsPermutation-refl []
permuted [] (y ∷ ys) same = absurd (let long = same_length [] (y ∷ ys) same in omega (arith, long))
permuted (x ∷ xs) ys same =
    let at = pin_there ys x (first_counts x xs ys same) in
    let out : IsPermutation ys (x ∷ remove ys at.0) = taken_off ys at.0 x at.1 in
    IsPermutation-trans (x ∷ xs) (x ∷ remove ys at.0) ys
    (IsPermutation-cons x xs (remove ys at.0) (permuted xs (remove ys at.0) (same_rest x xs (remove ys at.0) (joined (x ∷ xs) ys (x ∷ remove ys at.0) same (same_of_permutation ys (x ∷ remove ys at.0) out)))))
    (IsPermutation-sym ys (x ∷ remove ys at.0) out)
  where
    first_counts : (x : Entry) (xs ys : List Entry) → HaveSame (x ∷ xs) ys → 0 < count_by (same_pin x) ys
    first_counts x xs ys same =
        let step = counted (same_pin x) x xs in let one = ap one_if (pin_itself x) in let all = same (same_pin x) in
        omega (arith, step, one, all)

    joined : (xs ys zs : List Entry) → HaveSame xs ys → HaveSame ys zs → HaveSame xs zs
    joined xs ys zs first second p = first p ∙ second p

-- Lists that are one but for their order, each behind the same pin, are one but for their order.
pub same_behind : (x : Entry) (xs ys : List Entry) → IsPermutation (x ∷ xs) (x ∷ ys) → IsPermutation xs ys
same_behind x xs ys s = permuted xs ys (same_rest x xs ys (same_of_permutation (x ∷ xs) (x ∷ ys) s))

-- ---- holds ----

-- the pins that holds stand on
pins_of : List LaneHold → List Entry
pins_of holds = map (λ (hold : LaneHold). pin_of hold.handle) holds

-- a hold's pin is among their pins
pin_among : (holds : List LaneHold) (hold : LaneHold) → Contains holds hold → Contains (pins_of holds) (pin_of hold.handle)
unfolding pins_of
pin_among [] hold (k, low, at) = absurd (omega (arith, low))
pin_among (other ∷ holds) hold (zero, low, at) = (0, omega arith, ap (λ (it : LaneHold). pin_of it.handle) at)
pin_among (other ∷ holds) hold (suc k, low, at) = let rest = pin_among holds hold (k, omega (arith, low), at) in (suc rest.0, omega (arith, rest.1), rest.2)

-- what stands behind the first of a list stands in it
one_later : {A : Type 0} (x : A) (xs : List A) (y : A) → Contains xs y → Contains (x ∷ xs) y
one_later x xs y (k, low, at) = (suc k, omega (arith, low), at)

-- a hold that is taken out of them is the reader's
pub first_held : (plan : Plan Release) (v : View) (holds later : List LaneHold) (hold : LaneHold) → AreHeld plan v holds → IsPermutation holds (hold ∷ later)
    → MadeBy release_home release_source plan v hold.handle
first_held plan v holds later hold held s =
    held.made hold (Contains-permutation (hold ∷ later) holds hold (IsPermutation-sym holds (hold ∷ later) s) (0, omega arith, refl))

-- The handle of one hold was let go, and its pin is off. Each other handle whose pin the reader has left is the reader's
-- still. Then the holds but for that one are the reader's.
pub held_less : (plan : Plan Release) (v v' : View) (plan' : Plan Release) (holds later : List LaneHold) (hold : LaneHold) → AreHeld plan v holds → IsPermutation holds (hold ∷ later)
    → IsPermutation v.entries (pin_of hold.handle ∷ v'.entries)
    → ((other : Handle Release) → MadeBy release_home release_source plan v other → Contains v'.entries (pin_of other) → MadeBy release_home release_source plan' v' other)
    → AreHeld plan' v' later
unfolding pins_of
held_less plan v v' plan' holds later hold held s off others = record {
  pins = left;
  made = λ other has. others other.handle
      (held.made other (Contains-permutation (hold ∷ later) holds other (IsPermutation-sym holds (hold ∷ later) s) (one_later hold later other has)))
      (Contains-permutation (pins_of later) v'.entries (pin_of other.handle) left (pin_among later other has));
}
  where
    left : IsPermutation (pins_of later) v'.entries
    left = same_behind (pin_of hold.handle) (pins_of later) v'.entries
        (IsPermutation-trans (pins_of (hold ∷ later)) (pins_of holds) (pin_of hold.handle ∷ v'.entries)
        (IsPermutation-sym (pins_of holds) (pins_of (hold ∷ later)) (IsPermutation-map (λ (it : LaneHold). pin_of it.handle) holds (hold ∷ later) s))
        (IsPermutation-trans (pins_of holds) v.entries (pin_of hold.handle ∷ v'.entries) held.pins off))

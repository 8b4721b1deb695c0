-- A hold that was put beside others, and the only one that is taken out again.
use Rattle.std.proofs.Common.{◌≡◌, ℕ, zero, suc, true, List, [], ◌∷◌, length, Contains, IsPermutation, refl, sym, ap, subst, ◌∙◌, arith}
use Rattle.std.proofs.lemmas.Bool.{or_left}
use Rattle.std.proofs.lemmas.List.Sorted.{IsPermutation-map, IsPermutation-sym, length_permutation, list_any-IsPermutation, Contains-permutation}
use Rattle.std.proofs.lemmas.Slice.Eq.{bytes_eq-Decides}
use Rattle.tz_specs.specs.Value.{is_exactly}
use Rattle.tz_script.specs.Keeping.{is_among_names}
use Rattle.tz_lane.specs.declared.lane_hold.LaneHold.{LaneHold}
use Rattle.tz_lane.specs.Holding.{names_of}

-- the name of a hold that was put is among the names
pub put_named : (later before : List LaneHold) (hold : LaneHold) (name : List ℕ) → IsPermutation later (hold ∷ before) → hold.name ≡ name
    → is_among_names name (names_of later) ≡ true
put_named later before hold name put named =
    let name_in : LaneHold → List ℕ = λ it. it.name in
    list_any-IsPermutation (λ (other : List ℕ). is_exactly other name) (names_of later) (names_of (hold ∷ before)) (IsPermutation-map name_in later (hold ∷ before) put)
    ∙ or_left (is_exactly hold.name name) (is_among_names name (names_of before)) ((bytes_eq-Decides hold.name name).1 named)

-- the only one of a list
only_one : {X : Type 0} (x y : X) → Contains (x ∷ []) y → y ≡ x
only_one x y (zero, low, is) = sym is
only_one x y (suc k, low, is) = absurd (omega arith)

-- what is taken out of holds among which only one was put is that one
pub one_taken : (holds before later : List LaneHold) (put taken : LaneHold) → before ≡ [] → IsPermutation holds (put ∷ before) → IsPermutation holds (taken ∷ later) → taken ≡ put
one_taken holds before later put taken none first second =
    let among : Contains holds taken = Contains-permutation (taken ∷ later) holds taken (IsPermutation-sym holds (taken ∷ later) second) (0, omega arith, refl) in
    only_one put taken (subst (λ (those : List LaneHold). Contains (put ∷ those) taken) none (Contains-permutation holds (put ∷ before) taken first among))

-- and none is left
pub one_left : (holds before later : List LaneHold) (put taken : LaneHold) → before ≡ [] → IsPermutation holds (put ∷ before) → IsPermutation holds (taken ∷ later) → later ≡ []
one_left holds before [] put taken none first second = refl
one_left holds before (other ∷ later) put taken none first second =
    let one = length_permutation holds (put ∷ before) first in
    let more = length_permutation holds (taken ∷ other ∷ later) second in
    let few : length before ≡ 0 = ap (λ (those : List LaneHold). length those) none in
    absurd (omega (arith, one, more, few))

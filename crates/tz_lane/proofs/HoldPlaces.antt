-- Holds by the places where they stand.
use Rattle.std.proofs.Common.{◌≡◌, ℕ, zero, suc, ◌<◌, ◌||◌, Bool, true, false, List, [], ◌∷◌, length, get_or, set, Contains, IsPermutation, refl, sym, ap, subst, ◌∙◌, arith}
use Rattle.std.specs.Prelude.{Option, Some, None, MatchOption, is_some, slice_get}
use Rattle.std.proofs.lemmas.Option.{slice_get-get_or, get_or_from_slice_get, same_Some}
use Rattle.std.proofs.lemmas.Slice.Eq.{bytes_eq-Decides}
use Rattle.std.proofs.lemmas.List.Sorted.{IsPermutation-refl, IsPermutation-sym, IsPermutation-trans, IsPermutation-cons, IsPermutation-middle, Contains-permutation}
use Rattle.tz_specs.specs.Value.{is_exactly}
use Rattle.tz_script.specs.Keeping.{is_among_names}
use Rattle.tz_lane.specs.declared.lane_hold.LaneHold.{LaneHold}
use Rattle.tz_lane.specs.Holding.{names_of}
use Rattle.tz_lane.specs.HoldPlaces.{holds_at, is_named, StandsAt}

-- an element within a list stands there
pub stands_there : {X : Type 0} (xs : List X) (k : ℕ) (x : X) → k < length xs → x ≡ get_or xs k x → slice_get xs k ≡ Some x
stands_there xs k x low is = slice_get-get_or xs k x low ∙ ap Some (sym is)

-- where each place is full there are as many holds as places
pub all_full : (places : List (Option LaneHold)) → ((k : ℕ) → k < length places → (hold : LaneHold) × (slice_get places k ≡ Some (Some hold)))
    → length (holds_at places) ≡ length places
all_full [] full = refl
all_full (None ∷ places) full = let first = full 0 (omega arith) in absurd (let h = first.1 in cc)
all_full (Some hold ∷ places) full =
    let rest = all_full places (λ k low. full (suc k) (omega (arith, low))) in omega (arith, rest)

-- where each place is free there is no hold
pub all_free : (places : List (Option LaneHold)) → ((k : ℕ) → k < length places → slice_get places k ≡ Some None) → holds_at places ≡ []
all_free [] free = refl
all_free (None ∷ places) free = all_free places (λ k low. free (suc k) (omega (arith, low)))
all_free (Some hold ∷ places) free = let first = free 0 (omega arith) in absurd cc

or_both : (a b : Bool) → a ≡ false → b ≡ false → (a || b) ≡ false
or_both a b first second = grind arith

-- where no place has a hold of the name, it is none of their names
pub none_named : (name : List ℕ) (places : List (Option LaneHold)) → ((k : ℕ) → k < length places → is_named name (get_or places k None) ≡ false)
    → is_among_names name (names_of (holds_at places)) ≡ false
none_named name [] none = refl
none_named name (None ∷ places) none = none_named name places (λ k low. none (suc k) (omega (arith, low)))
none_named name (Some hold ∷ places) none =
    or_both (is_exactly hold.name name) (is_among_names name (names_of (holds_at places)))
    (none 0 (omega arith))
    (none_named name places (λ k low. none (suc k) (omega (arith, low))))

-- what stands within a list stands there whatever stands beyond it
get_or_within : {X : Type 0} (xs : List X) (k : ℕ) (a b : X) → k < length xs → get_or xs k a ≡ get_or xs k b
get_or_within [] k a b low = absurd (omega arith)
get_or_within (x ∷ xs) zero a b low = refl
get_or_within (x ∷ xs) (suc k) a b low = get_or_within xs k a b (omega arith)

-- a place without a hold of the name
pub other_name : (name : List ℕ) (places : List (Option LaneHold)) (k : ℕ) (place : Option LaneHold) → k < length places → place ≡ get_or places k place → is_named name place ≡ false
    → is_named name (get_or places k None) ≡ false
other_name name places k place low is other = ap (is_named name) (get_or_within places k None place low ∙ sym is) ∙ other

-- a place with one
pub named_there : (name : List ℕ) (places : List (Option LaneHold)) (k : ℕ) (place : Option LaneHold) → k < length places → place ≡ get_or places k place → is_named name place ≡ true
    → StandsAt name places k
named_there name places k None low is named = absurd cc
named_there name places k (Some hold) low is named = record {
  hold = hold;
  there = stands_there places k (Some hold) low is;
  named = (bytes_eq-Decides hold.name name).0 named;
}

-- a full place
pub full_there : (places : List (Option LaneHold)) (k : ℕ) (place : Option LaneHold) → k < length places → place ≡ get_or places k place → is_some place ≡ true
    → (hold : LaneHold) × (slice_get places k ≡ Some (Some hold))
full_there places k None low is some = absurd cc
full_there places k (Some hold) low is some = (hold, stands_there places k (Some hold) low is)

-- a free one
pub free_there : (places : List (Option LaneHold)) (k : ℕ) (place : Option LaneHold) → k < length places → place ≡ get_or places k place → is_some place ≡ false
    → slice_get places k ≡ Some None
free_there places k None low is none = stands_there places k None low is
free_there places k (Some hold) low is none = absurd cc

-- a hold that is put in a free place
pub put_in : (places : List (Option LaneHold)) (at : ℕ) (hold : LaneHold) → slice_get places at ≡ Some None
    → IsPermutation (holds_at (set places at (Some hold))) (hold ∷ holds_at places)
put_in [] at hold there = absurd cc
put_in (None ∷ places) zero hold there = IsPermutation-refl (hold ∷ holds_at places)
put_in (Some other ∷ places) zero hold there = absurd cc
put_in (None ∷ places) (suc at) hold there = put_in places at hold there
put_in (Some other ∷ places) (suc at) hold there =
    let rest = holds_at (set places at (Some hold)) in
    IsPermutation-trans (other ∷ rest) (other ∷ hold ∷ holds_at places) (hold ∷ other ∷ holds_at places)
    (IsPermutation-cons other rest (hold ∷ holds_at places) (put_in places at hold there))
    (IsPermutation-middle (other ∷ []) hold (holds_at places))

-- a hold that is taken out of its place
pub taken_out : (places : List (Option LaneHold)) (at : ℕ) (hold : LaneHold) → slice_get places at ≡ Some (Some hold)
    → IsPermutation (holds_at places) (hold ∷ holds_at (set places at None))
taken_out [] at hold there = absurd cc
taken_out (None ∷ places) zero hold there = absurd cc
taken_out (Some other ∷ places) zero hold there =
    let same : other ≡ hold = cc in subst (λ (it : LaneHold). IsPermutation (other ∷ holds_at places) (it ∷ holds_at places)) same (IsPermutation-refl (other ∷ holds_at places))
taken_out (None ∷ places) (suc at) hold there = taken_out places at hold there
taken_out (Some other ∷ places) (suc at) hold there =
    let rest = holds_at (set places at None) in
    IsPermutation-trans (other ∷ holds_at places) (other ∷ hold ∷ rest) (hold ∷ other ∷ rest)
    (IsPermutation-cons other (holds_at places) (hold ∷ rest) (taken_out places at hold there))
    (IsPermutation-middle (other ∷ []) hold rest)

-- a hold that stands at a place is one of them
pub is_open : (places : List (Option LaneHold)) (at : ℕ) (hold : LaneHold) → slice_get places at ≡ Some (Some hold) → Contains (holds_at places) hold
is_open places at hold there =
    let rest = holds_at (set places at None) in
    Contains-permutation (hold ∷ rest) (holds_at places) hold
    (IsPermutation-sym (holds_at places) (hold ∷ rest) (taken_out places at hold there))
    (0, omega arith, refl)

-- what is read where a hold of that name stands
pub read_there : (name : List ℕ) (places : List (Option LaneHold)) (at : ℕ) (d : Option LaneHold) (hold : LaneHold) → StandsAt name places at → get_or places at d ≡ Some hold
    → (slice_get places at ≡ Some (Some hold)) × (hold.name ≡ name)
read_there name places at d hold stands read =
    let same : stands.hold ≡ hold = same_Some stands.hold hold (sym (get_or_from_slice_get places at (Some stands.hold) d stands.there) ∙ read) in
    (subst (λ (it : LaneHold). slice_get places at ≡ Some (Some it)) same stands.there, subst (λ (it : LaneHold). it.name ≡ name) same stands.named)

-- ---- calls ----

-- a hold that was put in
pub was_put : (places : List (Option LaneHold)) (before : List LaneHold) (at : ℕ) (hold : LaneHold) (later : Option LaneHold) → holds_at places ≡ before → slice_get places at ≡ Some None
    → later ≡ Some hold → IsPermutation (holds_at (set places at later)) (hold ∷ before)
was_put places before at hold later is there after =
    subst (λ (place : Option LaneHold). IsPermutation (holds_at (set places at place)) (hold ∷ before)) (sym after)
    (subst (λ (those : List LaneHold). IsPermutation (holds_at (set places at (Some hold))) (hold ∷ those)) is (put_in places at hold there))

-- a hold that was taken out
pub was_taken : (places : List (Option LaneHold)) (before : List LaneHold) (at : ℕ) (hold : LaneHold) (later : Option LaneHold) → holds_at places ≡ before → slice_get places at ≡ Some (Some hold)
    → later ≡ None → IsPermutation before (hold ∷ holds_at (set places at later))
was_taken places before at hold later is there after =
    subst (λ (place : Option LaneHold). IsPermutation before (hold ∷ holds_at (set places at place))) (sym after)
    (subst (λ (those : List LaneHold). IsPermutation those (hold ∷ holds_at (set places at None))) is (taken_out places at hold there))

-- any hold that was taken out
pub any_taken : (places : List (Option LaneHold)) (before : List LaneHold) (at : ℕ) (taken later d : Option LaneHold) → holds_at places ≡ before
    → (hold : LaneHold) × (slice_get places at ≡ Some (Some hold)) → taken ≡ get_or places at d → later ≡ None
    → MatchOption taken ((before ≡ []) × (holds_at (set places at later) ≡ [])) (λ hold. IsPermutation before (hold ∷ holds_at (set places at later)))
any_taken places before at taken later d is there read after =
    let found : taken ≡ Some there.0 = read ∙ get_or_from_slice_get places at (Some there.0) d there.1 in
    subst (λ (it : Option LaneHold). MatchOption it ((before ≡ []) × (holds_at (set places at later) ≡ [])) (λ hold. IsPermutation before (hold ∷ holds_at (set places at later)))) (sym found)
    (was_taken places before at there.0 later is there.1 after)

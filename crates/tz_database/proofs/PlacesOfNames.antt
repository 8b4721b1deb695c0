-- Places in lists of names that ascend, and what stands there.
use Rattle.std.proofs.Common.{◌≡◌, ℕ, ◌<◌, Bool, true, nat_lt, IsTrue, List, [], ◌∷◌, length, map, get_or, Some, None, Result, Ok, Err, refl, sym, ◌∙◌, arith}
use Rattle.std.specs.List.{position, position_or_len, find, slice_get}
use Rattle.std.specs.List.Sorted.{IsSearchInRange, IsBinarySearchResult}
use Rattle.std.proofs.lemmas.Bool.Decides.{nat_tests}
use Rattle.std.proofs.lemmas.List.{get_or-map, length-map}
use Rattle.std.proofs.lemmas.List.Folds.{find_at}
use Rattle.std.proofs.lemmas.List.Quantifiers.{position-Some}
use Rattle.std.proofs.lemmas.Option.{slice_get-get_or, slice_get_within}
use Rattle.std.proofs.lemmas.Slice.Eq.{bytes_eq-Decides}
use Rattle.tz_types.specs.Order.{ascends, name_before}
use Rattle.tz_specs.specs.Value.{is_exactly}
use Rattle.tz_database.proofs.NameOrder.{compared, searched}
use Rattle.tz_database.proofs.NamesFound.{found-position, missing-position}

module _ {X : Type 0} (key : X → List ℕ) where
  -- where a search finds a name, the first of that name stands
  pub place_found : (xs : List X) (name : List ℕ) (found : Result ℕ ℕ) (place : ℕ) → IsTrue (ascends name_before (map key xs)) → IsSearchInRange found (length xs) → IsBinarySearchResult (λ x. compared (key x) name) xs found → found ≡ Ok place → Some place ≡ position (λ x. is_exactly (key x) name) xs
  place_found xs name found place ascend bound result is =
      sym (found-position key name xs place (sym (searched key name xs found ascend bound result) ∙ is))

  -- and where it finds none, there is none
  pub place_missing : (xs : List X) (name : List ℕ) (found : Result ℕ ℕ) (place : ℕ) → IsTrue (ascends name_before (map key xs)) → IsSearchInRange found (length xs) → IsBinarySearchResult (λ x. compared (key x) name) xs found → found ≡ Err place → None ≡ position (λ x. is_exactly (key x) name) xs
  place_missing xs name found place ascend bound result is =
      sym (missing-position key name xs place ascend (sym (searched key name xs found ascend bound result) ∙ is))

  -- at the place of a name that name stands
  pub name_there : (xs : List X) (name : List ℕ) (place : ℕ) → position (λ x. is_exactly (key x) name) xs ≡ Some place → slice_get (map key xs) place ≡ Some name
  name_there [] name place is = cc
  name_there (x ∷ xs) name place is =
      let there = position-Some (λ x. is_exactly (key x) name) (x ∷ xs) place x is in
      let all : length (map key (x ∷ xs)) ≡ length (x ∷ xs) = length-map (x ∷ xs) key in
      let at : get_or (map key (x ∷ xs)) place (key x) ≡ name =
      get_or-map key (x ∷ xs) place x (key x) there.0 ∙ (bytes_eq-Decides (key (get_or (x ∷ xs) place x)) name).0 there.1 in
      rw (slice_get-get_or (map key (x ∷ xs)) place (key x) (omega (arith, there.0))) (rw at refl)

  pub place_within : (xs : List X) (name : List ℕ) (place : ℕ) → position (λ x. is_exactly (key x) name) xs ≡ Some place → place < length xs
  place_within [] name place is = cc
  place_within (x ∷ xs) name place is =
      (position-Some (λ x. is_exactly (key x) name) (x ∷ xs) place x is).0

-- what is found has a place
pub place_of_found : {X : Type 0} (p : X → Bool) (xs : List X) (x : X) → find p xs ≡ Some x → (place : ℕ) × (position p xs ≡ Some place)
place_of_found {X} p xs x is =
    let place = position_or_len p xs in
    let low = slice_get_within xs place x (sym (find_at p xs) ∙ is) in
    let within : nat_lt place (length xs) ≡ true = grind (arith, nat_tests) in
    (place, rw within refl)

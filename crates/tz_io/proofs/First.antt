-- The first element that passes a test, by its place.
use Rattle.std.proofs.Common.{◌≡◌, ℕ, ◌<◌, Bool, true, false, cond, List, Some, None, length, get_or, sym, ap, ◌∙◌}
use Rattle.std.specs.List.{find, position, slice_get}
use Rattle.std.proofs.lemmas.List.Folds.{find_at}
use Rattle.std.proofs.lemmas.Option.{slice_get-get_or}

place_is : (b : Bool) (first place : ℕ) → cond b (Some first) None ≡ Some place → first ≡ place
place_is true first place is = cc
place_is false first place is = cc

-- what stands at the first place is what a search finds
pub found_at : {X : Type 0} (test : X → Bool) (xs : List X) (place : ℕ) (x : X) → position test xs ≡ Some place → place < length xs → x ≡ get_or xs place x → find test xs ≡ Some x
found_at test xs place x first within is =
    find_at test xs ∙ ap (slice_get xs) (place_is _ _ place first) ∙ slice_get-get_or xs place x within ∙ ap Some (sym is)

-- Octets of the elements of a list, one after another.
use Rattle.std.proofs.Common.{◌≡◌, ℕ, ◌+◌, ◌<◌, sym, ap, ◌∙◌, List, [], ◌∷◌, ◌++◌, length, take, get_or}
use Rattle.std.specs.List.{flat_map}
use Rattle.std.proofs.lemmas.List.{take_more, flat_map_more}

-- one piece more
pub pieces-more : {X : Type 0} (octets : X → List ℕ) (start before after : List ℕ) (xs : List X) (place : ℕ) (x : X) → place < length xs → x ≡ get_or xs place x → before ≡ start ++ flat_map octets (take place xs) → after ≡ before ++ octets x → after ≡ start ++ flat_map octets (take (place + 1) xs)
pieces-more octets start before after xs place x within is so_far put =
    let one : take (place + 1) xs ≡ take place xs ++ x ∷ [] = take_more xs place x within ∙ ap (λ y. take place xs ++ y ∷ []) (sym is) in
    put ∙ ap (λ ys. ys ++ octets x) so_far ∙ flat_map_more octets start (take place xs) x ∙ ap (λ ys. start ++ flat_map octets ys) (sym one)

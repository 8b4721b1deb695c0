-- Links that get their zones one after another.
use Rattle.std.proofs.Common.{◌≡◌, ℕ, ◌+◌, ◌<◌, List, [], ◌∷◌, length, map, get_or, set, take, Option, Some, refl, sym, ap, ◌∙◌}
use Rattle.std.proofs.lemmas.List.{map-append, map-set, set-get_or, take_more, take_more_set}
use Rattle.tz_types.specs.declared.link.Link.{Link}

-- an element is changed that looks the same then
pub looks_same : {X Y : Type 0} (view : X → Y) (xs : List X) (i : ℕ) (x after : X) → view after ≡ view (get_or xs i x) → map view (set xs i after) ≡ map view xs
looks_same {X} {Y} view xs i x after same =
    map-set view xs i after ∙ (ap (set (map view xs) i) same ∙ (sym (map-set view xs i (get_or xs i x)) ∙ ap (map view) (set-get_or xs i x)))

-- one more link has its place
pub placed_more : {X : Type 0} (place_of : X → Option ℕ) (links : List Link) (xs : List X) (i : ℕ) (after : Link) (x : X) → i < length links → i < length xs → map (λ (link : Link). Some link.zone) (take i links) ≡ map place_of (take i xs) → Some after.zone ≡ place_of (get_or xs i x) → map (λ (link : Link). Some link.zone) (take (i + 1) (set links i after)) ≡ map place_of (take (i + 1) xs)
placed_more {X} place_of links xs i after x low within so_far here =
    rw (take_more_set links i after low, take_more xs i x within, map-append (λ (link : Link). Some link.zone) (take i links) (after ∷ []), map-append place_of (take i xs) (get_or xs i x ∷ []), so_far, here) refl

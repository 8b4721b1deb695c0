-- Lists that stand in order.
use Rattle.std.specs.Prelude.{ℕ, Bool, true, ◌&&◌, List, [], ◌∷◌}
use Rattle.std.specs.Ordering.{nat_cmp, is_lt}
use Rattle.std.specs.Cmp.Lexicographic.{slice_cmp}

-- the next element follows this one, and so on to the end
abbrev pub ascends_after : {A : Type 0} → (A → A → Bool) → A → List A → Bool
ascends_after before x [] = true
ascends_after before x (y ∷ ys) = before x y && ascends_after before y ys

-- each element stands before the next
abbrev pub ascends : {A : Type 0} → (A → A → Bool) → List A → Bool
ascends before [] = true
ascends before (x ∷ xs) = ascends_after before x xs

-- names are compared byte by byte, and a name before the longer ones that begin with it
abbrev pub name_before : List ℕ → List ℕ → Bool
name_before a b = is_lt (slice_cmp nat_cmp a b)

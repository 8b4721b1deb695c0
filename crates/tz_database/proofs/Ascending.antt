-- Lists that ascend by any order.
use Rattle.std.proofs.Common.{Bool, IsTrue, List, [], ◌∷◌, refl}
use Rattle.std.proofs.lemmas.Bool.{and_parts}
use Rattle.tz_types.specs.Order.{ascends, ascends_after}

-- what ascends behind a first element ascends without it
pub rest_ascends : {A : Type 0} (before : A → A → Bool) (low : A) (xs : List A) → IsTrue (ascends_after before low xs) → IsTrue (ascends before xs)
rest_ascends before low [] ascend = refl
rest_ascends before low (x ∷ xs) ascend = (and_parts (before low x) (ascends_after before x xs) ascend).1

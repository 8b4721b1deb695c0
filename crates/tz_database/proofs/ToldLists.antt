-- What is told of a list, one element after another.
use Rattle.std.proofs.Common.{◌≡◌, ℕ, ◌+◌, ◌<◌, List, [], ◌∷◌, ◌++◌, length, get_or, drop, Option, refl, sym}
use Rattle.std.specs.List.{filter_map}
use Rattle.std.proofs.lemmas.List.{drop_more}
use Rattle.std.proofs.lemmas.List.Elements.{filter_map-append}
use Rattle.tz_types.specs.declared.fault.LineFault.{LineFault}
use Rattle.tz_database.specs.LeastFault.{lesser, told_with}

pub told-append : (least : Option LineFault) (first second : List LineFault) → told_with least (first ++ second) ≡ told_with (told_with least first) second
told-append least [] second = refl
told-append least (fault ∷ first) second = told-append (lesser least fault) first second

-- one more of a list whose faults are those of each element
pub told_more : {A : Type 0} (f : A → List LineFault) (all : List A → List LineFault) → ((x : A) (xs : List A) → all (x ∷ xs) ≡ f x ++ all xs) → (xs : List A) (place : ℕ) (x : A) (least next : Option LineFault) → place < length xs → x ≡ get_or xs place x → next ≡ told_with least (f x) → told_with next (all (drop (place + 1) xs)) ≡ told_with least (all (drop place xs))
told_more {A} f all by_each xs place x least next low is e =
    let rest : drop place xs ≡ x ∷ drop (place + 1) xs = rw (drop_more xs place x low) (rw (← is) refl) in
    rw e (rw rest (rw (by_each x (drop (place + 1) xs)) (sym (told-append least (f x) (all (drop (place + 1) xs))))))

-- what some elements have, and then what some more have
pub told_in_turn : {A : Type 0} (f : A → Option LineFault) (first second : List A) (least between after : Option LineFault) → between ≡ told_with least (filter_map f first) → after ≡ told_with between (filter_map f second) → after ≡ told_with least (filter_map f (first ++ second))
told_in_turn {A} f first second least between after e h =
    rw (filter_map-append f first second) (rw (told-append least (filter_map f first) (filter_map f second)) (rw (← e) h))

-- some faults, and then some more
pub told_next : (first second : List LineFault) (least between after : Option LineFault) → between ≡ told_with least first → after ≡ told_with between second → after ≡ told_with least (first ++ second)
told_next first second least between after e h = rw (told-append least first second) (rw (← e) h)

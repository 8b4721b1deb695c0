-- What stands at the place of a name.
use Rattle.std.proofs.Common.{◌≡◌, ℕ, suc, ◌+◌, ◌<◌, Bool, true, false, not, cond, nat_lt, ◌&&◌, List, [], ◌∷◌, length, map, get_or, Option, Some, None, Result, Ok, Err, refl, sym, ◌∙◌, arith}
use Rattle.std.specs.List.{find, insert, position, position_or_len}
use Rattle.std.proofs.lemmas.Bool.{and_parts, and_from}
use Rattle.std.proofs.lemmas.Bool.Decides.{nat_tests}
use Rattle.std.proofs.lemmas.Slice.Eq.{bytes_eq-Decides}
use Rattle.tz_types.specs.Order.{ascends, ascends_after, name_before}
use Rattle.tz_specs.specs.Value.{is_exactly}
use Rattle.tz_database.specs.NamePlace.{name_place, one_later}
use Rattle.tz_database.proofs.NameOrder.{Ascend, AscendAfter, after-tail, after-rest, after-at, before_trans, before_other, differs_before}

pub place_same : (name other : List ℕ) (names : List (List ℕ)) → is_exactly other name ≡ true → name_place name (other ∷ names) ≡ Ok 0
unfolding name_place
place_same name other names e = rw e refl

pub place_before : (name other : List ℕ) (names : List (List ℕ)) → is_exactly other name ≡ false → name_before name other ≡ true → name_place name (other ∷ names) ≡ Err 0
unfolding name_place
place_before name other names e before = rw e (rw before refl)

pub place_later : (name other : List ℕ) (names : List (List ℕ)) → is_exactly other name ≡ false → name_before name other ≡ false → name_place name (other ∷ names) ≡ one_later (name_place name names)
unfolding name_place
place_later name other names e before = rw e (rw before refl)

pub place_empty : (name : List ℕ) → name_place name [] ≡ Err 0
unfolding name_place
place_empty name = refl

-- Where the first of some names stands by the one that is sought: it is the same, or a later one, or an earlier one.
pub data Stands (name other : List ℕ) (names : List (List ℕ)) : Type 0 where
  same_name : is_exactly other name ≡ true → name_place name (other ∷ names) ≡ Ok 0 → Stands name other names
  later_name : is_exactly other name ≡ false → name_before name other ≡ true → name_place name (other ∷ names) ≡ Err 0 → Stands name other names
  earlier_name : is_exactly other name ≡ false → name_before name other ≡ false → name_place name (other ∷ names) ≡ one_later (name_place name names) → Stands name other names

pub stands : (name other : List ℕ) (names : List (List ℕ)) → Stands name other names
stands name other names = by_same (is_exactly other name) (name_before name other) refl refl
  where
    by_same : (same before : Bool) → is_exactly other name ≡ same → name_before name other ≡ before → Stands name other names
    by_same true before e b = same_name e (place_same name other names e)
    by_same false true e b = later_name e b (place_before name other names e b)
    by_same false false e b = earlier_name e b (place_later name other names e b)

-- a place in the rest

pub data LaterPlace (later : Result ℕ ℕ) (place : ℕ) : Type 0 where
  later_place : (before : ℕ) → place ≡ suc before → later ≡ Ok before → LaterPlace later place

pub ok_later : (later : Result ℕ ℕ) (place : ℕ) → one_later later ≡ Ok place → LaterPlace later place
ok_later (Ok before) place e = later_place before (cc) refl
ok_later (Err before) place e = cc

pub data LaterGap (later : Result ℕ ℕ) (place : ℕ) : Type 0 where
  later_gap : (before : ℕ) → place ≡ suc before → later ≡ Err before → LaterGap later place

pub err_later : (later : Result ℕ ℕ) (place : ℕ) → one_later later ≡ Err place → LaterGap later place
err_later (Ok before) place e = cc
err_later (Err before) place e = later_gap before (cc) refl

-- names with one more in its place

after_inserted : (low name : List ℕ) (names : List (List ℕ)) (place : ℕ) → name_before low name ≡ true → ascends_after name_before low names ≡ true → name_place name names ≡ Err place → ascends_after name_before low (insert names place name) ≡ true
after_inserted low name [] place below up e =
    let none : place ≡ 0 = cc (place_empty name) in
    rw none (and_from (name_before low name) true below refl)
after_inserted low name (other ∷ names) place below up e =
    let here = (and_parts (name_before low other) (ascends_after name_before other names) up).0 in
    let later = (and_parts (name_before low other) (ascends_after name_before other names) up).1 in
    elim (stands name other names) [
      | same_name same is ↦ cc
      | later_name differs before is ↦
          (let none : place ≡ 0 = cc in
          rw none (and_from (name_before low name) (name_before name other && ascends_after name_before other names) below (and_from (name_before name other) (ascends_after name_before other names) before later)))
      | earlier_name differs before is ↦
          elim (err_later (name_place name names) place (sym is ∙ e)) [
            | later_gap early step there ↦
                rw step (and_from (name_before low other) (ascends_after name_before other (insert names early name)) here (after_inserted other name names early (before_other other name differs before) later there))
          ]
    ]

module _ {X : Type 0} (name_of : X → List ℕ) (name : List ℕ) where
  abbrev pub is_named : X → Bool
  is_named x = is_exactly (name_of x) name

  -- the name's place is in the list
  pub found-within : (xs : List X) (place : ℕ) → name_place name (map name_of xs) ≡ Ok place → place < length xs
  found-within [] place e = cc (place_empty name)
  found-within (x ∷ xs) place e =
      elim (stands name (name_of x) (map name_of xs)) [
        | same_name same is ↦ (let none : place ≡ 0 = cc in omega arith)
        | later_name differs before is ↦ cc
        | earlier_name differs before is ↦
            elim (ok_later (name_place name (map name_of xs)) place (sym is ∙ e)) [
              | later_place early step there ↦ (let low = found-within xs early there in omega arith)
            ]
      ]

  -- the first element of that name stands there
  pub found-find : (xs : List X) (place : ℕ) (d : X) → name_place name (map name_of xs) ≡ Ok place → find is_named xs ≡ Some (get_or xs place d)
  found-find [] place d e = cc (place_empty name)
  found-find (x ∷ xs) place d e =
      elim (stands name (name_of x) (map name_of xs)) [
        | same_name same is ↦ (let none : place ≡ 0 = cc in rw (same, none) refl)
        | later_name differs before is ↦ cc
        | earlier_name differs before is ↦
            elim (ok_later (name_place name (map name_of xs)) place (sym is ∙ e)) [
              | later_place early step there ↦ rw (differs, step) (found-find xs early d there)
            ]
      ]

  -- and has that name
  pub found-named : (xs : List X) (place : ℕ) (d : X) → name_place name (map name_of xs) ≡ Ok place → name_of (get_or xs place d) ≡ name
  found-named [] place d e = cc (place_empty name)
  found-named (x ∷ xs) place d e =
      elim (stands name (name_of x) (map name_of xs)) [
        | same_name same is ↦ (let none : place ≡ 0 = cc in rw none ((bytes_eq-Decides (name_of x) name).0 same))
        | later_name differs before is ↦ cc
        | earlier_name differs before is ↦
            elim (ok_later (name_place name (map name_of xs)) place (sym is ∙ e)) [
              | later_place early step there ↦ rw step (found-named xs early d there)
            ]
      ]

  found-prefix : (xs : List X) (place : ℕ) → name_place name (map name_of xs) ≡ Ok place → position_or_len is_named xs ≡ place
  found-prefix [] place e = cc (place_empty name)
  found-prefix (x ∷ xs) place e =
      elim (stands name (name_of x) (map name_of xs)) [
        | same_name same is ↦ (let none : place ≡ 0 = cc in rw (same, none) refl)
        | later_name differs before is ↦ cc
        | earlier_name differs before is ↦
            elim (ok_later (name_place name (map name_of xs)) place (sym is ∙ e)) [
              | later_place early step there ↦ (let rest = found-prefix xs early there in rw (differs, step, rest) (omega arith))
            ]
      ]

  pub found-position : (xs : List X) (place : ℕ) → name_place name (map name_of xs) ≡ Ok place → position is_named xs ≡ Some place
  found-position xs place e =
      let within : nat_lt place (length xs) ≡ true = (let low = found-within xs place e in grind (arith, nat_tests)) in
      rw (found-prefix xs place e) (rw within refl)

  -- no element has a name that has no place

  none_after : (xs : List X) (low : List ℕ) → name_before name low ≡ true → AscendAfter name_of low xs → find is_named xs ≡ None
  none_after [] low before h = refl
  none_after (x ∷ xs) low before h =
      let later : name_before name (name_of x) ≡ true = before_trans name low (name_of x) before (after-at name_of low (x ∷ xs) h 0 x (omega arith)) in
      rw (differs_before name (name_of x) later) (none_after xs (name_of x) later (after-rest name_of low x xs h))

  pub missing-find : (xs : List X) (place : ℕ) → Ascend name_of xs → name_place name (map name_of xs) ≡ Err place → find is_named xs ≡ None
  missing-find [] place h e = refl
  missing-find (x ∷ xs) place h e =
      elim (stands name (name_of x) (map name_of xs)) [
        | same_name same is ↦ cc
        | later_name differs before is ↦ rw differs (none_after xs (name_of x) before h)
        | earlier_name differs before is ↦
            elim (err_later (name_place name (map name_of xs)) place (sym is ∙ e)) [
              | later_gap early step there ↦ rw differs (missing-find xs early (after-tail name_of x xs h) there)
            ]
      ]

  none_placed : (xs : List X) → find is_named xs ≡ None → position_or_len is_named xs ≡ length xs
  none_placed [] e = refl
  none_placed (x ∷ xs) e = by_same (is_named x) (find is_named xs) (position_or_len is_named xs) (none_placed xs) e
    where
      by_same : (same : Bool) (later : Option X) (rest : ℕ) → (later ≡ None → rest ≡ length xs) → cond same (Some x) later ≡ None → cond (not same) (1 + rest) 0 ≡ suc (length xs)
      by_same true later rest next e = cc
      by_same false later rest next e = (let all = next e in omega arith)

  pub missing-position : (xs : List X) (place : ℕ) → Ascend name_of xs → name_place name (map name_of xs) ≡ Err place → position is_named xs ≡ None
  missing-position xs place h e =
      let all = none_placed xs (missing-find xs place h e) in
      let past : nat_lt (length xs) (length xs) ≡ false = grind (arith, nat_tests) in
      rw all (rw past refl)

-- How the operations of a script follow one another.
use Rattle.std.proofs.Common.{◌≡◌, ℕ, ◌<◌, ◌≤◌, nat_le, nat_lt, Bool, true, ◌&&◌, List, [], ◌∷◌, ◌++◌, IsTrue, refl, sym, ap, ◌∙◌, arith}
use Rattle.std.specs.List.{list_all}
use Rattle.std.proofs.lemmas.Bool.{and_parts}
use Rattle.std.proofs.lemmas.List.{append_assoc}
use Rattle.tz_types.specs.Order.{ascends, ascends_after}
use Rattle.tz_script.specs.Inside.{stands_before, all_stand_before, is_no_later, RoundsDontFall}
use Rattle.tz_script.specs.declared.operation.Operation.{Operation}

both_hold : (a b : Bool) → a ≡ true → b ≡ true → (a && b) ≡ true
both_hold a b h k = grind arith

-- What a test says of neighbours it says of any two, the one before the other, where it carries over.
module _ {A : Type 0} (test : A → A → Bool) (carries : (x y z : A) → test x y ≡ true → test y z ≡ true → test x z ≡ true) where
  onward_after : (first : A) (before : List A) (here : A) (later : List A) → ascends_after test first (before ++ here ∷ later) ≡ true → ascends_after test here later ≡ true
  onward_after first [] here later up = (and_parts (test first here) (ascends_after test here later) up).1
  onward_after first (next ∷ before) here later up =
      onward_after next before here later (and_parts (test first next) (ascends_after test next (before ++ here ∷ later)) up).1

  onward : (before : List A) (here : A) (later : List A) → ascends test (before ++ here ∷ later) ≡ true → ascends_after test here later ≡ true
  onward [] here later up = up
  onward (first ∷ before) here later up = onward_after first before here later up

  reaches : (a : A) (middle : List A) (b : A) (later : List A) → ascends_after test a (middle ++ b ∷ later) ≡ true → test a b ≡ true
  reaches a [] b later up = (and_parts (test a b) (ascends_after test b later) up).0
  reaches a (next ∷ middle) b later up =
      let both = and_parts (test a next) (ascends_after test next (middle ++ b ∷ later)) up in
      carries a next b both.0 (reaches next middle b later both.1)

  pub in_order : (all before middle later : List A) (a b : A) → ascends test all ≡ true → all ≡ before ++ a ∷ middle ++ b ∷ later → test a b ≡ true
  in_order all before middle later a b up is =
      let parts : all ≡ before ++ a ∷ (middle ++ b ∷ later) = is ∙ append_assoc before (a ∷ middle) (b ∷ later) in
      reaches a middle b later (onward before a (middle ++ b ∷ later) (sym (ap (ascends test) parts) ∙ up))

  all_reach : (first : A) (before : List A) (here : A) (later : List A) → ascends_after test first (before ++ here ∷ later) ≡ true → list_all (λ it. test it here) (first ∷ before) ≡ true
  all_reach first [] here later up =
      both_hold (test first here) true (and_parts (test first here) (ascends_after test here later) up).0 refl
  all_reach first (next ∷ before) here later up =
      both_hold (test first here) (list_all (λ it. test it here) (next ∷ before)) (reaches first (next ∷ before) here later up)
      (all_reach next before here later (and_parts (test first next) (ascends_after test next (before ++ here ∷ later)) up).1)

  all_up_to : (before : List A) (here : A) (later : List A) → ascends test (before ++ here ∷ later) ≡ true → list_all (λ it. test it here) before ≡ true
  all_up_to [] here later up = refl
  all_up_to (first ∷ before) here later up = all_reach first before here later up

  pub all_before : (all before later : List A) (here : A) → ascends test all ≡ true → all ≡ before ++ here ∷ later → list_all (λ it. test it here) before ≡ true
  all_before all before later here up is = all_up_to before here later (sym (ap (ascends test) is) ∙ up)

le_carries : (x y z : ℕ) → nat_le x y ≡ true → nat_le y z ≡ true → nat_le x z ≡ true
le_carries x y z h k = grind arith

lt_carries : (x y z : ℕ) → nat_lt x y ≡ true → nat_lt y z ≡ true → nat_lt x z ≡ true
lt_carries x y z h k = grind arith

rounds_carry : (x y z : Operation) → is_no_later x y ≡ true → is_no_later y z ≡ true → is_no_later x z ≡ true
rounds_carry x y z h k = le_carries x.round y.round z.round h k

lines_carry : (x y z : Operation) → stands_before x y ≡ true → stands_before y z ≡ true → stands_before x z ≡ true
lines_carry x y z h k = lt_carries x.line y.line z.line h k

from_le : (x y : ℕ) → nat_le x y ≡ true → x ≤ y
from_le x y h = grind arith

from_lt : (x y : ℕ) → nat_lt x y ≡ true → x < y
from_lt x y h = grind arith

-- rounds don't fall from an operation to any later one
pub rounds_dont_fall : (operations before middle later : List Operation) (a b : Operation) → RoundsDontFall operations → operations ≡ before ++ a ∷ middle ++ b ∷ later → a.round ≤ b.round
rounds_dont_fall operations before middle later a b up is =
    from_le a.round b.round (in_order is_no_later rounds_carry operations before middle later a b up is)

-- no operation before this one is of a later round
pub rounds_before : (operations before later : List Operation) (here : Operation) → RoundsDontFall operations → operations ≡ before ++ here ∷ later → IsTrue (list_all (λ it. is_no_later it here) before)
rounds_before operations before later here up is = all_before is_no_later rounds_carry operations before later here up is

-- lines rise from an operation to any later one
pub lines_rise : (operations before middle later : List Operation) (a b : Operation) → IsTrue (ascends stands_before operations) → operations ≡ before ++ a ∷ middle ++ b ∷ later → a.line < b.line
lines_rise operations before middle later a b up is =
    from_lt a.line b.line (in_order stands_before lines_carry operations before middle later a b up is)

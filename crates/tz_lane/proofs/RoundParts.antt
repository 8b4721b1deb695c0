-- The operations of a round, among those of a script.
use Rattle.std.proofs.Common.{◌≡◌, ℕ, zero, suc, ◌+◌, ◌-◌, ◌≤◌, ◌<◌, ◌≢◌, ltb, true, false, List, [], ◌∷◌, ◌++◌, length, take, drop, get_or, filter, refl, sym, ap, subst, length-drop, ◌∙◌, ⊎_elim, arith, nat_le}
use Rattle.std.specs.Prelude.{All, ◌==◌}
use Rattle.std.specs.List.{AllAdjacentBelow}
use Rattle.std.specs.List.Sorted.{IsPartitionedBy}
use Rattle.std.proofs.lemmas.Bool.{cases_Bool, and_parts, eqb-true, eq-eqb, ne_eqb, cond-true, cond-false}
use Rattle.std.proofs.lemmas.List.{take-append-drop, append-nil, append_assoc, take_all}
use Rattle.std.proofs.lemmas.List.Elements.{All-take, filter-append}
use Rattle.std.proofs.lemmas.List.Sorted.{IsPartitionedBy-ltb, IsNonDecreasingBy-from_all_adjacent}
use Rattle.tz_script.specs.Inside.{is_no_later, RoundsDontFall}
use Rattle.tz_script.specs.Keeping.{is_in}
use Rattle.tz_script.specs.declared.operation.Operation.{Operation}
use Rattle.tz_types.specs.Order.{ascends_after}
use Rattle.tz_lane.specs.Lane.{lane_operations, round_operations}
use Rattle.tz_lane.specs.Parts.{StandTogether}

-- ---- rounds that don't fall ----

behind_first : (x : Operation) (xs : List Operation) → RoundsDontFall (x ∷ xs) → RoundsDontFall xs
behind_first x [] up = refl
behind_first x (y ∷ ys) up = (and_parts (is_no_later x y) (ascends_after is_no_later y ys) up).1

-- they don't fall in what stands behind a place
pub rest_doesnt_fall : (n : ℕ) (xs : List Operation) → RoundsDontFall xs → RoundsDontFall (drop n xs)
rest_doesnt_fall zero xs up = up
rest_doesnt_fall (suc n) [] up = refl
rest_doesnt_fall (suc n) (x ∷ xs) up = rest_doesnt_fall n xs (behind_first x xs up)

from_le : (x y : ℕ) → nat_le x y ≡ true → x ≤ y
from_le x y h = grind arith

adjacent : (xs : List Operation) → RoundsDontFall xs → AllAdjacentBelow (λ (x y : Operation). x.round ≤ y.round) xs (length xs)
adjacent [] up k d low = absurd (omega (arith, low))
adjacent (x ∷ []) up k d low = absurd (omega (arith, low))
adjacent (x ∷ y ∷ ys) up zero d low = from_le x.round y.round (and_parts (is_no_later x y) (ascends_after is_no_later y ys) up).0
adjacent (x ∷ y ∷ ys) up (suc k) d low =
    let next : suc (k + 1) ≡ suc k + 1 = omega arith in
    subst (λ (j : ℕ). (get_or (y ∷ ys) k d).round ≤ (get_or (x ∷ y ∷ ys) j d).round) next (adjacent (y ∷ ys) (behind_first x (y ∷ ys) up) k d (omega (arith, low)))

-- the operations of earlier rounds stand before the others
pub rounds_partitioned : (xs : List Operation) (round : ℕ) → RoundsDontFall xs → IsPartitionedBy (λ (x : Operation). ltb x.round round) xs
rounds_partitioned xs round up =
    IsPartitionedBy-ltb (λ (x : Operation). x.round) xs round (IsNonDecreasingBy-from_all_adjacent (λ (x : Operation). x.round) xs (adjacent xs up))

-- what no test says is below isn't
pub none_below : (x y : ℕ) → ltb x y ≡ false → y ≤ x
none_below x y h = grind arith

-- what holds at each place before this one holds of each element up to there
pub taken_pass : {X : Type 0} (P : X → Type 0) (n : ℕ) (xs : List X) → ((k : ℕ) (d : X) → k < n → k < length xs → P (get_or xs k d)) → All P (take n xs)
taken_pass P zero xs holds k d low = absurd (omega (arith, low))
taken_pass P (suc n) [] holds k d low = absurd (omega (arith, low))
taken_pass P (suc n) (x ∷ xs) holds zero d low = holds zero d (omega arith) (omega arith)
taken_pass P (suc n) (x ∷ xs) holds (suc k) d low = taken_pass P n xs (λ j e a b. holds (suc j) e (omega (arith, a)) (omega (arith, b))) k d (omega (arith, low))

-- what holds at each place from this one on holds of each element from there
pub dropped_pass : {X : Type 0} (P : X → Type 0) (n : ℕ) (xs : List X) → ((k : ℕ) (d : X) → n ≤ k → k < length xs → P (get_or xs k d)) → All P (drop n xs)
dropped_pass P zero xs holds k d low = holds k d (omega arith) low
dropped_pass P (suc n) [] holds k d low = absurd (omega (arith, low))
dropped_pass P (suc n) (x ∷ xs) holds k d low = dropped_pass P n xs (λ j e a b. holds (suc j) e (omega (arith, a)) (omega (arith, b))) k d low

-- ---- the part of a round ----

other_round : (lane round : ℕ) (x : Operation) → x.round ≢ round → is_in lane round x ≡ false
other_round lane round x away =
    ⊎_elim
    (λ (here : is_in lane round x ≡ true). absurd (away (eqb-true x.round round (and_parts (x.lane == lane) (x.round == round) here).1)))
    (λ (there : is_in lane round x ≡ false). there)
    (cases_Bool (is_in lane round x))

-- a lane has nothing to do in operations of other rounds
none_in : (lane round : ℕ) (xs : List Operation) → All (λ (x : Operation). x.round ≢ round) xs → filter (is_in lane round) xs ≡ []
none_in lane round [] away = refl
none_in lane round (x ∷ xs) away =
    cond-false (is_in lane round x) (x ∷ filter (is_in lane round) xs) (filter (is_in lane round) xs) (other_round lane round x (away zero x (omega arith)))
    ∙ none_in lane round xs (λ k d low. away (suc k) d (omega (arith, low)))

-- what is left of all operations once those of earlier and of later rounds are off is all of the round
pub round_whole : (lane round n m : ℕ) (all : List Operation) → All (λ (x : Operation). x.round < round) (take n all) → All (λ (x : Operation). round + 1 ≤ x.round) (drop m (drop n all))
    → lane_operations lane round (take m (drop n all)) ≡ lane_operations lane round all
round_whole lane round n m all earlier later =
    let p = is_in lane round in let rest = drop n all in
    let before : filter p (take n all) ≡ [] = none_in lane round (take n all) (λ k d low same. (let less = earlier k d low in omega (arith, less, same))) in
    let behind : filter p (drop m rest) ≡ [] = none_in lane round (drop m rest) (λ k d low same. (let more = later k d low in omega (arith, more, same))) in
    let right : filter p rest ≡ filter p (take m rest) = ap (filter p) (sym (take-append-drop m rest)) ∙ filter-append p (take m rest) (drop m rest) ∙ ap (λ those. filter p (take m rest) ++ those) behind ∙ append-nil (filter p (take m rest)) in
    let left : filter p all ≡ filter p rest = ap (filter p) (sym (take-append-drop n all)) ∙ filter-append p (take n all) rest ∙ ap (λ those. those ++ filter p rest) before in
    sym (left ∙ right)

-- ---- the operations of a round ----

-- one of another round isn't of this one
not_of : (round : ℕ) (x : Operation) → x.round ≢ round → (x.round == round) ≡ false
not_of round x away = ne_eqb x.round round away

none_of : (round : ℕ) (xs : List Operation) → All (λ (x : Operation). x.round ≢ round) xs → round_operations round xs ≡ []
none_of round [] away = refl
none_of round (x ∷ xs) away =
    cond-false (x.round == round) (x ∷ round_operations round xs) (round_operations round xs) (not_of round x (away zero x (omega arith)))
    ∙ none_of round xs (λ k d low. away (suc k) d (omega (arith, low)))

all_of : (round : ℕ) (xs : List Operation) → All (λ (x : Operation). x.round ≡ round) xs → round_operations round xs ≡ xs
all_of round [] here = refl
all_of round (x ∷ xs) here =
    cond-true (x.round == round) (x ∷ round_operations round xs) (round_operations round xs) (eq-eqb x.round round (here zero x (omega arith)))
    ∙ ap (λ (those : List Operation). x ∷ those) (all_of round xs (λ k d low. here (suc k) d (omega (arith, low))))

-- what is left once those of earlier and of later rounds are off are the operations of the round
round_is : (round n m : ℕ) (all : List Operation) → All (λ (x : Operation). x.round < round) (take n all) → All (λ (x : Operation). round ≤ x.round) (drop n all)
    → All (λ (x : Operation). x.round < round + 1) (take m (drop n all)) → All (λ (x : Operation). round + 1 ≤ x.round) (drop m (drop n all))
    → take m (drop n all) ≡ round_operations round all
round_is round n m all earlier from up_to later =
    let p = λ (x : Operation). x.round == round in let rest = drop n all in
    let before : filter p (take n all) ≡ [] = none_of round (take n all) (λ k d low same. (let less = earlier k d low in omega (arith, less, same))) in
    let behind : filter p (drop m rest) ≡ [] = none_of round (drop m rest) (λ k d low same. (let more = later k d low in omega (arith, more, same))) in
    let those : filter p (take m rest) ≡ take m rest = all_of round (take m rest)
    (λ k d low. let inside = All-take (λ (x : Operation). round ≤ x.round) m rest from k d low in let below = up_to k d low in omega (arith, inside, below)) in
    let right : filter p rest ≡ filter p (take m rest) = ap (filter p) (sym (take-append-drop m rest)) ∙ filter-append p (take m rest) (drop m rest) ∙ ap (λ xs. filter p (take m rest) ++ xs) behind ∙ append-nil (filter p (take m rest)) in
    let left : filter p all ≡ filter p rest = ap (filter p) (sym (take-append-drop n all)) ∙ filter-append p (take n all) rest ∙ ap (λ xs. xs ++ filter p rest) before in
    sym (left ∙ right ∙ those)

-- and it stands together
pub round_together : (n m : ℕ) (all : List Operation) → StandTogether all (take m (drop n all))
round_together n m all = record {
  before = take n all;
  behind = drop m (drop n all);
  is = sym (append_assoc (take n all) (take m (drop n all)) (drop m (drop n all)) ∙ ap (λ (those : List Operation). take n all ++ those) (take-append-drop m (drop n all)) ∙ take-append-drop n all);
}

-- ---- slices ----

-- a slice from a place on
from_on : (n : ℕ) (all : List Operation) → take (length all - n) (drop n all) ≡ drop n all
from_on n all = take_all (length all - n) (drop n all) (let long = length-drop n all in omega (arith, long))

module _ (n : ℕ) (all given : List Operation) (same : given ≡ all) where
  -- rounds don't fall in it
  pub slice_doesnt_fall : RoundsDontFall all → RoundsDontFall (take (length given - n) (drop n given))
  slice_doesnt_fall up =
      subst RoundsDontFall (sym (from_on n given)) (rest_doesnt_fall n given (subst RoundsDontFall (sym same) up))

  -- its first so many stand together
  pub slice_together : (m : ℕ) → StandTogether all (take m (take (length given - n) (drop n given)))
  slice_together m =
      subst (λ (those : List Operation). StandTogether those (take m (take (length given - n) (drop n given)))) same
      (subst (λ (rest : List Operation). StandTogether given (take m rest)) (sym (from_on n given)) (round_together n m given))

  -- and are all of the round
  pub slice_whole : (m round : ℕ) → All (λ (x : Operation). x.round < round) (take n given) → All (λ (x : Operation). round + 1 ≤ x.round) (drop m (take (length given - n) (drop n given)))
      → (lane : ℕ) → lane_operations lane round (take m (take (length given - n) (drop n given))) ≡ lane_operations lane round all
  slice_whole m round earlier later lane =
      ap (λ (rest : List Operation). lane_operations lane round (take m rest)) (from_on n given)
      ∙ round_whole lane round n m given earlier (subst (λ (rest : List Operation). All (λ (x : Operation). round + 1 ≤ x.round) (drop m rest)) (from_on n given) later)
      ∙ ap (lane_operations lane round) same

  -- and are the operations of the round
  pub slice_is : (m round : ℕ) → All (λ (x : Operation). x.round < round) (take n given) → All (λ (x : Operation). round ≤ x.round) (drop n given)
      → All (λ (x : Operation). x.round < round + 1) (take m (take (length given - n) (drop n given))) → All (λ (x : Operation). round + 1 ≤ x.round) (drop m (take (length given - n) (drop n given)))
      → take m (take (length given - n) (drop n given)) ≡ round_operations round all
  slice_is m round earlier from up_to later =
      ap (take m) (from_on n given)
      ∙ round_is round n m given earlier from
      (subst (λ (rest : List Operation). All (λ (x : Operation). x.round < round + 1) (take m rest)) (from_on n given) up_to)
      (subst (λ (rest : List Operation). All (λ (x : Operation). round + 1 ≤ x.round) (drop m rest)) (from_on n given) later)
      ∙ ap (round_operations round) same

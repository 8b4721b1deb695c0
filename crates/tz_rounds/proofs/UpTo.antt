-- The operations of the rounds up to one, and of the round after it.
use Rattle.std.proofs.Common.{◌≡◌, ℕ, zero, suc, ◌+◌, ◌≤◌, ◌<◌, ◌==◌, nat_le, Bool, true, false, ◌&&◌, cond, List, [], ◌∷◌, ◌++◌, get_or, count_by, refl, sym, ap, ◌∙◌, ⊎_elim, arith}
use Rattle.std.specs.Prelude.{All}
use Rattle.std.specs.List.{filter, list_all}
use Rattle.std.proofs.lemmas.Bool.{and_parts, cases_Bool, cond_both, cond-true, cond-false, leb-true}
use Rattle.std.proofs.lemmas.List.Elements.{All-weaker}
use Rattle.std.proofs.lemmas.List.Sums.{AllPass-from_list_all, sum_by-cons}
use Rattle.tz_types.specs.Order.{ascends_after}
use Rattle.tz_script.specs.Inside.{change_count, is_inside, is_no_later, RoundsDontFall}
use Rattle.tz_script.specs.Operation.{is_change}
use Rattle.tz_script.specs.declared.operation.Operation.{Operation}
use Rattle.tz_lane.specs.Lane.{round_operations}
use Rattle.tz_rounds.specs.RoundRun.{operations_up_to}
use Rattle.tz_rounds.proofs.Lists.{count_parts, filter_all, filter_none, filter_same}

-- ---- where operations stand ----

-- each operation is of a lane and a round of the script
pub record StandsIn (lanes rounds : ℕ) (operation : Operation) : Type 0 where
  pub some_lane : 1 ≤ operation.lane
  pub few_lanes : operation.lane ≤ lanes
  pub some_round : 1 ≤ operation.round
  pub few_rounds : operation.round ≤ rounds

stands_in : (lanes rounds : ℕ) (operation : Operation) → is_inside lanes rounds operation ≡ true → StandsIn lanes rounds operation
stands_in lanes rounds operation inside =
    let lane = operation.lane in let round = operation.round in
    let both = and_parts (nat_le 1 lane && nat_le lane lanes) (nat_le 1 round && nat_le round rounds) inside in
    let first = and_parts (nat_le 1 lane) (nat_le lane lanes) both.0 in
    let second = and_parts (nat_le 1 round) (nat_le round rounds) both.1 in
    record {
      some_lane = leb-true 1 lane first.0;
      few_lanes = leb-true lane lanes first.1;
      some_round = leb-true 1 round second.0;
      few_rounds = leb-true round rounds second.1;
    }

pub all_stand_in : (lanes rounds : ℕ) (operations : List Operation) → list_all (is_inside lanes rounds) operations ≡ true → All (StandsIn lanes rounds) operations
all_stand_in lanes rounds operations inside =
    All-weaker (λ (operation : Operation). is_inside lanes rounds operation ≡ true) (StandsIn lanes rounds) (stands_in lanes rounds) operations
    (AllPass-from_list_all (is_inside lanes rounds) operations inside)

-- a filter keeps no more of what is counted
filter_few : {A : Type 0} (counted test : A → Bool) (xs : List A) → count_by counted (filter test xs) ≤ count_by counted xs
filter_few counted test [] = omega arith
filter_few {A} counted test (x ∷ xs) =
    cond_both (test x) (x ∷ filter test xs) (filter test xs) (λ (ys : List A). count_by counted ys ≤ count_by counted (x ∷ xs))
    (λ pass. omega (arith, sum_by-cons (λ (it : A). cond (counted it) 1 0) x (filter test xs), sum_by-cons (λ (it : A). cond (counted it) 1 0) x xs, filter_few counted test xs))
    (λ fail. omega (arith, sum_by-cons (λ (it : A). cond (counted it) 1 0) x xs, filter_few counted test xs))

-- ---- the rounds up to one ----

abbrev up_to : ℕ → Operation → Bool
up_to round operation = nat_le operation.round round

abbrev is_of : ℕ → Operation → Bool
is_of round operation = operation.round == round

above_none : (round other : ℕ) → round < other → nat_le other round ≡ false
above_none round other more = grind arith

-- before the first round there are none
pub up_to_none : (lanes rounds : ℕ) (operations : List Operation) → All (StandsIn lanes rounds) operations → operations_up_to 0 operations ≡ []
up_to_none lanes rounds operations inside =
    filter_none (up_to 0) operations (λ k d low. above_none 0 (get_or operations k d).round (let some = (inside k d low).some_round in omega (arith, some)))

le_true : (a b : ℕ) → a ≤ b → nat_le a b ≡ true
le_true a b less = grind arith

-- after the last one there are all
pub up_to_all : (lanes rounds : ℕ) (operations : List Operation) → All (StandsIn lanes rounds) operations → operations_up_to rounds operations ≡ operations
up_to_all lanes rounds operations inside =
    filter_all (up_to rounds) operations (λ k d low. le_true (get_or operations k d).round rounds (inside k d low).few_rounds)

-- those behind an operation are of no earlier round
none_earlier : (round : ℕ) (operation : Operation) (operations : List Operation) → round < operation.round → ascends_after is_no_later operation operations ≡ true → All (λ (it : Operation). round < it.round) (operation ∷ operations)
none_earlier round operation operations more up zero d low = more
none_earlier round operation [] more up (suc k) d low = absurd (omega (arith, low))
none_earlier round operation (next ∷ operations) more up (suc k) d low =
    let both = and_parts (is_no_later operation next) (ascends_after is_no_later next operations) up in
    let after : operation.round ≤ next.round = leb-true operation.round next.round both.0 in
    none_earlier round next operations (omega (arith, more, after)) both.1 k d (omega (arith, low))

behind : (operation : Operation) (operations : List Operation) → RoundsDontFall (operation ∷ operations) → RoundsDontFall operations
behind operation [] up = refl
behind operation (next ∷ operations) up = (and_parts (is_no_later operation next) (ascends_after is_no_later next operations) up).1

same_next : (round other : ℕ) → round < other → nat_le other (round + 1) ≡ (other == round + 1)
same_next round other more = grind arith

low_next : (round other : ℕ) → other ≤ round → nat_le other (round + 1) ≡ true
low_next round other less = grind arith

not_next : (round other : ℕ) → other ≤ round → (other == round + 1) ≡ false
not_next round other less = grind arith

false_above : (round other : ℕ) → nat_le other round ≡ false → round < other
false_above round other is = grind arith

-- With one round more, those of that round stand behind the others.
pub up_to_next : (round : ℕ) (operations : List Operation) → RoundsDontFall operations → operations_up_to (round + 1) operations ≡ operations_up_to round operations ++ round_operations (round + 1) operations
up_to_next round [] up = refl
up_to_next round (operation ∷ operations) up =
    ⊎_elim
    (λ (low : nat_le operation.round round ≡ true). earlier (leb-true operation.round round low) low (up_to_next round operations (behind operation operations up)))
    (λ (high : nat_le operation.round round ≡ false). later (none_earlier round operation operations (false_above round operation.round high) up))
    (cases_Bool (nat_le operation.round round))
  where
    earlier : operation.round ≤ round → nat_le operation.round round ≡ true → operations_up_to (round + 1) operations ≡ operations_up_to round operations ++ round_operations (round + 1) operations
        → operations_up_to (round + 1) (operation ∷ operations) ≡ operations_up_to round (operation ∷ operations) ++ round_operations (round + 1) (operation ∷ operations)
    earlier less low rest =
        cond-true (up_to (round + 1) operation) (operation ∷ operations_up_to (round + 1) operations) (operations_up_to (round + 1) operations) (low_next round operation.round less)
        ∙ ap (λ (more : List Operation). operation ∷ more) rest
        ∙ sym
        (ap (λ (xs : List Operation). xs ++ round_operations (round + 1) (operation ∷ operations)) (cond-true (up_to round operation) (operation ∷ operations_up_to round operations) (operations_up_to round operations) low)
        ∙ ap (λ (xs : List Operation). (operation ∷ operations_up_to round operations) ++ xs)
        (cond-false (is_of (round + 1) operation) (operation ∷ round_operations (round + 1) operations) (round_operations (round + 1) operations) (not_next round operation.round less)))

    later : All (λ (it : Operation). round < it.round) (operation ∷ operations) → operations_up_to (round + 1) (operation ∷ operations) ≡ operations_up_to round (operation ∷ operations) ++ round_operations (round + 1) (operation ∷ operations)
    later all =
        let those = operation ∷ operations in
        let first : operations_up_to round those ≡ [] = filter_none (up_to round) those (λ k d low. above_none round (get_or those k d).round (all k d low)) in
        let second : operations_up_to (round + 1) those ≡ round_operations (round + 1) those =
        filter_same (up_to (round + 1)) (is_of (round + 1)) those (λ k d low. same_next round (get_or those k d).round (all k d low)) in
        second ∙ ap (λ (xs : List Operation). xs ++ round_operations (round + 1) those) (sym first)

-- The changes of a round and of those before it are no more than all.
pub up_to_few : (round : ℕ) (operations : List Operation) → RoundsDontFall operations → change_count (operations_up_to round operations) + change_count (round_operations (round + 1) operations) ≤ change_count operations
up_to_few round operations up =
    let both = count_parts (λ (it : Operation). is_change it.op) (operations_up_to round operations) (round_operations (round + 1) operations) in
    let next = ap change_count (up_to_next round operations up) in
    let few = filter_few (λ (it : Operation). is_change it.op) (up_to (round + 1)) operations in
    omega (arith, both, next, few)

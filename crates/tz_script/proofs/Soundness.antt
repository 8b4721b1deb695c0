-- Where the operations of a script stand, with one line more.
use Rattle.std.proofs.Common.{◌≡◌, ℕ, ◌+◌, ◌<◌, ◌≤◌, nat_lt, nat_le, Bool, true, false, not, ◌&&◌, ◌||◌, List, [], ◌∷◌, ◌++◌, length, Option, None, IsTrue, length-append, refl, ap, ◌∙◌, cond, arith}
use Rattle.std.specs.List.{list_all}
use Rattle.std.proofs.lemmas.Bool.{and_parts}
use Rattle.std.proofs.lemmas.List.Elements.{All-append, All-cons}
use Rattle.std.proofs.lemmas.List.Folds.{list_all-append}
use Rattle.std.proofs.lemmas.List.Sums.{sum_by-append}
use Rattle.tz_types.specs.Civil.{is_from_to}
use Rattle.tz_types.specs.Order.{ascends, ascends_after}
use Rattle.tz_script.specs.Cause.{least_script_cause}
use Rattle.tz_script.specs.Contents.{ScriptContents}
use Rattle.tz_script.specs.Inside.{lane_count, is_inside, stands_before, is_no_later, RoundsDontFall, all_stand_before, change_count, IsOrderly}
use Rattle.tz_script.specs.Line.{standing_causes, is_held_twice, is_unknown, is_crowded, is_missing, is_late}
use Rattle.tz_script.specs.Operation.{is_change, hold_begun, hold_needed, source_asked}
use Rattle.tz_script.specs.Size.{IsSized, AreSized}
use Rattle.tz_script.specs.declared.cause.ScriptCause.TheVariants as causes
use Rattle.tz_script.specs.declared.limit.TheConstants.{MOST_OPERATIONS, MOST_CHANGES}
use Rattle.tz_script.specs.declared.operation.Op.{Op}
use Rattle.tz_script.specs.declared.operation.Operation.{Operation}

and_true : (a b : Bool) → a ≡ true → b ≡ true → (a && b) ≡ true
and_true a b h k = grind arith

wider : (low high more n : ℕ) → high ≤ more → is_from_to low high n ≡ true → is_from_to low more n ≡ true
wider low high more n le h = grind arith

inside_more : (lanes more_lanes rounds more_rounds : ℕ) (operations : List Operation) → lanes ≤ more_lanes → rounds ≤ more_rounds → list_all (is_inside lanes rounds) operations ≡ true → list_all (is_inside more_lanes more_rounds) operations ≡ true
inside_more lanes more_lanes rounds more_rounds [] a b h = refl
inside_more lanes more_lanes rounds more_rounds (operation ∷ operations) a b h =
    let both = and_parts (is_inside lanes rounds operation) (list_all (is_inside lanes rounds) operations) h in
    let here = and_parts (is_from_to 1 lanes operation.lane) (is_from_to 1 rounds operation.round) both.0 in
    and_true (is_inside more_lanes more_rounds operation) (list_all (is_inside more_lanes more_rounds) operations)
    (and_true (is_from_to 1 more_lanes operation.lane) (is_from_to 1 more_rounds operation.round) (wider 1 lanes more_lanes operation.lane a here.0) (wider 1 rounds more_rounds operation.round b here.1))
    (inside_more lanes more_lanes rounds more_rounds operations a b both.1)

later_line : (line number : ℕ) → nat_lt line number ≡ true → nat_lt line (number + 1) ≡ true
later_line line number h = grind arith

-- what stands before a line stands before the next
pub before_next : (number : ℕ) (operations : List Operation) → all_stand_before number operations ≡ true → all_stand_before (number + 1) operations ≡ true
before_next number [] h = refl
before_next number (operation ∷ operations) h =
    let both = and_parts (nat_lt operation.line number) (all_stand_before number operations) h in
    and_true (nat_lt operation.line (number + 1)) (all_stand_before (number + 1) operations) (later_line operation.line number both.0) (before_next number operations both.1)

this_line : (number : ℕ) → nat_lt number (number + 1) ≡ true
this_line number = grind arith

-- the operation of a line stands before the next line
pub before_pushed : (number : ℕ) (operations : List Operation) (operation : Operation) → operation.line ≡ number → all_stand_before number operations ≡ true → all_stand_before (number + 1) (operations ++ operation ∷ []) ≡ true
before_pushed number operations operation e h =
    list_all-append (λ (it : Operation). nat_lt it.line (number + 1)) operations (operation ∷ [])
    ∙ and_true (all_stand_before (number + 1) operations) (all_stand_before (number + 1) (operation ∷ [])) (before_next number operations h)
    (and_true (nat_lt operation.line (number + 1)) true (rw e (this_line number)) refl)

after_pushed : (first : Operation) (operations : List Operation) (operation : Operation) → ascends_after stands_before first operations ≡ true → all_stand_before operation.line (first ∷ operations) ≡ true → ascends_after stands_before first (operations ++ operation ∷ []) ≡ true
after_pushed first [] operation rising before = before
after_pushed first (next ∷ operations) operation rising before =
    let both = and_parts (stands_before first next) (ascends_after stands_before next operations) rising in
    let later = and_parts (nat_lt first.line operation.line) (all_stand_before operation.line (next ∷ operations)) before in
    and_true (stands_before first next) (ascends_after stands_before next (operations ++ operation ∷ [])) both.0 (after_pushed next operations operation both.1 later.1)

rising_pushed : (operations : List Operation) (operation : Operation) → ascends stands_before operations ≡ true → all_stand_before operation.line operations ≡ true → ascends stands_before (operations ++ operation ∷ []) ≡ true
rising_pushed [] operation rising before = refl
rising_pushed (first ∷ operations) operation rising before = after_pushed first operations operation rising before

no_later : (lanes rounds : ℕ) (first next : Operation) → is_inside lanes rounds first ≡ true → next.round ≡ rounds → is_no_later first next ≡ true
no_later lanes rounds first next inside here =
    let within = and_parts (is_from_to 1 lanes first.lane) (is_from_to 1 rounds first.round) inside in
    by_number first.round next.round within.1 here
  where
    by_number : (a b : ℕ) → is_from_to 1 rounds a ≡ true → b ≡ rounds → nat_le a b ≡ true
    by_number a b low here = grind arith

no_later_pushed : (lanes rounds : ℕ) (first : Operation) (operations : List Operation) (operation : Operation) → ascends_after is_no_later first operations ≡ true → list_all (is_inside lanes rounds) (first ∷ operations) ≡ true → operation.round ≡ rounds → ascends_after is_no_later first (operations ++ operation ∷ []) ≡ true
no_later_pushed lanes rounds first [] operation rising inside here =
    let parts = and_parts (is_inside lanes rounds first) true inside in
    and_true (is_no_later first operation) true (no_later lanes rounds first operation parts.0 here) refl
no_later_pushed lanes rounds first (next ∷ operations) operation rising inside here =
    let both = and_parts (is_no_later first next) (ascends_after is_no_later next operations) rising in
    let parts = and_parts (is_inside lanes rounds first) (list_all (is_inside lanes rounds) (next ∷ operations)) inside in
    and_true (is_no_later first next) (ascends_after is_no_later next (operations ++ operation ∷ [])) both.0 (no_later_pushed lanes rounds next operations operation both.1 parts.1 here)

-- one more operation of the last round
pub rounds_pushed : (lanes rounds : ℕ) (operations : List Operation) (operation : Operation) → RoundsDontFall operations → list_all (is_inside lanes rounds) operations ≡ true → operation.round ≡ rounds → RoundsDontFall (operations ++ operation ∷ [])
rounds_pushed lanes rounds [] operation rising inside here = refl
rounds_pushed lanes rounds (first ∷ operations) operation rising inside here = no_later_pushed lanes rounds first operations operation rising inside here

pub sound_round : (lanes : Option ℕ) (rounds : ℕ) (operations : List Operation) → IsOrderly lanes rounds operations → IsOrderly lanes (rounds + 1) operations
sound_round lanes rounds operations sound =
    record {
      lanes_in = sound.lanes_in;
      few = sound.few;
      inside = inside_more (lane_count lanes) (lane_count lanes) rounds (rounds + 1) operations (omega arith) (omega arith) sound.inside;
      rising = sound.rising;
    }

within : (low high n : ℕ) → low ≤ n → n ≤ high → is_from_to low high n ≡ true
within low high n le ge = grind arith

pub sound_operation : (lanes : Option ℕ) (rounds : ℕ) (operations : List Operation) (operation : Operation) → IsOrderly lanes rounds operations → length operations < MOST_OPERATIONS → operation.round ≡ rounds → 1 ≤ rounds → 1 ≤ operation.lane → operation.lane ≤ lane_count lanes → all_stand_before operation.line operations ≡ true → IsOrderly lanes rounds (operations ++ operation ∷ [])
sound_operation lanes rounds operations operation sound room here begun low high before =
    record {
      lanes_in = sound.lanes_in;
      few = simp length-append (omega arith);
      inside =
          list_all-append (is_inside (lane_count lanes) rounds) operations (operation ∷ [])
          ∙ and_true (list_all (is_inside (lane_count lanes) rounds) operations) (list_all (is_inside (lane_count lanes) rounds) (operation ∷ [])) sound.inside
          (and_true (is_inside (lane_count lanes) rounds operation) true (and_true (is_from_to 1 (lane_count lanes) operation.lane) (is_from_to 1 rounds operation.round) (within 1 (lane_count lanes) operation.lane low high) (rw here (within 1 rounds rounds begun (omega arith)))) refl);
      rising = rising_pushed operations operation sound.rising before;
    }

-- one more reload or erasure, where it is one
pub counted_pushed : (operations : List Operation) (operation : Operation) → change_count (operations ++ operation ∷ []) ≡ change_count operations + cond (is_change operation.op) 1 0
counted_pushed operations operation =
    sum_by-append (λ (it : Operation). cond (is_change it.op) 1 0) operations (operation ∷ [])
    ∙ ap (λ n. change_count operations + n) (zero_plus (cond (is_change operation.op) 1 0))
  where
    zero_plus : (n : ℕ) → 0 + n ≡ n
    zero_plus n = omega arith

last_of_five : (a b c d e : Bool) → least_script_cause ((causes.HoldTwice, a) ∷ (causes.HoldUnknown, b) ∷ (causes.TooManyHolds, c) ∷ (causes.SourceIndex, d) ∷ (causes.Limit, e) ∷ []) ≡ None → e ≡ false
last_of_five a b c d false h = refl
last_of_five true b c d true h = cc
last_of_five false true c d true h = cc
last_of_five false false true d true h = cc
last_of_five false false false true true h = cc
last_of_five false false false false true h = cc

-- an operation without a cause isn't one too many
pub not_late : (sources : ℕ) (contents : ScriptContents) (lane : ℕ) (op : Op) → least_script_cause (standing_causes sources contents lane op) ≡ None → IsTrue (not (is_late contents op))
not_late sources contents lane op none =
    let late = last_of_five (is_held_twice lane contents.holds (hold_begun op)) (is_unknown lane contents.holds (hold_needed op)) (is_crowded lane contents.holds (hold_begun op)) (is_missing sources (source_asked op)) (is_late contents op) none in
    rw late refl

-- how many operations and changes there are where one more isn't too many
pub room_for_operation : (contents : ScriptContents) (op : Op) → IsTrue (not (is_late contents op)) → length contents.operations < MOST_OPERATIONS
room_for_operation contents op may = grind arith

pub room_for_change : (contents : ScriptContents) (op : Op) → IsTrue (not (is_late contents op)) → contents.changes ≤ MOST_CHANGES → contents.changes + cond (is_change op) 1 0 ≤ MOST_CHANGES
room_for_change contents op may few = by_change (is_change op) (length contents.operations) contents.changes may few
  where
    by_change : (change : Bool) (operations changes : ℕ) → IsTrue (not (nat_le MOST_OPERATIONS operations || (change && nat_le MOST_CHANGES changes))) → changes ≤ MOST_CHANGES → changes + cond change 1 0 ≤ MOST_CHANGES
    by_change true operations changes may few = grind arith
    by_change false operations changes may few = omega arith

-- one more operation of its size
pub sized_pushed : (operations : List Operation) (operation : Operation) → AreSized operations → IsSized operation.op → AreSized (operations ++ operation ∷ [])
sized_pushed operations operation sized here =
    All-append (λ (it : Operation). IsSized it.op) operations (operation ∷ []) sized
    (All-cons (λ (it : Operation). IsSized it.op) operation [] here (λ k d low. absurd (omega arith)))

-- What a script keeps: how many lanes, rounds and operations it has, and where its operations stand.
use Rattle.std.specs.Prelude.{ℕ, ◌≤◌, nat_le, nat_lt, Bool, true, ◌&&◌, List, length, count_by, Option, Some, None, IsTrue}
use Rattle.std.specs.List.{list_all}
use Rattle.tz_types.specs.Civil.{is_from_to}
use Rattle.tz_types.specs.Order.{ascends}
use Rattle.tz_script.specs.declared.limit.TheConstants.{MOST_LANES, MOST_OPERATIONS}
use Rattle.tz_script.specs.Operation.{is_change}
use Rattle.tz_script.specs.declared.operation.Operation.{Operation}

-- how many lanes there are; none until a line has said so
abbrev pub lane_count : Option ℕ → ℕ
lane_count None = 0
lane_count (Some lanes) = lanes

-- at least 1 and not too many, once a line has said so
abbrev pub are_lanes : Option ℕ → Bool
are_lanes None = true
are_lanes (Some lanes) = is_from_to 1 MOST_LANES lanes

-- the lane and the round of the operation are among so many
abbrev pub is_inside : ℕ → ℕ → Operation → Bool
is_inside lanes rounds operation = is_from_to 1 lanes operation.lane && is_from_to 1 rounds operation.round

-- the operation stands at a line before that of the other
abbrev pub stands_before : Operation → Operation → Bool
stands_before a b = nat_lt a.line b.line

-- the operation isn't of a later round than the other
abbrev pub is_no_later : Operation → Operation → Bool
is_no_later a b = nat_le a.round b.round

-- rounds don't fall from one operation to the next
abbrev pub RoundsDontFall : List Operation → Type 0
RoundsDontFall operations = IsTrue (ascends is_no_later operations)

-- all operations stand at lines before this one
abbrev pub all_stand_before : ℕ → List Operation → Bool
all_stand_before number operations = list_all (λ operation. nat_lt operation.line number) operations

-- how many of the operations are reloads or erasures
abbrev pub change_count : List Operation → ℕ
change_count operations = count_by (λ (operation : Operation). is_change operation.op) operations

-- There are not too many lanes and operations, each in its lane and round, and they stand in the order of their lines.
pub record IsOrderly (lanes : Option ℕ) (rounds : ℕ) (operations : List Operation) : Type 0 where
  pub lanes_in : IsTrue (are_lanes lanes)
  pub few : length operations ≤ MOST_OPERATIONS
  pub inside : IsTrue (list_all (is_inside (lane_count lanes) rounds) operations)
  pub rising : IsTrue (ascends stands_before operations)

-- Replies of lanes in the order of their operations.
use Rattle.std.specs.Prelude.{◌≡◌, ℕ, ◌+◌, ◌≤◌, List, ◌∷◌, map, reverse, Some, slice_get, slice_set}
use Rattle.std.specs.Global.{Vec}
use Rattle.tz_script.specs.declared.operation.Operation.{Operation}
use Rattle.tz_batch.specs.Batch.{each_answered}
use Rattle.tz_batch.specs.declared.reply.Reply.{Reply}
use Rattle.tz_rounds.specs.Backs.{lane_part}
use Rattle.tz_rounds.specs.Rounds.{of_lane}

-- the operation is of one of so many lanes
pub record IsInLanes (lanes : ℕ) (operation : Operation) : Type 0 where
  pub some : 1 ≤ operation.lane
  pub few : operation.lane ≤ lanes

-- these are replies to the operations of each lane, by their lines
abbrev pub AnswerLanes : List Operation → List (List Reply) → Type 0
AnswerLanes operations parts =
    (number : ℕ) (part : List Reply) → slice_get parts number ≡ Some part
    → map (λ (reply : Reply). reply.line) part ≡ map (λ (operation : Operation). operation.line) (lane_part (number + 1) operations)

-- There is one reply to each operation, in their order, and those to the operations of a lane are the replies of that lane.
pub record AreMerged (operations : List Operation) (parts : List (List Reply)) (merged : List Reply) : Type 0 where
  pub lines : map (λ (reply : Reply). reply.line) merged ≡ map (λ (operation : Operation). operation.line) operations
  pub lanes : (number : ℕ) (part : List Reply) → slice_get parts number ≡ Some part
      → of_lane (number + 1) (each_answered operations merged) ≡ each_answered (lane_part (number + 1) operations) part

-- the replies that are left on these stacks, each from its top
abbrev pub replies_left : List (Vec Reply) → List (List Reply)
replies_left stacks = map (λ (stack : Vec Reply). reverse stack.items) stacks

-- there is a part at a place, and it has a first reply
pub record HasNext (place : ℕ) (parts : List (List Reply)) : Type 0 where
  pub reply : Reply
  pub rest : List Reply
  pub there : slice_get parts place ≡ Some (reply ∷ rest)

-- this is the first reply of the part at a place, and later that part is without it
pub record TakesNext (place : ℕ) (parts later : List (List Reply)) (reply : Reply) : Type 0 where
  pub rest : List Reply
  pub there : slice_get parts place ≡ Some (reply ∷ rest)
  pub left : later ≡ slice_set parts place rest

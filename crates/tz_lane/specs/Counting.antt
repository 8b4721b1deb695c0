-- How often an operation loads the front word and takes the turn, at least.
use Rattle.std.specs.Prelude.{ℕ, ◌+◌, ◌≤◌}
use Rattle.pin_core.specs.declared.view.View.{View}
use Rattle.tz_script.specs.declared.operation.Op.{Op}
use Rattle.tz_script.specs.declared.operation.Op.TheVariants as ops
use Rattle.tz_batch.specs.declared.answer.Answer.{Answer}
use Rattle.tz_batch.specs.declared.answer.Answer.TheVariants as answers

-- an operation that only reads, or whose source is refused, loads the front word
abbrev pub loads_of : Op → Answer → ℕ
loads_of (ops.Reload src) (answers.Refused file line cause) = 1
loads_of (ops.Reload src) answer = 0
loads_of (ops.Erase pick) answer = 0
loads_of ops.List answer = 0
loads_of op answer = 1

-- a listing, an erasure and any other reload take the turn
abbrev pub turns_of : Op → Answer → ℕ
turns_of (ops.Reload src) (answers.Refused file line cause) = 0
turns_of (ops.Reload src) answer = 1
turns_of (ops.Erase pick) answer = 1
turns_of ops.List answer = 1
turns_of op answer = 0

-- the reader's tallies rose by at least so many
pub record TalliesRise (v v' : View) (loaded turned : ℕ) : Type 0 where
  pub loads : v.loads + loaded ≤ v'.loads
  pub taken : v.taken + turned ≤ v'.taken

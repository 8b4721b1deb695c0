-- What running a round comes to, and running the rounds of a script one after another.
use Rattle.std.specs.Prelude.{◌≡◌, ℕ, ◌+◌, ◌≤◌, nat_le, List, ◌++◌, map}
use Rattle.std.specs.List.{filter}
use Rattle.tz_script.specs.Inside.{change_count}
use Rattle.tz_script.specs.declared.operation.Operation.{Operation}
use Rattle.tz_version.specs.declared.sources.Sources.{Sources}
use Rattle.tz_version.specs.Release.{Release}
use Rattle.pin_core.specs.declared.view.View.{View}
use Rattle.pin_table.specs.declared.sitting.Plan.{Plan}
use Rattle.tz_batch.specs.Batch.{each_answered}
use Rattle.tz_batch.specs.declared.reply.Reply.{Reply}
use Rattle.tz_rounds.specs.Rounds.{RanRound, RanUpTo}
use Rattle.tz_rounds.specs.Sending.{HasNumbers}

-- the operations of the rounds up to this one, in their order
abbrev pub operations_up_to : ℕ → List Operation → List Operation
operations_up_to round operations = filter (λ (operation : Operation). nat_le operation.round round) operations

-- each operation has one of these replies, in their order and by its line
abbrev pub HaveLines : List Operation → List Reply → Type 0
HaveLines operations replies =
    map (λ (reply : Reply). reply.line) replies ≡ map (λ (operation : Operation). operation.line) operations

-- The main knew `main` before the round and knows `main'` now. The readers that it sent out have answered these operations of
-- the round and are back, and the replies stand behind those of earlier rounds.
pub record HasRunRound (plan : Plan Release) (sources : Sources) (round : ℕ) (operations : List Operation) (main main' : View) (before after : List Reply) : Type 0 where
  pub more : List Reply
  pub behind : after ≡ before ++ more
  pub lines : HaveLines operations more
  pub ran : RanRound plan sources round (each_answered operations more) main main'
  pub numbers : HasNumbers 0 plan.readers main'
  pub room : main.allowance ≤ main'.allowance + change_count operations

-- The rounds up to this one were run one after another, and answered these operations. The main knows `main` now.
pub record HasRunRounds (plan : Plan Release) (sources : Sources) (round : ℕ) (operations : List Operation) (replies : List Reply) (main : View) : Type 0 where
  pub lines : HaveLines operations replies
  pub ran : RanUpTo plan sources round (each_answered operations replies) main

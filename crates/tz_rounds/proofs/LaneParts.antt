-- What a lane has to do in a round, by the operations of the round.
use Rattle.std.proofs.Common.{◌≡◌, ℕ, ◌+◌, ◌==◌, ◌&&◌, List, length, sym, ap, subst, ◌∙◌}
use Rattle.std.specs.Prelude.{Result, Ok, Err, IfOk}
use Rattle.std.proofs.lemmas.List.Sums.{length-filter}
use Rattle.tz_script.specs.Inside.{change_count}
use Rattle.tz_script.specs.Operation.{is_change}
use Rattle.tz_script.specs.declared.operation.Operation.{Operation}
use Rattle.tz_version.specs.declared.sources.Sources.{Sources}
use Rattle.tz_version.specs.Release.{Release}
use Rattle.pin_core.specs.declared.view.View.{View}
use Rattle.pin_table.specs.declared.sitting.Plan.{Plan}
use Rattle.tz_batch.specs.Batch.{each_answered}
use Rattle.tz_batch.specs.declared.reply.Reply.{Reply}
use Rattle.tz_lane.specs.Lane.{RunsLane, lane_operations, round_operations}
use Rattle.tz_rounds.specs.Backs.{lane_part, RanPart}
use Rattle.tz_rounds.specs.Jobs.{lane_changes}
use Rattle.tz_rounds.specs.RoundRun.{HaveLines}
use Rattle.tz_rounds.proofs.Lists.{filters_swap, filter_twice}

-- What a lane has to do in a round is its part of the round's operations.
pub lane_of_round : (lane round : ℕ) (all : List Operation) → lane_operations lane round all ≡ lane_part lane (round_operations round all)
lane_of_round lane round all =
    sym
    (filters_swap (λ (it : Operation). it.lane == lane) (λ (it : Operation). it.round == round) all
    ∙ filter_twice (λ (it : Operation). it.round == round) (λ (it : Operation). it.lane == lane) all)

-- the changes of a lane are those of its part
lane_counts : (lane : ℕ) (operations : List Operation) → change_count (lane_part lane operations) ≡ lane_changes lane operations
lane_counts lane operations =
    sym (length-filter (λ (it : Operation). is_change it.op) (lane_part lane operations))
    ∙ ap length (filter_twice (λ (it : Operation). is_change it.op) (λ (it : Operation). it.lane == lane) operations)
    ∙ length-filter (λ (it : Operation). (it.lane == lane) && is_change it.op) operations

pub changes_in_lane : (lane round : ℕ) (all : List Operation) → change_count (lane_operations lane round all) ≡ lane_changes lane (round_operations round all)
changes_in_lane lane round all = ap change_count (lane_of_round lane round all) ∙ lane_counts lane (round_operations round all)

-- what two facts of a value give, where there is one
pub both_ok : {A E : Type 0} (P Q R : A → Type 0) (result : Result A E) → ((value : A) → P value → Q value → R value) → IfOk result P → IfOk result Q → IfOk result R
both_ok P Q R (Ok value) gives first second = gives value first second
both_ok P Q R (Err error) gives first second = tt

-- A lane that has run has run its part.
pub part_ran : (plan own : Plan Release) (sources : Sources) (lane number round : ℕ) (all : List Operation) (out back : View) (replies : List Reply) → own ≡ plan → lane ≡ number + 1
    → HaveLines (lane_operations lane round all) replies → RunsLane own sources number out (each_answered (lane_operations lane round all) replies) back
    → RanPart plan sources (round_operations round all) number out replies back
part_ran plan own sources lane number round all out back replies same is lines runs =
    let part : lane_operations lane round all ≡ lane_part (number + 1) (round_operations round all) =
    lane_of_round lane round all ∙ ap (λ (n : ℕ). lane_part n (round_operations round all)) is in record {
      lines = subst (λ (those : List Operation). HaveLines those replies) part lines;
      runs = subst (λ (p : Plan Release). RunsLane p sources number out (each_answered (lane_part (number + 1) (round_operations round all)) replies) back) same
          (subst (λ (those : List Operation). RunsLane own sources number out (each_answered those replies) back) part runs);
    }

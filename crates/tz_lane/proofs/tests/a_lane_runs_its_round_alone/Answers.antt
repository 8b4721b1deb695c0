use Rattle.std.proofs.Common.{ap, arith}
use Rattle.pin_core.specs.declared.view.View.{View}
use Rattle.tz_script.specs.Keeping.{is_in}
use Rattle.tz_script.specs.Operation.{is_change}
use Rattle.tz_script.specs.declared.operation.Operation.{Operation}
use Rattle.tz_lane.proofs.Names.{fewer_left}
use Rattle.tz_lane.proofs.tests.a_lane_runs_its_round_alone.Goals as goal

pub run_lane-requires-clause-allowance : goal.run_lane-requires-clause-allowance
run_lane-requires-clause-allowance g c =
    let script = c.in_ok-script.script in let few = script.few_changes in
    let fewer = fewer_left (is_in 1 1) (λ (it : Operation). is_change it.op) script.operations in
    let right = ap (λ (v : View). v.allowance) c.in_ok-reader.ensures.parted.right in
    omega (arith, few, fewer, right)

use Rattle.std.proofs.Common.{◌≡◌, ◌-◌, length}
use Rattle.tz_specs.specs.State.{greatest, has_come, state_at}
use Rattle.rule_rows.proofs.state.state_at.Given as goal

abbrev pub invariant-loop-back : goal.invariant-loop-back
invariant-loop-back l =
    greatest (has_come l.instants l.t) (length l.instants - l.back) ≡ state_at l.instants l.t

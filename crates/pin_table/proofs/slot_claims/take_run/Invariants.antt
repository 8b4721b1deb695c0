use Rattle.std.proofs.Common.{◌≡◌, ◌≤◌, ◌+◌, ◌-◌, ◌++◌, length}
use Rattle.pin_table.specs.Runs.{run_slots}
use Rattle.pin_table.proofs.slot_claims.take_run.Given as goal

abbrev pub invariant-loop-left : goal.invariant-loop-left
invariant-loop-left l = record { within : l.left ≤ l.count; taken : l.carried ≡ run_slots (l.first + l.left) (l.count - l.left) ++ l.initial.carried; long : length l.carried + l.left ≡ length l.initial.carried + l.count }

abbrev pub decreases-loop-left : goal.decreases-loop-left
decreases-loop-left l = l.left

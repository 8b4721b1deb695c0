use Rattle.std.proofs.Common.{◌≡◌}
use Rattle.tz_database.proofs.settle.shared_sets.Given as goal

abbrev pub invariant-loop-set : goal.invariant-loop-set
invariant-loop-set l = l.shared.items ≡ l.yielded

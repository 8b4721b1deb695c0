use Rattle.std.proofs.Common.{◌≡◌}
use Rattle.tz_rounds.specs.Merging.{replies_left}
use Rattle.tz_rounds.proofs.merging.stacks_of.Given as goal

abbrev pub invariant-loop-part : goal.invariant-loop-part
invariant-loop-part l = replies_left l.stacks.items ≡ l.yielded

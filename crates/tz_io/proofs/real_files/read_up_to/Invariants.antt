-- Each turn reads at least a byte, and no more than is wanted.
use Rattle.std.proofs.Common.{◌-◌, ◌≤◌, vec_len}
use Rattle.tz_io.proofs.real_files.read_up_to.Given as goal

abbrev pub invariant-loop-bytes : goal.invariant-loop-bytes
invariant-loop-bytes g l = vec_len l.bytes ≤ l.wanted

abbrev pub decreases-loop-bytes : goal.decreases-loop-bytes
decreases-loop-bytes g l = l.wanted - vec_len l.bytes

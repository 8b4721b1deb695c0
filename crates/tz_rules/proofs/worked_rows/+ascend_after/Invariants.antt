use Rattle.std.proofs.Common.{length}
use Rattle.tz_rules.proofs.worked_rows.+ascend_after.Given as goal

abbrev pub decreases-ascend_after : goal.decreases-ascend_after
decreases-ascend_after l = length l.rules.now

use Rattle.std.proofs.Common.{pos, ◌+ℤ◌}
use Rattle.std.specs.Int.{int_gap}
use Rattle.tz_local.proofs.InfoLemmas.{IsWalk}
use Rattle.tz_local.proofs.info.info_among.Given as goal

-- how far the walk has come
abbrev pub invariant-loop-end : goal.invariant-loop-end
invariant-loop-end g l = IsWalk l.zone l.l l.end l.findings

abbrev pub decreases-loop-end : goal.decreases-loop-end
decreases-loop-end g l = int_gap l.end (l.l +ℤ pos 172_801)

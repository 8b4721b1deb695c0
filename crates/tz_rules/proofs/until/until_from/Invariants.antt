use Rattle.tz_rules.specs.Passed.{Passed}
use Rattle.tz_rules.proofs.UntilLemmas.{later_count}
use Rattle.tz_rules.proofs.until.until_from.Given as goal

abbrev pub invariant-loop-next : goal.invariant-loop-next
invariant-loop-next g l = Passed l.set l.stdoff l.until.year l.until.moment l.under.occurrence

abbrev pub decreases-loop-next : goal.decreases-loop-next
decreases-loop-next g l = later_count l.set l.under.occurrence

use Rattle.tz_rules.specs.Letters.{IsFirstBelow}
use Rattle.tz_rules.proofs.letters.first_standard.Given as goal

abbrev pub invariant-loop-place : goal.invariant-loop-place
invariant-loop-place g l = IsFirstBelow l.set l.place l.best

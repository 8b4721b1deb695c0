use Rattle.std.proofs.Common.{arith}
use Rattle.tz_text.proofs.Power.{below_wider}
use Rattle.tz_text.proofs.digits.number.Goals as goal

pub returns-clause-bound : goal.returns-clause-bound
returns-clause-bound c = below_wider _ _ _ (omega arith) c.decimal.ensures.bound

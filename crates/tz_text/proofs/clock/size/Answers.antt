use Rattle.std.proofs.Common.{arith}
use Rattle.std.proofs.lemmas.Grind.{common_steps}
use Rattle.tz_text.proofs.Sizes.{size_is}
use Rattle.tz_text.proofs.clock.size.Goals as goal

pub returns-in_err-after_hours-clause-value : goal.returns-in_err-after_hours-clause-value
returns-in_err-after_hours-clause-value c = rw (size_is c.args.word.now) (grind (arith, common_steps))

pub returns-clause-value : goal.returns-clause-value
returns-clause-value c = rw (size_is c.args.word.now) (grind (arith, common_steps))

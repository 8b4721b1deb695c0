use Rattle.std.proofs.Common.{◌∙◌}
use Rattle.tz_words.specs.declared.status.Status.TheVariants as statuses
use Rattle.tz_main.proofs.program.run_program.Goals as goal

-- src/program.rt:35:19
pub returns-in-Err-2 : goal.returns-in-Err-2
returns-in-Err-2 g c = (statuses.Memory, c.from.ensures ∙ c.code.ensures)

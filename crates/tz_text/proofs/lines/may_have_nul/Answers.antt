use Rattle.tz_text.proofs.LineCuts.{none_nul}
use Rattle.tz_text.proofs.lines.may_have_nul.Goals as goal

pub returns-in-None : goal.returns-in-None
returns-in-None c = λ clean. none_nul c.args.text.now c.in-None.ensures

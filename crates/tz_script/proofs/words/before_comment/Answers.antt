use Rattle.std.proofs.Common.{sym}
use Rattle.tz_script.proofs.WordCuts.{cut_comment, uncut_comment}
use Rattle.tz_script.proofs.words.before_comment.Goals as goal

pub returns-in-Some : goal.returns-in-Some
returns-in-Some c = cut_comment c.args.line.now c.in-Some.place (sym c.in-Some.ensures)

pub returns-in-None : goal.returns-in-None
returns-in-None c = uncut_comment c.args.line.now (sym c.in-None.ensures)

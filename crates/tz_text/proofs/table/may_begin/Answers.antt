use Rattle.tz_text.proofs.Letters.{no_letter, other_letter}
use Rattle.tz_text.proofs.table.may_begin.Goals as goal

pub returns-in-empty : goal.returns-in-empty
returns-in-empty c = λ is word. no_letter c.args.first word c.args.entry.now c.in-empty.len_below

pub returns-in-len1-up : goal.returns-in-len1-up
returns-in-len1-up c = λ is word. other_letter c.args.first word c.args.entry.now c.in-len1-up.len_at_least is

use Rattle.tz_text.proofs.Letters.{empty_names_none}
use Rattle.tz_text.proofs.table.named_among.Goals as goal

pub returns-in_default : goal.returns-in_default
returns-in_default c = empty_names_none c.args.word.now _ c.in_default.len_below

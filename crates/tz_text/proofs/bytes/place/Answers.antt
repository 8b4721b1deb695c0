use Rattle.tz_text.proofs.Marks.{parts_placed}
use Rattle.tz_text.proofs.bytes.place.Goals as goal

pub returns-clause-parts : goal.returns-clause-parts
returns-clause-parts c = rw c.first_place.ensures.value (parts_placed c.args.mark c.args.word.now)

use Rattle.tz_rules.proofs.AfterMark.{next_of_mark}
use Rattle.tz_rules.proofs.next_occurrence.first_after.Goals as goal

pub returns-clause-first : goal.returns-clause-first
returns-clause-first g c =
    next_of_mark c.args.set.now c.args.occurrence.now c.mark.result c.first_after_mark.result c.requires c.mark.ensures.value c.first_after_mark.ensures.first

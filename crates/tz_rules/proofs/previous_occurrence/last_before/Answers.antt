use Rattle.tz_rules.proofs.BeforeMark.{previous_of_mark}
use Rattle.tz_rules.proofs.previous_occurrence.last_before.Goals as goal

pub returns-clause-last : goal.returns-clause-last
returns-clause-last g c =
    previous_of_mark c.args.set.now c.args.occurrence.now c.mark.result c.last_before_mark.result c.mark.ensures.value c.last_before_mark.ensures.last

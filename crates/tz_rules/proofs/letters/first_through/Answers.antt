use Rattle.tz_rules.proofs.LettersLemmas.{step_none, step_first, step_earlier, step_later}
use Rattle.tz_rules.proofs.letters.first_through.Goals as goal

pub returns-in-None : goal.returns-in-None
returns-in-None g c =
    step_none c.args.set.now c.args.place c.rule_at.result.now c.args.best c.rule_at.ensures c.in-None.ensures c.requires.best

pub returns-in-None-best : goal.returns-in-None-best
returns-in-None-best g c =
    step_first c.args.set.now c.args.place c.rule_at.result.now c.in-Some.found c.rule_at.ensures c.in-Some.ensures (rw c.in-None-best.is at c.requires.best)

pub returns-then-precedes : goal.returns-then-precedes
returns-then-precedes g c =
    step_earlier c.args.set.now c.args.place c.rule_at.result.now c.in-Some.found c.in-Some-best.best c.rule_at.ensures c.in-Some.ensures (rw c.in-Some-best.is at c.requires.best) (rw (← c.precedes.ensures) c.if-precedes.true)

pub returns-else-precedes : goal.returns-else-precedes
returns-else-precedes g c =
    step_later c.args.set.now c.args.place c.rule_at.result.now c.in-Some.found c.in-Some-best.best c.rule_at.ensures c.in-Some.ensures (rw c.in-Some-best.is at c.requires.best) (rw (← c.precedes.ensures) c.if-precedes.false)

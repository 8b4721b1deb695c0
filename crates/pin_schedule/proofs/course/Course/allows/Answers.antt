use Rattle.std.proofs.Common.{◌<◌, length, sym, ap, ◌∙◌, arith}
use Rattle.pin_schedule.specs.Progress.{Progress}
use Rattle.pin_schedule.proofs.AllowedLemmas.{allowed_told}
use Rattle.pin_schedule.proofs.course.Course.allows.Goals as goal

pub returns-then-event-len : goal.returns-then-event-len
returns-then-event-len c = λ made room s stands.
    (let view = ap (λ (p : Progress). length p.core.readers) c.self.view_is in
    let low : c.args.event.reader < length c.args.self.now.core.readers = omega arith in
    let both = allowed_told made room s c.args.self.now c.args.event stands low in
    ((λ is. both.0 (sym c.passes.ensures ∙ is)), (λ allowed. c.passes.ensures ∙ both.1 allowed)))

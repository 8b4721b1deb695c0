use Rattle.pin_schedule.proofs.EventLemmas.{none_refused, one_refused}
use Rattle.pin_schedule.proofs.schedule_laws.a_schedule_has_one_outcome.Goals as goal

pub returns : goal.returns
returns c = record { none = none_refused; one = one_refused }

use Rattle.pin_table.proofs.CallLemmas.{handle_stays}
use Rattle.pin_table.proofs.handle_laws.a_handle_stays.Goals as goal

pub returns : goal.returns
returns g c = handle_stays g.P.Payload.home g.P.Payload.source

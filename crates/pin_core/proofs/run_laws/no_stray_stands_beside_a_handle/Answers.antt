use Rattle.pin_core.proofs.Strays.{strays_apart, beside_handle}
use Rattle.pin_core.proofs.run_laws.no_stray_stands_beside_a_handle.Goals as goal

pub returns : goal.returns
returns c = record { reached = strays_apart; shown = beside_handle }

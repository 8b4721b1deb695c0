use Rattle.pin_core.proofs.Opening.{opens}
use Rattle.pin_core.proofs.run_laws.the_opening_is_lawful.Goals as goal

pub returns : goal.returns
returns c = opens

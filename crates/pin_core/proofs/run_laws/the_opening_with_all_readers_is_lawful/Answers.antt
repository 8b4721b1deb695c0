use Rattle.pin_core.proofs.Opening.{opens_with_readers}
use Rattle.pin_core.proofs.run_laws.the_opening_with_all_readers_is_lawful.Goals as goal

pub returns : goal.returns
returns c = opens_with_readers

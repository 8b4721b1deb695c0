use Rattle.pin_core.proofs.Stores.{stores}
use Rattle.pin_core.proofs.step_laws.a_store_keeps_states_lawful.Goals as goal

pub returns : goal.returns
returns c = stores

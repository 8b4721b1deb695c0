use Rattle.pin_core.proofs.Runs.{reached}
use Rattle.pin_core.proofs.Readers.{claim_misses}
use Rattle.pin_core.proofs.run_laws.no_slot_is_claimed_under_a_handle.Goals as goal

pub returns : goal.returns
returns c = λ slots readers room s id number other claimer v u e some_slot run has theirs may.
    claim_misses s (reached slots readers room s some_slot run) id number v has.seat e has.among other u

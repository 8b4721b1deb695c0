use Rattle.pin_core.proofs.Readers.{counted, not_claimed}
use Rattle.pin_core.proofs.reader_laws.a_held_slot_is_not_claimed.Goals as goal

pub returns : goal.returns
returns c = record {
  pinned = λ s id number v e h has. counted s h id number v has.seat e has.among;
  unclaimed = λ s id number v e other u h has. not_claimed s h id number v has.seat e has.among has.held other u;
}

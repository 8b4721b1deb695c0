use Rattle.pin_core.proofs.Readers.{shown, told, keeps}
use Rattle.pin_core.proofs.reader_laws.a_handle_keeps_its_slot.Goals as goal

pub returns : goal.returns
returns c = record {
  shown = λ s id number v e h has. shown s h id number v has.seat e has.among has.held;
  told = λ s id number v e w h has. told s h id number v has.seat e has.among has.held w;
  always = λ s id number v e w h has. keeps s h id number v has.seat e has.among has.held w;
}

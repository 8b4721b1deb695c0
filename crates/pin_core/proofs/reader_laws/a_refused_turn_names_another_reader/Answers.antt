use Rattle.pin_core.proofs.Holders.{holder_out, holder_other, alone_free, told_refused}
use Rattle.pin_core.proofs.reader_laws.a_refused_turn_names_another_reader.Goals as goal

pub returns : goal.returns
returns c = record {
  other = λ s id number holder v h has may taken. (let out = holder_out s holder h taken in (holder_other s id number holder v h has may.idle taken, out.4, (out.0, out.1, out.2)));
  told = told_refused;
  alone = λ s id number v h has may one. alone_free s id number v h one has may.idle;
}

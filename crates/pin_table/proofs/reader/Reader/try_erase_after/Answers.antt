use Rattle.std.proofs.Common.{refl}
use Rattle.pin_table.specs.Reader.{reader_view}
use Rattle.pin_table.specs.Table.{plan}
use Rattle.pin_table.proofs.CallLemmas.{handle_kept, erase_keeps}
use Rattle.pin_table.proofs.reader.Reader.try_erase_after.Goals as goal

pub returns-clause-handles : goal.returns-clause-handles
returns-clause-handles g c =
    let old = c.args.self.now in let how = plan old.table.now in let later = c.erase_in_turn.new.hand.seat.me.0.core in
    handle_kept g.P.Payload.home g.P.Payload.source how how (reader_view old) later refl
    (erase_keeps how.slots old.number c.number.result (reader_view old) later c.in_ok-answer.answer c.in_ok-answer.ensures.erased) c.erase_in_turn.ensures.idle.handles

use Rattle.std.proofs.Common.{◌≡◌, refl}
use Rattle.pin_table.specs.Reader.{reader_view}
use Rattle.pin_table.specs.Table.{plan}
use Rattle.pin_table.proofs.CallLemmas.{handle_kept, turn_keeps}
use Rattle.pin_table.proofs.reader.Reader.try_push.Goals as goal

pub returns-clause-handles : goal.returns-clause-handles
returns-clause-handles g c =
    let old = c.args.self.now in let how = plan old.table.now in let later = c.push_in_turn.new.hand.seat.me.0.core in
    handle_kept g.P.Payload.home g.P.Payload.source how how (reader_view old) later refl
    (turn_keeps g.P.Payload.home g.P.Payload.source g.P.Payload.name_of how old.number (reader_view old) later c.args.copies.version (λ refused. refused.why) (λ refused. refused.copies ≡ c.args.copies) c.in_ok-answer.answer c.in_ok-answer.ensures.pushed c.in_ok-answer.ensures.refused)
    c.push_in_turn.ensures.idle.handles

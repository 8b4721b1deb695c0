use Rattle.std.proofs.Common.{refl}
use Rattle.pin_table.specs.Reader.{reader_view}
use Rattle.pin_table.specs.Table.{plan}
use Rattle.pin_table.proofs.CallLemmas.{handle_kept, list_keeps}
use Rattle.pin_table.proofs.reader.Reader.try_list.Goals as goal

pub returns-clause-handles : goal.returns-clause-handles
returns-clause-handles g c =
    let old = c.args.self.now in let how = plan old.table.now in let later = c.list_in_turn.new.hand.seat.me.0.core in
    handle_kept g.P.Payload.home g.P.Payload.source how how (reader_view old) later refl
    (list_keeps g.P.Payload.home g.P.Payload.name_of how (reader_view old) later c.in_ok-listing.listing c.in_ok-listing.ensures.listed) c.list_in_turn.ensures.idle.handles

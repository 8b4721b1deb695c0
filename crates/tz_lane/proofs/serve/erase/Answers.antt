use Rattle.std.proofs.Common.{length, sym, ap, subst, arith}
use Rattle.pin_table.specs.Reader.{reader_view}
use Rattle.pin_table.specs.Table.{plan}
use Rattle.tz_script.specs.Operation.{hold_picked}
use Rattle.tz_script.specs.declared.operation.Op.TheVariants as ops
use Rattle.tz_script.specs.declared.operation.Pick.{Pick}
use Rattle.tz_script.specs.declared.operation.Pick.TheVariants.{Front, Held}
use Rattle.tz_lane.specs.Meeting.{lane_round}
use Rattle.tz_lane.specs.Serving.{ServesInLane}
use Rattle.tz_lane.proofs.Names.{needs_held}
use Rattle.tz_lane.proofs.Serving.{serves_erase, erase_held_right, erase_front_right, held_still, held_same, entries_count}
use Rattle.tz_lane.proofs.serve.erase.Goals as goal

pub erase_front-requires-clause-few : goal.erase_front-requires-clause-few
erase_front-requires-clause-few g c = let reader = c.args.reader.now in
    let count = entries_count (plan reader.table.now) (reader_view reader) c.args.holds.now c.requires.held in let few = c.requires.few in omega (arith, count, few)

pub named-requires : goal.named-requires
named-requires g c = needs_held c.args.holds.now _ (ops.Erase c.args.pick.now) (ap hold_picked c.in-Held.is) c.requires.stands

pub erase_held-requires-clause-made : goal.erase_held-requires-clause-made
erase_held-requires-clause-made g c = c.requires.held.made c.named.result.now c.named.ensures.open

pub returns-in-Front-clause-served : goal.returns-in-Front-clause-served
returns-in-Front-clause-served g c sources line = let reader = c.args.reader.now in let now = c.erase_front.new.reader in let told = c.erase_front.result in let held = c.args.holds.now in
    subst (λ (pick : Pick). ServesInLane (plan reader.table.now) sources reader.number (reader_view reader) held line (ops.Erase pick) told (reader_view now) held) (sym c.in-Front.is)
    (serves_erase (plan reader.table.now) sources reader.number (reader_view reader) held line Front told (reader_view now) c.erase_front.ensures.erases
    (λ begun. erase_front_right (lane_round (plan reader.table.now) sources begun (reader_view now)) _ held told.w told.answer (c.erase_front.ensures.erases.meets Front).to (c.erase_front.ensures.answer sources begun)))

pub returns-in-Front-clause-held : goal.returns-in-Front-clause-held
returns-in-Front-clause-held g c = let reader = c.args.reader.now in let now = c.erase_front.new.reader in
    held_still (plan reader.table.now) (plan now.table.now) (reader_view reader) (reader_view now) c.args.holds.now c.requires.held c.erase_front.ensures.entries c.erase_front.ensures.handles

pub returns-in-Held-clause-served : goal.returns-in-Held-clause-served
returns-in-Held-clause-served g c sources line = let reader = c.args.reader.now in let now = c.erase_held.new.reader in let told = c.erase_held.result in let held = c.args.holds.now in
    subst (λ (pick : Pick). ServesInLane (plan reader.table.now) sources reader.number (reader_view reader) held line (ops.Erase pick) told (reader_view now) held) (sym c.in-Held.is)
    (serves_erase (plan reader.table.now) sources reader.number (reader_view reader) held line (Held _) told (reader_view now) c.erase_held.ensures.erases
    (λ begun. erase_held_right (lane_round (plan reader.table.now) sources begun (reader_view now)) (length (reader_view reader).seen) held _ c.named.result.now told.w told.answer c.named.ensures.open c.named.ensures.name (c.erase_held.ensures.answer sources begun)))

pub returns-in-Held-clause-held : goal.returns-in-Held-clause-held
returns-in-Held-clause-held g c = let reader = c.args.reader.now in let now = c.erase_held.new.reader in
    held_same (plan reader.table.now) (plan now.table.now) (reader_view reader) (reader_view now) c.args.holds.now c.requires.held c.erase_held.ensures.entries c.erase_held.ensures.handles

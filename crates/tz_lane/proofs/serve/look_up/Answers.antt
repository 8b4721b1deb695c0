use Rattle.std.proofs.Common.{◌∙◌, refl, sym, ap, subst, arith}
use Rattle.pin_table.specs.Reader.{reader_view}
use Rattle.pin_table.specs.Table.{plan}
use Rattle.tz_script.specs.Operation.{hold_picked}
use Rattle.tz_script.specs.declared.operation.Pick.{Pick}
use Rattle.tz_list.specs.Reload.{release_home}
use Rattle.tz_batch.specs.Answering.{LooksInto}
use Rattle.tz_batch.specs.Round.{newest_at}
use Rattle.tz_lane.specs.Holding.{LaneHoldsAs}
use Rattle.tz_lane.specs.Meeting.{lane_round}
use Rattle.tz_lane.proofs.Names.{needs_held}
use Rattle.tz_lane.proofs.Serving.{serves_lookup, lookup_right, lookup_needs, held_still, held_same, entries_count}
use Rattle.tz_lane.proofs.serve.look_up.Goals as goal

pub look_up_front-requires-clause-few : goal.look_up_front-requires-clause-few
look_up_front-requires-clause-few c = let reader = c.args.reader.now in
    let count = entries_count (plan reader.table.now) (reader_view reader) c.args.holds.now c.requires.held in let few = c.requires.few in omega (arith, count, few)

pub named-requires : goal.named-requires
named-requires c = needs_held c.args.holds.now _ c.args.op.now (lookup_needs c.args.op.now c.requires.lookup ∙ ap hold_picked (sym c.requires.picks ∙ c.in-Held.is)) c.requires.stands

pub look_up_held-requires-clause-made : goal.look_up_held-requires-clause-made
look_up_held-requires-clause-made c = c.requires.held.made c.named.result.now c.named.ensures.open

pub returns-in-Front-clause-served : goal.returns-in-Front-clause-served
returns-in-Front-clause-served c line = let reader = c.args.reader.now in let now = c.look_up_front.new.reader in let told = c.look_up_front.result in let held = c.args.holds.now in
    let how = plan reader.table.now in let home = release_home how.first in
    serves_lookup how home reader.number (reader_view reader) held line c.args.op.now told (reader_view now) c.requires.lookup c.look_up_front.ensures.meets
    (λ begun. lookup_right (lane_round how home begun (reader_view now)) _ (LaneHoldsAs (lane_round how home begun (reader_view now)) held) told.w told.w c.args.op.now told.answer c.requires.lookup
    (subst (λ (pick : Pick). LooksInto (lane_round how home begun (reader_view now)) (LaneHoldsAs (lane_round how home begun (reader_view now)) held) told.w pick (newest_at (lane_round how home begun (reader_view now)) told.w))
    (sym c.in-Front.is ∙ c.requires.picks) refl)
    (c.look_up_front.ensures.answer begun))
    c.look_up_front.ensures.kept c.look_up_front.ensures.counts

pub returns-in-Front-clause-held : goal.returns-in-Front-clause-held
returns-in-Front-clause-held c = let reader = c.args.reader.now in let now = c.look_up_front.new.reader in
    held_still (plan reader.table.now) (plan now.table.now) (reader_view reader) (reader_view now) c.args.holds.now c.requires.held c.look_up_front.ensures.entries c.look_up_front.ensures.handles

pub returns-in-Held-clause-served : goal.returns-in-Held-clause-served
returns-in-Held-clause-served c line = let reader = c.args.reader.now in let now = c.look_up_held.new.reader in let told = c.look_up_held.result in let held = c.args.holds.now in
    let how = plan reader.table.now in let home = release_home how.first in let hold = c.named.result.now in
    serves_lookup how home reader.number (reader_view reader) held line c.args.op.now told (reader_view now) c.requires.lookup c.look_up_held.ensures.meets
    (λ begun. lookup_right (lane_round how home begun (reader_view now)) _ (LaneHoldsAs (lane_round how home begun (reader_view now)) held) hold.handle.position told.w c.args.op.now told.answer c.requires.lookup
    (subst (λ (pick : Pick). LooksInto (lane_round how home begun (reader_view now)) (LaneHoldsAs (lane_round how home begun (reader_view now)) held) told.w pick (newest_at (lane_round how home begun (reader_view now)) hold.handle.position))
    (sym c.in-Held.is ∙ c.requires.picks) (hold, c.named.ensures.open, c.named.ensures.name, refl))
    (c.look_up_held.ensures.answer begun))
    c.look_up_held.ensures.kept c.look_up_held.ensures.counts

pub returns-in-Held-clause-held : goal.returns-in-Held-clause-held
returns-in-Held-clause-held c = let reader = c.args.reader.now in let now = c.look_up_held.new.reader in
    held_same (plan reader.table.now) (plan now.table.now) (reader_view reader) (reader_view now) c.args.holds.now c.requires.held c.look_up_held.ensures.entries c.look_up_held.ensures.handles

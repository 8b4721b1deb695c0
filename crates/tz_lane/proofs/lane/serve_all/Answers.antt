use Rattle.std.proofs.Common.{◌≡◌, ◌+◌, ◌∙◌, map, refl, sym, subst}
use Rattle.tz_script.specs.declared.operation.Operation.{Operation}
use Rattle.tz_batch.specs.Batch.{each_answered}
use Rattle.tz_batch.specs.declared.reply.Reply.{Reply}
use Rattle.tz_lane.specs.Lane.{lane_operations, RunsLane}
use Rattle.pin_table.specs.Reader.{reader_view}
use Rattle.pin_table.specs.Table.{plan}
use Rattle.tz_lane.proofs.Stopping.{stops_if, stops_here, stops_then, stops_made}
use Rattle.tz_lane.proofs.Underway.{underway_begins, served_by, turned, underway_past, underway_more, may_stand_here, room_here, few_here, there_here, sized_here, runs_at_end, lines_at_end, none_at_end, held_by}
use Rattle.tz_lane.proofs.lane.serve_all.Goals.{then-is_in+in_ok-told+in_ok-push, else-is_in}
use Rattle.tz_lane.proofs.lane.serve_all.Goals as goal

pub loop-operation-init : goal.loop-operation-init
loop-operation-init g c = let reader = c.args.reader.now in (
  underway_begins (plan reader.table.now) c.args.tzdb.now.sources reader.number c.args.lane c.args.round c.args.script.now c.operations_in-operations.result.now (reader_view reader) c.args.holds.now c.new-replies.result.items
      c.operations_in-operations.ensures.whole c.requires.free c.requires.none c.requires.allowance c.new-replies.ensures.items,
  refl,
  refl,
)

pub serve-requires-clause-of_list : goal.serve-requires-clause-of_list
serve-requires-clause-of_list g c = c.loop-operation.invariant.1 ∙ c.requires.of_list

pub serve-requires-clause-there : goal.serve-requires-clause-there
serve-requires-clause-there g c = there_here _ c.args.script.now c.operations_in-operations.result.now c.operations_in-operations.ensures.part c.loop-operation.operation-index c.operation-item.result c.loop-operation-test.true c.operation-item.is c.requires.sources

pub serve-requires-clause-sized : goal.serve-requires-clause-sized
serve-requires-clause-sized g c = sized_here c.args.script.now c.operations_in-operations.result.now c.operations_in-operations.ensures.part c.loop-operation.operation-index c.operation-item.result c.loop-operation-test.true c.operation-item.is

pub serve-requires-clause-may : goal.serve-requires-clause-may
serve-requires-clause-may g c = let reader = c.args.reader.now in
    room_here (plan reader.table.now) c.args.tzdb.now.sources reader.number c.args.lane c.args.round c.operations_in-operations.result.now (reader_view reader) (reader_view c.loop-operation.reader) c.loop-operation.operation-index c.loop-operation.replies.items c.loop-operation.holds
    c.operation-item.result c.loop-operation-test.true c.operation-item.is c.loop-operation.invariant.0 (sym c.is_in.ensures ∙ c.if-is_in.true)

pub serve-requires-clause-stands : goal.serve-requires-clause-stands
serve-requires-clause-stands g c = let reader = c.args.reader.now in
    may_stand_here (plan reader.table.now) c.args.tzdb.now.sources reader.number c.args.lane c.args.round c.operations_in-operations.result.now (reader_view reader) (reader_view c.loop-operation.reader) c.loop-operation.operation-index c.loop-operation.replies.items c.loop-operation.holds
    c.operation-item.result c.loop-operation-test.true c.operation-item.is c.loop-operation.invariant.0 (sym c.is_in.ensures ∙ c.if-is_in.true)

pub serve-requires-clause-few : goal.serve-requires-clause-few
serve-requires-clause-few g c = let reader = c.args.reader.now in
    few_here (plan reader.table.now) c.args.tzdb.now.sources reader.number c.args.lane c.args.round c.operations_in-operations.result.now (reader_view reader) (reader_view c.loop-operation.reader) c.loop-operation.operation-index c.loop-operation.replies.items c.loop-operation.holds c.loop-operation.invariant.0

pub serve-requires-clause-held : goal.serve-requires-clause-held
serve-requires-clause-held g c = held_by c.args.reader.now.table.now c.loop-operation.reader.table.now c.loop-operation.invariant.1 (reader_view c.loop-operation.reader) c.loop-operation.holds c.loop-operation.invariant.0.held

pub returns-in_err-told-clause-table : goal.returns-in_err-told-clause-table
returns-in_err-told-clause-table g c = c.serve.ensures.table ∙ c.loop-operation.invariant.1

pub returns-in_err-told-clause-number : goal.returns-in_err-told-clause-number
returns-in_err-told-clause-number g c = c.serve.ensures.number ∙ c.loop-operation.invariant.2

pub returns-in_err-push-clause-table : goal.returns-in_err-push-clause-table
returns-in_err-push-clause-table g c = c.serve.ensures.table ∙ c.loop-operation.invariant.1

pub returns-in_err-push-clause-number : goal.returns-in_err-push-clause-number
returns-in_err-push-clause-number g c = c.serve.ensures.number ∙ c.loop-operation.invariant.2

pub loop-operation-preserved : goal.loop-operation-preserved
loop-operation-preserved g c = let first = c.args.reader.now in let inv = c.loop-operation.invariant in let how = plan first.table.now in let sources = c.args.tzdb.now.sources in let operations = c.operations_in-operations.result.now in
    elim c.if-is_in.branch [
      | then-is_in+in_ok-told+in_ok-push w ↦
          let told = w.in_ok-told.told in let now = w.serve.new in
          let inside = sym c.is_in.ensures ∙ w.if-is_in.true in
          let more = underway_more how sources first.number c.args.lane c.args.round operations (reader_view first) (reader_view c.loop-operation.reader) c.loop-operation.operation-index c.loop-operation.replies.items c.loop-operation.holds
          c.operation-item.result c.loop-operation-test.true c.operation-item.is inv.0 inside c.args.script.now c.operations_in-operations.ensures.part told (reader_view now.reader) now.holds w.push.new.self.items
          (served_by first.table.now c.loop-operation.reader.table.now inv.1 first.number c.loop-operation.reader.number inv.2 sources (reader_view c.loop-operation.reader) c.loop-operation.holds c.operation-item.result.line c.operation-item.result.op told (reader_view now.reader) now.holds w.in_ok-told.ensures.served)
          (held_by now.reader.table.now first.table.now (sym (w.serve.ensures.table ∙ inv.1)) (reader_view now.reader) now.holds w.serve.ensures.held) w.in_ok-push.ensures.items in
          turned how sources first.number c.args.lane c.args.round operations (reader_view first) (c.loop-operation.operation-index + 1) first.table.now c.if-is_in.reader now.reader w.reader-is c.if-is_in.holds now.holds w.holds-is c.if-is_in.replies w.push.new.self w.replies-is
          (more, w.serve.ensures.table ∙ inv.1, w.serve.ensures.number ∙ inv.2)
      | else-is_in w ↦
          let away = sym c.is_in.ensures ∙ w.if-is_in.false in
          let past = underway_past how sources first.number c.args.lane c.args.round operations (reader_view first) (reader_view c.loop-operation.reader) c.loop-operation.operation-index c.loop-operation.replies.items c.loop-operation.holds
          c.operation-item.result c.loop-operation-test.true c.operation-item.is inv.0 away in
          turned how sources first.number c.args.lane c.args.round operations (reader_view first) (c.loop-operation.operation-index + 1) first.table.now c.if-is_in.reader c.loop-operation.reader w.reader-is c.if-is_in.holds c.loop-operation.holds w.holds-is c.if-is_in.replies c.loop-operation.replies w.replies-is
          (past, inv.1, inv.2)
    ]

pub returns-clause-lines : goal.returns-clause-lines
returns-clause-lines g c = let first = c.args.reader.now in let inv = c.loop-operation.invariant in
    subst (λ replies. map (λ (reply : Reply). reply.line) replies ≡ map (λ (operation : Operation). operation.line) (lane_operations c.args.lane c.args.round c.args.script.now.operations)) (sym c.from_vec.ensures)
    (lines_at_end (plan first.table.now) c.args.tzdb.now.sources first.number c.args.lane c.args.round c.args.script.now c.operations_in-operations.result.now c.operations_in-operations.ensures.whole (reader_view first) (reader_view c.loop-operation.reader)
    c.loop-operation.operation-index c.loop-operation.replies.items c.loop-operation.holds c.loop-operation-test.false inv.0)

pub returns-clause-runs : goal.returns-clause-runs
returns-clause-runs g c = let first = c.args.reader.now in let inv = c.loop-operation.invariant in
    subst (λ replies. RunsLane (plan first.table.now) c.args.tzdb.now.sources first.number (reader_view first) (each_answered (lane_operations c.args.lane c.args.round c.args.script.now.operations) replies) (reader_view c.loop-operation.reader)) (sym c.from_vec.ensures)
    (runs_at_end (plan first.table.now) c.args.tzdb.now.sources first.number c.args.lane c.args.round c.args.script.now c.operations_in-operations.result.now c.operations_in-operations.ensures.whole (reader_view first) (reader_view c.loop-operation.reader)
    c.loop-operation.operation-index c.loop-operation.replies.items c.loop-operation.holds c.loop-operation-test.false inv.0)

pub returns-clause-none : goal.returns-clause-none
returns-clause-none g c = let first = c.args.reader.now in let inv = c.loop-operation.invariant in
    none_at_end (plan first.table.now) c.args.tzdb.now.sources first.number c.args.lane c.args.round c.args.script.now c.operations_in-operations.result.now c.operations_in-operations.ensures.whole (reader_view first) (reader_view c.loop-operation.reader)
    c.loop-operation.operation-index c.loop-operation.replies.items c.loop-operation.holds c.loop-operation-test.false inv.0

pub returns-clause-held : goal.returns-clause-held
returns-clause-held g c = held_by c.args.reader.now.table.now c.loop-operation.reader.table.now c.loop-operation.invariant.1 (reader_view c.loop-operation.reader) c.loop-operation.holds c.loop-operation.invariant.0.held

pub returns-clause-table : goal.returns-clause-table
returns-clause-table g c = c.loop-operation.invariant.1

pub returns-clause-number : goal.returns-clause-number
returns-clause-number g c = c.loop-operation.invariant.2

pub returns-in_err-told-clause-stopped : goal.returns-in_err-told-clause-stopped
returns-in_err-told-clause-stopped g c = let first = c.args.reader.now in let now = c.loop-operation.reader in
    stops_if _ (reader_view first) (reader_view c.serve.new.reader)
    (stops_then (reader_view first) (reader_view now) (reader_view c.serve.new.reader)
    (stops_here (plan first.table.now) c.args.tzdb.now.sources first.number c.args.lane c.args.round (reader_view first) _ (reader_view now) c.loop-operation.holds c.loop-operation.invariant.0.run)
    c.in_err-told.ensures.failed)

pub returns-in_err-push-clause-stopped : goal.returns-in_err-push-clause-stopped
returns-in_err-push-clause-stopped g c = let first = c.args.reader.now in let now = c.loop-operation.reader in
    stops_if _ (reader_view first) (reader_view c.serve.new.reader)
    (stops_made _ (reader_view first) (reader_view now) (reader_view c.serve.new.reader) _ _
    (stops_here (plan first.table.now) c.args.tzdb.now.sources first.number c.args.lane c.args.round (reader_view first) _ (reader_view now) c.loop-operation.holds c.loop-operation.invariant.0.run)
    c.in_ok-told.ensures.served.meets)

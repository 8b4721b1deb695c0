use Rattle.std.proofs.Common.{refl, zero, arith}
use Rattle.std.proofs.lemmas.List.Sorted.{Contains-permutation, IsPermutation-sym}
use Rattle.pin_table.specs.Reader.{reader_view}
use Rattle.pin_table.specs.Table.{plan}
use Rattle.tz_script.specs.declared.operation.Op.TheVariants as ops
use Rattle.tz_lane.specs.Meeting.{lane_round}
use Rattle.tz_lane.proofs.HeldLess.{held_less}
use Rattle.tz_lane.proofs.Names.{needs_held}
use Rattle.tz_lane.proofs.Serving.{serves_quiet, drop_right}
use Rattle.tz_lane.proofs.serve.end_hold.Goals as goal

pub take-handle-requires : goal.take-handle-requires
take-handle-requires c = needs_held c.args.holds.now c.args.name.now (ops.Drop c.args.name.now) refl c.requires.stands

pub let_go-requires : goal.let_go-requires
let_go-requires c = let hold = c.take-handle.result in let taken = c.take-handle.ensures.others in
    record { made = c.requires.held.made hold (Contains-permutation _ c.args.holds.now hold (IsPermutation-sym c.args.holds.now _ taken) (zero, omega arith, refl)) }

pub returns-clause-served : goal.returns-clause-served
returns-clause-served c sources line = let reader = c.args.reader.now in let told = c.let_go in let hold = c.take-handle.result in let taken = c.take-handle.ensures.others in
    serves_quiet (plan reader.table.now) sources reader.number (reader_view reader) c.args.holds.now line (ops.Drop c.args.name.now) told.result (reader_view told.new.reader) c.take-handle.new.self refl
    told.ensures.meets
    (λ begun. drop_right (lane_round (plan reader.table.now) sources begun (reader_view told.new.reader)) c.args.holds.now c.args.name.now hold told.result.answer
    (Contains-permutation _ c.args.holds.now hold (IsPermutation-sym c.args.holds.now _ taken) (zero, omega arith, refl)) c.take-handle.ensures.name (told.ensures.answer sources begun))
    (λ begun. told.ensures.kept sources begun) told.ensures.counts
    (hold, c.take-handle.ensures.name, taken)

pub returns-clause-held : goal.returns-clause-held
returns-clause-held c = let reader = c.args.reader.now in let told = c.let_go in
    held_less (plan reader.table.now) (reader_view reader) (reader_view told.new.reader) (plan told.new.reader.table.now) c.args.holds.now c.take-handle.new.self c.take-handle.result c.requires.held c.take-handle.ensures.others told.ensures.entries told.ensures.others

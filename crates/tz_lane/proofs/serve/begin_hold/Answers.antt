use Rattle.std.proofs.Common.{refl, sym, subst, arith}
use Rattle.pin_table.specs.Handles.{MadeBy}
use Rattle.tz_list.specs.Reload.{release_home, release_source}
use Rattle.pin_table.specs.Reader.{reader_view}
use Rattle.pin_table.specs.Table.{plan}
use Rattle.tz_script.specs.declared.operation.Op.TheVariants as ops
use Rattle.tz_lane.proofs.Names.{begins_few}
use Rattle.tz_lane.proofs.Serving.{serves_quiet, held_more, entries_count}
use Rattle.tz_lane.proofs.serve.begin_hold.Goals as goal

pub hold-told-requires : goal.hold-told-requires
hold-told-requires c = let reader = c.args.reader.now in
    let count = entries_count (plan reader.table.now) (reader_view reader) c.args.holds.now c.requires.held in let few = begins_few c.args.holds.now c.args.name.now c.requires.stands in
    record { few = omega (arith, count, few) }

pub put-requires : goal.put-requires
put-requires c = begins_few c.args.holds.now c.args.name.now c.requires.stands

pub returns-clause-served : goal.returns-clause-served
returns-clause-served c sources = let reader = c.args.reader.now in let told = c.hold-told in
    serves_quiet (plan reader.table.now) sources reader.number (reader_view reader) c.args.holds.now c.args.line (ops.Hold c.args.name.now) told.result.0 (reader_view told.new.reader) c.put.new.self refl
    told.ensures.meets (λ begun. told.ensures.answer sources begun) (λ begun. told.ensures.kept sources begun) told.ensures.counts
    (record { name = c.copied.result; line = c.args.line; handle = told.result.1 }, record { line_is = refl; name_is = c.copied.ensures; position = told.ensures.position }, c.put.ensures)

pub returns-clause-held : goal.returns-clause-held
returns-clause-held c = let reader = c.args.reader.now in let told = c.hold-told in
    held_more (plan reader.table.now) (plan told.new.reader.table.now) (reader_view reader) (reader_view told.new.reader) c.args.holds.now c.put.new.self (record { name = c.copied.result; line = c.args.line; handle = told.result.1 }) c.requires.held c.put.ensures told.ensures.entries
    (subst (λ table. MadeBy release_home release_source (plan table) (reader_view told.new.reader) told.result.1) (sym told.ensures.table) told.ensures.made) told.ensures.handles

use Rattle.std.proofs.Common.{refl, sym, subst}
use Rattle.pin_table.specs.Reader.{reader_view}
use Rattle.pin_table.specs.Table.{plan}
use Rattle.tz_script.specs.declared.operation.Op.{Op}
use Rattle.tz_script.specs.declared.operation.Op.TheVariants as ops
use Rattle.tz_version.specs.declared.sources.Sources.{Sources}
use Rattle.tz_list.specs.Reload.{release_home}
use Rattle.tz_lane.specs.Serving.{ServesInLane}
use Rattle.tz_lane.proofs.Serving.{serves_quiet, home_of, list_serves, reload_serves, held_same}
use Rattle.tz_lane.proofs.serve.serve.Goals as goal

pub returns-in-Look-clause-served : goal.returns-in-Look-clause-served
returns-in-Look-clause-served g c = let reader = c.args.reader.now in let now = c.look.new.reader in let told = c.look.result in let held = c.args.holds.now in let how = plan reader.table.now in let sources = c.args.tzdb.now.sources in
    subst (λ (op : Op). ServesInLane how sources reader.number (reader_view reader) held c.args.line op told (reader_view now) held) (sym c.in-Look.is)
    (serves_quiet how sources reader.number (reader_view reader) held c.args.line ops.Look told (reader_view now) held refl c.look.ensures.meets
    (λ begun. c.look.ensures.answer sources begun) (λ begun. c.look.ensures.kept sources begun) c.look.ensures.counts refl)

pub returns-in-Look-clause-held : goal.returns-in-Look-clause-held
returns-in-Look-clause-held g c = let reader = c.args.reader.now in let now = c.look.new.reader in
    held_same (plan reader.table.now) (plan now.table.now) (reader_view reader) (reader_view now) c.args.holds.now c.requires.held c.look.ensures.entries c.look.ensures.handles

pub returns-in-Hold-clause-served : goal.returns-in-Hold-clause-served
returns-in-Hold-clause-served g c = let reader = c.args.reader.now in let now = c.begin_hold.new in
    subst (λ (op : Op). ServesInLane (plan reader.table.now) c.args.tzdb.now.sources reader.number (reader_view reader) c.args.holds.now c.args.line op c.begin_hold.result (reader_view now.reader) now.holds) (sym c.in-Hold.is)
    (c.begin_hold.ensures.served c.args.tzdb.now.sources)

pub returns-in-Drop-clause-served : goal.returns-in-Drop-clause-served
returns-in-Drop-clause-served g c = let reader = c.args.reader.now in let now = c.end_hold.new in
    subst (λ (op : Op). ServesInLane (plan reader.table.now) c.args.tzdb.now.sources reader.number (reader_view reader) c.args.holds.now c.args.line op c.end_hold.result (reader_view now.reader) now.holds) (sym c.in-Drop.is)
    (c.end_hold.ensures.served c.args.tzdb.now.sources c.args.line)

pub returns-in-Erase-clause-served : goal.returns-in-Erase-clause-served
returns-in-Erase-clause-served g c = let reader = c.args.reader.now in let now = c.erase.new.reader in
    subst (λ (op : Op). ServesInLane (plan reader.table.now) c.args.tzdb.now.sources reader.number (reader_view reader) c.args.holds.now c.args.line op c.erase.result (reader_view now) c.args.holds.now) (sym c.in-Erase.is)
    (c.erase.ensures.served c.args.tzdb.now.sources c.args.line)

pub returns-in-Reload-clause-served : goal.returns-in-Reload-clause-served
returns-in-Reload-clause-served g c = let reader = c.args.reader.now in let now = c.reload.new.reader in
    reload_serves (plan reader.table.now) (reader_view reader) c.args.holds.now c.requires.held c.args.tzdb.now.sources reader.number c.args.line _ c.args.op.now c.in-Reload.is c.reload.result (reader_view now) c.reload.ensures.reloads

pub returns-in-Reload-clause-held : goal.returns-in-Reload-clause-held
returns-in-Reload-clause-held g c = let reader = c.args.reader.now in let now = c.reload.new.reader in
    held_same (plan reader.table.now) (plan now.table.now) (reader_view reader) (reader_view now) c.args.holds.now c.requires.held c.reload.ensures.entries c.reload.ensures.handles

pub returns-in-List-clause-served : goal.returns-in-List-clause-served
returns-in-List-clause-served g c = let reader = c.args.reader.now in let now = c.list.new.reader in
    list_serves (plan reader.table.now) (release_home (plan reader.table.now).first) c.args.tzdb.now.sources (home_of c.args.tzdb.now reader.table.now c.requires.of_list) reader.number (reader_view reader) c.args.holds.now c.args.line c.args.op.now c.in-List.is c.list.result (reader_view now)
    c.list.ensures.meets c.list.ensures.answer c.list.ensures.kept c.list.ensures.counts

pub returns-in-List-clause-held : goal.returns-in-List-clause-held
returns-in-List-clause-held g c = let reader = c.args.reader.now in let now = c.list.new.reader in
    held_same (plan reader.table.now) (plan now.table.now) (reader_view reader) (reader_view now) c.args.holds.now c.requires.held c.list.ensures.entries c.list.ensures.handles

pub returns-in-Info-clause-served : goal.returns-in-Info-clause-served
returns-in-Info-clause-served g c = let reader = c.args.reader.now in let now = c.look_up.new.reader in
    subst (λ (sources : Sources). ServesInLane (plan reader.table.now) sources reader.number (reader_view reader) c.args.holds.now c.args.line c.args.op.now c.look_up.result (reader_view now) c.args.holds.now)
    (home_of c.args.tzdb.now reader.table.now c.requires.of_list) (c.look_up.ensures.served c.args.line)

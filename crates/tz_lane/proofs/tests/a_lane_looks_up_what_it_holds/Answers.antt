use Rattle.std.proofs.Common.{sym, subst}
use Rattle.pin_table.specs.Handles.{MadeBy}
use Rattle.pin_table.specs.Reader.{reader_view}
use Rattle.pin_table.specs.Table.{plan}
use Rattle.tz_list.specs.Reload.{release_home, release_source}
use Rattle.tz_lane.specs.declared.lane_hold.LaneHold.{LaneHold}
use Rattle.tz_lane.proofs.OneHold.{put_named, one_taken, one_left}
use Rattle.tz_lane.proofs.tests.a_lane_looks_up_what_it_holds.Goals as goal

pub named-requires : goal.named-requires
named-requires g c = put_named c.put.new.self _ _ c.in_ok-name.name c.put.ensures c.copied.ensures

pub take-line-requires : goal.take-line-requires
take-line-requires g c = put_named c.put.new.self _ _ c.in_ok-name.name c.put.ensures c.copied.ensures

pub end-requires : goal.end-requires
end-requires g c = one_left c.put.new.self _ c.take-line.new.self _ _ c.new-holds.ensures c.put.ensures c.take-line.ensures.others

pub let_go-requires : goal.let_go-requires
let_go-requires g c =
    let handle = c.hold-handle.result.1 in
    let pinned = c.hold-handle.new.reader in
    let made = subst (λ table. MadeBy release_home release_source (plan table) (reader_view pinned) handle) (sym c.hold-handle.ensures.table) c.hold-handle.ensures.made in
    let reader = c.look_up_held-held.new.reader in
    record {
      made = subst (λ (it : LaneHold). MadeBy release_home release_source (plan reader.table.now) (reader_view reader) it.handle)
          (sym (one_taken c.put.new.self _ c.take-line.new.self _ c.take-line.result c.new-holds.ensures c.put.ensures c.take-line.ensures.others))
          (c.look_up_held-held.ensures.handles handle made);
    }

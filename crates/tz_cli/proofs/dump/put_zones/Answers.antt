use Rattle.std.proofs.Common.{◌≡◌, ◌<◌, length, FitsSigned, rules}
use Rattle.std.specs.Int.{w64}
use Rattle.std.proofs.lemmas.Int.{to_z-of_z}
use Rattle.std.proofs.lemmas.Result.{err_from_is_err_and}
use Rattle.tz_expand.specs.Stretch.{ranges_between}
use Rattle.tz_cli.specs.Dumping.{compiled_text}
use Rattle.tz_cli.proofs.Dumps.{zip_at}
use Rattle.tz_cli.proofs.Waiting.{put_next, put_stopped_at, none_put}
use Rattle.tz_cli.proofs.dump.put_zones.Goals as goal

pub returns-in_err-put_zone-clause-stopped : goal.returns-in_err-put_zone-clause-stopped
returns-in_err-put_zone-clause-stopped g c =
    let from_fits : FitsSigned w64 c.args.from = c.ranges.from in
    let to_fits : FitsSigned w64 c.args.to = c.ranges.to in
    let place = c.loop-place.place in
    let zone = c.index-zones-place.result in
    let ranges = c.index-dump-place.result in
    let low : place < length c.args.zones.now = search rules in
    let are = zip_at (λ zone ranges. ranges.items ≡ ranges_between zone c.args.from c.args.to) c.args.zones.now c.args.dump.now place zone ranges c.requires.are low in
    let told : ranges.items ≡ ranges_between zone c.args.from c.args.to = rw (c.index-zones-place.is, c.index-dump-place.is) are in
    let stop = err_from_is_err_and c.from_residual.result c.from_residual.ensures.1 in
    rw (stop.1, stop.2) (put_stopped_at (compiled_text c.args.from c.args.to) c.args.zones.now place zone c.index-zones-place.is low c.in_err-put_zone.field-0.0 (g.S.Sink.state c.args.sink.now) (g.S.Sink.state c.loop-place.sink) (g.S.Sink.state c.put_zone.new.sink) c.args.waiting.now.items c.loop-place.waiting.items (simp to_z-of_z at c.loop-place.invariant) (rw (c.get.ensures, c.as_slice.ensures.value, told) at c.in_err-put_zone.ensures.stopped))

pub loop-place-preserved : goal.loop-place-preserved
loop-place-preserved g c =
    let from_fits : FitsSigned w64 c.args.from = c.ranges.from in
    let to_fits : FitsSigned w64 c.args.to = c.ranges.to in
    let place = c.loop-place.place in
    let zone = c.index-zones-place.result in
    let ranges = c.index-dump-place.result in
    let low : place < length c.args.zones.now = search rules in
    let are = zip_at (λ zone ranges. ranges.items ≡ ranges_between zone c.args.from c.args.to) c.args.zones.now c.args.dump.now place zone ranges c.requires.are low in
    let told : ranges.items ≡ ranges_between zone c.args.from c.args.to = rw (c.index-zones-place.is, c.index-dump-place.is) are in
    simp to_z-of_z (put_next (compiled_text c.args.from c.args.to) c.args.zones.now place zone c.index-zones-place.is low (g.S.Sink.state c.args.sink.now) (g.S.Sink.state c.loop-place.sink) (g.S.Sink.state c.put_zone.new.sink) c.args.waiting.now.items c.loop-place.waiting.items c.put_zone.new.waiting.items (simp to_z-of_z at c.loop-place.invariant) (rw (c.get.ensures, c.as_slice.ensures.value, told) at c.in_ok-put_zone.ensures.ok))

pub loop-place-init : goal.loop-place-init
loop-place-init g c = none_put (g.S.Sink.state c.args.sink.now) c.args.waiting.now.items

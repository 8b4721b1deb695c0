use Rattle.std.proofs.Common.{◌<◌, length, rules}
use Rattle.std.proofs.lemmas.Result.{err_from_is_err_and}
use Rattle.tz_cli.specs.Line.{range_line}
use Rattle.tz_cli.proofs.Waiting.{put_next, put_stopped_at, none_put}
use Rattle.tz_cli.proofs.dump.put_ranges.Goals as goal

pub returns-in_err-put_range_line-clause-stopped : goal.returns-in_err-put_range_line-clause-stopped
returns-in_err-put_range_line-clause-stopped g c =
    let low : c.loop-range.range-index < length c.args.ranges.now = search rules in
    let stop = err_from_is_err_and c.from_residual.result c.from_residual.ensures.1 in
    rw (stop.1, stop.2) (put_stopped_at range_line c.args.ranges.now c.loop-range.range-index c.range-item.result c.range-item.is low c.in_err-put_range_line.field-0.0 (g.S.Sink.state c.args.sink.now) (g.S.Sink.state c.loop-range.sink) (g.S.Sink.state c.put_range_line.new.sink) c.args.waiting.now.items c.loop-range.waiting.items c.loop-range.invariant c.in_err-put_range_line.ensures.stopped)

pub loop-range-preserved : goal.loop-range-preserved
loop-range-preserved g c =
    let low : c.loop-range.range-index < length c.args.ranges.now = search rules in
    put_next range_line c.args.ranges.now c.loop-range.range-index c.range-item.result c.range-item.is low (g.S.Sink.state c.args.sink.now) (g.S.Sink.state c.loop-range.sink) (g.S.Sink.state c.put_range_line.new.sink) c.args.waiting.now.items c.loop-range.waiting.items c.put_range_line.new.waiting.items c.loop-range.invariant c.in_ok-put_range_line.ensures.ok

pub loop-range-init : goal.loop-range-init
loop-range-init g c = none_put (g.S.Sink.state c.args.sink.now) c.args.waiting.now.items

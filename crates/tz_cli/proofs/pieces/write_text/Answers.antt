use Rattle.std.proofs.Common.{[], ◌++◌, refl, sym}
use Rattle.std.proofs.lemmas.Result.{err_from_is_err_and}
use Rattle.tz_io.proofs.SinkStates.{with_none}
use Rattle.tz_cli.proofs.Waiting.{next_piece, stops_in_piece, written_then}
use Rattle.tz_cli.proofs.pieces.write_text.Goals as goal

pub loop-rest-init : goal.loop-rest-init
loop-rest-init g c = record { done = []; state = sym (with_none (g.S.Sink.state c.args.sink.now)); all = refl }

pub returns-in_err-write_piece-clause-err : goal.returns-in_err-write_piece-clause-err
returns-in_err-write_piece-clause-err g c =
    let kept = c.loop-rest.invariant in
    let stop = err_from_is_err_and c.from_residual.result c.from_residual.ensures.1 in
    rw (stop.1, stop.2) (stops_in_piece c.in_err-write_piece.field-0.0 (g.S.Sink.state c.args.sink.now) (g.S.Sink.state c.loop-rest.sink) (g.S.Sink.state c.write_piece.new.sink) c.min.result c.args.text.now kept.done c.loop-rest.rest.now c.split_at.result.0.now c.split_at.result.1.now c.split_at.ensures.front c.split_at.ensures.back kept.all kept.state c.in_err-write_piece.ensures.err)

pub loop-rest-preserved : goal.loop-rest-preserved
loop-rest-preserved g c =
    let kept = c.loop-rest.invariant in
    record {
      done = kept.done ++ c.split_at.result.0.now;
      state = written_then (g.S.Sink.state c.args.sink.now) (g.S.Sink.state c.loop-rest.sink) (g.S.Sink.state c.write_piece.new.sink) kept.done c.split_at.result.0.now kept.state c.in_ok-write_piece.ensures.ok;
      all = next_piece c.min.result c.args.text.now kept.done c.loop-rest.rest.now c.split_at.result.0.now c.split_at.result.1.now c.split_at.ensures.front c.split_at.ensures.back kept.all;
    }

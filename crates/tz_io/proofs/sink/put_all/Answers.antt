-- A write that took some bytes goes on from where the last one ended, and does not stall.
use Rattle.std.proofs.Common.{◌-◌, length, drop, sym, arith, length-drop, length-take}
use Rattle.tz_io.proofs.SinkStates.{with_none, next_part}
use Rattle.tz_io.proofs.sink.put_all.Goals as goal

pub loop-done-init : goal.loop-done-init
loop-done-init g c = record { within = omega arith; state = sym (with_none (g.S.Sink.state c.args.sink.now)) }

pub loop-done-preserved : goal.loop-done-preserved
loop-done-preserved g c =
    let write = c.in_ok-count.ensures in
    record {
      within = omega (arith, write.within, length-take (length c.args.text.now - c.loop-done.done) (drop c.loop-done.done c.args.text.now), length-drop c.loop-done.done c.args.text.now);
      state = next_part _ (g.S.Sink.state c.loop-done.sink) _ _ _ _ c.loop-done.invariant.state (write.taken (λ stall. let none = stall.0 in omega arith));
    }

use Rattle.std.proofs.Common.{◌≡◌, ◌∙◌, arith, None, drop, refl}
use Rattle.std.specs.List.{slice_range}
use Rattle.tz_specs.specs.Field.{fields_from, Inside}
use Rattle.tz_text.proofs.Steps.{on_err, range_rest}
use Rattle.tz_text.proofs.cut.join.Goals as goal

pub returns-in_err-piece-clause-err : goal.returns-in_err-piece-clause-err
returns-in_err-piece-clause-err c =
    on_err
    (fields_from Inside (slice_range c.args.line.now c.args.first.start c.args.first.end) (drop c.args.first.after c.args.line.now) ≡ None)
    _
    (c.loop-after.invariant.goes_on ∙ c.in_err-piece.ensures.err _)

pub returns-clause-ok : goal.returns-clause-ok
returns-clause-ok c =
    let here : slice_range c.loop-after.joined.bytes.items c.len-start.result c.len.result
    ≡ drop c.len-start.result c.loop-after.joined.bytes.items =
    range_rest _ _ _ c.len.ensures.value in
    record {
      onwards = c.loop-after.invariant.onwards;
      within = c.loop-after.invariant.within;
      room = c.loop-after.invariant.room;
      longer = omega arith;
      same = rw (← c.len-start.ensures.value) c.loop-after.invariant.earlier;
      lies = (omega arith, omega arith);
      goes_on = rw here (c.loop-after.invariant.goes_on ∙ c.loop-after-test.ensures.ends refl _);
    }

use Rattle.std.proofs.Common.{◌∙◌, sym, ap, arith, length}
use Rattle.std.proofs.lemmas.List.{length-set}
use Rattle.tz_text.proofs.Steps.{no_more_at_end, no_more_at_hash}
use Rattle.tz_text.proofs.Spans.{one_more, all_lie, all_kept}
use Rattle.tz_text.proofs.cut.spans_of.Goals as goal

pub loop-index-preserved : goal.loop-index-preserved
loop-index-preserved c =
    let kept = c.keep.ensures in
    let field = c.in_ok-field.ensures.ok in
    let skipped = c.skip_white-index-in-loop-index.ensures in
    let before = c.loop-index.invariant in
    record {
      within = skipped.within;
      fewer = omega (arith, ap (λ spans. spans.count) kept, field.onwards, skipped.onwards, before.fewer);
      room = omega (arith, field.room, skipped.onwards);
      no_white = skipped.stop;
      ten = ap (λ spans. length spans.first) kept ∙ length-set _ _ _ ∙ before.ten;
      lie = rw kept (all_lie _ _ _ _ _ _ before.lie field);
      goes_on = rw (kept, ← skipped.same) (sym (one_more _ _ _ _ _ _ before.ten before.lie field) ∙ before.goes_on);
    }

pub returns-else-line-index-ne35-clause-ok : goal.returns-else-line-index-ne35-clause-ok
returns-else-line-index-ne35-clause-ok c =
    all_kept
    _
    _
    _
    _
    c.loop-index.invariant.ten
    (no_more_at_hash _ _ c.loop-index-test.true c.if-line-index-ne35.false)
    c.loop-index.invariant.goes_on

pub returns-after-loop-index-clause-ok : goal.returns-after-loop-index-clause-ok
returns-after-loop-index-clause-ok c =
    all_kept
    _
    _
    _
    _
    c.loop-index.invariant.ten
    (no_more_at_end _ _ c.loop-index-test.false)
    c.loop-index.invariant.goes_on

use Rattle.std.proofs.Common.{◌≡◌, ◌∙◌, arith, [], None, drop}
use Rattle.std.proofs.lemmas.List.{take_all}
use Rattle.std.proofs.lemmas.Result.{IfOk-weaker, on_err_weaker}
use Rattle.tz_specs.specs.Field.{fields_from, Between}
use Rattle.tz_text.proofs.Steps.{on_err, field_at}
use Rattle.tz_text.proofs.cut.field_at.Goals as goal

pub returns-in_err-piece-clause-err : goal.returns-in_err-piece-clause-err
returns-in_err-piece-clause-err c =
    on_err
    (fields_from Between [] (drop c.args.index c.args.line.now) ≡ None)
    _
    (field_at _ _ c.requires.begins.within c.requires.begins.no_white c.requires.begins.no_hash
    ∙ c.in_err-piece.ensures.err [])

pub returns-then-piece-clause-ok : goal.returns-then-piece-clause-ok
returns-then-piece-clause-ok c = record {
  onwards = omega (arith, c.in_ok-piece.ensures.ok.onwards);
  within = c.in_ok-piece.ensures.ok.within;
  room = omega (arith, c.in_ok-piece.ensures.ok.onwards);
  longer = omega arith;
  same = take_all _ _ (omega arith);
  lies = (c.in_ok-piece.ensures.ok.order, omega (arith, c.in_ok-piece.ensures.ok.closed, c.in_ok-piece.ensures.ok.within));
  goes_on =
      field_at _ _ c.requires.begins.within c.requires.begins.no_white c.requires.begins.no_hash
      ∙ c.in_ok-piece.ensures.ok.goes_on []
      ∙ c.in_ok-piece.ensures.ok.ends c.if-piece.true _;
}

pub returns-clause-ok : goal.returns-clause-ok
returns-clause-ok c =
    let first = c.in_ok-piece.ensures.ok in
    IfOk-weaker
    c.join.result
    _
    _
    (λ field is.
    record {
      onwards = omega (arith, first.onwards, is.onwards);
      within = is.within;
      room = is.room;
      longer = is.longer;
      same = is.same;
      lies = is.lies;
      goes_on =
          field_at _ _ c.requires.begins.within c.requires.begins.no_white c.requires.begins.no_hash
          ∙ first.goes_on []
          ∙ is.goes_on;
    })
    c.join.ensures.ok

pub returns-clause-err : goal.returns-clause-err
returns-clause-err c =
    on_err_weaker
    c.join.result
    (λ none.
    field_at _ _ c.requires.begins.within c.requires.begins.no_white c.requires.begins.no_hash
    ∙ c.in_ok-piece.ensures.ok.goes_on []
    ∙ none)
    c.join.ensures.err

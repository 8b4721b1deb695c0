use Rattle.std.proofs.Common.{◌≡◌, ◌∙◌, arith, List, ℕ, None, drop}
use Rattle.tz_specs.specs.Field.{fields_from, Inside}
use Rattle.tz_text.proofs.Steps.{on_err, opening_at}
use Rattle.tz_text.proofs.cut.scan.piece_at.Goals as goal

pub returns-in_err-end-clause-err : goal.returns-in_err-end-clause-err
returns-in_err-end-clause-err c =
    on_err
    ((field : List ℕ) → fields_from Inside field (drop c.args.index c.args.line.now) ≡ None)
    _
    (λ field.
    opening_at _ field _ c.requires.within c.requires.no_white c.requires.no_hash c.if-line-index-eq34.true
    ∙ c.in_err-end.ensures.err field)

pub returns-in_ok-end-clause-ok : goal.returns-in_ok-end-clause-ok
returns-in_ok-end-clause-ok c = record {
  from = omega arith;
  order = omega (arith, c.in_ok-end.ensures.onwards);
  closed = omega arith;
  onwards = omega (arith, c.in_ok-end.ensures.onwards);
  within = omega (arith, c.in_ok-end.ensures.within);
  goes_on =
      λ field.
      opening_at _ field _ c.requires.within c.requires.no_white c.requires.no_hash c.if-line-index-eq34.true
      ∙ c.in_ok-end.ensures.closed field;
  ends = c.ends_field.ensures.ends;
}

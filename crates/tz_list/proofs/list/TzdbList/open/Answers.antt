use Rattle.std.proofs.lemmas.Result.{err_from_is_err_and}
use Rattle.tz_version.specs.declared.error.MakeError.TheVariants as errors
use Rattle.tz_list.proofs.Errors.{same_error, not_both}
use Rattle.tz_list.proofs.list.TzdbList.open.Goals as goal

pub returns-in_err-version-clause-leaps : goal.returns-in_err-version-clause-leaps
returns-in_err-version-clause-leaps c =
    let gone = err_from_is_err_and c.from_residual.result c.from_residual.ensures.1 in
    rw (gone.1, gone.2) (λ fault some. same_error c.in_err-version.field-0.0 errors.NoMemory (errors.Leaps fault) _ (c.in_err-version.ensures.leaps fault) some)

pub returns-in_err-version-clause-text : goal.returns-in_err-version-clause-text
returns-in_err-version-clause-text c =
    let gone = err_from_is_err_and c.from_residual.result c.from_residual.ensures.1 in
    rw (gone.1, gone.2) (λ fault some. same_error c.in_err-version.field-0.0 errors.NoMemory (errors.Text fault) _ (c.in_err-version.ensures.text fault) some)

pub returns-clause-text : goal.returns-clause-text
returns-clause-text c = λ fault some.
    ((λ never. cc), (λ refused. absurd (not_both c.args.sources 0 c.in_ok-version.version fault c.in_ok-version.ensures.ok refused)))

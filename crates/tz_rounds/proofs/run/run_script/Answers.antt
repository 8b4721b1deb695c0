-- Errors of the opening are those of the run.
use Rattle.std.proofs.Common.{◌≡◌, ◌↔◌, Err, Result, sym, subst}
use Rattle.tz_batch.specs.declared.outcome.Outcome.{Outcome}
use Rattle.tz_version.specs.Refusal.{RefusesLeapText, RefusesSource}
use Rattle.tz_version.specs.declared.sources.Sources.{Sources}
use Rattle.tz_version.specs.declared.error.MakeError.TheVariants as errors
use Rattle.tz_rounds.proofs.Errors.{passed_on}
use Rattle.tz_rounds.proofs.run.run_script.Goals as goal

pub returns-in-Ok-run_on-clause-text : goal.returns-in-Ok-run_on-clause-text
returns-in-Ok-run_on-clause-text g c = λ fault some.
    ((λ never. cc), (λ refused. let no = (c.in-Ok-open.ensures.text fault (λ never. cc)).1 (subst (λ (it : Sources). RefusesSource it 0 fault) (sym c.in-Ok.ensures) refused) in cc))

pub returns-in-Err-clause-leaps : goal.returns-in-Err-clause-leaps
returns-in-Err-clause-leaps g c = λ fault some.
    subst (λ (it : Sources). (◌≡◌ {A = Result Outcome errors.the_data} (Err c.in-Err.error) (Err (errors.Leaps fault))) ↔ RefusesLeapText it.leaps fault) c.in-Ok.ensures (passed_on c.in-Err.error errors.NoMemory (errors.Leaps fault) (RefusesLeapText c.in-Ok.shared.leaps fault) (c.in-Err.ensures.leaps fault) some)

pub returns-in-Err-clause-text : goal.returns-in-Err-clause-text
returns-in-Err-clause-text g c = λ fault some.
    subst (λ (it : Sources). (◌≡◌ {A = Result Outcome errors.the_data} (Err c.in-Err.error) (Err (errors.Text fault))) ↔ RefusesSource it 0 fault) c.in-Ok.ensures (passed_on c.in-Err.error errors.NoMemory (errors.Text fault) (RefusesSource c.in-Ok.shared 0 fault) (c.in-Err.ensures.text fault) some)

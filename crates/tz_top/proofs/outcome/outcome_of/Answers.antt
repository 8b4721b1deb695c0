use Rattle.std.proofs.Common.{◌≡◌, inl, inr, Err}
use Rattle.tz_version.specs.declared.error.MakeError.TheVariants as errors
use Rattle.tz_top.proofs.outcome.outcome_of.Goals as goal

pub returns-in-Ok-clause-opens : goal.returns-in-Ok-clause-opens
returns-in-Ok-clause-opens g c = λ fault refused.
    elim refused [
      | inl leaps ↦
          let is : c.run_script.result ≡ Err (errors.Leaps fault) = (c.run_script.ensures.leaps fault (λ memory. cc)).1 leaps in cc
      | inr first ↦
          let is : c.run_script.result ≡ Err (errors.Text fault) = (c.run_script.ensures.text fault (λ memory. cc)).1 first in cc
    ]

pub returns-in-Err-Leaps-clause-refused : goal.returns-in-Err-Leaps-clause-refused
returns-in-Err-Leaps-clause-refused g c =
    let is : c.run_script.result ≡ Err (errors.Leaps c.in-Err-Leaps.fault) = cc in
    (c.run_script.ensures.leaps c.in-Err-Leaps.fault (λ memory. cc)).0 is

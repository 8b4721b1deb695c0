use Rattle.tz_local.proofs.FindingsLemmas.{gap_opens, still_told}
use Rattle.tz_local.proofs.findings.Findings.and_later.Goals as goal

pub returns-in-Begun : goal.returns-in-Begun
returns-in-Begun c = λ seen l hidden late found.
    let none = rw c.in-Begun.is at found in
    gap_opens seen l c.args.range c.in-Begun.first hidden late none

pub returns-in-Told : goal.returns-in-Told
returns-in-Told c = λ seen l hidden late found.
    let told = rw c.in-Told.is at found in
    still_told seen l c.args.range c.in-Told.info hidden late told

use Rattle.tz_local.proofs.FindingsLemmas.{second_candidate, further_candidate}
use Rattle.tz_local.proofs.findings.Findings.and_candidate.Goals as goal

pub returns-in-Told-Unique : goal.returns-in-Told-Unique
returns-in-Told-Unique c = λ seen l shows found.
    let one = rw (c.in-Told-Unique.is, c.in-Told-Unique.field-0-is) at found in
    second_candidate seen l c.args.range c.in-Told-Unique.first shows one

pub returns-in-Told-Ambiguous : goal.returns-in-Told-Ambiguous
returns-in-Told-Ambiguous c = λ seen l shows found.
    let more = rw (c.in-Told-Ambiguous.is, c.in-Told-Ambiguous.field-0-is) at found in
    further_candidate seen l c.args.range c.in-Told-Ambiguous.first _ shows more

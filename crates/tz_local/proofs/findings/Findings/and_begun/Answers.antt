use Rattle.tz_local.proofs.FindingsLemmas.{one_more_begun}
use Rattle.tz_local.proofs.findings.Findings.and_begun.Goals as goal

pub returns-in-Begun : goal.returns-in-Begun
returns-in-Begun c = λ seen l hidden begins found.
    let none = rw c.in-Begun.is at found in
    one_more_begun seen l c.args.range hidden begins none.0

pub returns-in-Told-Nonexistent : goal.returns-in-Told-Nonexistent
returns-in-Told-Nonexistent c = λ seen l hidden begins found.
    let gap = rw (c.in-Told-Nonexistent.is, c.in-Told-Nonexistent.field-0-is) at found in
    one_more_begun seen l c.args.range hidden begins gap.1

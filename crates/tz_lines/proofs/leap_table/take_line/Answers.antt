use Rattle.std.proofs.Common.{◌≡◌, ◌+◌, length, Ok, Err, Some, None, sym, ap, ◌∙◌, rules}
use Rattle.tz_specs.specs.LeapText.{LeapContents, leap_contents_after}
use Rattle.tz_specs.specs.LeapLine.{leap_line_says}
use Rattle.tz_records.specs.LeapRecord.{record_meant}
use Rattle.tz_lines.specs.LeapContents.{contents_meant}
use Rattle.tz_lines.proofs.LeapLines.{said_after, after_said, cause_comes}
use Rattle.tz_lines.proofs.leap_table.take_line.Goals as goal

pub returns-in-Ok-None-clause-ok : goal.returns-in-Ok-None-clause-ok
returns-in-Ok-None-clause-ok c =
    let leaps = c.args.contents.now.leaps.items in
    let count : c.len.result ≡ length leaps = search rules in
    let said : leap_line_says c.args.number c.len.result c.args.line.now ≡ Ok None = rw c.in-Ok-None.field-0-is at c.in-Ok-None.ensures.ok in
    λ lines. after_said (contents_meant c.args.contents.now) c.args.number c.args.line.now lines None (said_after c.args.number c.len.result c.args.line.now leaps (Ok None) count said)

pub returns-in_ok-add-in-Ok-Some-clause-ok : goal.returns-in_ok-add-in-Ok-Some-clause-ok
returns-in_ok-add-in-Ok-Some-clause-ok c =
    let leaps = c.args.contents.now.leaps.items in
    let told = Some (record_meant c.in-Ok-Some.said) in
    let count : c.len.result ≡ length leaps = search rules in
    let said : leap_line_says c.args.number c.len.result c.args.line.now ≡ Ok told = rw c.in-Ok-Some.field-0-is at c.in-Ok-Some.ensures.ok in
    λ lines. after_said (contents_meant c.args.contents.now) c.args.number c.args.line.now lines told (said_after c.args.number c.len.result c.args.line.now leaps (Ok told) count said) ∙ ap (λ (it : LeapContents). leap_contents_after it (c.args.number + 1) lines) (sym c.in_ok-add-in-Ok-Some.ensures)

pub returns-in-Err-clause-err : goal.returns-in-Err-clause-err
returns-in-Err-clause-err c =
    let leaps = c.args.contents.now.leaps.items in
    let count : c.len.result ≡ length leaps = search rules in
    λ lines. cause_comes c.at.result (contents_meant c.args.contents.now) c.args.number c.args.line.now lines c.in-Err.cause c.at.ensures (said_after c.args.number c.len.result c.args.line.now leaps (Err c.in-Err.cause) count c.in-Err.ensures.err)

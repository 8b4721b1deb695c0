use Rattle.std.proofs.Common.{◌≡◌, ◌+◌, true, ◌||◌, nat_lt, option_map, sym, ap, ◌∙◌}
use Rattle.tz_types.specs.declared.limit.TheConstants.{MOST_TEXT_LINES}
use Rattle.tz_specs.specs.Contents.{Contents, contents_after}
use Rattle.tz_records.specs.Entry.{written_entry}
use Rattle.tz_records.specs.Counts.{exceeds_said}
use Rattle.tz_lines.specs.Gathered.{contents_gathered}
use Rattle.tz_lines.specs.RecordOrder.{are_before}
use Rattle.tz_lines.proofs.Records.{said_placed, said_before}
use Rattle.tz_lines.proofs.GatheredLines.{after_said, limit_comes, cause_comes}
use Rattle.tz_lines.proofs.files.take_line.Goals as goal

pub returns-in-Err-clause-err : goal.returns-in-Err-clause-err
returns-in-Err-clause-err c =
    λ lines. rw c.at.ensures (cause_comes (contents_gathered c.args.gathered.now) c.waits.result c.args.number c.args.line.now lines c.in-Err.cause (sym c.waits.ensures) c.in-Err.ensures.err)

pub add-requires-clause-in_place : goal.add-requires-clause-in_place
add-requires-clause-in_place c =
    said_placed (contents_gathered c.args.gathered.now) c.waits.result c.args.number c.args.line.now c.in-Ok.said (sym c.waits.ensures) c.in-Ok.ensures.ok c.requires.before

pub returns-in-Ok-add-clause-ok : goal.returns-in-Ok-add-clause-ok
returns-in-Ok-add-clause-ok c =
    λ lines. after_said (contents_gathered c.args.gathered.now) c.waits.result c.args.number c.args.line.now lines (option_map written_entry c.in-Ok.said) (sym c.waits.ensures) c.in-Ok.ensures.ok c.in-Ok-add.ensures.limit ∙ ap (λ (it : Contents). contents_after it (c.args.number + 1) lines) (sym c.in-Ok-add.ensures.contents)

pub returns-in-Ok-add-clause-before : goal.returns-in-Ok-add-clause-before
returns-in-Ok-add-clause-before c =
    ap (λ (it : Contents). are_before (c.args.number + 1) it.sets) c.in-Ok-add.ensures.contents
    ∙ said_before (contents_gathered c.args.gathered.now) c.waits.result c.args.number c.args.line.now c.in-Ok.said (sym c.waits.ensures) c.in-Ok.ensures.ok c.requires.before

pub returns-in-Err-Limit-clause-err : goal.returns-in-Err-Limit-clause-err
returns-in-Err-Limit-clause-err c =
    let before = contents_gathered c.args.gathered.now in
    let said = option_map written_entry c.in-Ok.said in
    let exceeded : (exceeds_said before said || nat_lt MOST_TEXT_LINES c.args.number) ≡ true = rw c.in-Err-Limit.field-0-is at c.in-Err-Limit.ensures.limit in
    λ lines. rw c.at-in-Err-Limit.ensures (limit_comes before c.waits.result c.args.number c.args.line.now lines said (sym c.waits.ensures) c.in-Ok.ensures.ok exceeded)

use Rattle.std.proofs.Common.{◌≡◌, ◌+◌, Ok, Err, Some, None, sym, ap, ◌∙◌}
use Rattle.tz_script.specs.Contents.{ScriptContents}
use Rattle.tz_script.specs.Gathered.{script_contents_gathered}
use Rattle.tz_script.specs.Line.{script_line_says}
use Rattle.tz_script.specs.Script.{script_contents_after}
use Rattle.tz_script.proofs.Reading.{after_said, after_cause}
use Rattle.tz_script.proofs.Soundness.{before_next}
use Rattle.tz_script.proofs.reader.take_line.Goals as goal

pub returns-in-Ok-None-clause-ok : goal.returns-in-Ok-None-clause-ok
returns-in-Ok-None-clause-ok c =
    let contents = script_contents_gathered c.args.gathered.now in
    let said : script_line_says c.args.sources contents c.args.line.now ≡ Ok None = rw c.in-Ok-None.field-0-is at c.in-Ok-None.ensures.ok in
    λ lines. after_said c.args.sources contents c.args.number c.args.line.now lines None said

pub returns-in-Ok-None-clause-before : goal.returns-in-Ok-None-clause-before
returns-in-Ok-None-clause-before c =
    before_next c.args.number c.args.gathered.now.operations c.requires.before

pub returns-in_ok-add-in-Ok-Some-clause-ok : goal.returns-in_ok-add-in-Ok-Some-clause-ok
returns-in_ok-add-in-Ok-Some-clause-ok c =
    let contents = script_contents_gathered c.args.gathered.now in
    let told = Some c.in-Ok-Some.said in
    let said : script_line_says c.args.sources contents c.args.line.now ≡ Ok told = rw c.in-Ok-Some.field-0-is at c.in-Ok-Some.ensures.ok in
    λ lines.
    after_said c.args.sources contents c.args.number c.args.line.now lines told said
    ∙ ap (λ (it : ScriptContents). script_contents_after c.args.sources it (c.args.number + 1) lines) (sym c.in_ok-add-in-Ok-Some.ensures.contents)

pub returns-in-Err-clause-err : goal.returns-in-Err-clause-err
returns-in-Err-clause-err c =
    λ lines.
    after_cause c.args.sources (script_contents_gathered c.args.gathered.now) c.args.number c.args.line.now lines c.in-Err.cause c.in-Err.ensures.err
    ∙ ap Err (sym c.fault.ensures)

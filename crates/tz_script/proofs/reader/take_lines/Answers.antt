use Rattle.std.proofs.Common.{◌≡◌, [], ◌∷◌, sym, ap, ◌∙◌, subst, Result}
use Rattle.tz_specs.specs.Line.{lines_of}
use Rattle.std.proofs.lemmas.Result.{err_from_is_err_and}
use Rattle.tz_types.specs.declared.fault.LineFault.{LineFault}
use Rattle.tz_script.specs.Contents.{ScriptContents, no_script_contents}
use Rattle.tz_script.specs.Gathered.{script_contents_gathered}
use Rattle.tz_script.specs.Script.{script_contents_after}
use Rattle.tz_script.specs.Tells.{MeansScriptFault}
use Rattle.tz_text.proofs.LineCuts.{nothing_left, lines-none}
use Rattle.tz_script.proofs.Reading.{after_none}
use Rattle.tz_script.proofs.reader.take_lines.Goals as goal

pub returns-clause-ok : goal.returns-clause-ok
returns-clause-ok c =
    let contents = script_contents_gathered c.loop-rest.gathered in
    let none = nothing_left c.loop-rest.rest.now c.loop-rest-test.ensures in
    let lines : lines_of c.loop-rest.rest.now ≡ [] = ap lines_of none ∙ lines-none in
    sym c.loop-rest.invariant.same ∙ ap (script_contents_after c.args.sources contents c.loop-rest.number) lines ∙ after_none c.args.sources contents c.loop-rest.number

-- the fault of a line is that of the text
pub returns-in_err-take_line-clause-err : goal.returns-in_err-take_line-clause-err
returns-in_err-take_line-clause-err c =
    let contents = script_contents_gathered c.loop-rest.gathered in
    let later = lines_of c.next_line.result.1.now in
    let same : script_contents_after c.args.sources contents c.loop-rest.number (c.next_line.result.0.now ∷ later) ≡ script_contents_after c.args.sources no_script_contents 1 (lines_of c.args.text.now) =
    ap (script_contents_after c.args.sources contents c.loop-rest.number) (sym c.next_line.ensures.lines) ∙ c.loop-rest.invariant.same in
    let told = subst (λ (outcome : Result ScriptContents LineFault). MeansScriptFault c.in_err-take_line.field-0.0 outcome) same (c.in_err-take_line.ensures.err later) in
    let gone = err_from_is_err_and c.from_residual.result c.from_residual.ensures.1 in
    rw (gone.1, gone.2) told

use Rattle.std.proofs.Common.{◌≡◌, [], sym, ap, ◌∙◌}
use Rattle.tz_specs.specs.Line.{lines_of}
use Rattle.tz_script.specs.Script.{blank_fault}
use Rattle.tz_text.proofs.LineCuts.{nothing_left, lines-none}
use Rattle.tz_script.proofs.reader.blank_fault.Goals as goal

pub returns-then-is_empty : goal.returns-then-is_empty
returns-then-is_empty c =
    let none = nothing_left c.args.text.now c.if-is_empty.ensures in
    let lines : lines_of c.args.text.now ≡ [] = ap lines_of none ∙ lines-none in
    c.fault.ensures ∙ sym (ap blank_fault lines)

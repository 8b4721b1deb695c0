use Rattle.std.proofs.Common.{◌≡◌, true, [], sym, ap, ◌∙◌}
use Rattle.tz_specs.specs.Line.{lines_of}
use Rattle.tz_script.specs.Script.{are_blank}
use Rattle.tz_text.proofs.LineCuts.{nothing_left, lines-none}
use Rattle.tz_script.proofs.reader.are_blank.Goals as goal

pub returns : goal.returns
returns c =
    let none = nothing_left c.loop-rest.rest.now c.loop-rest-test.ensures in
    let lines : lines_of c.loop-rest.rest.now ≡ [] = ap lines_of none ∙ lines-none in
    let blank : are_blank (lines_of c.loop-rest.rest.now) ≡ true = ap are_blank lines in
    sym blank ∙ c.loop-rest.invariant

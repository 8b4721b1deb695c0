use Rattle.std.proofs.Common.{◌≡◌, ◌+◌, [], length, ap, ◌∙◌, arith}
use Rattle.tz_specs.specs.Line.{lines_of}
use Rattle.tz_text.proofs.LineCuts.{nothing_left, lines-none}
use Rattle.tz_lines.proofs.places.line_count.Goals as goal

pub returns : goal.returns
returns c =
    let lines : lines_of c.loop-rest.rest.now ≡ [] = ap lines_of (nothing_left c.loop-rest.rest.now c.loop-rest-test.ensures) ∙ lines-none in
    let none : length (lines_of c.loop-rest.rest.now) ≡ 0 = ap length lines in
    let all : c.loop-rest.count + length (lines_of c.loop-rest.rest.now) ≡ length (lines_of c.args.text.now) = c.loop-rest.invariant.all in
    omega (arith, none, all)

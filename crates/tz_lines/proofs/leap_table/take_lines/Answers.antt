use Rattle.std.proofs.Common.{◌≡◌, [], ◌∷◌, sym, ap, ◌∙◌, arith, rules}
use Rattle.tz_specs.specs.Line.{lines_of}
use Rattle.tz_specs.specs.LeapText.{leap_contents_after, leap_contents_of}
use Rattle.tz_specs.proofs.LeapTextLemmas.{contents_end}
use Rattle.tz_lines.specs.LeapContents.{contents_meant}
use Rattle.tz_text.proofs.LineCuts.{nothing_left, lines-none}
use Rattle.tz_lines.proofs.LeapLines.{from_none}
use Rattle.tz_lines.proofs.leap_table.take_lines.Goals as goal

pub loop-rest-init : goal.loop-rest-init
loop-rest-init c =
    record {
      same = from_none (contents_meant c.new-contents.result) c.args.text.now c.new-contents.ensures;
      within = omega arith;
    }

pub returns-clause-ok : goal.returns-clause-ok
returns-clause-ok c =
    let contents = contents_meant c.loop-rest.contents in
    let none = nothing_left c.loop-rest.rest.now c.loop-rest-test.ensures in
    let lines : lines_of c.loop-rest.rest.now ≡ [] = ap lines_of none ∙ lines-none in
    sym c.loop-rest.invariant.same ∙ ap (leap_contents_after contents c.loop-rest.number) lines ∙ contents_end contents c.loop-rest.number

pub returns-in_err-take_line-clause-err : goal.returns-in_err-take_line-clause-err
returns-in_err-take_line-clause-err c =
    let contents = contents_meant c.loop-rest.contents in
    let outcome : leap_contents_of c.args.text.now ≡ leap_contents_after contents c.loop-rest.number (c.next_line.result.0.now ∷ lines_of c.next_line.result.1.now) = sym c.loop-rest.invariant.same ∙ ap (leap_contents_after contents c.loop-rest.number) c.next_line.ensures.lines in
    let refused = c.in_err-take_line.ensures.err (lines_of c.next_line.result.1.now) in
    rw outcome (search (rules, refused))

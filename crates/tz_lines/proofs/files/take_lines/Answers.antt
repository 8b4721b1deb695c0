use Rattle.std.proofs.Common.{◌≡◌, ◌+◌, [], ◌∷◌, length, sym, ap, ◌∙◌, arith, rules}
use Rattle.tz_specs.specs.Line.{lines_of}
use Rattle.tz_specs.specs.Contents.{contents_after}
use Rattle.tz_lines.specs.Gathered.{contents_gathered}
use Rattle.tz_text.proofs.LineCuts.{nothing_left, lines-none}
use Rattle.tz_lines.proofs.GatheredLines.{after_all}
use Rattle.tz_lines.proofs.files.take_lines.Goals as goal

pub returns-clause-ok : goal.returns-clause-ok
returns-clause-ok c =
    let after = contents_gathered c.loop-rest.gathered in
    let lines : lines_of c.loop-rest.rest.now ≡ [] = ap lines_of (nothing_left c.loop-rest.rest.now c.loop-rest-test.ensures) ∙ lines-none in
    sym c.loop-rest.invariant.same ∙ ap (contents_after after c.loop-rest.next) lines ∙ after_all after c.loop-rest.next

pub returns-clause-next : goal.returns-clause-next
returns-clause-next c =
    let lines : lines_of c.loop-rest.rest.now ≡ [] = ap lines_of (nothing_left c.loop-rest.rest.now c.loop-rest-test.ensures) ∙ lines-none in
    let none : length (lines_of c.loop-rest.rest.now) ≡ 0 = ap length lines in
    let count : c.loop-rest.next + length (lines_of c.loop-rest.rest.now) ≡ c.args.number + length (lines_of c.args.text.now) = c.loop-rest.invariant.count in
    omega (arith, none, count)

pub returns-in_err-take_line-clause-err : goal.returns-in_err-take_line-clause-err
returns-in_err-take_line-clause-err c =
    let before = contents_gathered c.loop-rest.gathered in
    let outcome : contents_after (contents_gathered c.args.gathered.now) c.args.number (lines_of c.args.text.now) ≡ contents_after before c.loop-rest.next (c.next_line.result.0.now ∷ lines_of c.next_line.result.1.now) = sym c.loop-rest.invariant.same ∙ ap (contents_after before c.loop-rest.next) c.next_line.ensures.lines in
    let refused = c.in_err-take_line.ensures.err (lines_of c.next_line.result.1.now) in
    rw outcome (search (rules, refused))

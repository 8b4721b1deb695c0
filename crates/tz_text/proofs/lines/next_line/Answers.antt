use Rattle.std.proofs.Common.{slice_index, ◌+◌, refl}
use Rattle.std.proofs.lemmas.List.{take_rest}
use Rattle.std.proofs.Math.Numerals.{add-one}
use Rattle.tz_text.proofs.LineCuts.{first_line, last_line, lines-none, is_newline, none_left, none_taken, none_dropped}
use Rattle.tz_text.proofs.lines.next_line.Goals as goal

pub returns-in-Some-clause-lines : goal.returns-in-Some-clause-lines
returns-in-Some-clause-lines c =
    let text = c.args.text.now in
    let end = c.in-Some.end in
    rw (take_rest text (end + 1), add-one) (first_line text end c.in-Some.ensures.0.high c.in-Some.ensures.0.before (is_newline (slice_index text end) c.in-Some.ensures.1))

pub returns-in-None-clause-lines : goal.returns-in-None-clause-lines
returns-in-None-clause-lines c =
    let text = c.args.text.now in
    rw (take_rest, none_left, lines-none) (last_line text c.requires c.in-None.ensures)

pub returns-in-Some-clause-without : goal.returns-in-Some-clause-without
returns-in-Some-clause-without c = λ test none.
    let text = c.args.text.now in
    let end = c.in-Some.end in
    (none_taken test end text none, rw (take_rest text (end + 1)) (none_dropped test (end + 1) text none))

pub returns-in-None-clause-without : goal.returns-in-None-clause-without
returns-in-None-clause-without c = λ test none. (none, rw (take_rest, none_left) refl)

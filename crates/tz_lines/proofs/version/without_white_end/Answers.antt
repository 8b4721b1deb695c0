use Rattle.std.proofs.Common.{◌≡◌, ◌-◌, true, get_or, sym, ◌∙◌, arith}
use Rattle.tz_specs.specs.Field.{is_white}
use Rattle.tz_lines.proofs.Versions.{white_before, other_before, none_before}
use Rattle.tz_lines.proofs.version.without_white_end.Goals as goal
use Rattle.tz_lines.proofs.version.without_white_end.Goals.{then-loop-end-test+else-is_white, else-loop-end-test}

pub loop-end-preserved : goal.loop-end-preserved
loop-end-preserved c =
    let bytes = c.args.bytes.now in
    let white : is_white (get_or bytes (c.loop-end.end - 1) 0) ≡ true = sym c.is_white.ensures ∙ c.if-is_white.true in
    record {
      within = omega arith;
      same = white_before bytes c.loop-end.end c.loop-end-test.true c.loop-end.invariant.within white ∙ c.loop-end.invariant.same;
    }

pub returns : goal.returns
returns c =
    let bytes = c.args.bytes.now in
    elim c.loop-end-test.branch [
      | then-loop-end-test+else-is_white w ↦
          other_before bytes c.loop-end.end w.loop-end-test.true c.loop-end.invariant.within (sym w.is_white.ensures ∙ w.if-is_white.false) ∙ c.loop-end.invariant.same
      | else-loop-end-test w ↦ none_before bytes c.loop-end.end w.loop-end-test.false ∙ c.loop-end.invariant.same
    ]

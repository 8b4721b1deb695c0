use Rattle.std.proofs.Common.{FitsSigned, sym, ◌∙◌}
use Rattle.std.specs.Int.{w64}
use Rattle.std.proofs.lemmas.Int.{to_z-of_z}
use Rattle.tz_local.proofs.FindingsLemmas.{one_more_begun}
use Rattle.tz_local.proofs.findings.Findings.from_first.Goals as goal

pub returns-else-is_shown : goal.returns-else-is_shown
returns-else-is_shown c = λ before none.
    let fits : FitsSigned w64 c.args.l = c.ranges.l in
    let shown = simp to_z-of_z at c.is_shown.ensures in
    one_more_begun before c.args.l c.args.range (sym shown ∙ c.if-is_shown.false) c.requires.begun none

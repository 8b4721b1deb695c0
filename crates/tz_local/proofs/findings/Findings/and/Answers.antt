use Rattle.std.proofs.Common.{FitsSigned, sym, ◌∙◌}
use Rattle.std.specs.Int.{w64}
use Rattle.std.proofs.lemmas.Int.{to_z-of_z}
use Rattle.tz_local.proofs.findings.Findings.and.Goals as goal

pub returns-then-is_shown : goal.returns-then-is_shown
returns-then-is_shown c = λ seen found.
    let fits : FitsSigned w64 c.args.l = c.ranges.l in
    let shown = simp to_z-of_z at c.is_shown.ensures in
    c.and_candidate.ensures seen c.args.l (sym shown ∙ c.if-is_shown.true) found

pub returns-then-has_begun : goal.returns-then-has_begun
returns-then-has_begun c = λ seen found.
    let fits : FitsSigned w64 c.args.l = c.ranges.l in
    let shown = simp to_z-of_z at c.is_shown.ensures in
    let begun = simp to_z-of_z at c.has_begun.ensures in
    c.and_begun.ensures seen c.args.l (sym shown ∙ c.if-is_shown.false) (sym begun ∙ c.if-has_begun.true) found

pub returns-else-has_begun : goal.returns-else-has_begun
returns-else-has_begun c = λ seen found.
    let fits : FitsSigned w64 c.args.l = c.ranges.l in
    let shown = simp to_z-of_z at c.is_shown.ensures in
    let begun = simp to_z-of_z at c.has_begun.ensures in
    c.and_later.ensures seen c.args.l (sym shown ∙ c.if-is_shown.false) (sym begun ∙ c.if-has_begun.false) found

use Rattle.std.proofs.Common.{◌∙◌, rules, FitsSigned}
use Rattle.std.specs.Int.{w64}
use Rattle.std.proofs.lemmas.Int.{to_z-of_z}
use Rattle.tz_expand.proofs.Lines.{begins_taken, begins_none}
use Rattle.tz_expand.proofs.info.begin_around.Goals as goal

pub returns-in-Some : goal.returns-in-Some
returns-in-Some c = λ set t is.
    let at_fits : FitsSigned w64 c.in-Some.taken.at = search rules in
    let start_fits : FitsSigned w64 c.args.line.now.start = search rules in
    let begin_fits : FitsSigned w64 c.max.result = search rules in
    let begin_is = simp to_z-of_z at c.max.ensures.value in
    let taken = rw c.in-Some.is at is in
    begins_taken set c.args.line.now t _ c.in-Some.taken taken (to_z-of_z w64 c.max.result begin_fits ∙ begin_is)

pub returns-in-None : goal.returns-in-None
returns-in-None c = λ set t is.
    let start_fits : FitsSigned w64 c.args.line.now.start = search rules in
    let none = rw c.in-None.is at is in
    rw to_z-of_z (begins_none set c.args.line.now t none)

use Rattle.std.proofs.Common.{◌∙◌, rules, FitsSigned}
use Rattle.std.specs.Int.{w64}
use Rattle.std.proofs.lemmas.Int.{to_z-of_z}
use Rattle.tz_expand.proofs.Lines.{ends_taken, ends_none}
use Rattle.tz_expand.proofs.info.end_around.Goals as goal

pub returns-in-Some : goal.returns-in-Some
returns-in-Some c = λ set t is.
    let at_fits : FitsSigned w64 c.in-Some.taken.at = search rules in
    let end_fits : FitsSigned w64 c.args.line.now.end = search rules in
    let finish_fits : FitsSigned w64 c.min.result = search rules in
    let end_is = simp to_z-of_z at c.min.ensures.value in
    let next = rw c.in-Some.is at is in
    ends_taken set c.args.line.now t _ c.in-Some.taken next.0 (to_z-of_z w64 c.min.result finish_fits ∙ end_is)

pub returns-in-None : goal.returns-in-None
returns-in-None c = λ set t is.
    let end_fits : FitsSigned w64 c.args.line.now.end = search rules in
    let none = rw c.in-None.is at is in
    rw to_z-of_z (ends_none set c.args.line.now t none)

use Rattle.std.proofs.Common.{◌≡◌, sym, ap, ◌∙◌, pos, ◌≤ℤ◌, to_z, arith, rules, FitsSigned}
use Rattle.std.specs.Int.{w32, w64}
use Rattle.std.proofs.lemmas.Int.{ints, to_z-of_z}
use Rattle.tz_rules.proofs.LettersLemmas.{first_of_it}
use Rattle.tz_rules.proofs.letters.first_of_standard.Goals as goal

pub returns : goal.returns
returns g c =
    let year_fits : FitsSigned w32 c.first_year-year.result = search rules in
    let last_fits : FitsSigned w32 c.last_year.result = search rules in
    let save_fits : FitsSigned w64 c.args.rule.now.save = search rules in
    let standard : c.args.rule.now.save ≡ pos 0 = sym (to_z-of_z w64 c.args.rule.now.save save_fits) ∙ ap (to_z w64) c.if-rule-ne0.false in
    let tested = simp to_z-of_z at c.if-year-last_year.false in
    let within : c.first_year-year.result ≤ℤ c.last_year.result = omega (arith, ints, tested) in
    let is = simp to_z-of_z at c.look.ensures.value in
    first_of_it c.args.rule.now c.args.place c.first_year-year.result c.last_year.result c.look.result is c.first_year-year.ensures.first c.last_year.ensures.last within standard

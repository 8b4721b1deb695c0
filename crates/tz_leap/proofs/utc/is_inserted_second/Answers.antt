use Rattle.std.proofs.Common.{◌≡◌, ◌-◌, ◌∙◌, sym, false, nat_lt, arith, FitsSigned}
use Rattle.std.specs.Int.{w64}
use Rattle.std.proofs.lemmas.Int.{to_z-of_z}
use Rattle.std.proofs.lemmas.Bool.Decides.{nat_tests}
use Rattle.tz_specs.proofs.LeapLemmas.{no_entry}
use Rattle.tz_leap.proofs.SearchLemmas.{second_from_count, none_from_count}
use Rattle.tz_leap.proofs.utc.is_inserted_second.Goals as goal

pub returns-then-count-gt0 : goal.returns-then-count-gt0
returns-then-count-gt0 c =
    let fits : FitsSigned w64 c.args.u = c.ranges.u in
    let leaps = c.args.leaps.now in
    let test = simp to_z-of_z at (c.is_second_of.ensures no_entry) in
    test ∙ second_from_count leaps.entries leaps.ascending c.args.u c.args.count (c.args.count - 1) c.requires.counted (omega (arith, c.if-count-gt0.true))

pub returns-else-count-gt0 : goal.returns-else-count-gt0
returns-else-count-gt0 c =
    let leaps = c.args.leaps.now in
    let none : nat_lt 0 c.args.count ≡ false = grind (arith, nat_tests, c.if-count-gt0.false) in
    none ∙ sym (none_from_count leaps.entries leaps.ascending c.args.u c.args.count c.requires.counted (omega (arith, c.if-count-gt0.false)))

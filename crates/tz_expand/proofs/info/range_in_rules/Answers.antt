use Rattle.std.proofs.Common.{rules, FitsSigned}
use Rattle.std.specs.Int.{w64}
use Rattle.std.proofs.lemmas.Int.{to_z-of_z}
use Rattle.tz_expand.specs.Compiled.{period_of}
use Rattle.tz_expand.proofs.Told.{range_is}
use Rattle.tz_expand.proofs.Lines.{HoldsIn, last_by_cases, next_by_cases, range_followed}
use Rattle.tz_expand.proofs.info.range_in_rules.Given as given
use Rattle.tz_expand.proofs.info.range_in_rules.Goals as goal

pub in_force_under-requires-clause-taken : goal.in_force_under-requires-clause-taken
in_force_under-requires-clause-taken g c =
    let t_fits : FitsSigned w64 c.args.t = c.ranges.t in
    let stdoff_fits : FitsSigned w64 c.args.line.now.stdoff = search rules in
    let some = simp to_z-of_z at c.last_at_or_before-now.ensures.some in
    let none = simp to_z-of_z at c.last_at_or_before-now.ensures.none in
    (c.args.t, last_by_cases c.args.set.now c.args.line.now.stdoff c.args.t c.last_at_or_before-now.result some none.0)

holds_in : (g : given.Over) (c : goal.After-range g) → HoldsIn c.args.line.now c.args.t c.range.result
holds_in g c =
    let line = c.args.line.now in
    let set = c.args.set.now in
    let t = c.args.t in
    let begin = c.begin_around-begin.result in
    let end = c.end_around.result in
    let t_fits : FitsSigned w64 t = c.ranges.t in
    let stdoff_fits : FitsSigned w64 line.stdoff = search rules in
    let begin_fits : FitsSigned w64 begin = search rules in
    let end_fits : FitsSigned w64 end = search rules in
    let some = simp to_z-of_z at c.last_at_or_before-now.ensures.some in
    let none = simp to_z-of_z at c.last_at_or_before-now.ensures.none in
    let last = last_by_cases set line.stdoff t c.last_at_or_before-now.result some none.0 in
    let change = simp to_z-of_z at c.next_after-next.ensures.change in
    let next_some = simp to_z-of_z at c.next_after-next.ensures.some in
    let next_none = simp to_z-of_z at c.next_after-next.ensures.none in
    let next = next_by_cases set line.stdoff t c.next_after-next.result change next_some next_none.0 in
    range_followed set line t begin end c.in_force_under.result c.range.result c.requires.follows c.requires.begun c.requires.inside (c.begin_around-begin.ensures set t last) (c.end_around.ensures set t next) (c.in_force_under.ensures t last)
    (range_is (period_of line) begin end _ _ c.in_force_under.result c.range.result (to_z-of_z w64 begin begin_fits) (to_z-of_z w64 end end_fits) c.range.ensures)

pub returns-clause-range : goal.returns-clause-range
returns-clause-range g c = (holds_in g c).is

pub returns-clause-holds : goal.returns-clause-holds
returns-clause-holds g c = (holds_in g c).holds

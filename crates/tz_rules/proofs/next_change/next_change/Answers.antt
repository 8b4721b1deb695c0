use Rattle.std.proofs.Common.{◌∙◌, arith, FitsSigned}
use Rattle.std.specs.Int.{w64}
use Rattle.std.proofs.lemmas.Int.{to_z-of_z}
use Rattle.tz_rules.proofs.ChangeSearch.{none_to_come, first_is_soonest, soonest_is_next}
use Rattle.tz_rules.proofs.next_change.next_change.Goals as goal

pub soonest-requires-clause-window : goal.soonest-requires-clause-window
soonest-requires-clause-window g c =
    let mark = c.mark_after.ensures.mark in
    let first = c.in-Some.ensures.first in
    c.window_from-window.ensures.window c.args.set.now (rw mark first.0)

pub soonest-requires-clause-first : goal.soonest-requires-clause-first
soonest-requires-clause-first g c =
    let stdoff_fits : FitsSigned w64 c.args.stdoff = c.ranges.stdoff in
    let t_fits : FitsSigned w64 c.args.t = c.ranges.t in
    let state = simp to_z-of_z at c.in_effect-state.ensures.state in
    let first = simp to_z-of_z at c.in-Some.ensures.first in
    simp to_z-of_z (first_is_soonest c.args.set.now c.args.stdoff c.args.t c.in_effect-state.result c.window_from-window.result c.in-Some.first c.requires.stdoff_in state first (c.window_from-window.ensures.mark ∙ c.mark_after.ensures.mark) c.window_from-window.ensures.limit)

pub returns-in-None-clause-next : goal.returns-in-None-clause-next
returns-in-None-clause-next g c =
    let stdoff_fits : FitsSigned w64 c.args.stdoff = c.ranges.stdoff in
    let t_fits : FitsSigned w64 c.args.t = c.ranges.t in
    let state = simp to_z-of_z at c.in_effect-state.ensures.state in
    none_to_come c.args.set.now c.args.stdoff c.args.t c.in_effect-state.result state c.in-None.ensures.first

pub returns-in-Some-clause-next : goal.returns-in-Some-clause-next
returns-in-Some-clause-next g c =
    let stdoff_fits : FitsSigned w64 c.args.stdoff = c.ranges.stdoff in
    let t_fits : FitsSigned w64 c.args.t = c.ranges.t in
    let state = simp to_z-of_z at c.in_effect-state.ensures.state in
    let so_far = simp to_z-of_z at c.soonest.ensures.soonest in
    soonest_is_next c.args.set.now c.args.stdoff c.args.t c.in_effect-state.result c.window_from-window.result _ c.soonest.result state (c.window_from-window.ensures.mark ∙ c.mark_after.ensures.mark) (omega arith) so_far

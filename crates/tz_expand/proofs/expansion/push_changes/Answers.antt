use Rattle.std.proofs.Common.{◌≡◌, Vec, Global, suc, ◌<ℤ◌, ◌≤ℤ◌, ◌+◌, ◌-◌, ◌++◌, ◌∷◌, [], length, pos, sym, ap, ◌∙◌, arith, rules, FitsSigned}
use Rattle.std.specs.Prelude.{reverse}
use Rattle.std.specs.Int.{w64, int_max}
use Rattle.std.proofs.lemmas.Int.{ints, clamps, to_z-of_z}
use Rattle.std.proofs.lemmas.Option.{get_or_from_slice_get}
use Rattle.tz_types.specs.declared.range.SysInfo.{SysInfo}
use Rattle.tz_specs.specs.Occurrence.{Occurrence}
use Rattle.tz_specs.proofs.EffectLemmas.{instants-back}
use Rattle.tz_expand.specs.Compiled.{period_of}
use Rattle.tz_expand.proofs.Told.{Telling, telling_none, turn_of, turn_in_force, turn_range, turn_last, turn_behind, turn_none, telling_as, section_of, put_by_is, standard_is, range_is, rest_in_force, rest_told}
use Rattle.tz_expand.proofs.expansion.push_changes.Goals as goal
use Rattle.tz_expand.proofs.expansion.push_changes.Goals.{then-begin-end+then-begin-to+in_ok-push, then-begin-end+else-begin-to, else-begin-end}

pub loop-back-init : goal.loop-back-init
loop-back-init c =
    let line = c.args.line.now in
    let from_fits : FitsSigned w64 c.args.from = c.ranges.from in
    let to_fits : FitsSigned w64 c.args.to = c.ranges.to in
    let end_fits : FitsSigned w64 line.end = search rules in
    simp to_z-of_z (telling_none (period_of line) c.args.from c.args.to c.args.list.now (length c.args.list.now - 0) c.args.ranges.now.items (omega arith) c.requires.takes_time c.requires.ends)

pub loop-back-preserved : goal.loop-back-preserved
loop-back-preserved c =
    let line = c.args.line.now in
    let period = period_of line in
    let list = c.args.list.now in
    let from = c.args.from in
    let to = c.args.to in
    let before = c.args.ranges.now.items in
    let ranges = c.loop-back.ranges.items in
    let back = c.loop-back.back in
    let place = length list - back in
    let i = length list - 1 - back in
    let u = c.instant_at.result in
    let begin = c.max-begin.result in
    let end = c.loop-back.end in
    let from_fits : FitsSigned w64 from = c.ranges.from in
    let to_fits : FitsSigned w64 to = c.ranges.to in
    let start_fits : FitsSigned w64 line.start = search rules in
    let stdoff_fits : FitsSigned w64 line.stdoff = search rules in
    let u_fits : FitsSigned w64 u = search rules in
    let begin_fits : FitsSigned w64 begin = search rules in
    let earliest_fits : FitsSigned w64 c.max-earliest.result = search rules in
    let telling = simp (to_z-of_z, c.loop-back.end-is) at c.loop-back.invariant in
    let there = simp to_z-of_z at c.instant_at.ensures in
    let here = instants-back line.stdoff (pos 0) list i u there in
    let begin_is = simp to_z-of_z at c.max-begin.ensures.value in
    let earliest = simp to_z-of_z at c.max-earliest.ensures.value in
    let turn = turn_of period from to list i here.0 u begin c.requires.looked line.stdoff_in c.requires.takes_time c.requires.begins c.requires.ends c.requires.ordered here.1 there begin_is in
    let step : place ≡ suc i = omega (arith, c.loop-back-test.true) in
    let next : i ≡ length list - (back + 1) = omega arith in
    let test = c.if-end-earliest.false in
    let late : int_max from line.start <ℤ c.if-begin-end.end = rw (← earliest) (omega (arith, ints, c.if-begin-end.end-is)) in
    let made : Telling period from to list (length list - (back + 1)) before c.if-begin-end.ranges.items c.if-begin-end.end =
    elim c.if-begin-end.branch [
      | then-begin-end+then-begin-to+in_ok-push w ↦
          let rises : begin <ℤ end = omega (arith, ints, c.loop-back.end-is, w.if-begin-end.true) in
          let inside : begin <ℤ to = omega (arith, ints, w.if-begin-to.true) in
          let rule_is = w.rule.ensures ∙ ap (λ (o : Occurrence). o.rule) (w.index-list-place.is ∙ get_or_from_slice_get list i here.0 w.index-list-place.result here.1) in
          let in_force = turn_in_force period from to list i place here.0 u begin end before ranges turn step telling rises inside ∙ put_by_is here.0 w.rule.result.now w.put_by-in_force.result (w.put_by-in_force.ensures here.0.year) rule_is in
          let push = w.in_ok-push.ensures.items ∙ ap (λ (r : SysInfo). ranges ++ r ∷ []) (range_is period begin end _ _ w.put_by-in_force.result w.range.result (to_z-of_z w64 begin begin_fits) (omega (arith, ints, c.loop-back.end-is)) w.range.ensures in_force) in
          let end_is : begin ≡ c.if-begin-end.end = omega (arith, ints, w.end-is) in
          telling_as period from to list i (length list - (back + 1)) before w.push.new.self.items c.if-begin-end.ranges.items begin c.if-begin-end.end next (ap (λ (v : Vec SysInfo Global). v.items) (sym w.ranges-is)) end_is
          (turn_range period from to list i place here.0 u begin end before ranges w.push.new.self.items turn step telling rises inside push (rw end_is late))
      | then-begin-end+else-begin-to w ↦
          let rises : begin <ℤ end = omega (arith, ints, c.loop-back.end-is, w.if-begin-end.true) in
          let behind : to ≤ℤ begin = omega (arith, ints, w.if-begin-to.false) in
          let end_is : begin ≡ c.if-begin-end.end = omega (arith, ints, w.end-is) in
          telling_as period from to list i (length list - (back + 1)) before ranges c.if-begin-end.ranges.items begin c.if-begin-end.end next (ap (λ (v : Vec SysInfo Global). v.items) (sym w.ranges-is)) end_is
          (turn_behind period from to list i place here.0 u begin end before ranges turn step telling rises behind (rw end_is late))
      | else-begin-end w ↦
          let later : end ≤ℤ begin = omega (arith, ints, c.loop-back.end-is, w.if-begin-end.false) in
          let end_is : end ≡ c.if-begin-end.end = omega (arith, ints, w.end-is, c.loop-back.end-is) in
          telling_as period from to list i (length list - (back + 1)) before ranges c.if-begin-end.ranges.items end c.if-begin-end.end next (ap (λ (v : Vec SysInfo Global). v.items) (sym w.ranges-is)) end_is
          (turn_none period from to list i place here.0 u begin end before ranges turn step telling later)
    ] in
    simp (to_z-of_z, c.if-begin-end.end-is) made

pub returns-then-end-earliest : goal.returns-then-end-earliest
returns-then-end-earliest c =
    let line = c.args.line.now in
    let period = period_of line in
    let list = c.args.list.now in
    let from = c.args.from in
    let to = c.args.to in
    let before = c.args.ranges.now.items in
    let ranges = c.loop-back.ranges.items in
    let back = c.loop-back.back in
    let place = length list - back in
    let i = length list - 1 - back in
    let u = c.instant_at.result in
    let begin = c.max-begin.result in
    let end = c.loop-back.end in
    let from_fits : FitsSigned w64 from = c.ranges.from in
    let to_fits : FitsSigned w64 to = c.ranges.to in
    let start_fits : FitsSigned w64 line.start = search rules in
    let stdoff_fits : FitsSigned w64 line.stdoff = search rules in
    let u_fits : FitsSigned w64 u = search rules in
    let begin_fits : FitsSigned w64 begin = search rules in
    let earliest_fits : FitsSigned w64 c.max-earliest.result = search rules in
    let telling = simp (to_z-of_z, c.loop-back.end-is) at c.loop-back.invariant in
    let there = simp to_z-of_z at c.instant_at.ensures in
    let here = instants-back line.stdoff (pos 0) list i u there in
    let begin_is = simp to_z-of_z at c.max-begin.ensures.value in
    let earliest = simp to_z-of_z at c.max-earliest.ensures.value in
    let turn = turn_of period from to list i here.0 u begin c.requires.looked line.stdoff_in c.requires.takes_time c.requires.begins c.requires.ends c.requires.ordered here.1 there begin_is in
    let step : place ≡ suc i = omega (arith, c.loop-back-test.true) in
    let test = c.if-end-earliest.true in
    let early : c.if-begin-end.end ≤ℤ int_max from line.start = rw (← earliest) (omega (arith, ints, c.if-begin-end.end-is)) in
    elim c.if-begin-end.branch [
      | then-begin-end+then-begin-to+in_ok-push w ↦
          let rises : begin <ℤ end = omega (arith, ints, c.loop-back.end-is, w.if-begin-end.true) in
          let inside : begin <ℤ to = omega (arith, ints, w.if-begin-to.true) in
          let rule_is = w.rule.ensures ∙ ap (λ (o : Occurrence). o.rule) (w.index-list-place.is ∙ get_or_from_slice_get list i here.0 w.index-list-place.result here.1) in
          let in_force = turn_in_force period from to list i place here.0 u begin end before ranges turn step telling rises inside ∙ put_by_is here.0 w.rule.result.now w.put_by-in_force.result (w.put_by-in_force.ensures here.0.year) rule_is in
          let push = w.in_ok-push.ensures.items ∙ ap (λ (r : SysInfo). ranges ++ r ∷ []) (range_is period begin end _ _ w.put_by-in_force.result w.range.result (to_z-of_z w64 begin begin_fits) (omega (arith, ints, c.loop-back.end-is)) w.range.ensures in_force) in
          let end_is : begin ≡ c.if-begin-end.end = omega (arith, ints, w.end-is) in
          ap (λ (v : Vec SysInfo Global). reverse v.items) w.ranges-is
          ∙ turn_last period from to list i place here.0 u begin end before ranges w.push.new.self.items turn step telling rises inside push (rw end_is early)
      | then-begin-end+else-begin-to w ↦
          let behind : to ≤ℤ begin = omega (arith, ints, w.if-begin-to.false) in
          let end_is : begin ≡ c.if-begin-end.end = omega (arith, ints, w.end-is) in
          absurd (omega (arith, ints, clamps, c.requires.begins, c.requires.ordered))
      | else-begin-end w ↦
          let late = telling.late in
          let end_is : end ≡ c.if-begin-end.end = omega (arith, ints, w.end-is, c.loop-back.end-is) in
          absurd (omega (arith, ints))
    ]

pub returns : goal.returns
returns c =
    let line = c.args.line.now in
    let period = period_of line in
    let list = c.args.list.now in
    let from = c.args.from in
    let to = c.args.to in
    let before = c.args.ranges.now.items in
    let ranges = c.loop-back.ranges.items in
    let place = length list - c.loop-back.back in
    let end = c.loop-back.end in
    let looked = c.requires.looked in
    let from_fits : FitsSigned w64 from = c.ranges.from in
    let to_fits : FitsSigned w64 to = c.ranges.to in
    let start_fits : FitsSigned w64 line.start = search rules in
    let telling = simp (to_z-of_z, c.loop-back.end-is) at c.loop-back.invariant in
    let section = section_of period from to list looked line.stdoff_in c.requires.takes_time c.requires.begins c.requires.ends c.requires.ordered in
    let none : place ≡ 0 = omega (arith, c.loop-back-test.false) in
    let in_force = rest_in_force looked.set period from to list place end before ranges looked.follows section none telling ∙ standard_is line looked.set c.standard.result looked.follows c.standard.ensures in
    let push = c.in_ok-push-2.ensures.items ∙ ap (λ (r : SysInfo). ranges ++ r ∷ []) (range_is period line.start end _ _ c.standard.result c.range-2.result (to_z-of_z w64 line.start start_fits) (omega (arith, ints, c.loop-back.end-is)) c.range-2.ensures in_force) in
    rest_told looked.set period from to list place end before ranges c.push-2.new.self.items looked.follows section c.requires.takes_time c.requires.begins none telling push

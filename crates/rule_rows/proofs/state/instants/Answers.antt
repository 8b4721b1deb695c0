use Rattle.std.proofs.Common.{rules, FitsSigned, List}
use Rattle.std.specs.Int.{w64}
use Rattle.std.proofs.lemmas.Int.{to_z-of_z}
use Rattle.tz_types.specs.Amount.{IsShift}
use Rattle.tz_specs.specs.Occurrence.{Occurrence}
use Rattle.rule_rows.proofs.States.{instant_told, told_more, told_all}
use Rattle.rule_rows.proofs.state.instants.Goals as goal

pub loop-occurrence-preserved : goal.loop-occurrence-preserved
loop-occurrence-preserved c =
    let stdoff_fits : FitsSigned w64 c.args.stdoff = c.ranges.stdoff in
    let save_fits : FitsSigned w64 c.loop-occurrence.save = search rules in
    let instant_fits : FitsSigned w64 c.instant_of.result = search rules in
    let next_fits : FitsSigned w64 c.save_of-save.result = search rules in
    let so_far = simp (to_z-of_z, c.loop-occurrence.save-is) at c.loop-occurrence.invariant.told in
    let pushed = simp to_z-of_z at c.in_ok-push.ensures.items in
    let is = simp (to_z-of_z, c.loop-occurrence.save-is) at c.instant_of.ensures in
    let save_in : IsShift c.save_of-save.result = c.save_of-save.ensures.bound in
    simp to_z-of_z (record {
      told = told_more c.args.stdoff c.loop-occurrence.save c.save_of-save.result c.args.list.now c.occurrence-item.result c.loop-occurrence.occurrence-index c.loop-occurrence.instants.items c.push.new.self.items c.loop-occurrence-test.true c.occurrence-item.is so_far
          (λ (later : List Occurrence). instant_told c.loop-occurrence.instants.items c.push.new.self.items c.occurrence-item.result c.args.stdoff c.loop-occurrence.save c.instant_of.result c.save_of-save.result later pushed is c.save_of-save.ensures.value);
      save_in = save_in;
    })

pub returns : goal.returns
returns c =
    let stdoff_fits : FitsSigned w64 c.args.stdoff = c.ranges.stdoff in
    let so_far = simp (to_z-of_z, c.loop-occurrence.save-is) at c.loop-occurrence.invariant.told in
    told_all c.args.stdoff c.loop-occurrence.save c.args.list.now c.loop-occurrence.occurrence-index c.loop-occurrence.instants.items c.loop-occurrence-test.false so_far

use Rattle.std.proofs.Common.{◌≡◌, ◌<◌, [], sym, ◌∙◌, arith, rules, FitsSigned, to_z, of_z}
use Rattle.std.specs.Int.{w64}
use Rattle.std.proofs.lemmas.Int.{to_z-of_z}
use Rattle.tz_cli.proofs.DayLines.{next_day, day_more, day_refused, no_days}
use Rattle.tz_cli.proofs.days.days_in.Goals as goal

pub returns-in-Err : goal.returns-in-Err
returns-in-Err c =
    let fits : FitsSigned w64 c.args.first = c.ranges.first in
    let low : c.loop-later.later < c.args.count = search rules in
    let refused = simp to_z-of_z at c.in-Err.ensures.refused in
    day_refused c.args.first c.args.count c.loop-later.later c.args.zone.now c.in-Err.refusal low refused

pub loop-later-init : goal.loop-later-init
loop-later-init c =
    let empty : c.new-text.result.items ≡ [] = search rules in
    record {
      lines = empty ∙ sym (no_days c.args.zone.now (to_z w64 (of_z w64 c.args.first)));
      inside = λ later low. absurd (omega (arith, low));
    }

pub loop-later-preserved : goal.loop-later-preserved
loop-later-preserved c =
    let fits : FitsSigned w64 c.args.first = c.ranges.first in
    let put = simp to_z-of_z at c.in-Ok.ensures.put in
    let inside = simp to_z-of_z at c.in-Ok.ensures.inside in
    let lines_before = simp to_z-of_z at c.loop-later.invariant.lines in
    let inside_before = simp to_z-of_z at c.loop-later.invariant.inside in
    simp to_z-of_z (record {
      lines = next_day c.args.zone.now c.args.first c.loop-later.later c.loop-later.text.items c.put_later.new.out.items lines_before put;
      inside = day_more c.args.first c.loop-later.later inside_before inside;
    })

use Rattle.std.proofs.Common.{◌≡◌, ◌∙◌, sym, ap, true, false, rules, FitsSigned}
use Rattle.std.specs.Int.{w64}
use Rattle.std.proofs.lemmas.Int.{to_z-of_z}
use Rattle.std.proofs.lemmas.Result.{on_ok_weaker}
use Rattle.tz_expand.specs.Followed.{followed_by}
use Rattle.tz_expand.specs.Stretch.{line_meets}
use Rattle.tz_expand.proofs.Between.{none_meet, plain_range, fixed_range}
use Rattle.tz_expand.proofs.expansion.push_line.Goals as goal

pub returns-then-not-meets-clause-ranges : goal.returns-then-not-meets-clause-ranges
returns-then-not-meets-clause-ranges g c =
    let from_fits : FitsSigned w64 c.args.from = c.ranges.from in
    let to_fits : FitsSigned w64 c.args.to = c.ranges.to in
    let test = simp to_z-of_z at c.meets-meets.ensures in
    let misses : line_meets c.args.from c.args.to c.args.line.now ≡ false = sym test ∙ c.if-not-meets.true in
    none_meet c.args.from c.args.to c.args.line.now c.args.ranges.now.items c.requires.takes_time misses

pub returns-in-Plain-clause-ranges : goal.returns-in-Plain-clause-ranges
returns-in-Plain-clause-ranges g c =
    let from_fits : FitsSigned w64 c.args.from = c.ranges.from in
    let to_fits : FitsSigned w64 c.args.to = c.ranges.to in
    let test = simp to_z-of_z at c.meets-meets.ensures in
    let meeting : line_meets c.args.from c.args.to c.args.line.now ≡ true = sym test ∙ c.if-not-meets.false in
    on_ok_weaker c.push_whole.result
    (plain_range c.args.from c.args.to c.args.line.now c.fixed.result c.args.ranges.now.items c.push_whole.new.ranges.items meeting (ap followed_by c.in-Plain.is) c.fixed.ensures)
    c.push_whole.ensures

pub returns-in-Fixed-clause-ranges : goal.returns-in-Fixed-clause-ranges
returns-in-Fixed-clause-ranges g c =
    let from_fits : FitsSigned w64 c.args.from = c.ranges.from in
    let to_fits : FitsSigned w64 c.args.to = c.ranges.to in
    let save_fits : FitsSigned w64 c.in-Fixed.save = search rules in
    let test = simp to_z-of_z at c.meets-meets.ensures in
    let meeting : line_meets c.args.from c.args.to c.args.line.now ≡ true = sym test ∙ c.if-not-meets.false in
    let kept = simp to_z-of_z at c.fixed-in-Fixed.ensures in
    on_ok_weaker c.push_whole-in-Fixed.result
    (fixed_range c.args.from c.args.to c.in-Fixed.save c.in-Fixed.daylight c.args.line.now c.fixed-in-Fixed.result c.args.ranges.now.items c.push_whole-in-Fixed.new.ranges.items meeting (ap followed_by c.in-Fixed.is) kept)
    c.push_whole-in-Fixed.ensures

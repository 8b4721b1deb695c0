use Rattle.std.proofs.Common.{ap, rules, FitsSigned}
use Rattle.std.specs.Int.{w64}
use Rattle.std.proofs.lemmas.Int.{to_z-of_z}
use Rattle.tz_expand.specs.Followed.{followed_by}
use Rattle.tz_expand.specs.Compiled.{period_of}
use Rattle.tz_expand.proofs.Told.{range_is}
use Rattle.tz_expand.proofs.Lines.{range_fixed}
use Rattle.tz_expand.proofs.info.range_in_line.Goals as goal

pub returns-in-Fixed-clause-range : goal.returns-in-Fixed-clause-range
returns-in-Fixed-clause-range g c =
    let save_fits : FitsSigned w64 c.in-Fixed.save = search rules in
    let start_fits : FitsSigned w64 c.args.line.now.start = search rules in
    let end_fits : FitsSigned w64 c.args.line.now.end = search rules in
    let kept = simp to_z-of_z at c.fixed-in-Fixed.ensures in
    let line = c.args.line.now in
    let kept_is = c.fixed-in-Fixed.result in
    (range_fixed c.args.line.now c.args.t c.in-Fixed.save c.in-Fixed.daylight c.fixed-in-Fixed.result c.range-in-Fixed.result (ap followed_by c.in-Fixed.is) c.requires.begun c.requires.inside kept (range_is (period_of line) line.start line.end _ _ kept_is c.range-in-Fixed.result (to_z-of_z w64 line.start start_fits) (to_z-of_z w64 line.end end_fits) c.range-in-Fixed.ensures)).is

use Rattle.std.proofs.Common.{rules, arith, FitsSigned}
use Rattle.std.specs.Int.{w64}
use Rattle.std.proofs.lemmas.Int.{ints}
use Rattle.tz_local.proofs.InfoLemmas.{range_near}
use Rattle.tz_zoned.proofs.zoned_time.ZonedTime.local.Goals as goal

pub overflow_add-result : goal.overflow_add-result
overflow_add-result c =
    let time = c.args.self.now in
    let sys_fits : FitsSigned w64 time.sys = search rules in
    let offset_fits : FitsSigned w64 c.info.result.offset = search rules in
    let near = range_near time.zone.now time.sys c.info.result c.info.ensures in
    search (rules, near, time.sys_in)

pub returns : goal.returns
returns c =
    let time = c.args.self.now in
    let near = range_near time.zone.now time.sys c.info.result c.info.ensures in
    let inside = time.sys_in in
    (c.info.result, c.info.ensures, omega (arith, ints, near, inside))

use Rattle.std.proofs.Common.{rules, FitsSigned, int_lt}
use Rattle.std.specs.Int.{w64}
use Rattle.std.proofs.lemmas.Fn.{filter_same}
use Rattle.tz_types.specs.declared.range.SysInfo.{SysInfo}
use Rattle.tz_tzif.proofs.types.keep_after.Goals as goal

pub returns : goal.returns
returns c =
    let fits : FitsSigned w64 c.args.a = c.ranges.a in
    filter_same _ (λ (range : SysInfo). int_lt c.args.a range.begin) _ (λ x b f' k. search rules) _ _ c.retain.ensures.filtered

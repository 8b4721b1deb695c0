use Rattle.std.proofs.Common.{◌≡◌, ◌∙◌, ap, length, sym, FitsSigned}
use Rattle.std.specs.Int.{w64}
use Rattle.std.proofs.lemmas.Int.{to_z-of_z}
use Rattle.tz_expand.specs.Stretch.{ranges_between}
use Rattle.tz_cli.proofs.Dumps.{zip_long}
use Rattle.tz_cli.proofs.dump.put_group.Goals as goal

pub put_zones-requires-clause-counted : goal.put_zones-requires-clause-counted
put_zones-requires-clause-counted g c =
    let from_fits : FitsSigned w64 c.args.from = c.ranges.from in
    let to_fits : FitsSigned w64 c.args.to = c.ranges.to in
    let all = simp to_z-of_z at c.in_ok-dump.ensures in
    zip_long (λ zone ranges. ranges.items ≡ ranges_between zone c.args.from c.args.to) c.args.zones.now c.in_ok-dump.dump.items all ∙ ap length (sym c.as_slice.ensures.value)

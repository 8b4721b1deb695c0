use Rattle.std.proofs.Common.{◌≡◌, ◌-◌, nat_le, length, Some, ap, ◌∙◌}
use Rattle.std.specs.List.{slice_get}
use Rattle.tz_types.specs.declared.limit.TheConstants.{MOST_ZONE_LINES}
use Rattle.tz_lines.proofs.LastZone.{full_by_lines}
use Rattle.tz_lines.proofs.contents.Gathered.exceeds_lines.Goals as goal

pub returns-in-Some : goal.returns-in-Some
returns-in-Some c =
    let zone : Some c.in-Some.zone.now ≡ slice_get c.args.self.now.zones (length c.args.self.now.zones - 1) = rw c.as_slice.ensures at c.in-Some.ensures.value in
    ap (nat_le MOST_ZONE_LINES) c.len.ensures ∙ full_by_lines c.args.self.now.names.labels.items c.args.self.now.zones c.in-Some.zone.now zone

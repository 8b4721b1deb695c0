use Rattle.std.proofs.Common.{◌≡◌, ◌-◌, length, Some, ◌∙◌}
use Rattle.std.specs.List.{slice_get}
use Rattle.tz_lines.proofs.LastZone.{waits_by_line}
use Rattle.tz_lines.proofs.contents.Gathered.wants_line.Goals as goal

pub returns-in-Some-last : goal.returns-in-Some-last
returns-in-Some-last c =
    let zone : Some c.in-Some.zone.now ≡ slice_get c.args.self.now.zones (length c.args.self.now.zones - 1) = rw c.as_slice.ensures at c.in-Some.ensures.value in
    let line : Some c.in-Some-last.line.now ≡ slice_get c.in-Some.zone.now.lines (length c.in-Some.zone.now.lines - 1) = rw c.as_slice-in-Some.ensures at c.in-Some-last.ensures.value in
    c.is_some.ensures ∙ waits_by_line c.args.self.now.names.labels.items c.args.self.now.zones c.in-Some.zone.now c.in-Some-last.line.now zone line

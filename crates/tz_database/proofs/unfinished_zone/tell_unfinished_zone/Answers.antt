use Rattle.std.proofs.Common.{◌≡◌, ◌-◌, Some, length}
use Rattle.std.specs.List.{slice_get}
use Rattle.tz_database.proofs.LastLines.{missing_after}
use Rattle.tz_database.proofs.unfinished_zone.tell_unfinished_zone.Goals as goal

pub returns-in-Some : goal.returns-in-Some
returns-in-Some c =
    let last : Some c.in-Some.line.now ≡ slice_get c.args.zone.now.lines (length c.args.zone.now.lines - 1) = rw c.as_slice.ensures at c.in-Some.ensures.value in
    rw (missing_after c.args.parts.now.names c.args.zone.now c.in-Some.line.now last) (rw c.is_some.ensures at c.tell_where.ensures)

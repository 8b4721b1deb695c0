use Rattle.tz_lines.proofs.SetNames.{known_kept}
use Rattle.tz_lines.proofs.set_names.SetNames.place.Goals as goal

pub returns-then-came_last-clause-labels : goal.returns-then-came_last-clause-labels
returns-then-came_last-clause-labels c =
    known_kept c.args.self.now.labels.items c.args.self.now.last c.args.name.bytes.now (rw c.as_bytes.ensures at (c.came_last.ensures c.if-came_last.true))

use Rattle.std.proofs.Common.{ap}
use Rattle.tz_lines.proofs.SetNames.{zones_with_names, named_with_names}
use Rattle.tz_lines.proofs.LastZone.{contents_by}
use Rattle.tz_lines.proofs.contents.Gathered.zone_line.Goals as goal

pub invariant_of-self-clause-named : goal.invariant_of-self-clause-named
invariant_of-self-clause-named c =
    let old = c.args.self.now in
    named_with_names old.names.labels.items c.zone_line.new.names.labels.items old.zones c.zone_line.ensures.begun old.named

pub returns-clause-contents : goal.returns-clause-contents
returns-clause-contents c =
    let old = c.args.self.now in
    ap (contents_by old.begun old.sets old.links) (zones_with_names old.names.labels.items c.zone_line.new.names.labels.items old.zones c.zone_line.ensures.begun old.named)

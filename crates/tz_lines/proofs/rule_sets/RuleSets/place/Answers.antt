use Rattle.std.proofs.Common.{◌∙◌}
use Rattle.tz_specs.specs.Written.{set_names}
use Rattle.tz_lines.proofs.NameIndex.{only_place}
use Rattle.tz_lines.proofs.rule_sets.RuleSets.place.Goals as goal

pub returns-then-came_last : goal.returns-then-came_last
returns-then-came_last c =
    let sets = c.args.self.now in
    only_place (set_names sets.sets.items) sets.last c.args.name.now sets.apart (c.came_last.ensures c.if-came_last.true)

pub returns : goal.returns
returns c = c.get.ensures ∙ c.args.self.now.placed c.args.name.now

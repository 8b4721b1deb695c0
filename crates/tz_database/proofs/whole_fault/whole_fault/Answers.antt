use Rattle.std.proofs.Common.{◌≡◌, ◌++◌, None}
use Rattle.std.specs.List.{filter_map, flat_map}
use Rattle.tz_specs.specs.Expansion.{first_instant}
use Rattle.tz_specs.specs.Whole.{missing_continuation, unknown_rule, names_given, repeated_name, missing_target, late_lines, whole_faults}
use Rattle.tz_database.specs.Parts.{contents_given}
use Rattle.tz_database.specs.LeastFault.{told_with}
use Rattle.tz_database.proofs.ToldLists.{told_next}
use Rattle.tz_database.proofs.Leasts.{least_told}
use Rattle.tz_database.proofs.whole_fault.whole_fault.Goals as goal

pub returns : goal.returns
unfolding whole_faults
returns c =
    let sets = c.args.parts.now.sets in
    let contents = contents_given c.args.parts.now in
    let unfinished = filter_map missing_continuation contents.zones in
    let unknown = flat_map (λ zone. filter_map (unknown_rule sets) zone.lines) contents.zones in
    let repeated = filter_map (repeated_name (names_given contents)) (names_given contents) in
    let missing = filter_map (missing_target contents) contents.links in
    let late = flat_map (λ zone. late_lines sets first_instant zone.lines) contents.zones in
    let after_unfinished : c.tell_unfinished_zones.new.told.least ≡ told_with None unfinished = rw c.new-told.ensures at c.tell_unfinished_zones.ensures in
    let after_unknown = told_next unfinished unknown None c.tell_unfinished_zones.new.told.least c.tell_unknown_sets.new.told.least after_unfinished c.tell_unknown_sets.ensures in
    let after_repeated = told_next (unfinished ++ unknown) repeated None c.tell_unknown_sets.new.told.least c.tell_repeated_names.new.told.least after_unknown c.in_ok-tell_repeated_names.ensures in
    let after_missing = told_next (unfinished ++ unknown ++ repeated) missing None c.tell_repeated_names.new.told.least c.tell_missing_targets.new.told.least after_repeated c.tell_missing_targets.ensures in
    let after_late = told_next (unfinished ++ unknown ++ repeated ++ missing) late None c.tell_missing_targets.new.told.least c.tell_late_lines.new.told.least after_missing c.tell_late_lines.ensures in
    least_told (whole_faults sets contents) c.tell_late_lines.new.told.least after_late

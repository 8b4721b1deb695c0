use Rattle.std.proofs.Common.{◌≡◌, map}
use Rattle.std.specs.List.{filter_map}
use Rattle.tz_specs.specs.Written.{written_link}
use Rattle.tz_specs.specs.Whole.{zone_of_link, missing_target}
use Rattle.tz_database.specs.Parts.{contents_given}
use Rattle.tz_database.specs.Reach.{name_at}
use Rattle.tz_database.specs.LeastFault.{told_with}
use Rattle.tz_database.proofs.missing_target.tell_missing_targets.Given as goal

-- the least, when the links that are left are told too, by the zones that they reach
abbrev pub invariant-loop-link : goal.invariant-loop-link
invariant-loop-link l =
    record {
      reached : map (name_at l.parts.zones) l.link-iterator.b.rest.now ≡ map (zone_of_link (contents_given l.parts)) (map written_link l.link-iterator.a.rest.now);
      told : told_with l.told.least (filter_map (missing_target (contents_given l.parts)) (map written_link l.link-iterator.a.rest.now)) ≡ told_with l.fn.told.least (filter_map (missing_target (contents_given l.parts)) (map written_link l.parts.links));
    }

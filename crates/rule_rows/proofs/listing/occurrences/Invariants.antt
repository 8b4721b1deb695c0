use Rattle.std.proofs.Common.{◌≡◌, ◌-◌, drop, length}
use Rattle.std.specs.Prelude.{flat_map}
use Rattle.tz_specs.specs.Occurrence.{occurrences_of_rule, in_order}
use Rattle.rule_rows.proofs.listing.occurrences.Given as goal

abbrev pub invariant-loop-back : goal.invariant-loop-back
invariant-loop-back l =
    l.list.items ≡ in_order (flat_map occurrences_of_rule (drop (length l.rules - l.back) l.rules))

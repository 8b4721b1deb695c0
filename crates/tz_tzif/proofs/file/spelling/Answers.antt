use Rattle.std.proofs.Common.{◌≡◌, ◌≤◌, length, rules, arith}
use Rattle.tz_tzif.specs.declared.types.TheConstants.{MOST_TYPES}
use Rattle.tz_tzif.specs.Types.{merged, types_of}
use Rattle.tz_tzif.specs.Designations.{designations_of}
use Rattle.tz_tzif.proofs.DistinctLemmas.{designations_few}
use Rattle.tz_tzif.proofs.NearLemmas.{types_near}
use Rattle.tz_tzif.proofs.file.spelling.Goals as goal

pub file_of-requires-clause-few : goal.file_of-requires-clause-few
file_of-requires-clause-few c =
    let types = c.in_ok-types.types.items in
    let is : c.as_slice-5.result.now ≡ designations_of types = search rules in
    let few : length types ≤ MOST_TYPES = omega arith in
    rw is (designations_few types MOST_TYPES few)

pub file_of-requires-clause-near : goal.file_of-requires-clause-near
file_of-requires-clause-near c =
    let is : c.as_slice-4.result.now ≡ types_of (merged c.args.ranges.items) = search rules in
    rw is (types_near c.args.ranges.items c.requires)

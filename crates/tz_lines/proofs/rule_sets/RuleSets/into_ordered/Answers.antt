use Rattle.std.proofs.Common.{◌≤◌, length, arith}
use Rattle.std.proofs.lemmas.List.Sorted.{length_permutation}
use Rattle.tz_types.specs.declared.limit.TheConstants.{MOST_SETS}
use Rattle.tz_lines.proofs.RuleSets.{put_in_order}
use Rattle.tz_lines.proofs.rule_sets.RuleSets.into_ordered.Goals as goal

pub returns-clause-sets : goal.returns-clause-sets
returns-clause-sets c =
    let gathered = c.args.self in
    rw c.from_vec.ensures (put_in_order gathered.sets.items c.sort_sets.new.sets.items gathered.apart c.sort_sets.ensures.same c.sort_sets.ensures.ascend)

pub returns-clause-few : goal.returns-clause-few
returns-clause-few c =
    let gathered = c.args.self in
    let count = length_permutation gathered.sets.items c.sort_sets.new.sets.items c.sort_sets.ensures.same in
    let few : length gathered.sets.items ≤ MOST_SETS = gathered.few in
    rw c.from_vec.ensures (omega (arith, count, few))

use Rattle.std.proofs.Common.{ltb, ◌<◌, ◌≤◌, arith, rules, of_calls}
use Rattle.std.proofs.lemmas.Bool.{ltb-true}
use Rattle.std.proofs.lemmas.List.Sorted.{IsPartitionPoint-from_clause}
use Rattle.tz_script.specs.declared.operation.Operation.{Operation}
use Rattle.tz_lane.proofs.RoundParts.{rounds_partitioned, taken_pass, dropped_pass, none_below}
use Rattle.tz_lane.proofs.rounds.count_before.Goals as goal

pub returns-clause-earlier : goal.returns-clause-earlier
returns-clause-earlier c =
    let parted = rounds_partitioned c.args.operations.now c.args.round c.requires in
    let point = IsPartitionPoint-from_clause (λ (x : Operation). ltb x.round c.args.round) c.args.operations.now c.partition_point.result c.partition_point.ensures.partitioned parted (λ a r q k. search (rules, of_calls)) in
    taken_pass (λ (x : Operation). x.round < c.args.round) c.partition_point.result c.args.operations.now (λ k d before low. ltb-true _ _ (point.0 k d (omega arith) before))

pub returns-clause-others : goal.returns-clause-others
returns-clause-others c =
    let parted = rounds_partitioned c.args.operations.now c.args.round c.requires in
    let point = IsPartitionPoint-from_clause (λ (x : Operation). ltb x.round c.args.round) c.args.operations.now c.partition_point.result c.partition_point.ensures.partitioned parted (λ a r q k. search (rules, of_calls)) in
    dropped_pass (λ (x : Operation). c.args.round ≤ x.round) c.partition_point.result c.args.operations.now (λ k d from low. none_below _ _ (point.1 k d from low))

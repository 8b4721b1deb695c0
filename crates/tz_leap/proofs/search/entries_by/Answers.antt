use Rattle.std.proofs.Common.{rules, of_calls, sym, int_le, arith}
use Rattle.std.proofs.lemmas.Fn.{always_returns_same}
use Rattle.tz_types.specs.declared.leap_entry.LeapEntry.{LeapEntry}
use Rattle.tz_specs.proofs.LeapLemmas.{no_entry}
use Rattle.tz_leap.proofs.SearchLemmas.{count_by_place, entries_partitioned}
use Rattle.tz_leap.proofs.search.entries_by.Goals as goal

pub returns-clause-count : goal.returns-clause-count
returns-clause-count c =
    let point = c.partition_point.ensures.partitioned (λ (entry : LeapEntry). int_le entry.date c.args.t) (always_returns_same _ _ _ (λ a r f k. search (rules, of_calls)))
    (entries_partitioned c.args.entries.now c.requires c.args.t) in
    sym (count_by_place (λ (entry : LeapEntry). int_le entry.date c.args.t) c.args.entries.now c.partition_point.result c.partition_point.ensures.bound (λ k before. point.0 k no_entry (omega arith) before) (λ k from below. point.1 k no_entry from below))

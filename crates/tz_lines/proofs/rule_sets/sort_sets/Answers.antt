use Rattle.std.proofs.Common.{rules, of_calls}
use Rattle.std.specs.Ordering.{is_lt}
use Rattle.std.proofs.lemmas.Fn.{always_returns_same}
use Rattle.std.proofs.lemmas.Cmp.{nat_list_cmp_total}
use Rattle.std.proofs.lemmas.List.Sorted.{ranks_by}
use Rattle.tz_types.specs.declared.rule_set.RuleSet.{RuleSet}
use Rattle.tz_database.proofs.NameOrder.{compared}
use Rattle.tz_database.proofs.SortedNames.{ascends_sorted}
use Rattle.tz_lines.proofs.rule_sets.sort_sets.Goals as goal

pub returns-clause-ascend : goal.returns-clause-ascend
returns-clause-ascend c =
    ascends_sorted (λ (set : RuleSet). set.name) c.args.sets.now.items _ c.requires c.sort_unstable_by.ensures.permutation (c.sort_unstable_by.ensures.sorted (λ (set other : RuleSet). is_lt (compared set.name other.name)) (ranks_by nat_list_cmp_total (λ (set : RuleSet). set.name)) (always_returns_same _ _ _ (λ a r f k. search (rules, of_calls))))

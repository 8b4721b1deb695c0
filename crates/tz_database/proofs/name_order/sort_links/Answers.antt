use Rattle.std.proofs.Common.{rules, of_calls}
use Rattle.std.specs.Ordering.{is_lt}
use Rattle.std.proofs.lemmas.Fn.{always_returns_same}
use Rattle.std.proofs.lemmas.Cmp.{nat_list_cmp_total}
use Rattle.std.proofs.lemmas.List.Sorted.{ranks_by}
use Rattle.tz_types.specs.declared.link.Link.{Link}
use Rattle.tz_database.proofs.NameOrder.{compared}
use Rattle.tz_database.proofs.SortedNames.{ascends_sorted}
use Rattle.tz_database.proofs.name_order.sort_links.Goals as goal

pub returns-clause-ascend : goal.returns-clause-ascend
returns-clause-ascend c =
    ascends_sorted (λ (link : Link). link.name) c.args.links.now.items _ c.requires c.sort_unstable_by.ensures.permutation (c.sort_unstable_by.ensures.sorted (λ (link other : Link). is_lt (compared link.name other.name)) (ranks_by nat_list_cmp_total (λ (link : Link). link.name)) (always_returns_same _ _ _ (λ a r f k. search (rules, of_calls))))

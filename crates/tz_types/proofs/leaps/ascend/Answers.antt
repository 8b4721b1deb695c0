use Rattle.std.proofs.Common.{int_lt, rules, of_calls, ◌∙◌}
use Rattle.std.proofs.lemmas.Fn.{always_returns_same}
use Rattle.tz_types.specs.declared.leap_entry.LeapEntry.{LeapEntry}
use Rattle.tz_types.proofs.Orders.{ascends_by_neighbours, ascends_by_keys}
use Rattle.tz_types.proofs.leaps.ascend.Goals as goal

pub returns : goal.returns
returns c =
    ascends_by_neighbours (λ (a b : LeapEntry). int_lt a.date b.date) c.args.entries.now c.is_sorted_by.result
    (c.is_sorted_by.ensures.cases (λ (a b : LeapEntry). int_lt a.date b.date) (always_returns_same _ _ _ (λ a r f k. search (rules, of_calls))))
    ∙ ascends_by_keys int_lt (λ (entry : LeapEntry). entry.date) c.args.entries.now

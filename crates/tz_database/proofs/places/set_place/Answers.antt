use Rattle.std.proofs.Common.{rules, of_calls}
use Rattle.std.proofs.lemmas.Fn.{always_returns_same}
use Rattle.tz_types.specs.declared.rule_set.RuleSet.{RuleSet}
use Rattle.tz_database.proofs.NameOrder.{compared}
use Rattle.tz_database.proofs.PlacesOfNames.{place_found, place_missing}
use Rattle.tz_database.proofs.places.set_place.Goals as goal

pub returns-in-Ok : goal.returns-in-Ok
returns-in-Ok c =
    place_found (λ (set : RuleSet). set.name) c.args.sets.now c.args.name.now _ _ c.requires.ascend c.binary_search_by.ensures.bound (c.binary_search_by.ensures.position (λ (set : RuleSet). compared set.name c.args.name.now) (always_returns_same _ _ _ (λ a r f k. search (rules, of_calls)))) c.in-Ok.is

pub returns-in-Err : goal.returns-in-Err
returns-in-Err c =
    place_missing (λ (set : RuleSet). set.name) c.args.sets.now c.args.name.now _ _ c.requires.ascend c.binary_search_by.ensures.bound (c.binary_search_by.ensures.position (λ (set : RuleSet). compared set.name c.args.name.now) (always_returns_same _ _ _ (λ a r f k. search (rules, of_calls)))) c.in-Err.is

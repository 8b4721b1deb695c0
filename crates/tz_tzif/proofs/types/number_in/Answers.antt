use Rattle.std.proofs.Common.{rules, tests, ap, ◌∙◌, unwrap_or}
use Rattle.std.proofs.lemmas.Iterator.{YieldsList-from_slice}
use Rattle.std.proofs.lemmas.Iterator.Search.{position_from_yields_List}
use Rattle.tz_tzif.specs.Types.{same_type}
use Rattle.tz_tzif.proofs.types.number_in.Goals as goal

pub returns-clause-value : goal.returns-clause-value
returns-clause-value c =
    let found = position_from_yields_List (same_type c.args.local_type.now) _ _ c.position.result c.position.ensures.ran (YieldsList-from_slice c.args.types.now cc) (λ x b q k. search (rules, tests)) in
    c.unwrap_or.ensures ∙ ap (λ o. unwrap_or o 0) found

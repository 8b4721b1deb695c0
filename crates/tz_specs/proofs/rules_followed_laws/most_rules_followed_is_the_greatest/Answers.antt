use Rattle.std.proofs.Common.{◌≡◌, ◌⊎◌, inl, inr, ⊎_elim, List}
use Rattle.std.specs.List.{Contains}
use Rattle.tz_specs.specs.Expansion.{Period}
use Rattle.tz_specs.specs.RulesFollowed.{rules_followed, most_rules_followed}
use Rattle.tz_specs.proofs.rules_followed_laws.most_rules_followed_is_the_greatest.Goals as goal
use Rattle.tz_specs.proofs.ListLemmas.{In, In-from_Contains, Contains-from_In}
use Rattle.tz_specs.proofs.RulesFollowedLemmas.{followed_by_each, followed_by_some, followed_bound}

some_follows : (periods : List Period) → (most_rules_followed periods ≡ 0) ⊎ ((period : Period) × Contains periods period × (rules_followed period.following ≡ most_rules_followed periods))
some_follows periods =
    ⊎_elim (λ (none : most_rules_followed periods ≡ 0). inl none)
    (λ (some : (period : Period) × In period periods × (rules_followed period.following ≡ most_rules_followed periods)).
    inr (some.0, Contains-from_In periods some.0 some.1, some.2))
    (followed_by_some periods)

pub returns : goal.returns
returns c = record {
  each = λ periods period has. followed_by_each periods period (In-from_Contains periods period has);
  some = some_follows;
  bound = followed_bound;
}

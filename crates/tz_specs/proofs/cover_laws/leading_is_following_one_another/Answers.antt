use Rattle.tz_specs.proofs.cover_laws.leading_is_following_one_another.Goals as goal
use Rattle.tz_specs.proofs.CoverLemmas.{leads-chains, chains-leads}

pub returns : goal.returns
returns c a b periods = (leads-chains a b periods, chains-leads a b periods)

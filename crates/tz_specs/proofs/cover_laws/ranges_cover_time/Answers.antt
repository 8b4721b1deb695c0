use Rattle.tz_specs.proofs.cover_laws.ranges_cover_time.Goals as goal
use Rattle.tz_specs.proofs.CutLemmas.{expansion_covers}

pub returns : goal.returns
returns c = λ a b periods chain. expansion_covers a b periods chain

use Rattle.tz_specs.proofs.cover_laws.cuts_rise.Goals as goal
use Rattle.tz_specs.proofs.CutLemmas.{cuts_rise as rise}

pub returns : goal.returns
returns c = λ period takes. rise period takes

use Rattle.tz_specs.proofs.TextLemmas.{read_isnt_refused}
use Rattle.tz_specs.proofs.text_laws.read_sources_are_not_refused.Goals as goal

pub returns : goal.returns
returns c = read_isnt_refused

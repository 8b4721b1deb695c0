use Rattle.tz_text_laws.proofs.Versions.{version_within}
use Rattle.tz_text_laws.proofs.read_databases_have_a_version.Goals as goal

pub returns : goal.returns
returns c = version_within

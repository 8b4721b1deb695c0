use Rattle.tz_specs.proofs.SameDatabase.{one_database}
use Rattle.tz_specs.proofs.text_laws.at_most_one_database.Goals as goal

pub returns : goal.returns
returns c = one_database

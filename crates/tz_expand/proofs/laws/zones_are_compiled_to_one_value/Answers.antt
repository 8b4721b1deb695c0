use Rattle.tz_expand.proofs.SameZones.{compiled_once}
use Rattle.tz_expand.proofs.laws.zones_are_compiled_to_one_value.Goals as goal

pub returns : goal.returns
returns c = compiled_once

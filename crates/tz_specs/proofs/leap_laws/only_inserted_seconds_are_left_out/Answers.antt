use Rattle.tz_specs.proofs.LeapLemmas.{inserted_without, without_inserted}
use Rattle.tz_specs.proofs.leap_laws.only_inserted_seconds_are_left_out.Goals as goal

pub returns : goal.returns
returns c = λ entries u up. (inserted_without entries u up, without_inserted entries u up)

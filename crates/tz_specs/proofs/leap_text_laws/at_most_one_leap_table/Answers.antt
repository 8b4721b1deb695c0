use Rattle.tz_specs.proofs.LeapTextLemmas.{one_leap_table}
use Rattle.tz_specs.proofs.leap_text_laws.at_most_one_leap_table.Goals as goal

pub returns : goal.returns
returns c = one_leap_table

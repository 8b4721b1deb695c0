use Rattle.tz_specs.proofs.LeapTextLemmas.{leaps_read_or_refused}
use Rattle.tz_specs.proofs.leap_text_laws.each_leap_text_is_read_or_refused.Goals as goal

pub returns : goal.returns
returns c = leaps_read_or_refused

use Rattle.tz_specs.proofs.LeapTextLemmas.{read_leaps_are_not_refused}
use Rattle.tz_specs.proofs.leap_text_laws.read_leap_texts_are_not_refused.Goals as goal

pub returns : goal.returns
returns c = read_leaps_are_not_refused

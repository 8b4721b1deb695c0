use Rattle.tz_specs.proofs.LeapDates.{dates_in_time}
use Rattle.tz_specs.proofs.leap_text_laws.leap_texts_give_dates_in_time.Goals as goal

pub returns : goal.returns
returns c = dates_in_time

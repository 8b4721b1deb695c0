use Rattle.tz_specs.proofs.calendar_laws.instant_lies_in_one_year.Goals as goal
use Rattle.tz_specs.proofs.YearLemmas.{second_of_year, lies_of_second, lies_once, lies_in_some}

pub returns : goal.returns
returns c = record {
  seconds = λ t year within. (second_of_year t year within, lies_of_second t year within);
  once = lies_once;
  some = lies_in_some;
}

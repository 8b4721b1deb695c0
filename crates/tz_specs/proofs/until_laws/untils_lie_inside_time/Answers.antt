use Rattle.tz_specs.specs.Until.{Nothing, Fixed, Rules}
use Rattle.tz_specs.proofs.until_laws.untils_lie_inside_time.Goals as goal
use Rattle.tz_specs.proofs.UntilTimeLemmas.{inside_time, line_inside_time}

pub returns : goal.returns
returns c = record {
  alone = λ stdoff until stdoff_in. inside_time Nothing stdoff until stdoff_in tt;
  fixed = λ stdoff save daylight until stdoff_in save_in. inside_time (Fixed save daylight) stdoff until stdoff_in save_in;
  rules = λ set stdoff until stdoff_in. inside_time (Rules set) stdoff until stdoff_in tt;
  lines = line_inside_time;
}

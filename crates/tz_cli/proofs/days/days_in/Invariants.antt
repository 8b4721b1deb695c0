use Rattle.std.proofs.Common.{◌≡◌}
use Rattle.tz_cli.specs.Days.{days_from, AreDays, day_lines}
use Rattle.tz_cli.proofs.days.days_in.Given as goal

abbrev pub invariant-loop-later : goal.invariant-loop-later
invariant-loop-later l = record {
  lines : l.text.items ≡ day_lines l.zone (days_from l.first l.later);
  inside : AreDays l.first l.later;
}

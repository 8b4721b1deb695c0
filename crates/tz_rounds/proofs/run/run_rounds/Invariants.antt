use Rattle.std.proofs.Common.{◌≤◌, ◌+◌}
use Rattle.tz_script.specs.Inside.{change_count}
use Rattle.pin_table.specs.Main.{main_view}
use Rattle.pin_table.specs.Table.{plan, IsMainOf}
use Rattle.tz_rounds.specs.RoundRun.{operations_up_to, HasRunRounds}
use Rattle.tz_rounds.specs.Sending.{HasNumbers}
use Rattle.tz_rounds.proofs.run.run_rounds.Given as goal

abbrev pub invariant-loop-earlier : goal.invariant-loop-earlier
invariant-loop-earlier g l = record {
  own : IsMainOf l.list.table l.main;
  numbers : HasNumbers 0 l.script.lanes (main_view l.main);
  ran : HasRunRounds (plan l.list.table) l.list.sources l.earlier (operations_up_to l.earlier l.script.operations) l.replies.items (main_view l.main);
  room : change_count l.script.operations ≤ (main_view l.main).allowance + change_count (operations_up_to l.earlier l.script.operations);
}

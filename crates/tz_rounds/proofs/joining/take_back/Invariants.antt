use Rattle.std.proofs.Common.{◌≡◌, ◌≤◌, Ok, map, length}
use Rattle.pin_core.specs.declared.view.View.{View}
use Rattle.pin_table.specs.Main.{main_view}
use Rattle.pin_table.specs.Table.{IsMainOf}
use Rattle.tz_rounds.specs.Backs.{back_view}
use Rattle.tz_rounds.specs.Sending.{HasSent, HasBack}
use Rattle.tz_rounds.specs.declared.joining.LaneRun.{LaneRun}
use Rattle.tz_rounds.proofs.joining.take_back.Given as goal

abbrev pub invariant-loop-run : goal.invariant-loop-run
invariant-loop-run l = record {
  own : IsMainOf l.table l.main;
  room : (main_view l.initial.main).allowance ≤ (main_view l.main).allowance;
  replies : map (λ (run : LaneRun). run.replies) l.yielded ≡ map Ok l.all.items;
  back : (first : View) → HasSent (length l.fn.runs.items) (length l.fn.runs.items) first (main_view l.initial.main) → HasBack (length l.fn.runs.items) first (map back_view l.yielded) (main_view l.main);
}

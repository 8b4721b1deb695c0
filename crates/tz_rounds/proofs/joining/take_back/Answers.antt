-- One reader after another is joined.
use Rattle.std.proofs.Common.{◌≡◌, ℕ, ◌<◌, List, [], ◌∷◌, ◌++◌, length, get_or, map, Ok, Some, IsOk, slice_get, sym, ap, ap₂, ◌∙◌, arith, rules}
use Rattle.std.proofs.lemmas.Iterator.Adapters.{YieldsList-from_vec}
use Rattle.std.proofs.lemmas.Iterator.Consumers.{YieldsList-turn}
use Rattle.std.proofs.lemmas.List.{map-append}
use Rattle.std.proofs.lemmas.Option.{slice_get-get_or}
use Rattle.std.specs.declared.result.Result.{Result}
use Rattle.pin_core.specs.declared.view.View.{View}
use Rattle.pin_table.specs.Main.{main_view}
use Rattle.tz_types.specs.declared.list.Items.{Items}
use Rattle.tz_types.specs.declared.memory.NoMemory.{NoMemory}
use Rattle.tz_batch.specs.declared.reply.Reply.{Reply}
use Rattle.tz_rounds.specs.declared.joining.LaneRun.{LaneRun}
use Rattle.tz_rounds.proofs.Backs.{back_more}
use Rattle.tz_rounds.proofs.joining.take_back.Goals as goal

-- the run is the next one
next_run : (runs : List LaneRun) (k : ℕ) (run : LaneRun) → (k < length runs) × (run ≡ get_or runs k run) → slice_get runs k ≡ Some run
next_run runs k run turn = slice_get-get_or runs k run turn.0 ∙ ap Some (sym turn.1)

-- a result with a value is one
is_ok : (result : Result (Items Reply) NoMemory) (value : Items Reply) → result ≡ Ok value → IsOk result
is_ok result value is = rw is (search rules)

-- the replies of one run more
replies_more : (runs : List LaneRun) (run : LaneRun) (all : List (Items Reply)) (replies : Items Reply) → map (λ (it : LaneRun). it.replies) runs ≡ map Ok all → run.replies ≡ Ok replies
    → map (λ (it : LaneRun). it.replies) (runs ++ run ∷ []) ≡ map Ok (all ++ replies ∷ [])
replies_more runs run all replies so_far is =
    map-append (λ (it : LaneRun). it.replies) runs (run ∷ [])
    ∙ ap₂ (λ (xs ys : List (Result (Items Reply) NoMemory)). xs ++ ys) so_far (ap (λ (it : Result (Items Reply) NoMemory). it ∷ []) is)
    ∙ sym (map-append Ok all (replies ∷ []))

-- its reader is of the table
pub join-requires-clause-own : goal.join-requires-clause-own
join-requires-clause-own c κs =
    let gives = c.into_iter-run-iterator.ensures.into_iter_gives in
    let turn = YieldsList-turn (YieldsList-from_vec {s = c.into_iter-run-iterator.result} c.args.runs.items gives.0 (gives.1 ∙ c.args.runs.ok.0)) c.loop-run.yielded c.loop-run.run-iterator c.loop-run.yielded_by c.next.result c.next.new.self c.in-Some.run' c.in-Some.is c.next.ensures.steps in
    let table : c.in-Some.run'.reader.table.now ≡ c.args.table.now =
    ap (λ (run : LaneRun). run.reader.table.now) turn.1 ∙ c.requires.table (length c.loop-run.yielded) c.in-Some.run' turn.0 in
    rw table c.loop-run.invariant.own

pub join-requires-clause-released : goal.join-requires-clause-released
join-requires-clause-released c κs =
    let gives = c.into_iter-run-iterator.ensures.into_iter_gives in
    let turn = YieldsList-turn (YieldsList-from_vec {s = c.into_iter-run-iterator.result} c.args.runs.items gives.0 (gives.1 ∙ c.args.runs.ok.0)) c.loop-run.yielded c.loop-run.run-iterator c.loop-run.yielded_by c.next.result c.next.new.self c.in-Some.run' c.in-Some.is c.next.ensures.steps in
    let there = next_run c.args.runs.items (length c.loop-run.yielded) c.in-Some.run' turn in
    (c.requires.joinable (length c.loop-run.yielded) c.in-Some.run' there (is_ok c.in-Some.run'.replies c.in_ok-replies.replies c.in_ok-replies.was)).entries

pub loop-run-preserved : goal.loop-run-preserved
loop-run-preserved c =
    let gives = c.into_iter-run-iterator.ensures.into_iter_gives in
    let turn = YieldsList-turn (YieldsList-from_vec {s = c.into_iter-run-iterator.result} c.args.runs.items gives.0 (gives.1 ∙ c.args.runs.ok.0)) c.loop-run.yielded c.loop-run.run-iterator c.loop-run.yielded_by c.next.result c.next.new.self c.in-Some.run' c.in-Some.is c.next.ensures.steps in
    let there = next_run c.args.runs.items (length c.loop-run.yielded) c.in-Some.run' turn in
    let joinable = c.requires.joinable (length c.loop-run.yielded) c.in-Some.run' there (is_ok c.in-Some.run'.replies c.in_ok-replies.replies c.in_ok-replies.was) in
    let table : c.in-Some.run'.reader.table.now ≡ c.args.table.now =
    ap (λ (run : LaneRun). run.reader.table.now) turn.1 ∙ c.requires.table (length c.loop-run.yielded) c.in-Some.run' turn.0 in
    record {
      own = rw (← table) c.join.ensures.own;
      room = omega (arith, c.loop-run.invariant.room, ap (λ (v : View). v.allowance) c.join.ensures.joined);
      replies = replies_more c.loop-run.yielded c.in-Some.run' c.loop-run.all.items c.in_ok-replies.replies c.loop-run.invariant.replies c.in_ok-replies.was
          ∙ ap (map Ok) (sym c.in_ok-push.ensures.items);
      back = λ first left. back_more (length c.args.runs.items) first (main_view c.loop-run.main) (main_view c.join.new.self) c.loop-run.yielded c.in-Some.run'
          (c.loop-run.invariant.back first left) turn.0 c.join.ensures.joined c.join.ensures.alike joinable;
    }

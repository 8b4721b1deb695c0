-- One round after another.
use Rattle.std.proofs.Common.{◌≡◌, ℕ, ◌+◌, List, [], sym, ap, subst, ◌∙◌, arith}
use Rattle.tz_script.specs.Inside.{change_count}
use Rattle.tz_script.specs.Operation.{is_change}
use Rattle.tz_script.specs.declared.operation.Operation.{Operation}
use Rattle.pin_table.specs.Main.{main_view}
use Rattle.pin_table.specs.Table.{plan}
use Rattle.tz_batch.specs.declared.reply.Reply.{Reply}
use Rattle.tz_lane.specs.Lane.{round_operations}
use Rattle.tz_rounds.specs.RoundRun.{operations_up_to, HasRunRounds}
use Rattle.tz_rounds.specs.Sending.{HasNumbers}
use Rattle.tz_rounds.proofs.Lists.{count_parts}
use Rattle.tz_rounds.proofs.ScriptRun.{none_run, rounds_more}
use Rattle.tz_rounds.proofs.UpTo.{all_stand_in, up_to_none, up_to_all, up_to_next, up_to_few}
use Rattle.tz_rounds.proofs.run.run_rounds.Goals as goal

pub loop-earlier-init : goal.loop-earlier-init
loop-earlier-init g c =
    let script = c.args.script.now in
    let start = up_to_none script.lanes script.rounds script.operations (all_stand_in script.lanes script.rounds script.operations script.sound.inside) in
    let p = plan c.args.list.now.table in let main = main_view c.args.main.now in
    record {
      own = c.requires.own;
      numbers = c.requires.numbers;
      ran = subst (λ (those : List Operation). HasRunRounds p c.args.list.now.sources 0 those c.in_ok-replies.replies.items main) (sym start)
          (subst (λ (told : List Reply). HasRunRounds p c.args.list.now.sources 0 [] told main) (sym c.in_ok-replies.ensures.items)
          (none_run p c.args.list.now.sources main c.requires.seen c.requires.written));
      room = omega (arith, c.requires.room);
    }

pub run_round-requires-clause-own : goal.run_round-requires-clause-own
run_round-requires-clause-own g c κs within = c.loop-earlier.invariant.own

pub run_round-requires-clause-numbers : goal.run_round-requires-clause-numbers
run_round-requires-clause-numbers g c κs within = c.loop-earlier.invariant.numbers

pub run_round-requires-clause-room : goal.run_round-requires-clause-room
run_round-requires-clause-room g c κs within =
    let all = c.args.script.now.operations in
    omega (arith, c.loop-earlier.invariant.room, up_to_few c.loop-earlier.earlier all c.args.script.now.in_rounds)

pub loop-earlier-preserved : goal.loop-earlier-preserved
loop-earlier-preserved g c =
    let script = c.args.script.now in let all = script.operations in let round = c.loop-earlier.earlier in
    let p = plan c.args.list.now.table in
    let now = c.loop-earlier.invariant in
    let ran = c.in_ok-run_round.ensures.ran in
    let more : change_count (operations_up_to (round + 1) all) ≡ change_count (operations_up_to round all) + change_count (round_operations (round + 1) all) =
    ap change_count (up_to_next round all script.in_rounds) ∙ count_parts (λ (it : Operation). is_change it.op) (operations_up_to round all) (round_operations (round + 1) all) in
    record {
      own = c.run_round.ensures.own;
      numbers = subst (λ (n : ℕ). HasNumbers 0 n (main_view c.run_round.new.main)) c.requires.lanes ran.numbers;
      ran = rounds_more p c.args.list.now.sources round all c.loop-earlier.replies.items c.run_round.new.replies.items (main_view c.loop-earlier.main) (main_view c.run_round.new.main) script.in_rounds now.ran ran;
      room = omega (arith, now.room, ran.room, more);
    }

pub returns-clause-own : goal.returns-clause-own
returns-clause-own g c = c.loop-earlier.invariant.own

pub returns-clause-numbers : goal.returns-clause-numbers
returns-clause-numbers g c = c.loop-earlier.invariant.numbers

pub returns-clause-ran : goal.returns-clause-ran
returns-clause-ran g c =
    let script = c.args.script.now in let all = script.operations in
    let p = plan c.args.list.now.table in let main = main_view c.loop-earlier.main in let told = c.loop-earlier.replies.items in
    let last : c.loop-earlier.earlier ≡ script.rounds = omega (arith, c.loop-earlier-test.false, c.loop-earlier.auto.earlier-end) in
    subst (λ (those : List Operation). HasRunRounds p c.args.list.now.sources script.rounds those told main)
    (up_to_all script.lanes script.rounds all (all_stand_in script.lanes script.rounds all script.sound.inside))
    (subst (λ (n : ℕ). HasRunRounds p c.args.list.now.sources n (operations_up_to n all) told main) last c.loop-earlier.invariant.ran)

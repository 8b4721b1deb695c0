-- Rounds one after another make a run of their script.
use Rattle.std.proofs.Common.{◌≡◌, ℕ, zero, suc, ◌+◌, ◌≤◌, List, [], ◌∷◌, ◌++◌, length, refl, sym, ap, ap₂, subst, ◌∙◌, arith}
use Rattle.std.specs.Prelude.{IsTrue}
use Rattle.std.specs.List.{range_with_len}
use Rattle.std.proofs.lemmas.Bool.{ne_eqb}
use Rattle.std.proofs.lemmas.List.{length-map, map-append}
use Rattle.tz_script.specs.Inside.{RoundsDontFall}
use Rattle.tz_script.specs.declared.operation.Operation.{Operation}
use Rattle.tz_script.specs.declared.script.Script.{Script}
use Rattle.tz_version.specs.declared.sources.Sources.{Sources}
use Rattle.tz_version.specs.Release.{Release}
use Rattle.pin_book.specs.Replay.{replays}
use Rattle.pin_core.specs.declared.view.View.{View}
use Rattle.pin_core.specs.Core.{one_if, times}
use Rattle.pin_core.specs.Step.{main_at_first}
use Rattle.pin_core.proofs.Opening.{opens}
use Rattle.pin_table.specs.Closing.{IsWhole}
use Rattle.pin_table.specs.declared.sitting.Plan.{Plan}
use Rattle.std.proofs.lemmas.List.FromFn.{length-range_with_len}
use Rattle.tz_batch.specs.Batch.{Answered, each_answered}
use Rattle.tz_batch.specs.Laws.{batch_of}
use Rattle.tz_batch.specs.Positions.{PositionsCountWrites}
use Rattle.tz_batch.specs.Run.{IsRun}
use Rattle.tz_batch.specs.declared.outcome.Outcome.{Outcome}
use Rattle.tz_batch.specs.declared.reply.Reply.{Reply}
use Rattle.tz_lane.specs.Lane.{round_operations}
use Rattle.tz_rounds.specs.RoundRun.{operations_up_to, HaveLines, HasRunRound, HasRunRounds}
use Rattle.tz_rounds.specs.Rounds.{RanRound, RanUpTo, RanRounds}
use Rattle.tz_rounds.specs.Sending.{HasNumbers}
use Rattle.tz_rounds.proofs.Assembly.{rounds_make_a_run}
use Rattle.tz_rounds.proofs.OneLane.{positions_count_writes}
use Rattle.tz_rounds.proofs.UpTo.{up_to_next}

-- a number behind a range isn't in it
times_past : (number from count : ℕ) → from + count ≤ number → times number (range_with_len from count) ≡ 0
times_past number from zero high = refl
times_past number from (suc count) high =
    let none = ap one_if (ne_eqb from number (λ same. omega (arith, same, high))) in
    let rest = times_past number (from + 1) count (omega (arith, high)) in
    omega (arith, none, rest)

-- The main of a new table has each number once.
pub first_numbers : (readers room : ℕ) → HasNumbers 0 readers (main_at_first readers room)
first_numbers readers room = record {
  each = λ number from to. (let all = (opens 1 readers room (omega arith)).owners.numbers number to in omega (arith, all));
  below = λ number less. absurd (omega (arith, less));
  above = λ number over. times_past number 0 readers (omega (arith, over));
  many = (let long = length-range_with_len 0 readers in omega (arith, long));
}

-- ---- operations with their replies ----

-- as many replies as operations
pub as_many : (operations : List Operation) (replies : List Reply) → HaveLines operations replies → length replies ≡ length operations
as_many operations replies lines =
    sym (length-map replies (λ (reply : Reply). reply.line)) ∙ ap length lines ∙ length-map operations (λ (operation : Operation). operation.line)

-- some more, each with its reply
answered_more : (first second : List Operation) (replies more : List Reply) → length replies ≡ length first → each_answered (first ++ second) (replies ++ more) ≡ each_answered first replies ++ each_answered second more
answered_more [] second [] more same = refl
answered_more [] second (reply ∷ replies) more same = absurd (omega (arith, same))
answered_more (operation ∷ first) second [] more same = absurd (omega (arith, same))
answered_more (operation ∷ first) second (reply ∷ replies) more same =
    ap (λ (rest : List Answered). record { operation = operation; reply = reply } ∷ rest) (answered_more first second replies more (omega (arith, same)))

lines_more : (first second : List Operation) (replies more : List Reply) → HaveLines first replies → HaveLines second more → HaveLines (first ++ second) (replies ++ more)
lines_more first second replies more one two =
    map-append (λ (reply : Reply). reply.line) replies more
    ∙ ap₂ (λ (xs ys : List ℕ). xs ++ ys) one two
    ∙ sym (map-append (λ (operation : Operation). operation.line) first second)

module _ (plan : Plan Release) (sources : Sources) where
  -- before the first round
  pub none_run : (main : View) → main.seen ≡ [] → main.own ≡ [] → HasRunRounds plan sources 0 [] [] main
  none_run main seen own = record { lines = refl; ran = (refl, seen, own) }

  -- one round more
  pub rounds_more : (round : ℕ) (all : List Operation) (replies after : List Reply) (main now : View) → RoundsDontFall all → HasRunRounds plan sources round (operations_up_to round all) replies main
      → HasRunRound plan sources (round + 1) (round_operations (round + 1) all) main now replies after → HasRunRounds plan sources (round + 1) (operations_up_to (round + 1) all) after now
  rounds_more round all replies after main now up so_far next =
      let first = operations_up_to round all in let second = round_operations (round + 1) all in
      let is : operations_up_to (round + 1) all ≡ first ++ second = up_to_next round all up in
      let those : each_answered (operations_up_to (round + 1) all) after ≡ each_answered first replies ++ each_answered second next.more =
      ap₂ (λ (xs : List Operation) (ys : List Reply). each_answered xs ys) is next.behind ∙ answered_more first second replies next.more (as_many first replies so_far.lines) in
      let step : suc round ≡ round + 1 = omega arith in record {
        lines = subst (λ (xs : List Operation). HaveLines xs after) (sym is) (subst (HaveLines (first ++ second)) (sym next.behind) (lines_more first second replies next.more so_far.lines next.lines));
        ran = subst (λ (n : ℕ). RanUpTo plan sources n (each_answered (operations_up_to (round + 1) all) after) now) step
            (each_answered first replies, each_answered second next.more, main, those, so_far.ran, subst (λ (n : ℕ). RanRound plan sources n (each_answered second next.more) main now) (sym step) next.ran);
      }

  module _ (script : Script) (slots : ℕ) (outcome : Outcome) (main : View) (lanes : plan.readers ≡ script.lanes) (slots_are : plan.slots ≡ slots) (run : HasRunRounds plan sources script.rounds script.operations outcome.replies main)
      (whole : IsWhole plan.readers main outcome.journal) (replay : IsTrue (replays slots outcome.journal)) where
    ran_all : RanRounds plan (batch_of script sources slots outcome) script.rounds main
    ran_all = record {
      lanes = lanes;
      slots = slots_are;
      rising = script.sound.rising;
      one_each = run.lines;
      ran = run.ran;
      whole = whole;
      replay = replay;
    }

    -- All rounds of a script make a run of it, once the list is closed.
    pub run_of_rounds : IsRun script sources slots outcome
    run_of_rounds = rounds_make_a_run plan (batch_of script sources slots outcome) script.rounds main ran_all

    -- With one lane positions count writes.
    pub rounds_count : PositionsCountWrites script.lanes outcome.replies
    rounds_count = positions_count_writes plan (batch_of script sources slots outcome) script.rounds main ran_all

-- What the readers of a round have done makes a round.
use Rattle.std.proofs.Common.{◌≡◌, ℕ, zero, suc, ◌+◌, ◌<◌, ◌==◌, Bool, true, List, [], ◌∷◌, length, map, sym, ap, subst, ◌∙◌, arith}
use Rattle.std.specs.Prelude.{All, Ok, Some, Err, IfOk, slice_get}
use Rattle.std.specs.List.{filter}
use Rattle.std.proofs.lemmas.Bool.{cond_both, eqb-true}
use Rattle.std.proofs.lemmas.List.{length-map}
use Rattle.std.proofs.lemmas.List.Elements.{All-cons, All-filter, All-weaker}
use Rattle.std.proofs.lemmas.Option.{same_Some}
use Rattle.std.specs.declared.result.Result.{Result}
use Rattle.tz_types.specs.declared.list.Items.{Items}
use Rattle.tz_types.specs.declared.memory.NoMemory.{NoMemory}
use Rattle.tz_script.specs.declared.operation.Operation.{Operation}
use Rattle.tz_version.specs.declared.sources.Sources.{Sources}
use Rattle.tz_version.specs.Release.{Release}
use Rattle.pin_core.specs.declared.view.View.{View}
use Rattle.pin_table.specs.Reader.{reader_view}
use Rattle.pin_table.specs.declared.sitting.Plan.{Plan}
use Rattle.tz_batch.specs.Batch.{Answered, each_answered}
use Rattle.tz_batch.specs.declared.reply.Reply.{Reply}
use Rattle.tz_lane.specs.Lane.{RunsLane, round_operations}
use Rattle.tz_rounds.specs.Backs.{back_view, RanPart}
use Rattle.tz_rounds.specs.Jobs.{AreJobs}
use Rattle.tz_rounds.specs.Merging.{IsInLanes, AnswerLanes, AreMerged}
use Rattle.tz_rounds.specs.Rounds.{of_lane, IsOfRound, RanLane, RanRound}
use Rattle.tz_rounds.specs.Running.{HasRunJob}
use Rattle.tz_rounds.specs.Sending.{HasBack}
use Rattle.tz_rounds.specs.declared.joining.LaneRun.{LaneRun}
use Rattle.tz_rounds.specs.declared.sending.LaneJob.{LaneJob}
use Rattle.tz_rounds.proofs.Lists.{slice_inside}
use Rattle.tz_rounds.proofs.Places.{there_at, map_there}
use Rattle.tz_rounds.proofs.UpTo.{StandsIn}

-- ---- the operations of a round ----

module _ (lanes rounds round : ℕ) (all : List Operation) (inside : All (StandsIn lanes rounds) all) where
  pub round_stands : All (StandsIn lanes rounds) (round_operations round all)
  round_stands = All-filter (λ (it : Operation). it.round == round) (StandsIn lanes rounds) all inside

  -- they are of the lanes
  pub round_in_lanes : (many : ℕ) → many ≡ lanes → All (IsInLanes many) (round_operations round all)
  round_in_lanes many same =
      All-weaker (StandsIn lanes rounds) (IsInLanes many) (λ it stands. record { some = stands.some_lane; few = (let few = stands.few_lanes in omega (arith, few, same)) })
      (round_operations round all) round_stands

-- all that a filter keeps passes
filter_passes : {A : Type 0} (test : A → Bool) (xs : List A) → All (λ x. test x ≡ true) (filter test xs)
filter_passes test [] = λ k d low. absurd (omega (arith, low))
filter_passes {A} test (x ∷ xs) =
    cond_both (test x) (x ∷ filter test xs) (filter test xs) (λ (ys : List A). All (λ y. test y ≡ true) ys)
    (λ pass. All-cons (λ y. test y ≡ true) x (filter test xs) pass (filter_passes test xs))
    (λ fail. filter_passes test xs)

-- the operations of a round are of it
pub of_round : (round : ℕ) (all : List Operation) → All (λ (it : Operation). it.round ≡ round) (round_operations round all)
of_round round all =
    All-weaker (λ (it : Operation). (it.round == round) ≡ true) (λ (it : Operation). it.round ≡ round) (λ it is. eqb-true it.round round is) (round_operations round all)
    (filter_passes (λ (it : Operation). it.round == round) all)

-- and so are the answered ones
all_of_round : (lanes rounds readers round : ℕ) (operations : List Operation) (replies : List Reply) → readers ≡ lanes → All (StandsIn lanes rounds) operations → All (λ (it : Operation). it.round ≡ round) operations
    → All (IsOfRound readers round) (each_answered operations replies)
all_of_round lanes rounds readers round [] replies same inside here k d low = absurd (omega (arith, low))
all_of_round lanes rounds readers round (operation ∷ operations) [] same inside here k d low = absurd (omega (arith, low))
all_of_round lanes rounds readers round (operation ∷ operations) (reply ∷ replies) same inside here zero d low =
    let stands = inside zero operation (omega arith) in record {
      round_is = here zero operation (omega arith);
      some = stands.some_lane;
      few = (let few = stands.few_lanes in omega (arith, few, same));
    }
all_of_round lanes rounds readers round (operation ∷ operations) (reply ∷ replies) same inside here (suc k) d low =
    all_of_round lanes rounds readers round operations replies same (λ j e less. inside (suc j) e (omega (arith, less))) (λ j e less. here (suc j) e (omega (arith, less))) k d (omega (arith, low))

-- ---- the lanes ----

-- what is told of a result with a value is told of the value
told_ok : {A E : Type 0} (P : A → Type 0) (result : Result A E) (value : A) → result ≡ Ok value → IfOk result P → P value
told_ok P (Ok other) value is holds = subst P (cc) holds
told_ok P (Err error) value is holds = absurd (cc)

module _ (plan : Plan Release) (sources : Sources) (operations : List Operation) (main : View) (jobs : List LaneJob) (runs : List LaneRun) (parts : List (List Reply))
    (same : length runs ≡ length jobs)
    (are : AreJobs operations main jobs)
    (each : (number : ℕ) (job : LaneJob) (run : LaneRun) → slice_get jobs number ≡ Some job → slice_get runs number ≡ Some run → HasRunJob plan sources operations job run)
    (told : map (λ (run : LaneRun). run.replies) runs ≡ map Ok parts) where
  abbrev as_ok : Items Reply → Result (Items Reply) NoMemory
  as_ok part = Ok part

  -- there are as many lists of replies
  pub parts_many : length parts ≡ length jobs
  parts_many =
      sym (length-map parts as_ok) ∙ ap length (sym told) ∙ length-map runs (λ (run : LaneRun). run.replies) ∙ same

  -- what a lane did by whose number it is
  pub part_of : (number : ℕ) (job : LaneJob) (run : LaneRun) (part : List Reply) → slice_get jobs number ≡ Some job → slice_get runs number ≡ Some run → slice_get parts number ≡ Some part
      → RanPart plan sources operations number (reader_view job.reader) part (back_view run)
  part_of number job run part here there at =
      let is : run.replies ≡ Ok part =
      same_Some run.replies (Ok part) (sym (map_there (λ (it : LaneRun). it.replies) runs number run there) ∙ ap (λ (xs : List (Result (Items Reply) NoMemory)). slice_get xs number) told ∙ map_there Ok parts number part at) in
      let has = each number job run here there in
      subst (λ (n : ℕ). RanPart plan sources operations n (reader_view job.reader) part (back_view run)) ((are number job here).number_is)
      (told_ok (λ (replies : List Reply). RanPart plan sources operations job.reader.number (reader_view job.reader) replies (back_view run)) run.replies part is has.ran)

  -- the replies of each lane answer its operations
  pub parts_answer : AnswerLanes operations parts
  parts_answer number part at =
      let low : number < length jobs = omega (arith, slice_inside parts number part at, parts_many) in
      let job = there_at jobs number low in
      let run = there_at runs number (omega (arith, low, same)) in
      (part_of number job.0 run.0 part job.1 run.1 at).lines

  module _ (lanes rounds round : ℕ) (back : View) (more : List Reply)
      (readers_are : plan.readers ≡ lanes) (many : length jobs ≡ lanes)
      (inside : All (StandsIn lanes rounds) operations) (here : All (λ (it : Operation). it.round ≡ round) operations)
      (has_back : HasBack (length runs) main (map back_view runs) back) (merged : AreMerged operations parts more) where
    ran_lane : (number : ℕ) → number < plan.readers → RanLane plan sources number (of_lane (number + 1) (each_answered operations more)) main back
    ran_lane number low =
        let job = there_at jobs number (omega (arith, low, readers_are, many)) in
        let run = there_at runs number (omega (arith, low, readers_are, many, same)) in
        let part = there_at parts number (omega (arith, low, readers_are, many, parts_many)) in
        let is = part_of number job.0 run.0 part.0 job.1 run.1 part.1 in
        let out = (are number job.0 job.1).out in
        let at = map_there back_view runs number run.0 run.1 in record {
          out = reader_view job.0.reader;
          back = back_view run.0;
          seen_first = out.seen;
          floor = out.floor;
          own_first = out.own;
          runs = subst (λ (those : List Answered). RunsLane plan sources number (reader_view job.0.reader) those (back_view run.0)) (sym (merged.lanes number part.0 part.1)) is.runs;
          seen = has_back.seen number (back_view run.0) at;
          own = has_back.own number (back_view run.0) at;
        }

    -- What the readers did is a round.
    pub ran_round : RanRound plan sources round (each_answered operations more) main back
    ran_round = record {
      grows = has_back.grows;
      inside = all_of_round lanes rounds plan.readers round operations more readers_are inside here;
      lanes = ran_lane;
    }

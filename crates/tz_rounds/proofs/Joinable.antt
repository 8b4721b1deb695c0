-- Jobs can be run, and their readers can be joined afterwards.
use Rattle.std.proofs.Common.{◌≡◌, ℕ, ◌+◌, ◌==◌, List, [], ◌∷◌, ◌++◌, length, refl, sym, ap, ap₂, subst, ◌∙◌, arith, rules, eq-eqb}
use Rattle.std.specs.Prelude.{Ok, Err, IsOk, IfOk}
use Rattle.std.proofs.lemmas.Bool.{cond-true}
use Rattle.std.proofs.lemmas.List.Elements.{filter-append}
use Rattle.std.specs.declared.result.Result.{Result}
use Rattle.tz_types.specs.declared.list.Items.{Items}
use Rattle.tz_types.specs.declared.memory.NoMemory.{NoMemory}
use Rattle.tz_script.specs.declared.operation.Operation.{Operation}
use Rattle.tz_version.specs.declared.sources.Sources.{Sources}
use Rattle.tz_version.specs.Release.{Release}
use Rattle.pin_book.specs.declared.write.Write.{Write}
use Rattle.pin_book.specs.Sequence.{writes_by}
use Rattle.pin_core.specs.declared.view.View.{View}
use Rattle.pin_table.specs.Reader.{reader_view}
use Rattle.pin_table.specs.declared.sitting.Plan.{Plan}
use Rattle.tz_batch.specs.Run.{PlacedChange}
use Rattle.tz_batch.specs.declared.reply.Reply.{Reply}
use Rattle.tz_lane.specs.Lane.{writes_from}
use Rattle.tz_rounds.specs.Backs.{back_view, RanPart, IsJoinable}
use Rattle.tz_rounds.specs.Jobs.{lane_changes, IsJob}
use Rattle.tz_rounds.specs.Running.{IsReady, HasRunJob}
use Rattle.tz_rounds.specs.Sending.{OwnsOnly}
use Rattle.tz_rounds.specs.declared.joining.LaneRun.{LaneRun}
use Rattle.tz_rounds.specs.declared.sending.LaneJob.{LaneJob}
use Rattle.tz_rounds.proofs.Lists.{filter_covers}

-- A job that was sent out can be run.
pub job_ready : (operations : List Operation) (main : View) (number : ℕ) (job : LaneJob) → IsJob operations main number job → IsReady operations job
job_ready operations main number job is = record {
  lane = is.lane ∙ ap (λ (n : ℕ). n + 1) (sym is.number_is);
  free = is.out.entries;
  room = omega (arith, is.out.allowance, ap (λ (n : ℕ). lane_changes n operations) is.lane);
}

-- the writes of a number that are made of changes are by it
made_by : (number count : ℕ) (changes : List PlacedChange) → writes_by number (writes_from number count changes) ≡ writes_from number count changes
made_by number count [] = refl
made_by number count (placed ∷ later) =
    let write : Write = record { by = number; seq = count + 1; change = placed.change } in
    let rest = writes_from number (count + 1) later in
    cond-true (number == number) (write ∷ writes_by number rest) (writes_by number rest) (eq-eqb number number refl)
    ∙ ap (λ (xs : List Write). write ∷ xs) (made_by number (count + 1) later)

-- a reader that went out with its own writes and made more has its own alone
owns_only : (number count : ℕ) (main back : View) (before : List Write) (changes : List PlacedChange) → before ≡ writes_by number main.own → back.own ≡ before ++ writes_from number count changes → OwnsOnly number back
owns_only number count main back before changes first own =
    let made = writes_from number count changes in
    let was : writes_by number before ≡ before =
    ap (writes_by number) first ∙ filter_covers (λ (write : Write). write.by == number) (λ (write : Write). write.by == number) main.own (λ write pass. pass) ∙ sym first in
    ap (writes_by number) own
    ∙ filter-append (λ (write : Write). write.by == number) before made
    ∙ ap₂ (λ (xs ys : List Write). xs ++ ys) was (made_by number count changes)
    ∙ sym own

-- A reader that has run its lane can be joined.
pub comes_joinable : (plan : Plan Release) (sources : Sources) (operations : List Operation) (main : View) (number : ℕ) (job : LaneJob) (run : LaneRun) → IsJob operations main number job → HasRunJob plan sources operations job run → IsOk run.replies → IsJoinable number (back_view run)
comes_joinable plan sources operations main number job run is has ok = by_replies run.replies ok has.ran
  where
    by_replies : (told : Result (Items Reply) NoMemory) → IsOk told → IfOk told (λ replies. RanPart plan sources operations job.reader.number (reader_view job.reader) replies (back_view run)) → IsJoinable number (back_view run)
    by_replies (Ok replies) ok ran =
        let runs = ran.runs in record {
          numbers = runs.keeps.numbers ∙ is.out.numbers;
          entries = has.free;
          own = subst (λ (n : ℕ). OwnsOnly n (back_view run)) is.number_is
              (owns_only job.reader.number (length (reader_view job.reader).own) main (back_view run) (reader_view job.reader).own _ (is.out.own ∙ ap (λ (n : ℕ). writes_by n main.own) (sym is.number_is)) runs.own);
        }
    by_replies (Err error) ok ran = absurd (search rules)

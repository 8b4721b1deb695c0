-- The jobs of a round, as its readers go out.
use Rattle.std.proofs.Common.{◌≡◌, ℕ, zero, suc, ◌+◌, ◌≤◌, ◌<◌, ◌==◌, ◌⊎◌, ⊎_elim, inl, inr, Bool, true, false, ◌&&◌, cond, List, [], ◌∷◌, ◌++◌, length, refl, sym, ap, subst, ◌∙◌, arith}
use Rattle.std.specs.Prelude.{Some, slice_get}
use Rattle.std.proofs.lemmas.Bool.{and_parts, and_right, eqb-true}
use Rattle.std.proofs.lemmas.List.Sums.{sum_by-cons}
use Rattle.std.proofs.lemmas.Option.{same_Some}
use Rattle.tz_script.specs.Inside.{change_count}
use Rattle.tz_script.specs.Operation.{is_change}
use Rattle.tz_script.specs.declared.operation.Operation.{Operation}
use Rattle.pin_core.specs.declared.view.View.{View}
use Rattle.pin_core.specs.Core.{times, IsReader}
use Rattle.pin_table.specs.Numbers.{SplitsLeast}
use Rattle.pin_table.specs.Reader.{reader_view}
use Rattle.tz_rounds.specs.Jobs.{lane_changes, IsJob, AreJobs}
use Rattle.tz_rounds.specs.Sending.{HasNumbers, GoesOut, HasSent}
use Rattle.tz_rounds.specs.declared.sending.LaneJob.{LaneJob}
use Rattle.tz_rounds.proofs.OutAndBack.{goes_out}
use Rattle.tz_rounds.proofs.Sums.{sum_below, sum_same, sum_both, sum_none, sum_few}

-- ---- changes ----

-- the changes of one operation, by the lanes
one_change : (lanes : ℕ) (lane : ℕ) (change : Bool) → sum_below (λ number. cond ((lane == number + 1) && change) 1 0) lanes ≤ cond change 1 0
one_change lanes lane true =
    sum_few (λ number. (lane == number + 1) && true) lanes
    (λ i j first second. omega (arith, eqb-true lane (i + 1) (and_parts (lane == i + 1) true first).0, eqb-true lane (j + 1) (and_parts (lane == j + 1) true second).0))
one_change lanes lane false =
    omega (arith, sum_same (λ number. cond ((lane == number + 1) && false) 1 0) (λ number. 0) lanes (λ number low. ap (λ (b : Bool). cond b 1 0) (and_right (lane == number + 1) false refl)), sum_none lanes)

-- The changes of all lanes are no more than all changes.
pub changes_by_lane : (lanes : ℕ) (operations : List Operation) → sum_below (λ number. lane_changes (number + 1) operations) lanes ≤ change_count operations
changes_by_lane lanes [] = omega (arith, sum_none lanes)
changes_by_lane lanes (operation ∷ operations) =
    let counts = λ (number : ℕ). cond ((operation.lane == number + 1) && is_change operation.op) 1 0 in
    let rest = λ (number : ℕ). lane_changes (number + 1) operations in
    let parts : sum_below (λ number. lane_changes (number + 1) (operation ∷ operations)) lanes ≡ sum_below (λ number. counts number + rest number) lanes =
    sum_same (λ number. lane_changes (number + 1) (operation ∷ operations)) (λ number. counts number + rest number) lanes
    (λ number low. sum_by-cons (λ (it : Operation). cond ((it.lane == number + 1) && is_change it.op) 1 0) operation operations) in
    omega (arith, parts, sum_both counts rest lanes, one_change lanes operation.lane (is_change operation.op), changes_by_lane lanes operations, sum_by-cons (λ (it : Operation). cond (is_change it.op) 1 0) operation operations)

-- ---- jobs ----

-- a seat with a number left has one
pub has_some : (sent readers : ℕ) (v : View) → HasNumbers sent readers v → sent < readers → v.numbers ≡ [] → ⊥
has_some sent readers v has low none = omega (arith, has.each sent (omega arith) low, ap (times sent) none)

-- a place in a list with one more
in_more : {A : Type 0} (xs : List A) (last : A) (k : ℕ) (x : A) → slice_get (xs ++ last ∷ []) k ≡ Some x → (slice_get xs k ≡ Some x) ⊎ ((k ≡ length xs) × (last ≡ x))
in_more [] last zero x there = inr (refl, same_Some last x there)
in_more [] last (suc k) x there = cc
in_more (first ∷ xs) last zero x there = inl there
in_more (first ∷ xs) last (suc k) x there =
    ⊎_elim
    (λ (old : slice_get xs k ≡ Some x). inl old)
    (λ (new : (k ≡ length xs) × (last ≡ x)). inr (ap suc new.0, new.1))
    (in_more xs last k x there)

-- one job more
pub jobs_more : (operations : List Operation) (main : View) (jobs : List LaneJob) (job : LaneJob) → AreJobs operations main jobs → IsJob operations main (length jobs) job → AreJobs operations main (jobs ++ job ∷ [])
jobs_more operations main jobs job are is number one there =
    ⊎_elim
    (λ (old : slice_get jobs number ≡ Some one). are number one old)
    (λ (new : (number ≡ length jobs) × (job ≡ one)).
    subst (λ (n : ℕ). IsJob operations main n one) (sym new.0) (subst (IsJob operations main (length jobs)) new.1 is))
    (in_more jobs job number one there)

-- a reader that has one number alone is that number's
only_number : (number sent : ℕ) (v : View) → IsReader number v → v.numbers ≡ sent ∷ [] → number ≡ sent
only_number number sent v is only = same_first (sym is.1 ∙ only)
  where
    same_first : number ∷ [] ≡ sent ∷ [] → number ≡ sent
    same_first same = cc

-- What holds once one more reader is out.
pub record SentMore (sent lanes : ℕ) (operations : List Operation) (main now later : View) (jobs : List LaneJob) : Type 0 where
  pub left : HasSent (sent + 1) lanes main later
  pub jobs_are : AreJobs operations main jobs
  pub allowance : later.allowance + lane_changes (sent + 1) operations ≡ now.allowance

-- One more reader goes out.
pub sent_more : (sent lanes readers writes : ℕ) (operations : List Operation) (main now later : View) (jobs : List LaneJob) (job : LaneJob)
    → lanes ≡ readers → HasSent sent lanes main now → AreJobs operations main jobs → length jobs ≡ sent → sent < lanes
    → writes ≡ lane_changes (sent + 1) operations → writes ≤ now.allowance → SplitsLeast readers writes now later (reader_view job.reader) → job.lane ≡ sent + 1
    → SentMore sent lanes operations main now later (jobs ++ job ∷ [])
sent_more sent lanes readers writes operations main now later jobs job same left are long low count room splits lane =
    let fitting : SplitsLeast lanes writes now later (reader_view job.reader) = subst (λ (n : ℕ). SplitsLeast n writes now later (reader_view job.reader)) (sym same) splits in
    let out = goes_out sent lanes writes main now later (reader_view job.reader) left low fitting in
    let number : job.reader.number ≡ sent = only_number job.reader.number sent (reader_view job.reader) job.reader.reader out.0.numbers in
    let job_is : IsJob operations main sent job = record {
      lane = lane;
      number_is = number;
      out = subst (λ (n : ℕ). GoesOut sent n main (reader_view job.reader)) count out.0;
    } in
    record {
      left = subst (λ (n : ℕ). HasSent n lanes main later) (omega arith) out.1;
      jobs_are = jobs_more operations main jobs job are (subst (λ (n : ℕ). IsJob operations main n job) (sym long) job_is);
      allowance = omega (arith, ap (λ (v : View). v.allowance) fitting.left, count, room);
    }

-- An erasure behind the front: a pin, an erasure behind it, and the pin's release, as one operation.
use Rattle.std.proofs.Common.{◌≡◌, ℕ, suc, ◌+◌, ◌-◌, ◌≤◌, true, List, [], ◌∷◌, ◌++◌, length, take, Some, option_map, refl, sym, ap, ◌∙◌, subst, arith}
use Rattle.std.specs.Prelude.{slice_get}
use Rattle.std.proofs.lemmas.Option.{slice_get_within}
use Rattle.tz_script.specs.declared.operation.Op.TheVariants as ops
use Rattle.tz_script.specs.declared.operation.Pick.{Pick}
use Rattle.tz_script.specs.declared.operation.Pick.TheVariants.{Front, Held}
use Rattle.tz_version.specs.declared.sources.Sources.{Sources}
use Rattle.tz_version.specs.Release.{Release}
use Rattle.pin_book.specs.declared.write.Change.TheVariants.{Erase}
use Rattle.pin_book.specs.declared.write.Write.{Write}
use Rattle.pin_book.specs.Replay.{state_after, replays, allowed, is_listed, greatest_below, front_of}
use Rattle.pin_core.specs.declared.view.View.{View}
use Rattle.pin_core.specs.Step.{loaded, unpinned}
use Rattle.pin_table.specs.declared.sitting.Plan.{Plan}
use Rattle.pin_table.specs.Handles.{Handle}
use Rattle.pin_table.specs.Pins.{with_handle}
use Rattle.pin_table.proofs.PlaceLemmas.{take_seen, no_shorter}
use Rattle.tz_batch.specs.Answering.{ErasesBehindTold}
use Rattle.tz_batch.specs.Round.{newest_at}
use Rattle.tz_batch.specs.declared.answer.Answer.{Answer}
use Rattle.tz_batch.specs.declared.answer.Answer.TheVariants as answers
use Rattle.tz_lane.specs.declared.told.Told.{Told}
use Rattle.tz_lane.specs.Changing.{ErasesInLane, AnswersEraseOf, AnswersEraseFront}
use Rattle.tz_lane.specs.Meeting.{lane_round, writes_made, Meets, KeepsNumbers}
use Rattle.tz_lane.proofs.Growth.{write_stays}

-- what was seen at a place stands there later on
seen_there : (seen later : List Write) (at : ℕ) (write : Write) → take (length seen) later ≡ seen → slice_get seen at ≡ Some write → slice_get later at ≡ Some write
seen_there seen later at write grows there = write_stays seen later at grows (slice_get_within seen at write there) ∙ there

-- an erasure makes the same writes where the own ones are the same
same_writes : (number : ℕ) (v w : View) (pick : Pick) (answer : Answer) → w.own ≡ v.own → writes_made number w (ops.Erase pick) answer ≡ writes_made number v (ops.Erase pick) answer
same_writes number v w pick (answers.Erased n slot gone) own = ap (λ (those : List Write). record { by = number; seq = length those + 1; change = Erase n gone } ∷ []) own
same_writes number v w pick _ own = refl

-- What the pin and its release leave of the reader beside what the erasure does: it had seen no more before the pin, and
-- has seen no less since the release.
pub record IsAround (slots : ℕ) (v first second v' : View) : Type 0 where
  pub before : take (length v.seen) first.seen ≡ v.seen
  pub after : take (length second.seen) v'.seen ≡ second.seen
  pub replay : replays slots v'.seen ≡ true
  pub own : (first.own ≡ v.own) × (v'.own ≡ second.own)
  pub allowance : (first.allowance ≡ v.allowance) × (v'.allowance ≡ second.allowance)
  pub keeps_first : KeepsNumbers v first
  pub keeps_last : KeepsNumbers second v'
  pub loads : (v.loads ≤ first.loads) × (second.loads ≤ v'.loads)
  pub taken : (first.taken ≡ v.taken) × (v'.taken ≡ second.taken)

pub around : (slots misses at : ℕ) (handle : Handle Release) (v first second v' : View) (found later : List Write) → take (length v.seen) first.seen ≡ v.seen → take (length second.seen) v'.seen ≡ second.seen → replays slots v'.seen ≡ true
    → first ≡ with_handle found misses handle v → v' ≡ unpinned at (loaded later second) → IsAround slots v first second v'
around slots misses at handle v first second v' found later before after replay pinned freed = record {
  before = before;
  after = after;
  replay = replay;
  own = (ap (λ (x : View). x.own) pinned, ap (λ (x : View). x.own) freed);
  allowance = (ap (λ (x : View). x.allowance) pinned, ap (λ (x : View). x.allowance) freed);
  keeps_first = record { role = ap (λ (x : View). x.role) pinned; numbers = ap (λ (x : View). x.numbers) pinned; floor = ap (λ (x : View). x.floor) pinned };
  keeps_last = record { role = ap (λ (x : View). x.role) freed; numbers = ap (λ (x : View). x.numbers) freed; floor = ap (λ (x : View). x.floor) freed };
  loads = ((let more = ap (λ (x : View). x.loads) pinned in omega arith), (let more = ap (λ (x : View). x.loads) freed in omega arith));
  taken = (ap (λ (x : View). x.taken) pinned, ap (λ (x : View). x.taken) freed);
}

module _ (plan : Plan Release) (number : ℕ) (told : Told) (v first second v' : View) (is : IsAround plan.slots v first second v') (erased : ErasesInLane plan number first told second) where
  -- the list is met once
  meets_once : (pick : Pick) → Meets plan.slots v (writes_made number v (ops.Erase pick) told.answer) v' told.w
  meets_once pick =
      let made : List Write = writes_made number v (ops.Erase pick) told.answer in
      let met : Meets plan.slots first made second told.w = subst (λ (writes : List Write). Meets plan.slots first writes second told.w) (same_writes number v first pick told.answer is.own.0) (erased.meets pick) in
      let less = no_shorter v.seen first.seen is.before in
      let more = no_shorter first.seen second.seen met.grows in
      let last = no_shorter second.seen v'.seen is.after in
      let from = met.from in let to = met.to in let spent = met.allowance in let had = is.allowance.0 in let has = is.allowance.1 in
      record {
        grows = take_seen (length v.seen) second.seen v'.seen (omega arith) is.after ∙ (take_seen (length v.seen) first.seen second.seen less met.grows ∙ is.before);
        replay = is.replay;
        from = omega arith;
        to = omega arith;
        placed = λ write among. seen_there second.seen v'.seen (told.w - 1) write is.after (met.placed write among);
        own = is.own.1 ∙ (met.own ∙ ap (λ (those : List Write). those ++ made) is.own.0);
        allowance = omega arith;
        keeps = record {
          role = is.keeps_last.role ∙ (met.keeps.role ∙ is.keeps_first.role);
          numbers = is.keeps_last.numbers ∙ (met.keeps.numbers ∙ is.keeps_first.numbers);
          floor = is.keeps_last.floor ∙ (met.keeps.floor ∙ is.keeps_first.floor);
        };
      }

  -- the list up to where it was met stays
  list_stays : take told.w v'.seen ≡ take told.w second.seen
  list_stays = take_seen told.w second.seen v'.seen (erased.meets Front).to is.after

  pub erases_front : ErasesInLane plan number v told v'
  erases_front = record {
    meets = meets_once;
    kept = λ sources begun it among. ap (λ (l : List Write). slice_get (state_after plan.slots l).kept it.slot) list_stays ∙ erased.kept sources begun it among;
    counts = λ pick. record {
      loads = (let more = (erased.counts pick).loads in let first_loads = is.loads.0 in let last_loads = is.loads.1 in omega arith);
      taken = (let more = (erased.counts pick).taken in let first_taken = is.taken.0 in let last_taken = is.taken.1 in omega arith);
    };
  }

-- ---- what is answered ----

module _ (plan : Plan Release) (sources : Sources) (begun number position : ℕ) (v first second v' : View) (is : IsAround plan.slots v first second v') (at : position ≡ length first.seen) where
  -- a version that was pinned at the front was the front's since the lane's last position
  behind_front : (met n slot : ℕ) → position ≤ met → met ≤ length second.seen → ErasesBehindTold (lane_round plan sources begun second) 0 (λ name edition. edition ≡ newest_at (lane_round plan sources begun second) position) (Held []) met n slot
      → ErasesBehindTold (lane_round plan sources begun v') (length v.seen) (λ name edition. ⊥) Front met n slot
  behind_front met n slot low high (edition, front, told) =
      let less = no_shorter v.seen first.seen is.before in
      (edition, (position, omega arith, low, front ∙ ap (λ (l : List Write). front_of (state_after plan.slots l).listed) (sym (take_seen position second.seen v'.seen (omega arith) is.after))), told)

  pub answers_front : (w : ℕ) (answer : Answer) → Meets plan.slots first (writes_made number first (ops.Erase Front) answer) second w → AnswersEraseOf (lane_round plan sources begun second) position w answer
      → AnswersEraseFront (lane_round plan sources begun v') (length v.seen) w answer
  answers_front w (answers.NotListed n slot) met (told, gone) =
      let from = met.from in
      (behind_front w n slot (omega arith) met.to told, ap (λ (l : List Write). is_listed n (state_after plan.slots l).listed) (take_seen w second.seen v'.seen met.to is.after) ∙ gone)
  answers_front w (answers.Nothing n slot) met (told, among, least) =
      let from = met.from in
      let same = take_seen w second.seen v'.seen met.to is.after in
      (behind_front w n slot (omega arith) met.to told, ap (λ (l : List Write). is_listed n (state_after plan.slots l).listed) same ∙ among, ap (λ (l : List Write). greatest_below n (state_after plan.slots l).listed) same ∙ least)
  answers_front (suc w) (answers.Erased n slot gone) met (told, allows, change) =
      let write : Write = record { by = number; seq = length first.own + 1; change = Erase n gone } in
      let place : w ≡ suc w - 1 = omega arith in
      let from = met.from in let to = met.to in
      let before = take_seen w second.seen v'.seen (omega arith) is.after in (
        behind_front w n slot (omega arith) (omega arith) told,
        ap (λ (l : List Write). allowed (state_after plan.slots l) (Erase n gone)) before ∙ allows,
        ap (λ (k : ℕ). option_map (λ (it : Write). it.change) (slice_get v'.seen k)) place ∙ ap (option_map (λ (it : Write). it.change)) (seen_there second.seen v'.seen (suc w - 1) write is.after (met.placed write (0, omega arith, refl))),
      )
  answers_front w _ met h = absurd h

-- What a reader knows after a turn, as what its lane has met.
use Rattle.std.proofs.Common.{◌≡◌, ℕ, zero, suc, ◌+◌, ◌-◌, ◌<◌, true, Option, List, [], ◌∷◌, ◌++◌, length, take, Some, Contains, refl, sym, ap, ◌∙◌, subst, arith, length-append}
use Rattle.std.specs.Prelude.{slice_get}
use Rattle.std.proofs.lemmas.List.{take-append-le, take_all}
use Rattle.pin_book.specs.declared.write.Write.{Write}
use Rattle.pin_book.specs.Replay.{state_after, replays, allowed}
use Rattle.pin_book.proofs.Journals.{replays_push}
use Rattle.pin_core.specs.declared.view.View.{View}
use Rattle.pin_core.specs.Step.{got_turn, gave_turn, stored}
use Rattle.pin_table.specs.Turns.{FindsJournal, WaitsForTurn}
use Rattle.pin_table.proofs.PlaceLemmas.{no_shorter}
use Rattle.tz_lane.specs.Counting.{TalliesRise}
use Rattle.tz_lane.specs.Meeting.{KeepsNumbers, Meets}

-- The reader has had the turn once, and found this journal. It wrote these writes behind it.
pub record HadTurn (v v' : View) (journal made : List Write) : Type 0 where
  pub seen : v'.seen ≡ journal ++ made
  pub own : v'.own ≡ v.own ++ made
  pub allowance : v'.allowance + length made ≡ v.allowance
  pub keeps : KeepsNumbers v v'
  pub loads : v'.loads ≡ v.loads
  pub taken : v'.taken ≡ v.taken + 1

append_none : {X : Type 0} (xs : List X) → xs ++ [] ≡ xs
append_none [] = refl
append_none (x ∷ xs) = ap (λ l. x ∷ l) (append_none xs)

-- a turn without a write
pub turned_idle : (v w v' : View) (journal : List Write) (pinned : List ℕ) → WaitsForTurn v w → v' ≡ record (gave_turn (got_turn journal w)) { pinned = pinned } → HadTurn v v' journal []
turned_idle v w v' journal pinned waits is = record {
  seen = ap (λ (x : View). x.seen) is ∙ sym (append_none journal);
  own = ap (λ (x : View). x.own) is ∙ ap (λ (x : View). x.own) waits.view ∙ sym (append_none v.own);
  allowance = (let now = ap (λ (x : View). x.allowance) is in let then = ap (λ (x : View). x.allowance) waits.view in omega arith);
  keeps = record {
    role = ap (λ (x : View). x.role) is ∙ ap (λ (x : View). x.role) waits.view;
    numbers = ap (λ (x : View). x.numbers) is ∙ ap (λ (x : View). x.numbers) waits.view;
    floor = ap (λ (x : View). x.floor) is ∙ ap (λ (x : View). x.floor) waits.view;
  };
  loads = ap (λ (x : View). x.loads) is ∙ ap (λ (x : View). x.loads) waits.view;
  taken = ap (λ (x : View). x.taken) is ∙ ap (λ (x : View). x.taken + 1) waits.view;
}

-- a turn with one
pub turned_write : (v w v' : View) (journal : List Write) (write : Write) (pinned : List ℕ) (claimed : Option ℕ) → WaitsForTurn v w → 0 < v.allowance
    → v' ≡ record (gave_turn (stored write (got_turn journal w))) { pinned = pinned; claimed = claimed } → HadTurn v v' journal (write ∷ [])
turned_write v w v' journal write pinned claimed waits may is = record {
  seen = ap (λ (x : View). x.seen) is;
  own = ap (λ (x : View). x.own) is ∙ ap (λ (x : View). x.own ++ write ∷ []) waits.view;
  allowance = (let now = ap (λ (x : View). x.allowance) is in let then = ap (λ (x : View). x.allowance) waits.view in omega arith);
  keeps = record {
    role = ap (λ (x : View). x.role) is ∙ ap (λ (x : View). x.role) waits.view;
    numbers = ap (λ (x : View). x.numbers) is ∙ ap (λ (x : View). x.numbers) waits.view;
    floor = ap (λ (x : View). x.floor) is ∙ ap (λ (x : View). x.floor) waits.view;
  };
  loads = ap (λ (x : View). x.loads) is ∙ ap (λ (x : View). x.loads) waits.view;
  taken = ap (λ (x : View). x.taken) is ∙ ap (λ (x : View). x.taken + 1) waits.view;
}

-- the journal that the turn found is what stands before the writes
pub found_before : (v v' : View) (journal made : List Write) → HadTurn v v' journal made → take (length journal) v'.seen ≡ journal
found_before v v' journal made turn =
    ap (take (length journal)) turn.seen ∙ take-append-le (length journal) journal made (omega arith) ∙ take_all (length journal) journal (omega arith)

-- it goes on from what the reader had seen
grows_on : (seen journal made : List Write) → take (length seen) journal ≡ seen → take (length seen) (journal ++ made) ≡ seen
grows_on seen journal made grows = take-append-le (length seen) journal made (no_shorter seen journal grows) ∙ grows

-- without a write the lane has met the list where the journal ended
pub met_idle : (slots : ℕ) (v v' : View) (journal : List Write) → FindsJournal slots v journal → HadTurn v v' journal [] → Meets slots v [] v' (length journal)
met_idle slots v v' journal found turn =
    let seen : v'.seen ≡ journal = turn.seen ∙ append_none journal in
    let long = no_shorter v.seen journal found.grows in
    let same = ap (λ (l : List Write). length l) seen in
    record {
      grows = ap (take (length v.seen)) seen ∙ found.grows;
      replay = ap (replays slots) seen ∙ found.replay;
      from = omega arith;
      to = omega arith;
      placed = λ write has. absurd (let none = has.1 in omega arith);
      own = turn.own;
      allowance = turn.allowance;
      keeps = turn.keeps;
    }

-- what is written last stands at the end
last_there : (journal : List Write) (write : Write) → slice_get (journal ++ write ∷ []) (length journal) ≡ Some write
last_there [] write = refl
last_there (first ∷ journal) write = last_there journal write

only_one : (write other : Write) → Contains (write ∷ []) other → write ≡ other
only_one write other (zero, low, at) = at
only_one write other (suc k, low, at) = absurd (omega arith)

-- with one the lane has met the list behind it
pub met_write : (slots : ℕ) (v v' : View) (journal : List Write) (write : Write) → FindsJournal slots v journal → allowed (state_after slots journal) write.change ≡ true → HadTurn v v' journal (write ∷ [])
    → Meets slots v (write ∷ []) v' (length journal + 1)
met_write slots v v' journal write found allows turn =
    let long = no_shorter v.seen journal found.grows in
    let whole = ap (λ (l : List Write). length l) turn.seen ∙ length-append journal (write ∷ []) in
    let place : length journal + 1 - 1 ≡ length journal = omega arith in
    record {
      grows = ap (take (length v.seen)) turn.seen ∙ grows_on v.seen journal (write ∷ []) found.grows;
      replay = ap (replays slots) turn.seen ∙ replays_push slots journal write found.replay allows;
      from = omega arith;
      to = omega arith;
      placed = λ other has. ap (λ (k : ℕ). slice_get v'.seen k) place ∙ ap (λ (l : List Write). slice_get l (length journal)) turn.seen ∙ last_there journal write ∙ ap Some (only_one write other has);
      own = turn.own;
      allowance = turn.allowance;
      keeps = turn.keeps;
    }

-- the turn is counted
pub counted : (v v' : View) (journal made : List Write) → HadTurn v v' journal made → TalliesRise v v' 0 1
counted v v' journal made turn = record { loads = (let same = turn.loads in omega arith); taken = (let one = turn.taken in omega arith) }

-- the write that was made last, by its place
pub write_there : (v v' : View) (journal : List Write) (write : Write) → HadTurn v v' journal (write ∷ []) → slice_get v'.seen (length journal) ≡ Some write
write_there v v' journal write turn = ap (λ (l : List Write). slice_get l (length journal)) turn.seen ∙ last_there journal write

-- what the turn found goes on from what the reader had seen before it waited
pub found_from : (slots : ℕ) (v w : View) (journal : List Write) → WaitsForTurn v w → FindsJournal slots w journal → FindsJournal slots v journal
found_from slots v w journal waits found =
    record { grows = subst (λ (l : List Write). take (length l) journal ≡ l) (ap (λ (x : View). x.seen) waits.view) found.grows; replay = found.replay }

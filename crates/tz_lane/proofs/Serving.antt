-- What a call of the lane gives to its operation.
use Rattle.std.proofs.Common.{◌≡◌, ℕ, zero, suc, ◌≤◌, ◌<◌, ◌==◌, ◌⊎◌, Bool, true, false, not, ◌&&◌, cond, List, [], ◌∷◌, length, map, take, Contains, IsPermutation, refl, sym, ap, subst, ◌∙◌, inl, inr, ⊎_elim, arith}
use Rattle.std.specs.Prelude.{IfOk, Result, Ok, Err}
use Rattle.std.proofs.lemmas.Bool.{and_parts, and_from, eq-eqb, eqb-true}
use Rattle.std.proofs.lemmas.List.{length-map}
use Rattle.std.proofs.lemmas.List.Sorted.{IsPermutation-refl, Contains-permutation, IsPermutation-sym, IsPermutation-trans, IsPermutation-cons, IsPermutation-map}
use Rattle.pin_book.specs.Replay.{Edition}
use Rattle.pin_book.specs.declared.write.Write.{Write}
use Rattle.pin_core.specs.Core.{total, one_if}
use Rattle.pin_core.specs.declared.entry.Entry.{Entry}
use Rattle.pin_core.specs.declared.view.View.{View}
use Rattle.pin_table.specs.Handles.{Handle, pin_of, MadeBy}
use Rattle.pin_table.specs.declared.sitting.Plan.{Plan}
use Rattle.tz_script.specs.Operation.{is_change, hold_needed, hold_picked}
use Rattle.tz_script.specs.declared.operation.Op.{Op}
use Rattle.tz_script.specs.declared.operation.Op.TheVariants as ops
use Rattle.tz_script.specs.declared.operation.Pick.{Pick}
use Rattle.tz_script.specs.declared.operation.Pick.TheVariants.{Front, Held}
use Rattle.tz_version.specs.declared.sources.Sources.{Sources}
use Rattle.tz_version.specs.Release.{Release}
use Rattle.tz_types.specs.declared.memory.NoMemory.{NoMemory}
use Rattle.pin_table.specs.declared.table.PinTable.{PinTable}
use Rattle.pin_table.specs.Table.{plan as plan_of}
use Rattle.tz_list.specs.declared.list.TzdbList.{TzdbList}
use Rattle.tz_batch.specs.Answering.{AnswersList, AnswersDrop, AnswersErase, LooksInto, AnswersOp}
use Rattle.tz_batch.specs.Round.{Round, newest_at}
use Rattle.tz_batch.specs.Run.{TellsKept, PassesSlots}
use Rattle.tz_batch.specs.declared.answer.Answer.{Answer}
use Rattle.tz_batch.specs.declared.answer.Answer.TheVariants as answers
use Rattle.tz_list.specs.Reload.{release_home, release_source}
use Rattle.tz_lane.specs.Changing.{HasHandleAt, ReloadsInLane, ErasesInLane, AnswersEraseOf, AnswersEraseFront}
use Rattle.tz_lane.specs.Counting.{loads_of, turns_of, TalliesRise}
use Rattle.tz_lane.specs.Holding.{AreHeld, LaneHoldsAs, HoldsSlot, HoldsAfter}
use Rattle.tz_lane.specs.LaneLookup.{is_lookup, pick_asked, AnswersOnFrontAt}
use Rattle.tz_lane.specs.Meeting.{lane_round, writes_made, Meets}
use Rattle.tz_lane.specs.Pins.{AnswersDropOf}
use Rattle.tz_lane.specs.Serving.{ServesInLane}
use Rattle.tz_lane.specs.declared.lane_hold.LaneHold.{LaneHold}
use Rattle.tz_lane.specs.declared.told.Told.{Told}
use Rattle.tz_lane.proofs.Fronts.{handle_told_later}
use Rattle.tz_lane.proofs.Growth.{answer_grows, slots_grow}
use Rattle.tz_lane.proofs.Names.{same_count}
use Rattle.tz_lane.proofs.Running.{goes_on_itself}
use Rattle.tz_lane.proofs.Underway.{made_few}

-- the operation neither reloads nor erases
abbrev pub is_quiet : Op → Bool
is_quiet op = not (is_change op)

-- no slot is passed over where no version is pushed
passes_none : (q r : Round) (last : ℕ) (holds : List ℕ → Edition → Type 0) (is_held : ℕ → Type 0) (w : ℕ) (op : Op) (answer : Answer) → is_change op ≡ false → AnswersOp q last holds op w answer → PassesSlots r is_held w answer
passes_none q r last holds is_held w (ops.Reload src) answer quiet right = cc
passes_none q r last holds is_held w (ops.Erase pick) answer quiet right = cc
passes_none q r last holds is_held w op (answers.Pushed n slot) quiet right = absurd right
passes_none q r last holds is_held w op answers.Full quiet right = absurd right
passes_none q r last holds is_held w op answer quiet right = tt

no_writes : (made : List Write) → length made ≤ 0 → made ≡ []
no_writes [] few = refl
no_writes (write ∷ made) few = absurd (omega (arith, few))

-- an operation that makes no write
pub serves_quiet : (plan : Plan Release) (sources : Sources) (number : ℕ) (v : View) (held : List LaneHold) (line : ℕ) (op : Op) (told : Told) (now : View) (later : List LaneHold) → is_change op ≡ false
    → Meets plan.slots v [] now told.w
    → ((begun : ℕ) → AnswersOp (lane_round plan sources begun now) (length v.seen) (LaneHoldsAs (lane_round plan sources begun now) held) op told.w told.answer)
    → ((begun : ℕ) → TellsKept (lane_round plan sources begun now) told.w told.answer)
    → TalliesRise v now (loads_of op told.answer) (turns_of op told.answer)
    → HoldsAfter line op told.w held later
    → ServesInLane plan sources number v held line op told now later
serves_quiet plan sources number v held line op told now later quiet meets answer kept counts holds =
    let known = lane_round plan sources 0 now in
    let few = made_few number v known (length v.seen) (LaneHoldsAs known held) told.w op told.answer (answer 0) in
    let none : writes_made number v op told.answer ≡ [] = no_writes (writes_made number v op told.answer) (omega (arith, few, ap (λ (b : Bool). cond {A = ℕ} b 1 0) quiet)) in
    record {
      meets = subst (λ made. Meets plan.slots v made now told.w) (sym none) meets;
      answer = answer;
      kept = kept;
      passes = λ begun. passes_none (lane_round plan sources begun now) (lane_round plan sources begun now) (length v.seen) (LaneHoldsAs (lane_round plan sources begun now) held) (HoldsSlot (lane_round plan sources begun now) held) told.w op told.answer quiet (answer begun);
      counts = counts;
      holds = holds;
    }

-- ---- the answers ----

-- a lookup in the version that it picks
pub lookup_right : (round : Round) (last : ℕ) (holds : List ℕ → Edition → Type 0) (position w : ℕ) (op : Op) (answer : Answer) → is_lookup op ≡ true → LooksInto round holds w (pick_asked op) (newest_at round position)
    → AnswersOnFrontAt round op position answer → AnswersOp round last holds op w answer
lookup_right round last holds position w (ops.Info v zone t) (answers.On n slot found) lookup looks right = (newest_at round position, looks, right.0, right.1)
lookup_right round last holds position w (ops.Info v zone t) _ lookup looks right = absurd right
lookup_right round last holds position w (ops.Local v zone l) (answers.On n slot found) lookup looks right = (newest_at round position, looks, right.0, right.1)
lookup_right round last holds position w (ops.Local v zone l) _ lookup looks right = absurd right
lookup_right round last holds position w (ops.Sys v zone l choose) (answers.On n slot found) lookup looks right = (newest_at round position, looks, right.0, right.1)
lookup_right round last holds position w (ops.Sys v zone l choose) _ lookup looks right = absurd right
lookup_right round last holds position w (ops.Scan v zone from step count) (answers.On n slot found) lookup looks right = (newest_at round position, looks, right.0, right.1)
lookup_right round last holds position w (ops.Scan v zone from step count) _ lookup looks right = absurd right
lookup_right round last holds position w (ops.Clock v conv x) (answers.On n slot found) lookup looks right = (newest_at round position, looks, right.0, right.1)
lookup_right round last holds position w (ops.Clock v conv x) _ lookup looks right = absurd right
lookup_right round last holds position w op answer lookup looks right = cc

-- a lookup, by its answer
pub serves_lookup : (plan : Plan Release) (sources : Sources) (number : ℕ) (v : View) (held : List LaneHold) (line : ℕ) (op : Op) (told : Told) (now : View) → is_lookup op ≡ true
    → Meets plan.slots v [] now told.w
    → ((begun : ℕ) → AnswersOp (lane_round plan sources begun now) (length v.seen) (LaneHoldsAs (lane_round plan sources begun now) held) op told.w told.answer)
    → ((begun : ℕ) → TellsKept (lane_round plan sources begun now) told.w told.answer)
    → TalliesRise v now 1 0
    → ServesInLane plan sources number v held line op told now held
serves_lookup plan sources number v held line (ops.Info p zone t) told now lookup meets answer kept counts = serves_quiet plan sources number v held line (ops.Info p zone t) told now held refl meets answer kept counts refl
serves_lookup plan sources number v held line (ops.Local p zone l) told now lookup meets answer kept counts = serves_quiet plan sources number v held line (ops.Local p zone l) told now held refl meets answer kept counts refl
serves_lookup plan sources number v held line (ops.Sys p zone l choose) told now lookup meets answer kept counts = serves_quiet plan sources number v held line (ops.Sys p zone l choose) told now held refl meets answer kept counts refl
serves_lookup plan sources number v held line (ops.Scan p zone from step count) told now lookup meets answer kept counts = serves_quiet plan sources number v held line (ops.Scan p zone from step count) told now held refl meets answer kept counts refl
serves_lookup plan sources number v held line (ops.Clock p conv x) told now lookup meets answer kept counts = serves_quiet plan sources number v held line (ops.Clock p conv x) told now held refl meets answer kept counts refl
serves_lookup plan sources number v held line op told now lookup meets answer kept counts = cc

-- a lookup needs the hold that it picks
pub lookup_needs : (op : Op) → is_lookup op ≡ true → hold_needed op ≡ hold_picked (pick_asked op)
lookup_needs (ops.Info p zone t) lookup = refl
lookup_needs (ops.Local p zone l) lookup = refl
lookup_needs (ops.Sys p zone l choose) lookup = refl
lookup_needs (ops.Scan p zone from step count) lookup = refl
lookup_needs (ops.Clock p conv x) lookup = refl
lookup_needs op lookup = cc

-- the drop of a hold
pub drop_right : (round : Round) (holds : List LaneHold) (name : List ℕ) (hold : LaneHold) (answer : Answer) → Contains holds hold → hold.name ≡ name → AnswersDropOf round hold.handle.position answer
    → AnswersDrop (LaneHoldsAs round holds) name answer
drop_right round holds name hold (answers.Dropped n slot) has named right = (newest_at round hold.handle.position, (hold, has, named, refl), right)
drop_right round holds name hold _ has named right = absurd right

-- an erasure behind a version that is held
pub erase_held_right : (round : Round) (last : ℕ) (holds : List LaneHold) (name : List ℕ) (hold : LaneHold) (w : ℕ) (answer : Answer) → Contains holds hold → hold.name ≡ name → AnswersEraseOf round hold.handle.position w answer
    → AnswersErase round last (LaneHoldsAs round holds) (Held name) w answer
erase_held_right round last holds name hold w (answers.NotListed n slot) has named right = ((right.0.0, (hold, has, named, right.0.1), right.0.2), right.1)
erase_held_right round last holds name hold w (answers.Nothing n slot) has named right = ((right.0.0, (hold, has, named, right.0.1), right.0.2), right.1, right.2)
erase_held_right round last holds name hold (suc w) (answers.Erased n slot gone) has named right = ((right.0.0, (hold, has, named, right.0.1), right.0.2), right.1, right.2)
erase_held_right round last holds name hold w _ has named right = absurd right

-- behind the front
pub erase_front_right : (round : Round) (last : ℕ) (holds : List LaneHold) (w : ℕ) (answer : Answer) → w ≤ length round.journal → AnswersEraseFront round last w answer → AnswersErase round last (LaneHoldsAs round holds) Front w answer
erase_front_right round last holds w answer low right =
    answer_grows round round (goes_on_itself round) last last (λ name edition. ⊥) (LaneHoldsAs round holds) (omega arith) (λ name edition none. absurd none) (ops.Erase Front) w answer low right

erase_passes : (q r : Round) (last : ℕ) (holds : List ℕ → Edition → Type 0) (is_held : ℕ → Type 0) (pick : Pick) (w : ℕ) (answer : Answer) → AnswersErase q last holds pick w answer → PassesSlots r is_held w answer
erase_passes q r last holds is_held pick zero (answers.Pushed n slot) right = absurd right
erase_passes q r last holds is_held pick (suc w) (answers.Pushed n slot) right = absurd right
erase_passes q r last holds is_held pick zero answers.Full right = absurd right
erase_passes q r last holds is_held pick (suc w) answers.Full right = absurd right
erase_passes q r last holds is_held pick w answer right = tt

-- an erasure, by its answer
pub serves_erase : (plan : Plan Release) (sources : Sources) (number : ℕ) (v : View) (held : List LaneHold) (line : ℕ) (pick : Pick) (told : Told) (now : View) → ErasesInLane plan number v told now
    → ((begun : ℕ) → AnswersErase (lane_round plan sources begun now) (length v.seen) (LaneHoldsAs (lane_round plan sources begun now) held) pick told.w told.answer)
    → ServesInLane plan sources number v held line (ops.Erase pick) told now held
serves_erase plan sources number v held line pick told now erases answer = record {
  meets = erases.meets pick;
  answer = answer;
  kept = erases.kept sources;
  passes = λ begun. erase_passes (lane_round plan sources begun now) (lane_round plan sources begun now) (length v.seen) (LaneHoldsAs (lane_round plan sources begun now) held) (HoldsSlot (lane_round plan sources begun now) held) pick told.w told.answer (answer begun);
  counts = erases.counts pick;
  holds = refl;
}

-- ---- holds and handles ----

-- an element that the mapped list has
mapped_has : {A B : Type 0} (f : A → B) (xs : List A) (y : B) → Contains (map f xs) y → (x : A) × Contains xs x × (f x ≡ y)
mapped_has f [] y (k, low, at) = absurd (omega (arith, low))
mapped_has f (x ∷ xs) y (zero, low, at) = (x, (zero, omega arith, refl), at)
mapped_has f (x ∷ xs) y (suc k, low, at) =
    let rest = mapped_has f xs y (k, omega (arith, low), at) in (rest.0, (suc rest.1.0, omega (arith, rest.1.1), rest.1.2), rest.2)

has_mapped : {A B : Type 0} (f : A → B) (xs : List A) (x : A) → Contains xs x → Contains (map f xs) (f x)
has_mapped f [] x (k, low, at) = absurd (omega (arith, low))
has_mapped f (y ∷ xs) x (zero, low, at) = (zero, omega arith, ap f at)
has_mapped f (y ∷ xs) x (suc k, low, at) = let rest = has_mapped f xs x (k, omega (arith, low), at) in (suc rest.0, omega (arith, rest.1), rest.2)

-- an entry at the slot that is held
abbrev here_held : ℕ → Entry → Bool
here_held slot e = (e.slot == slot) && e.held

some_held : (slot : ℕ) (entries : List Entry) → 0 < total (λ (e : Entry). one_if (here_held slot e)) entries → (e : Entry) × Contains entries e × (e.slot ≡ slot)
some_held slot [] some = absurd (omega (arith, some))
some_held slot (e ∷ entries) some = by_test (here_held slot e) refl (λ rest. some_held slot entries rest)
  where
    by_test : (test : Bool) → here_held slot e ≡ test → (0 < total (λ (x : Entry). one_if (here_held slot x)) entries → (it : Entry) × Contains entries it × (it.slot ≡ slot)) → (it : Entry) × Contains (e ∷ entries) it × (it.slot ≡ slot)
    by_test true is next = (e, (zero, omega arith, refl), eqb-true e.slot slot (and_parts (e.slot == slot) e.held is).0)
    by_test false is next =
        let none = ap one_if is in
        let rest = next (omega (arith, some, none)) in (rest.0, (suc rest.1.0, omega (arith, rest.1.1), rest.1.2), rest.2)

held_some : (slot : ℕ) (entries : List Entry) (e : Entry) → Contains entries e → here_held slot e ≡ true → 0 < total (λ (x : Entry). one_if (here_held slot x)) entries
held_some slot [] e (k, low, at) is = absurd (omega (arith, low))
held_some slot (x ∷ entries) e (zero, low, at) is = let one = ap one_if (ap (here_held slot) at ∙ is) in omega (arith, one)
held_some slot (x ∷ entries) e (suc k, low, at) is = let rest = held_some slot entries e (k, omega (arith, low), at) is in omega (arith, rest)

module _ (plan : Plan Release) (v : View) (held : List LaneHold) (are : AreHeld plan v held) where
  abbrev pin_in : LaneHold → Entry
  pin_in hold = pin_of hold.handle

  -- the slot of a hold is that of its pin
  slot_pinned : (sources : Sources) (begun : ℕ) (now : View) → take (length v.seen) now.seen ≡ v.seen → (hold : LaneHold) → Contains held hold
      → (newest_at (lane_round plan sources begun now) hold.handle.position).slot ≡ hold.handle.slot
  slot_pinned sources begun now grows hold has = (handle_told_later plan v now.seen hold.handle (are.made hold has) grows).1

  -- where the reader has a handle, the lane has a hold
  pub handle_held : (sources : Sources) (begun : ℕ) (now : View) → take (length v.seen) now.seen ≡ v.seen → (slot : ℕ) → HasHandleAt v slot → HoldsSlot (lane_round plan sources begun now) held slot
  handle_held sources begun now grows slot some =
      let e = some_held slot v.entries some in
      let back = IsPermutation-sym (map pin_in held) v.entries are.pins in
      let one = mapped_has pin_in held e.0 (Contains-permutation v.entries (map pin_in held) e.0 back e.1) in
      (one.0, one.1, slot_pinned sources begun now grows one.0 one.1 ∙ ap (λ (x : Entry). x.slot) one.2 ∙ e.2)

  -- and the other way round
  pub held_handle : (sources : Sources) (begun : ℕ) (now : View) → take (length v.seen) now.seen ≡ v.seen → (slot : ℕ) → HoldsSlot (lane_round plan sources begun now) held slot → HasHandleAt v slot
  held_handle sources begun now grows slot (hold, has, there) =
      let pin = pin_in hold in
      let at : pin.slot ≡ slot = sym (slot_pinned sources begun now grows hold has) ∙ there in
      held_some slot v.entries pin (Contains-permutation (map pin_in held) v.entries pin are.pins (has_mapped pin_in held hold has)) (and_from (pin.slot == slot) true (eq-eqb pin.slot slot at) refl)

  -- a reload, by its answer
  pub serves_reload : (sources : Sources) (number line src : ℕ) (told : Told) (now : View) → ReloadsInLane plan sources number v src told now → ServesInLane plan sources number v held line (ops.Reload src) told now held
  serves_reload sources number line src told now reloads = record {
    meets = reloads.meets;
    answer = reloads.answer;
    kept = reloads.kept;
    passes = λ begun. (let known = lane_round plan sources begun now in
        slots_grow known known (goes_on_itself known) (HasHandleAt v) (HoldsSlot known held) (handle_held sources begun now reloads.meets.grows) (λ one. held_handle sources begun now reloads.meets.grows)
        told.w told.answer reloads.meets.to (reloads.passes begun));
    counts = reloads.counts;
    holds = refl;
  }

  -- there are as many handles as holds
  pub entries_count : length v.entries ≡ length held
  entries_count = sym (same_count (map pin_in held) v.entries are.pins) ∙ length-map held pin_in

-- ---- what is still held ----

-- where the pins and the handles stay
pub held_still : (plan plan' : Plan Release) (v now : View) (held : List LaneHold) → AreHeld plan v held → IsPermutation v.entries now.entries
    → ((handle : Handle Release) → MadeBy release_home release_source plan v handle → MadeBy release_home release_source plan' now handle) → AreHeld plan' now held
held_still plan plan' v now held are pins keeps = record {
  pins = IsPermutation-trans (map (λ (hold : LaneHold). pin_of hold.handle) held) v.entries now.entries are.pins pins;
  made = λ hold has. keeps hold.handle (are.made hold has);
}

-- where they are the very same
pub held_same : (plan plan' : Plan Release) (v now : View) (held : List LaneHold) → AreHeld plan v held → now.entries ≡ v.entries
    → ((handle : Handle Release) → MadeBy release_home release_source plan v handle → MadeBy release_home release_source plan' now handle) → AreHeld plan' now held
held_same plan plan' v now held are same keeps =
    held_still plan plan' v now held are (subst (IsPermutation v.entries) (sym same) (IsPermutation-refl v.entries)) keeps

-- one hold more
pub held_more : (plan plan' : Plan Release) (v now : View) (held later : List LaneHold) (hold : LaneHold) → AreHeld plan v held → IsPermutation later (hold ∷ held)
    → IsPermutation now.entries (pin_of hold.handle ∷ v.entries) → MadeBy release_home release_source plan' now hold.handle
    → ((handle : Handle Release) → MadeBy release_home release_source plan v handle → MadeBy release_home release_source plan' now handle) → AreHeld plan' now later
held_more plan plan' v now held later hold are put pins made keeps =
    let pin : LaneHold → Entry = λ it. pin_of it.handle in
    record {
      pins = IsPermutation-trans (map pin later) (map pin (hold ∷ held)) now.entries (IsPermutation-map pin later (hold ∷ held) put)
          (IsPermutation-trans (map pin (hold ∷ held)) (pin hold ∷ v.entries) now.entries (IsPermutation-cons (pin hold) (map pin held) v.entries are.pins) (IsPermutation-sym now.entries (pin hold ∷ v.entries) pins));
      made = λ it has. (
          ⊎_elim
          (λ (same : hold ≡ it). subst (λ (x : LaneHold). MadeBy release_home release_source plan' now x.handle) same made)
          (λ (old : Contains held it). keeps it.handle (are.made it old))
          (in_front_or hold held it (Contains-permutation later (hold ∷ held) it put has)));
    }
  where
    in_front_or : {A : Type 0} (x : A) (xs : List A) (it : A) → Contains (x ∷ xs) it → (x ≡ it) ⊎ Contains xs it
    in_front_or x xs it (zero, low, at) = inl at
    in_front_or x xs it (suc k, low, at) = inr (k, omega (arith, low), at)

-- ---- calls that may want memory ----

-- the home of a list's versions is its sources
pub home_of : (tzdb : TzdbList) (table : PinTable Release Sources) → table ≡ tzdb.table → release_home (plan_of table).first ≡ tzdb.sources
home_of tzdb table same = ap (λ (it : PinTable Release Sources). release_home (plan_of it).first) same ∙ tzdb.home

pub reload_serves : (plan : Plan Release) (v : View) (held : List LaneHold) → AreHeld plan v held → (sources : Sources) (number line src : ℕ) (op : Op) → op ≡ ops.Reload src → (made : Result Told NoMemory) (now : View)
    → IfOk made (λ (told : Told). ReloadsInLane plan sources number v src told now) → IfOk made (λ (told : Told). ServesInLane plan sources number v held line op told now held)
reload_serves plan v held are sources number line src op is (Ok told) now reloads =
    subst (λ (it : Op). ServesInLane plan sources number v held line it told now held) (sym is) (serves_reload plan v held are sources number line src told now reloads)
reload_serves plan v held are sources number line src op is (Err none) now reloads = tt

pub list_serves : (plan : Plan Release) (home sources : Sources) → home ≡ sources → (number : ℕ) (v : View) (held : List LaneHold) (line : ℕ) (op : Op) → op ≡ ops.List → (made : Result Told NoMemory) (now : View)
    → IfOk made (λ (told : Told). Meets plan.slots v [] now told.w)
    → IfOk made (λ (told : Told). (begun : ℕ) → AnswersList (lane_round plan home begun now) told.w told.answer)
    → IfOk made (λ (told : Told). (those : Sources) (begun : ℕ) → TellsKept (lane_round plan those begun now) told.w told.answer)
    → TalliesRise v now 0 1
    → IfOk made (λ (told : Told). ServesInLane plan sources number v held line op told now held)
list_serves plan home sources same number v held line op is (Ok told) now meets answer kept counts =
    subst (λ (it : Op). ServesInLane plan sources number v held line it told now held) (sym is)
    (serves_quiet plan sources number v held line ops.List told now held refl meets
    (λ begun. subst (λ (those : Sources). AnswersList (lane_round plan those begun now) told.w told.answer) same (answer begun)) (λ begun. kept sources begun) counts refl)
list_serves plan home sources same number v held line op is (Err none) now meets answer kept counts = tt

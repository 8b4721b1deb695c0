-- What is right by a round stays right as the journal of the round grows behind it.
use Rattle.std.proofs.Common.{◌≡◌, ℕ, zero, suc, ◌-◌, ◌≤◌, ◌<◌, inl, inr, false, List, [], ◌∷◌, length, map, take, fold, Contains, Some, option_map, IsTrue, sym, ap, subst, ◌∙◌, arith}
use Rattle.std.specs.Prelude.{slice_get}
use Rattle.std.specs.List.{filter}
use Rattle.tz_script.specs.declared.operation.Op.{Op}
use Rattle.tz_script.specs.declared.operation.Op.TheVariants as ops
use Rattle.tz_script.specs.declared.operation.Operation.{Operation}
use Rattle.tz_script.specs.declared.operation.Pick.{Pick}
use Rattle.tz_script.specs.declared.operation.Pick.TheVariants.{Front, Held}
use Rattle.tz_version.specs.declared.sources.Sources.{Sources}
use Rattle.pin_book.specs.declared.write.Change.{Change}
use Rattle.pin_book.specs.declared.write.Change.TheVariants.{Push, Erase}
use Rattle.pin_book.specs.declared.write.Write.{Write}
use Rattle.pin_book.specs.Replay.{Edition, ListState, allowed, is_listed, greatest_below, front_of, is_slot_listed, state_after}
use Rattle.tz_batch.specs.Batch.{Answered, name_of_source, row_of}
use Rattle.tz_batch.specs.Round.{Round, list_at, newest_at, is_beside, position_before}
use Rattle.tz_batch.specs.Held.{IsHeldAs}
use Rattle.tz_batch.specs.PassedOver.{IsHeldSlot, WasFrontSlot, IsPassedOver}
use Rattle.tz_batch.specs.Answering.{IsToldAs, IsChangeAfter, AnswersLook, AnswersHold, AnswersDrop, HasNameOf, AnswersReload, ErasesBehind, ErasesBehindTold, AnswersErase, AnswersList, LooksInto, AnswersLookup, AnswersOp}
use Rattle.tz_batch.specs.Run.{TellsKept, HasPosition, TakesFirstSlot, PassesSlots}
use Rattle.tz_batch.specs.declared.answer.Answer.{Answer}
use Rattle.tz_batch.specs.declared.answer.Answer.TheVariants as answers
use Rattle.tz_lookup.specs.declared.found.Found.{Found}
use Rattle.tz_lane.proofs.Fronts.{seen_stays}

-- The later round has the same lanes, sources, slots and start, and its journal goes on from the earlier one's.
pub record GoesOn (p q : Round) : Type 0 where
  pub lanes : q.lanes ≡ p.lanes
  pub sources : q.sources ≡ p.sources
  pub slots : q.slots ≡ p.slots
  pub start : q.start ≡ p.start
  pub grows : take (length p.journal) q.journal ≡ p.journal

-- all that was held is held
abbrev pub Implies : (holds holds' : List ℕ → Edition → Type 0) → Type 0
Implies holds holds' = (name : List ℕ) (edition : Edition) → holds name edition → holds' name edition

-- a write that was seen stands in its place later on
pub write_stays : (seen later : List Write) (k : ℕ) → take (length seen) later ≡ seen → k < length seen → slice_get later k ≡ slice_get seen k
write_stays [] later k grows low = absurd (omega (arith, low))
write_stays (write ∷ seen) [] k grows low = cc
write_stays (write ∷ seen) (other ∷ later) zero grows low = cc
write_stays (write ∷ seen) (other ∷ later) (suc k) grows low =
    let rest : take (length seen) later ≡ seen = cc in
    write_stays seen later k rest (omega (arith, low))

-- what stands in a place is inside
pub is_inside : (journal : List Write) (k : ℕ) (change : Change) → option_map (λ (write : Write). write.change) (slice_get journal k) ≡ Some change → k < length journal
is_inside [] k change there = cc
is_inside (write ∷ journal) zero change there = omega arith
is_inside (write ∷ journal) (suc k) change there = omega (arith, is_inside journal k change there)

module _ (p : Round) (journal : List Write) (seen end : ℕ) (grows : take (length p.journal) journal ≡ p.journal) where
  -- the round once its journal has grown
  abbrev grown : Round
  grown = record {
    lanes = p.lanes;
    sources = p.sources;
    slots = p.slots;
    journal = journal;
    start = p.start;
    seen = seen;
    end = end;
  }

  -- the list at a position that was seen
  same_list : (w : ℕ) → w ≤ length p.journal → list_at grown w ≡ list_at p w
  same_list w low = ap (state_after p.slots) (seen_stays p.journal journal w grows low)

  -- the version at the front there
  same_newest : (w : ℕ) → w ≤ length p.journal → newest_at grown w ≡ newest_at p w
  same_newest w low = ap (λ (state : ListState). front_of state.listed) (same_list w low)

  grow_told : (w n slot : ℕ) → w ≤ length p.journal → IsToldAs (newest_at p w) n slot → IsToldAs (newest_at grown w) n slot
  grow_told w n slot low told = subst (λ (edition : Edition). IsToldAs edition n slot) (sym (same_newest w low)) told

  -- ---- reloads ----

  grow_name : (w src : ℕ) → w ≤ length p.journal → HasNameOf p w src → HasNameOf grown w src
  grow_name w src low has =
      subst (λ (edition : Edition). name_of_source p.sources edition.src ≡ name_of_source p.sources src) (sym (same_newest w low)) has

  grow_no_name : (w src : ℕ) → w ≤ length p.journal → ¬ (HasNameOf p w src) → ¬ (HasNameOf grown w src)
  grow_no_name w src low none has =
      none (subst (λ (edition : Edition). name_of_source p.sources edition.src ≡ name_of_source p.sources src) (same_newest w low) has)

  grow_change : (before : ℕ) (change : Change) → IsChangeAfter p before change → IsChangeAfter grown before change
  grow_change before change is =
      ap (option_map (λ (write : Write). write.change)) (write_stays p.journal journal before grows (is_inside p.journal before change is)) ∙ is

  grow_reload : (src w : ℕ) (answer : Answer) → w ≤ length p.journal → AnswersReload p src w answer → AnswersReload grown src w answer
  grow_reload src w (answers.Refused file line cause) low right = right
  grow_reload src w (answers.Same n) low right =
      (right.0, grow_name w src low right.1, ap (λ (edition : Edition). edition.n) (same_newest w low) ∙ right.2)
  grow_reload src (suc w) (answers.Pushed n slot) low right =
      (right.0, grow_no_name w src (omega (arith, low)) right.1, grow_change w (Push n src slot) right.2)
  grow_reload src w answers.Full low right = (right.0, grow_no_name w src low right.1)
  grow_reload src w _ low right = absurd right

  -- ---- listings ----

  grow_listing : (w : ℕ) (answer : Answer) → w ≤ length p.journal → AnswersList p w answer → AnswersList grown w answer
  grow_listing w (answers.Listed listing) low right =
      (right.0, right.1 ∙ ap (λ (state : ListState). map (row_of p.sources) state.listed) (sym (same_list w low)))
  grow_listing w _ low right = absurd right

  -- ---- what is told and kept ----

  grow_kept : (w : ℕ) (answer : Answer) → w ≤ length p.journal → TellsKept p w answer → TellsKept grown w answer
  grow_kept w answer low kept told has =
      subst (λ (state : ListState). slice_get state.kept told.slot ≡ Some told.n) (sym (same_list w low)) (kept told has)

  module _ (last last' : ℕ) (holds holds' : List ℕ → Edition → Type 0) (less : last' ≤ last) (implied : Implies holds holds') where
    -- ---- lookups and drops ----

    grow_looks : (w : ℕ) (pick : Pick) (edition : Edition) → w ≤ length p.journal → LooksInto p holds w pick edition → LooksInto grown holds' w pick edition
    grow_looks w Front edition low looks = looks ∙ sym (same_newest w low)
    grow_looks w (Held name) edition low looks = implied name edition looks

    grow_lookup : (w : ℕ) (pick : Pick) (finds : Edition → Found → Type 0) (answer : Answer) → w ≤ length p.journal → AnswersLookup p holds w pick finds answer → AnswersLookup grown holds' w pick finds answer
    grow_lookup w pick finds (answers.On n slot found) low right =
        (right.0, grow_looks w pick right.0 low right.1, right.2, right.3)
    grow_lookup w pick finds _ low right = absurd right

    grow_drop : (name : List ℕ) (answer : Answer) → AnswersDrop holds name answer → AnswersDrop holds' name answer
    grow_drop name (answers.Dropped n slot) right = (right.0, implied name right.0 right.1, right.2)
    grow_drop name _ right = absurd right

    -- ---- erasures ----

    grow_behind : (pick : Pick) (met : ℕ) (edition : Edition) → met ≤ length p.journal → ErasesBehind p last holds pick met edition → ErasesBehind grown last' holds' pick met edition
    grow_behind Front met edition low (h, from, to, is) =
        (h, omega (arith, from, less), to, is ∙ sym (same_newest h (omega (arith, to, low))))
    grow_behind (Held name) met edition low has = implied name edition has

    grow_behind_told : (pick : Pick) (met n slot : ℕ) → met ≤ length p.journal → ErasesBehindTold p last holds pick met n slot → ErasesBehindTold grown last' holds' pick met n slot
    grow_behind_told pick met n slot low (edition, behind, told) = (edition, grow_behind pick met edition low behind, told)

    grow_erase : (pick : Pick) (w : ℕ) (answer : Answer) → w ≤ length p.journal → AnswersErase p last holds pick w answer → AnswersErase grown last' holds' pick w answer
    grow_erase pick w (answers.NotListed n slot) low right = (
      grow_behind_told pick w n slot low right.0,
      subst (λ (state : ListState). is_listed n state.listed ≡ false) (sym (same_list w low)) right.1,
    )
    grow_erase pick w (answers.Nothing n slot) low right = (
      grow_behind_told pick w n slot low right.0,
      subst (λ (state : ListState). IsTrue (is_listed n state.listed)) (sym (same_list w low)) right.1,
      subst (λ (state : ListState). greatest_below n state.listed ≡ 0) (sym (same_list w low)) right.2,
    )
    grow_erase pick (suc w) (answers.Erased n slot gone) low right = (
      grow_behind_told pick w n slot (omega (arith, low)) right.0,
      subst (λ (state : ListState). IsTrue (allowed state (Erase n gone))) (sym (same_list w (omega (arith, low)))) right.1,
      grow_change w (Erase n gone) right.2,
    )
    grow_erase pick w _ low right = absurd right

    -- ---- all operations ----

    grow_look : (w : ℕ) (answer : Answer) → w ≤ length p.journal → AnswersLook p w answer → AnswersLook grown w answer
    grow_look w (answers.Front n slot) low right = grow_told w n slot low right
    grow_look w _ low right = absurd right

    grow_hold : (w : ℕ) (answer : Answer) → w ≤ length p.journal → AnswersHold p w answer → AnswersHold grown w answer
    grow_hold w (answers.Held n slot) low right = grow_told w n slot low right
    grow_hold w _ low right = absurd right

    grow_answer : (op : Op) (w : ℕ) (answer : Answer) → w ≤ length p.journal → AnswersOp p last holds op w answer → AnswersOp grown last' holds' op w answer
    grow_answer ops.Look w answer low right = grow_look w answer low right
    grow_answer (ops.Hold name) w answer low right = grow_hold w answer low right
    grow_answer (ops.Drop name) w answer low right = grow_drop name answer right
    grow_answer (ops.Info v zone t) w answer low right = grow_lookup w v _ answer low right
    grow_answer (ops.Local v zone l) w answer low right = grow_lookup w v _ answer low right
    grow_answer (ops.Sys v zone l choose) w answer low right = grow_lookup w v _ answer low right
    grow_answer (ops.Scan v zone from step count) w answer low right = grow_lookup w v _ answer low right
    grow_answer (ops.Clock v conv x) w answer low right = grow_lookup w v _ answer low right
    grow_answer (ops.Reload src) w answer low right = grow_reload src w answer low right
    grow_answer (ops.Erase v) w answer low right = grow_erase v w answer low right
    grow_answer ops.List w answer low right = grow_listing w answer low right

  -- ---- slots that are passed over ----

  module _ (held held' : ℕ → Type 0) (forth : (slot : ℕ) → held slot → held' slot) (back : p.lanes ≡ 1 → (slot : ℕ) → held' slot → held slot) where
    grow_front_slot : (w slot : ℕ) → w ≤ length p.journal → WasFrontSlot p w slot → WasFrontSlot grown w slot
    grow_front_slot w slot low (v, from, to, is) =
        (v, from, to, ap (λ (edition : Edition). edition.slot) (same_newest v (omega (arith, to, low))) ∙ is)

    shrink_front_slot : (w slot : ℕ) → w ≤ length p.journal → WasFrontSlot grown w slot → WasFrontSlot p w slot
    shrink_front_slot w slot low (v, from, to, is) =
        (v, from, to, ap (λ (edition : Edition). edition.slot) (sym (same_newest v (omega (arith, to, low)))) ∙ is)

    grow_passed : (w slot : ℕ) → w ≤ length p.journal → IsPassedOver p held w slot → IsPassedOver grown held' w slot
    grow_passed w slot low (inl listed) =
        inl (subst (λ (state : ListState). IsTrue (is_slot_listed slot state.listed)) (sym (same_list w low)) listed)
    grow_passed w slot low (inr may) =
        inr (λ one. forth slot (may.0 one), λ more. grow_front_slot w slot low (may.1 more))

    -- the other way round with one lane
    shrink_passed : p.lanes ≡ 1 → (w slot : ℕ) → w ≤ length p.journal → IsPassedOver grown held' w slot → IsPassedOver p held w slot
    shrink_passed alone w slot low (inl listed) =
        inl (subst (λ (state : ListState). IsTrue (is_slot_listed slot state.listed)) (same_list w low) listed)
    shrink_passed alone w slot low (inr may) =
        inr (λ one. back one slot (may.0 one), λ more. shrink_front_slot w slot low (may.1 more))

    grow_first : (met slot : ℕ) → met ≤ length p.journal → TakesFirstSlot p held met slot → TakesFirstSlot grown held' met slot
    grow_first met slot low takes = record {
      lower = λ other less. grow_passed met other low (takes.lower other less);
      exact = λ alone full. takes.exact alone (λ other inside. shrink_passed alone met other low (full other inside));
    }

    grow_slots : (w : ℕ) (answer : Answer) → w ≤ length p.journal → PassesSlots p held w answer → PassesSlots grown held' w answer
    grow_slots w (answers.Pushed n slot) low passes = grow_first (w - 1) slot (omega (arith, low)) passes
    grow_slots w answers.Full low passes = λ other inside. grow_passed w other low (passes other inside)
    grow_slots w _ low passes = tt

-- ---- over two rounds ----

-- the later round is the earlier one with another journal
is_grown : (p q : Round) → (goes : GoesOn p q) → q ≡ grown p q.journal q.seen q.end goes.grows
is_grown p q goes =
    ap (λ (lanes : ℕ). record { lanes = lanes; sources = q.sources; slots = q.slots; journal = q.journal; start = q.start; seen = q.seen; end = q.end }) goes.lanes
    ∙ ap (λ (sources : Sources). record { lanes = p.lanes; sources = sources; slots = q.slots; journal = q.journal; start = q.start; seen = q.seen; end = q.end }) goes.sources
    ∙ ap (λ (slots : ℕ). record { lanes = p.lanes; sources = p.sources; slots = slots; journal = q.journal; start = q.start; seen = q.seen; end = q.end }) goes.slots
    ∙ ap (λ (start : ℕ). record { lanes = p.lanes; sources = p.sources; slots = p.slots; journal = q.journal; start = start; seen = q.seen; end = q.end }) goes.start

-- The version at the front at a position that was seen is the same.
pub newest_stays : (p q : Round) → GoesOn p q → (w : ℕ) → w ≤ length p.journal → newest_at q w ≡ newest_at p w
newest_stays p q goes w low =
    ap (λ (round : Round). newest_at round w) (is_grown p q goes) ∙ same_newest p q.journal q.seen q.end goes.grows w low

-- An answer stays right, where the lane's last position is no later and all that was held is held.
pub answer_grows : (p q : Round) → GoesOn p q → (last last' : ℕ) (holds holds' : List ℕ → Edition → Type 0) → last' ≤ last → Implies holds holds'
    → (op : Op) (w : ℕ) (answer : Answer) → w ≤ length p.journal → AnswersOp p last holds op w answer → AnswersOp q last' holds' op w answer
answer_grows p q goes last last' holds holds' less implied op w answer low right =
    subst (λ (round : Round). AnswersOp round last' holds' op w answer) (sym (is_grown p q goes))
    (grow_answer p q.journal q.seen q.end goes.grows last last' holds holds' less implied op w answer low right)

-- Slots that are told keep their numbers.
pub kept_grows : (p q : Round) → GoesOn p q → (w : ℕ) (answer : Answer) → w ≤ length p.journal → TellsKept p w answer → TellsKept q w answer
kept_grows p q goes w answer low kept =
    subst (λ (round : Round). TellsKept round w answer) (sym (is_grown p q goes)) (grow_kept p q.journal q.seen q.end goes.grows w answer low kept)

-- Slots that are passed over still are, where those that were held are held, and with one lane no others.
pub slots_grow : (p q : Round) → GoesOn p q → (held held' : ℕ → Type 0) → ((slot : ℕ) → held slot → held' slot) → (p.lanes ≡ 1 → (slot : ℕ) → held' slot → held slot)
    → (w : ℕ) (answer : Answer) → w ≤ length p.journal → PassesSlots p held w answer → PassesSlots q held' w answer
slots_grow p q goes held held' forth back w answer low passes =
    subst (λ (round : Round). PassesSlots round held' w answer) (sym (is_grown p q goes))
    (grow_slots p q.journal q.seen q.end goes.grows held held' forth back w answer low passes)

-- ---- by the operations before ----

-- the last position of a lane is no later where the lane had seen no more as it began
pub last_grows : (p q : Round) → q.seen ≤ p.seen → (before : List Answered) (operation : Operation) → position_before q before operation ≤ position_before p before operation
last_grows p q less before operation = by_others q.seen p.seen less (filter (is_beside operation) before)
  where
    by_others : (u v : ℕ) → u ≤ v → (others : List Answered) → fold (λ (w : ℕ) (other : Answered). other.reply.w) u others ≤ fold (λ (w : ℕ) (other : Answered). other.reply.w) v others
    by_others u v less [] = less
    by_others u v less (other ∷ others) = by_others other.reply.w other.reply.w (omega arith) others

-- A position still stands between the last one of its lane and where the round ends.
pub position_grows : (p q : Round) → q.seen ≤ p.seen → p.end ≤ q.end → (before : List Answered) (here : Answered) → HasPosition p before here → HasPosition q before here
position_grows p q less end before here has = record {
  low = omega (arith, last_grows p q less before here.operation, has.low);
  high = omega (arith, has.high, end);
}

-- What is held is held on the same version, where its hold began at a position that was seen.
pub held_grows : (p q : Round) → GoesOn p q → (before : List Answered) (operation : Operation) → ((other : Answered) → Contains before other → other.reply.w ≤ length p.journal)
    → Implies (IsHeldAs p before operation) (IsHeldAs q before operation)
held_grows p q goes before operation within name edition held = record {
  open_hold = held.open_hold;
  begun = held.begun;
  is = held.is;
  lane = held.lane;
  name_is = held.name_is;
  version = held.version ∙ sym (newest_stays p q goes held.begun.reply.w (within held.begun held.is.is_before));
}

-- so is the slot of an open hold
pub held_slot_grows : (p q : Round) → GoesOn p q → (before : List Answered) (operation : Operation) → ((other : Answered) → Contains before other → other.reply.w ≤ length p.journal)
    → (slot : ℕ) → IsHeldSlot p before operation slot → IsHeldSlot q before operation slot
held_slot_grows p q goes before operation within slot held = record {
  open_hold = held.open_hold;
  begun = held.begun;
  is = held.is;
  in_slot = ap (λ (edition : Edition). edition.slot) (newest_stays p q goes held.begun.reply.w (within held.begun held.is.is_before)) ∙ held.in_slot;
}

-- and the other way round
pub held_slot_stood : (p q : Round) → GoesOn p q → (before : List Answered) (operation : Operation) → ((other : Answered) → Contains before other → other.reply.w ≤ length p.journal)
    → (slot : ℕ) → IsHeldSlot q before operation slot → IsHeldSlot p before operation slot
held_slot_stood p q goes before operation within slot held = record {
  open_hold = held.open_hold;
  begun = held.begun;
  is = held.is;
  in_slot = ap (λ (edition : Edition). edition.slot) (sym (newest_stays p q goes held.begun.reply.w (within held.begun held.is.is_before))) ∙ held.in_slot;
}

-- What is known in a state that meets the rule, and what a step leaves of its words.
use Rattle.std.proofs.Common.{◌≡◌, ◌≢◌, ℕ, zero, suc, ◌<◌, List, [], ◌∷◌, length, take, set, true, sym, refl, ap, ◌∙◌, subst, ⊎_elim, arith, Some}
use Rattle.std.proofs.Common.{get_or-set_other, get_or-set_same}
use Rattle.std.proofs.Math.ListN.{length-set}
use Rattle.std.proofs.lemmas.Bool.{cases_eq}
use Rattle.std.specs.Prelude.{slice_index}
use mathlib.Core.Option.{some, some-ne-none}
use lib.ListN.{get_elem?}
use lib.Seq.{map-set}
use Rattle.atomic_table.specs.Table.{State, Me, Act, Valid, stepped, carried_after}
use Rattle.atomic_table.proofs.Lists.{at_map}
use Rattle.pin_core.specs.declared.entry.SlotWord.{SlotWord}
use Rattle.pin_core.specs.declared.view.View.{View}
use Rattle.pin_core.specs.Core.{CoreState, IsReader, number_at, count_at}
use Rattle.pin_core.specs.Lawful.{Lawful}
use Rattle.pin_core.specs.Step.{HasReader, opening_state}
use Rattle.pin_core.specs.Run.{Moves, moves_on}
use Rattle.pin_core.specs.Packing.{packed_slot, packed_front, packed_turn}
use Rattle.pin_core.specs.declared.view.Role.TheVariants as roles
use Rattle.pin_book.specs.Replay.{replays}
use Rattle.pin_book.proofs.Journals.{replays_take}
use Rattle.pin_core.proofs.Readers.{part_of_journal}
use Rattle.pin_core.proofs.Seats.{is_live}
use Rattle.pin_core.proofs.Splits.{inside_of}
use Rattle.pin_core.proofs.Stores.{has_own}
use Rattle.pin_core.proofs.Runs.{reached}
use Rattle.std.proofs.lemmas.Option.{same_Some}
use Rattle.pin_table.specs.Plays.{ForReader}
use Rattle.pin_core.proofs.Words.{count_here, count_else, number_here, number_else}
use Rattle.pin_table.specs.declared.cell.Cell.{Cell}
use Rattle.pin_table.specs.declared.sitting.Plan.{Plan}
use Rattle.pin_table.specs.declared.sitting.Sitting.{Sitting}
use Rattle.pin_table.specs.declared.layout.TheConstants.{FRONT_WORD, TURN_WORD}
use Rattle.pin_table.specs.Layout.{slot_word, word_count}
use Rattle.pin_table.specs.Seat.{view_of}
use Rattle.pin_table.specs.Places.{StandsAtHome}
use Rattle.pin_table.specs.Rule.{Shows, KeepsList}
use Rattle.pin_table.proofs.OldStrays.{sizes_stay}

-- ---- words ----

-- the same words show each state with the same words
pub same_words : (words : List ℕ) (s t : CoreState) → Shows words s → t.slots ≡ s.slots → t.front ≡ s.front → t.turn ≡ s.turn → t.words ≡ s.words → Shows words t
same_words words s t h slots front turn same = record {
  wide = h.wide ∙ ap word_count (sym slots);
  front = h.front ∙ ap packed_front (sym front);
  turn = h.turn ∙ ap packed_turn (sym turn);
  slots = λ slot inside. h.slots slot (subst (λ n. slot < n) slots inside)
      ∙ ap (λ ws. packed_slot record { number = number_at ws slot; count = count_at ws slot }) (sym same);
}

-- one slot's word is written
pub slot_written : (words : List ℕ) (s t : CoreState) (slot n : ℕ) (new : SlotWord) → Shows words s → slot < s.slots → length s.words ≡ s.slots → n ≡ packed_slot new
    → t.slots ≡ s.slots → t.front ≡ s.front → t.turn ≡ s.turn → t.words ≡ set s.words slot new → Shows (set words (slot_word slot) n) t
slot_written words s t slot n new h inside wide is slots front turn written = record {
  wide = length-set words (slot_word slot) n ∙ h.wide ∙ ap word_count (sym slots);
  front = get_or-set_other words (slot_word slot) FRONT_WORD n 0 (λ e. omega arith) ∙ h.front ∙ ap packed_front (sym front);
  turn = get_or-set_other words (slot_word slot) TURN_WORD n 0 (λ e. omega arith) ∙ h.turn ∙ ap packed_turn (sym turn);
  slots = λ other low. ⊎_elim
      (λ (here : other ≡ slot). subst (λ k. slice_index (set words (slot_word slot) n) (slot_word k) ≡ packed_slot record { number = number_at t.words k; count = count_at t.words k }) (sym here)
      (let long = h.wide in get_or-set_same words (slot_word slot) n 0 (omega arith) ∙ is
      ∙ (λ i. packed_slot record { number = sym (ap (λ ws. number_at ws slot) written ∙ number_here s.words slot new (omega arith)) i; count = sym (ap (λ ws. count_at ws slot) written ∙ count_here s.words slot new (omega arith)) i })))
      (λ (else : other ≢ slot).
      get_or-set_other words (slot_word slot) (slot_word other) n 0 (λ e. else (omega arith)) ∙ h.slots other (subst (λ m. other < m) slots low)
      ∙ (λ i. packed_slot record { number = sym (ap (λ ws. number_at ws other) written ∙ number_else s.words slot new other else) i; count = sym (ap (λ ws. count_at ws other) written ∙ count_else s.words slot new other else) i }))
      (cases_eq other slot);
}

-- the front word is written
pub front_written : (words : List ℕ) (s t : CoreState) (n : ℕ) → Shows words s → n ≡ packed_front t.front → t.slots ≡ s.slots → t.turn ≡ s.turn → t.words ≡ s.words → Shows (set words FRONT_WORD n) t
front_written words s t n h is slots turn same = record {
  wide = length-set words FRONT_WORD n ∙ h.wide ∙ ap word_count (sym slots);
  front = (let long = h.wide in get_or-set_same words FRONT_WORD n 0 (omega arith) ∙ is);
  turn = get_or-set_other words FRONT_WORD TURN_WORD n 0 (λ e. omega arith) ∙ h.turn ∙ ap packed_turn (sym turn);
  slots = λ slot inside. get_or-set_other words FRONT_WORD (slot_word slot) n 0 (λ e. omega arith) ∙ h.slots slot (subst (λ m. slot < m) slots inside)
      ∙ ap (λ ws. packed_slot record { number = number_at ws slot; count = count_at ws slot }) (sym same);
}

-- the turn word is written
pub turn_written : (words : List ℕ) (s t : CoreState) (n : ℕ) → Shows words s → n ≡ packed_turn t.turn → t.slots ≡ s.slots → t.front ≡ s.front → t.words ≡ s.words → Shows (set words TURN_WORD n) t
turn_written words s t n h is slots front same = record {
  wide = length-set words TURN_WORD n ∙ h.wide ∙ ap word_count (sym slots);
  front = get_or-set_other words TURN_WORD FRONT_WORD n 0 (λ e. omega arith) ∙ h.front ∙ ap packed_front (sym front);
  turn = (let long = h.wide in get_or-set_same words TURN_WORD n 0 (omega arith) ∙ is);
  slots = λ slot inside. get_or-set_other words TURN_WORD (slot_word slot) n 0 (λ e. omega arith) ∙ h.slots slot (subst (λ m. slot < m) slots inside)
      ∙ ap (λ ws. packed_slot record { number = number_at ws slot; count = count_at ws slot }) (sym same);
}

-- ---- states ----

-- a reader's seat in a state that the steps reach
pub record Known {P : Type 0} (plan : Plan P) (s : CoreState) (id number : ℕ) (v : View) : Type 0 where
  pub lawful : Lawful s
  pub some : 0 < s.slots
  pub slots : s.slots ≡ plan.slots
  pub readers : s.readers ≡ plan.readers
  pub room : s.room ≡ plan.room
  pub has : HasReader s id number v

-- the plan with the sizes of the state
abbrev pub plan_here : {P : Type 0} → Plan P → CoreState → Plan P
plan_here plan s = record { slots = s.slots; readers = s.readers; room = s.room; first = plan.first }

module _ {P : Type 0} (plan : Plan P) (s : CoreState) (id number : ℕ) (v : View) (k : Known plan s id number v) where
  pub lives : v.role ≢ roles.Spent
  lives = is_live number v k.has.reader

  -- what the reader has seen is a front part of the journal
  pub seen_part : take (length v.seen) s.journal ≡ v.seen
  seen_part = (part_of_journal s id v k.lawful k.has.here lives).1

  pub seen_replays : replays s.slots v.seen ≡ true
  seen_replays = ap (replays s.slots) (sym seen_part) ∙ replays_take s.slots s.journal (length v.seen) k.lawful.follows.replay

  pub reader_inside : number < s.readers
  reader_inside = inside_of s.readers number v.numbers (k.lawful.owners.each id v k.has.here lives).inside (has_own number v k.has.reader.1)

  pub same_plan : plan_here plan s ≡ plan
  same_plan = λ i. record { slots = k.slots i; readers = k.readers i; room = k.room i; first = plan.first }

-- a fact of the state's plan and the reader's number is that of what the seat says of them
pub for_reader : {P : Type 0} (plan : Plan P) (number : ℕ) (v : Sitting P) (fact : Plan P → ℕ → Type 0) → v.plan ≡ Some plan → IsReader number v.core → fact plan number → ForReader v fact
for_reader plan number v fact of_plan reader is p r of_p of_r =
    let same = same_Some plan p (sym of_plan ∙ of_p) in let numbers = sym reader.1 ∙ of_r.1 in let same_number : number ≡ r = cc in
    subst (λ (x : Plan _ × ℕ). fact x.0 x.1) (λ i. (same i, same_number i)) is

module _ {P H : Type 0} (home : P → H) (source : P → ℕ) (name_of : H → ℕ → List ℕ) where
  pub known : (plan : Plan P) (s : State (Cell P H) (Sitting P)) (h : KeepsList home source name_of plan s) (id number : ℕ) (v : Sitting P) → get_elem? s.views id ≡ some v → IsReader number v.core
      → Known plan h.core id number v.core
  known plan s h id number v at reader =
      let few = h.sizes in let least = few.some_slots in let same = sizes_stay (opening_state plan.slots plan.readers plan.room) h.core h.reached in record {
        lawful = reached plan.slots plan.readers plan.room h.core (omega arith) h.reached;
        some = (let slots = same.0 in omega arith);
        slots = same.0;
        readers = same.1;
        room = same.2;
        has = record { here = ap (λ (l : List View). get_elem? l id) h.views ∙ at_map view_of s.views id v at; reader = reader };
      }

  -- the rule after a step that changes what one seat knows
  pub after_step : (plan : Plan P) (s : State (Cell P H) (Sitting P)) (h : KeepsList home source name_of plan s) (id : ℕ) (w : Sitting P) (t : CoreState) (words : List ℕ) (homes : List (mathlib.Core.Option.Option (Cell P H)))
      → Moves h.core t → t.views ≡ set h.core.views id w.core → Shows words t → StandsAtHome home source name_of plan homes t
      → KeepsList home source name_of plan record { words = words; homes = homes; views = set s.views id w }
  after_step plan s h id w t words homes move views shown at_home = record {
    core = t;
    sizes = h.sizes;
    reached = moves_on h.core t h.reached move;
    words = shown;
    views = views ∙ ap (λ (l : List View). set l id w.core) h.views ∙ sym (map-set view_of s.views id w);
    homes = at_home;
  }

-- ---- lists ----

pub set_at : {A : Type 0} (l : List A) (i : ℕ) (a b : A) → get_elem? l i ≡ some a → get_elem? (set l i b) i ≡ some b
set_at [] i a b e = absurd (some-ne-none a (sym e))
set_at (x ∷ xs) zero a b e = refl
set_at (x ∷ xs) (suc i) a b e = set_at xs i a b e

-- ---- one step ----

module _ {S V : Type 0} where
  -- what `Allows` asks in one state
  abbrev pub Steps : (State S V → Type 0) → State S V → ℕ → Me S V → ℕ → (ℕ → ℕ) → (ℕ → Me S V → Type 0) → Type 0
  Steps holds s id me i f then =
      (w : V) × (a : Act S) × Valid s.homes me.1 a × holds (stepped s i (f (slice_index s.words i)) id me.1 w a) × then (slice_index s.words i) (w, carried_after me.1 a)

-- what a step tells of the state's plan and the reader's number, it tells of what the seat says of them
pub for_step : {P S : Type 0} (holds : State S (Sitting P) → Type 0) (s : State S (Sitting P)) (id i : ℕ) (m : Me S (Sitting P)) (f : ℕ → ℕ) (fact : Plan P → ℕ → ℕ → Me S (Sitting P) → Type 0) (plan here : Plan P) (number : ℕ)
    → m.0.plan ≡ Some plan → IsReader number m.0.core → here ≡ plan → Steps holds s id m i f (λ n m'. fact here number n m') → Steps holds s id m i f (λ n m'. ForReader m.0 (λ p r. fact p r n m'))
for_step holds s id i m f fact plan here number of_plan reader same step = (
  step.0,
  step.1,
  step.2,
  step.3,
  for_reader plan number m.0 (λ p r. fact p r (slice_index s.words i) (step.0, carried_after m.1 step.1)) of_plan reader
      (subst (λ (q : Plan _). fact q number (slice_index s.words i) (step.0, carried_after m.1 step.1)) same step.4),
)

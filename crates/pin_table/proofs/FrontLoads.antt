-- A load of the front word keeps the rule, and tells what it shows.
use Rattle.std.proofs.Common.{◌≡◌, ℕ, ◌/◌, ◌%◌, ◌^◌, List, length, set, refl, sym, ap, ◌∙◌, subst, arith, Some}
use Rattle.std.proofs.lemmas.List.{take_all}
use lib.Seq.{set-get_or}
use Rattle.std.specs.Prelude.{slice_index}
use Rattle.std.proofs.lemmas.List.Elements.{All-contains}
use Rattle.atomic_table.specs.Table.{State, Me, keeps, Allows}
use Rattle.pin_book.specs.declared.write.Write.{Write}
use Rattle.pin_book.specs.Replay.{kept_number}
use Rattle.pin_book.proofs.Journals.{front_slot_inside}
use Rattle.pin_core.specs.declared.view.View.{View}
use Rattle.pin_core.specs.Core.{CoreState, Front, IsReader}
use Rattle.pin_core.specs.Lawful.{WasFront}
use Rattle.pin_core.specs.Step.{loaded, load_front, opening_state}
use Rattle.pin_core.specs.Run.{Reaches, loads}
use Rattle.pin_core.specs.Packing.{place}
use Rattle.pin_core.proofs.Packing.{front_small, front_back}
use Rattle.pin_core.proofs.Readers.{part_of_journal, own_writes, room_for, keeps as keeps_slot}
use Rattle.pin_core.proofs.AtHome.{load_home}
use Rattle.pin_table.specs.declared.cell.Cell.{Cell}
use Rattle.pin_table.specs.declared.sitting.Plan.{Plan}
use Rattle.pin_table.specs.declared.sitting.Sitting.{Sitting}
use Rattle.pin_table.specs.declared.layout.TheConstants.{FRONT_WORD}
use Rattle.pin_table.specs.Seat.{knowing, HasSizes}
use Rattle.pin_table.specs.Places.{IsPlaceAt}
use Rattle.pin_table.specs.Rule.{KeepsList}
use Rattle.pin_table.specs.Plays.{ForReader, GoesOn, FrontLoaded}
use Rattle.pin_table.proofs.OldStrays.{strays_old}
use Rattle.pin_table.proofs.StepLemmas.{same_words, Known, known, after_step, lives, plan_here, same_plan, for_reader}

-- what a reader is told of the journal in a state that the steps reach
pub goes_on : {P : Type 0} (plan : Plan P) (s : CoreState) (id number : ℕ) (v : View) → HasSizes plan → Reaches (opening_state plan.slots plan.readers plan.room) s → Known plan s id number v
    → GoesOn s.slots s.room number v s.journal
goes_on plan s id number v sizes run k =
    let part = part_of_journal s id v k.lawful k.has.here (lives plan s id number v k) in let places = k.lawful.places id v k.has.here (lives plan s id number v k) in record {
      grows = part.1;
      replay = k.lawful.follows.replay;
      fits = room_for s id v k.lawful k.has.here;
      own = (own_writes s id number v k.lawful k.has).0;
      handles = λ e among held. let was = All-contains (WasFront s.slots s.journal s.floor (length v.seen)) v.entries e places.entries among in let early = was.told in let within = part.0 in
          ap (λ (l : List Write). kept_number s.slots l e.slot) (sym (take_all (length s.journal) s.journal (omega arith))) ∙ keeps_slot s k.lawful id number v k.has e among held (length s.journal) (omega arith) (omega arith);
      strays = strays_old plan.slots plan.readers plan.room s id v (let least = sizes.some_slots in omega arith) run k.has.here;
      few = (let most = k.lawful.few id v k.has.here (lives plan s id number v k) in let one = ap (λ (l : List ℕ). length l) k.has.reader.1 in omega arith);
    }

module _ {P H : Type 0} (home : P → H) (source : P → ℕ) (name_of : H → ℕ → List ℕ) where
  shows : (plan : Plan P) (s : State (Cell P H) (Sitting P)) (h : KeepsList home source name_of plan s) (id number : ℕ) (m : Me (Cell P H) (Sitting P)) (k : Known plan h.core id number m.0.core)
      → FrontLoaded (plan_here plan h.core) number m (slice_index s.words FRONT_WORD) (knowing (loaded h.core.journal m.0.core) m.0, m.1)
  shows plan s h id number m k =
      let core : CoreState = h.core in let few = h.sizes in let small = front_small core k.lawful in let front = k.lawful.follows.front in
      let room = k.room in let slots_are = k.slots in let many = few.few_slots in let writes = few.few_writes in let word = h.words.front in
      let back = front_back core.front.w core.front.n core.front.slot (omega arith) (omega arith) (omega arith) in
      record {
        journal = core.journal;
        seat = refl;
        goes_on = goes_on plan core id number m.0.core h.sizes h.reached k;
        w = ap (λ n. n / 2 ^ 32) word ∙ back.1 ∙ ap (λ (f : Front). f.w) front;
        n = ap (λ n. n / 2 ^ 6 % 2 ^ 26) word ∙ back.2 ∙ ap (λ (f : Front). f.n) front;
        slot = ap (λ n. n % 2 ^ 6) word ∙ back.3 ∙ ap (λ (f : Front). f.slot) front;
        inside = front_slot_inside core.slots core.journal k.some k.lawful.follows.replay;
      }

  pub loads_front : (plan : Plan P) (slots id number : ℕ) (m : Me (Cell P H) (Sitting P)) → m.0.plan ≡ Some plan → IsReader number m.0.core
      → Allows (KeepsList home source name_of plan) slots id m FRONT_WORD (λ n. n) (λ n m'. ForReader m.0 (λ p r. FrontLoaded p r m n m'))
  loads_front plan slots id number m of_plan reader s h deep at fits =
      let k = known home source name_of plan s h id number m.0 at reader in let core : CoreState = h.core in let v : View = m.0.core in let w : Sitting P = knowing (loaded core.journal v) m.0 in (
        w,
        keeps,
        tt,
        subst (λ (ws : List ℕ). KeepsList home source name_of plan record { words = ws; homes = s.homes; views = set s.views id w }) (sym (set-get_or s.words FRONT_WORD 0))
            (after_step home source name_of plan s h id w (load_front core id v) s.words s.homes (loads id number v k.has) refl (same_words s.words core (load_front core id v) h.words refl refl refl refl) record {
              deep = h.homes.deep;
              places = load_home (λ slot reader n. IsPlaceAt home source s.homes (home plan.first) core.journal (place slot reader) n) core id number v k.has h.homes.places;
              book = h.homes.book;
            }),
        for_reader plan number m.0 (λ p r. FrontLoaded p r m (slice_index s.words FRONT_WORD) (w, m.1)) of_plan reader
            (subst (λ (q : Plan P). FrontLoaded q number m (slice_index s.words FRONT_WORD) (w, m.1)) (same_plan plan core id number v k) (shows plan s h id number m k)),
      )

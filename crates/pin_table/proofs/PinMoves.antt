-- A pin that is added or taken off keeps the rule, and tells what the slot's word shows.
use Rattle.std.proofs.Common.{◌≡◌, ◌≢◌, ℕ, suc, ◌+◌, ◌-◌, ◌/◌, ◌%◌, ◌^◌, ◌<◌, ◌≤◌, List, [], ◌∷◌, length, take, set, refl, sym, ap, ◌∙◌, subst, ⊎_elim, arith, mod-eq_of_lt, length-set, true, false, cond, ◌==◌, ◌&&◌, eq-eqb, Some}
use Rattle.std.specs.Prelude.{slice_index}
use Rattle.std.specs.List.{Contains}
use Rattle.std.proofs.lemmas.Bool.{cases_eq, cases_Bool, and_parts, eqb-true, both_ways}
use Rattle.std.proofs.lemmas.Option.{slice_get_within, get_or_from_slice_get}
use Rattle.std.proofs.lemmas.List.Elements.{All-contains}
use mathlib.Core.Option as maybe
use mathlib.Core.Option.{some}
use lib.ListN.{get_elem?}
use Rattle.atomic_table.specs.Table.{State, Me, keeps, takes, gives, put_back, Allows}
use Rattle.atomic_table.proofs.Lists.{set_else, set_here}
use Rattle.pin_book.specs.Replay.{front_number, front_slot, replays}
use Rattle.pin_book.proofs.Journals.{front_slot_inside, replays_take}
use Rattle.pin_core.specs.declared.entry.Entry.{Entry}
use Rattle.pin_core.specs.declared.view.View.{View}
use Rattle.pin_core.specs.Core.{CoreState, IsReader, number_at, count_at, total, one_if, held_at, has_number, has_claimed}
use Rattle.pin_core.specs.Lawful.{Lawful, away, WasFront, entry_number}
use Rattle.pin_core.specs.Step.{HasReader, MayPin, MayTake, new_entry, pinned, unpinned, add_pin, take_pin}
use Rattle.pin_core.specs.Run.{adds, takes_off}
use Rattle.pin_core.specs.Packing.{packed_slot, place, book_place}
use Rattle.pin_core.proofs.Packing.{number_small, count_small, slot_back, apart, before_book}
use Rattle.pin_core.proofs.Places.{away_iff, first_handle}
use Rattle.pin_core.proofs.Strays.{beside_handle}
use Rattle.pin_core.proofs.Readers.{counted, shown as shown_number}
use Rattle.pin_core.proofs.Seats.{is_live}
use Rattle.pin_core.proofs.Sums.{total-append, total-remove, total_kept}
use Rattle.pin_core.proofs.AtHome.{pin_home, take_home}
use Rattle.pin_core.proofs.Runs.{moves_keep}
use Rattle.pin_table.specs.declared.cell.Cell.{Cell}
use Rattle.pin_table.specs.declared.sitting.Plan.{Plan}
use Rattle.pin_table.specs.declared.sitting.Sitting.{Sitting}
use Rattle.pin_table.specs.Layout.{slot_word}
use Rattle.pin_table.specs.Seat.{knowing}
use Rattle.pin_table.specs.Sources.{source_of}
use Rattle.pin_table.specs.Places.{IsStockedPlace, IsPlaceAt, StandsAtHome}
use Rattle.pin_table.specs.Rule.{KeepsList}
use Rattle.pin_table.specs.Plays.{ForReader, MayGivePlace, PinAdded, PinTaken}
use Rattle.pin_table.proofs.SourceLemmas.{source_kept, front_some, front_rises}
use Rattle.pin_table.proofs.StepLemmas.{slot_written, Known, known, after_step, set_at, Steps, seen_part, seen_replays, reader_inside, plan_here, same_plan, for_step}

-- where a reader has a handle at the slot, it has an entry that says so
pub held_entry : (slot : ℕ) (entries : List Entry) → 0 < total (λ (e : Entry). one_if ((e.slot == slot) && e.held)) entries → (e : Entry) × Contains entries e × (e.slot ≡ slot) × (e.held ≡ true)
held_entry slot [] more = absurd (omega arith)
held_entry slot (e ∷ es) more = ⊎_elim
    (λ (yes : ((e.slot == slot) && e.held) ≡ true). let both = and_parts (e.slot == slot) e.held yes in (e, (0, (omega arith), refl), eqb-true e.slot slot both.0, both.1))
    (λ (no : ((e.slot == slot) && e.held) ≡ false). let none = ap one_if no in let later = held_entry slot es (omega arith) in
    (later.0, (suc later.1.0, (let low = later.1.1 in omega arith), later.1.2), later.2, later.3))
    (cases_Bool ((e.slot == slot) && e.held))

module _ {P H : Type 0} (home : P → H) (source : P → ℕ) (name_of : H → ℕ → List ℕ) (plan : Plan P) (s : State (Cell P H) (Sitting P)) (h : KeepsList home source name_of plan s)
    (id number : ℕ) (m : Me (Cell P H) (Sitting P)) (seated : get_elem? s.views id ≡ some m.0) (reader : IsReader number m.0.core) where
  abbrev core : CoreState
  core = h.core

  abbrev v : View
  v = m.0.core

  k : Known plan core id number v
  k = known home source name_of plan s h id number m.0 seated reader

  abbrev here_plan : Plan P
  here_plan = plan_here plan core

  part : take (length v.seen) core.journal ≡ v.seen
  part = seen_part plan core id number v k

  replay : replays core.slots v.seen ≡ true
  replay = seen_replays plan core id number v k

  mine_inside : number < core.readers
  mine_inside = reader_inside plan core id number v k

  -- what the word of a slot shows
  module _ (slot : ℕ) (inside : slot < core.slots) where
    abbrev found : ℕ
    found = slice_index s.words (slot_word slot)

    abbrev shown : ℕ
    shown = number_at core.words slot

    abbrev count : ℕ
    count = count_at core.words slot

    word_is : found ≡ packed_slot record { number = shown; count = count }
    word_is = h.words.slots slot inside

    small : (shown ≤ 4098) × (count ≤ 128)
    small = let most = number_small core slot k.lawful inside in let many = count_small core slot k.lawful inside in let few = h.sizes in
        let room = k.room in let readers = k.readers in let writes = few.few_writes in let numbers = few.few_readers in (omega arith, omega arith)

    shows : found / 2 ^ 32 ≡ shown
    shows = ap (λ n. n / 2 ^ 32) word_is ∙ (let few = small in (slot_back shown count (omega arith) (omega arith)).1)

  -- ---- a pin is added ----

  module _ (may : MayPin v) where
    abbrev slot : ℕ
    slot = front_slot core.slots v.seen

    abbrev t : CoreState
    t = add_pin core id v

    abbrev w : Sitting P
    w = knowing (pinned core.slots (number_at core.words slot) v) m.0

    inside : slot < core.slots
    inside = front_slot_inside core.slots v.seen k.some replay

    more : (found slot inside + 1) % 2 ^ 64 ≡ packed_slot record { number = shown slot inside; count = count slot inside + 1 }
    more = let is = word_is slot inside in let few = small slot inside in mod-eq_of_lt (omega arith) ∙ (omega arith)

    -- the rule afterwards, where these homes are left
    pinned_rule : (homes : List (maybe.Option (Cell P H))) → StandsAtHome home source name_of plan homes t
        → KeepsList home source name_of plan record { words = set s.words (slot_word slot) ((found slot inside + 1) % 2 ^ 64); homes = homes; views = set s.views id w }
    pinned_rule homes at_home = after_step home source name_of plan s h id w t (set s.words (slot_word slot) ((found slot inside + 1) % 2 ^ 64)) homes (adds id number v k.has may) refl
        (slot_written s.words core t slot ((found slot inside + 1) % 2 ^ 64) record { number = number_at core.words slot; count = count_at core.words slot + 1 } h.words inside k.lawful.follows.wide more refl refl refl refl) at_home

    view_is : w ≡ knowing (pinned core.slots (found slot inside / 2 ^ 32) v) m.0
    view_is = ap (λ n. knowing (pinned core.slots n v) m.0) (sym (shows slot inside))

    -- no place is taken
    keeps_places : StandsAtHome home source name_of plan s.homes t
    keeps_places = record {
      deep = h.homes.deep;
      places = pin_home (λ at r n. IsPlaceAt home source s.homes (home plan.first) core.journal (place at r) n) (λ at r n. IsPlaceAt home source s.homes (home plan.first) core.journal (place at r) n) core id number v k.has
          (λ at r n none there. there) h.homes.places;
      book = h.homes.book;
    }

    -- beside a handle the word shows the front
    shows_front : 0 < held_at slot v → number_at core.words slot ≡ front_number core.slots v.seen
    shows_front more = let e = held_entry slot v.entries more in
        beside_handle core id number v e.0 k.lawful record { seat = k.has; among = e.1; held = e.3 } e.2

    -- the reader's own place is taken
    module _ (front : number_at core.words slot ≡ front_number core.slots v.seen) (bare : held_at slot v ≡ 0) where
      own_place : IsPlaceAt home source s.homes (home plan.first) core.journal (place slot number) (number_at core.words slot)
      own_place = h.homes.places slot number inside mine_inside (first_handle core id number v k.lawful k.has bare front)

      abbrev homes' : List (maybe.Option (Cell P H))
      homes' = set s.homes (place slot number) maybe.none

      gone : total (away slot number) t.views ≡ 0 → ⊥
      gone none =
          let new : Entry = new_entry core.slots (number_at core.words slot) v in
          let here : HasReader t id number w.core = record { here = set_at core.views id v w.core k.has.here; reader = reader } in
          let held = ((away_iff t id number slot w.core (moves_keep core t k.lawful (adds id number v k.has may)) here).0 none).0 in
          let sum = total-append (λ (e : Entry). one_if ((e.slot == slot) && e.held)) v.entries (new ∷ []) in
          let one : one_if ((slot == slot) && (number_at core.words slot == front_number core.slots v.seen)) ≡ 1 = (λ i. one_if (eq-eqb slot slot refl i && eq-eqb (number_at core.words slot) (front_number core.slots v.seen) front i)) in
          omega arith

      takes_places : StandsAtHome home source name_of plan homes' t
      takes_places = record {
        deep = length-set s.homes (place slot number) maybe.none ∙ h.homes.deep;
        places = pin_home (λ at r n. (at < core.slots) × (r < core.readers) × IsPlaceAt home source s.homes (home plan.first) core.journal (place at r) n)
            (λ at r n. IsPlaceAt home source homes' (home plan.first) core.journal (place at r) n) core id number v k.has
            (λ at r n none there. let few = h.sizes in let numbers = few.few_readers in let readers = k.readers in let low = there.1 in let mine = mine_inside in let old = there.2 in record {
              cell = old.cell;
              here = set_else s.homes (place slot number) (place at r) maybe.none
                  (λ same. let both = apart at slot r number (omega arith) (omega arith) same in gone (subst (λ (x : ℕ × ℕ). total (away x.0 x.1) t.views ≡ 0) (λ i. (both.0 i, both.1 i)) none)) ∙ old.here;
              stocked = old.stocked;
            })
            (λ at r low mine none. (low, mine, h.homes.places at r low mine none));
        book = λ free. set_else s.homes (place slot number) (book_place plan.slots) maybe.none
            (λ same. let few = h.sizes in let numbers = few.few_readers in let readers = k.readers in let mine = mine_inside in let low = before_book core.slots slot number inside (omega arith) in let slots = k.slots in omega arith) ∙ h.homes.book free;
      }

      stocked_here : IsStockedPlace home source (home plan.first) (source_of v.seen (front_number core.slots v.seen)) own_place.cell
      stocked_here =
          let positive = front_some core.slots v.seen k.some replay in
          let kept = source_kept core.slots (front_number core.slots v.seen) core.journal v.seen k.some k.lawful.follows.replay part positive (omega arith) in
          subst (λ n. IsStockedPlace home source (home plan.first) n own_place.cell) (ap (source_of core.journal) front ∙ kept) (own_place.stocked (omega arith))

    pub adds_at : Steps (KeepsList home source name_of plan) s id m (slot_word slot) (λ n. (n + 1) % 2 ^ 64) (λ n m'. PinAdded home source here_plan number m n m')
    adds_at = ⊎_elim
        (λ (front : number_at core.words slot ≡ front_number core.slots v.seen). ⊎_elim
        (λ (bare : held_at slot v ≡ 0). (
          w,
          takes (place slot number) (own_place front bare).cell,
          (own_place front bare).here,
          pinned_rule (homes' front bare) (takes_places front bare),
          record {
            view = view_is;
            first = λ _ _. record { cell = (own_place front bare).cell; stocked = stocked_here front bare; is = refl };
            further = λ more. absurd (omega arith);
            stray = λ differs. absurd (differs (shows slot inside ∙ front));
          },
        ))
        (λ (other : held_at slot v ≢ 0). (
          w,
          keeps,
          tt,
          pinned_rule s.homes keeps_places,
          record {
            view = view_is;
            first = λ _ none. absurd (other none);
            further = λ _. (shows slot inside ∙ front, refl);
            stray = λ differs. absurd (differs (shows slot inside ∙ front));
          },
        ))
        (cases_eq (held_at slot v) 0))
        (λ (other : number_at core.words slot ≢ front_number core.slots v.seen). (
          w,
          keeps,
          tt,
          pinned_rule s.homes keeps_places,
          record {
            view = view_is;
            first = λ front _. absurd (other (sym (shows slot inside) ∙ front));
            further = λ more. absurd (other (shows_front more));
            stray = λ _. refl;
          },
        ))
        (cases_eq (number_at core.words slot) (front_number core.slots v.seen))

  -- ---- a pin is taken off ----

  module _ (at : ℕ) (e : Entry) (may : MayTake at e v)
      (give : e.held ≡ true → held_at e.slot v ≡ 1 → MayGivePlace home source here_plan v.seen (entry_number core.slots v.seen e) (place e.slot number) m.1) where
    abbrev t' : CoreState
    t' = take_pin core id v at e

    abbrev w' : Sitting P
    w' = knowing (unpinned at v) m.0

    among : Contains v.entries e
    among = (at, slice_get_within v.entries at e may.there, get_or_from_slice_get v.entries at e e may.there)

    was : WasFront core.slots core.journal core.floor (length v.seen) e
    was = All-contains (WasFront core.slots core.journal core.floor (length v.seen)) v.entries e (k.lawful.places id v k.has.here (is_live number v reader)).entries among

    inside' : e.slot < core.slots
    inside' = subst (λ n. n < core.slots) (sym was.front) (front_slot_inside core.slots (take e.position core.journal) k.some (replays_take core.slots core.journal e.position k.lawful.follows.replay))

    less : (found e.slot inside' + (2 ^ 64 - 1)) % 2 ^ 64 ≡ packed_slot record { number = shown e.slot inside'; count = count e.slot inside' - 1 }
    less = let is = word_is e.slot inside' in let few = small e.slot inside' in let pins = counted core k.lawful id number v k.has e among in omega arith

    unpinned_rule : (homes : List (maybe.Option (Cell P H))) → StandsAtHome home source name_of plan homes t'
        → KeepsList home source name_of plan record { words = set s.words (slot_word e.slot) ((found e.slot inside' + (2 ^ 64 - 1)) % 2 ^ 64); homes = homes; views = set s.views id w' }
    unpinned_rule homes at_home = after_step home source name_of plan s h id w' t' (set s.words (slot_word e.slot) ((found e.slot inside' + (2 ^ 64 - 1)) % 2 ^ 64)) homes (takes_off id number v at e k.has may) refl
        (slot_written s.words core t' e.slot ((found e.slot inside' + (2 ^ 64 - 1)) % 2 ^ 64) record { number = number_at core.words e.slot; count = count_at core.words e.slot - 1 } h.words inside' k.lawful.follows.wide less refl refl refl refl) at_home

    -- the entry counts among the handles at its slot where it is one
    counts : held_at e.slot (unpinned at v) + one_if ((e.slot == e.slot) && e.held) ≡ held_at e.slot v
    counts = ap (λ (x : Entry). held_at e.slot (unpinned at v) + one_if ((x.slot == e.slot) && x.held)) (sym (get_or_from_slice_get v.entries at e e may.there))
        ∙ total-remove (λ (x : Entry). one_if ((x.slot == e.slot) && x.held)) v.entries at e (slice_get_within v.entries at e may.there)

    counts_one : e.held ≡ true → held_at e.slot (unpinned at v) + 1 ≡ held_at e.slot v
    counts_one held = let one : one_if ((e.slot == e.slot) && e.held) ≡ 1 = (λ i. one_if (eq-eqb e.slot e.slot refl i && held i)) in let sum = counts in omega arith

    here' : HasReader t' id number w'.core
    here' = record { here = set_at core.views id v w'.core k.has.here; reader = reader }

    lawful' : Lawful t'
    lawful' = moves_keep core t' k.lawful (takes_off id number v at e k.has may)

    number_is : e.held ≡ true → number_at core.words e.slot ≡ entry_number core.slots v.seen e
    number_is held = shown_number core k.lawful id number v k.has e among held

    told : e.held ≡ true → found e.slot inside' / 2 ^ 32 ≡ entry_number core.slots v.seen e
    told held = shows e.slot inside' ∙ number_is held

    -- no place is given back
    keeps_all : (total (away e.slot number) t'.views ≡ 0 → total (away e.slot number) core.views ≡ 0) → StandsAtHome home source name_of plan s.homes t'
    keeps_all back = record {
      deep = h.homes.deep;
      places = take_home (λ a r n. IsPlaceAt home source s.homes (home plan.first) core.journal (place a r) n) (λ a r n. IsPlaceAt home source s.homes (home plan.first) core.journal (place a r) n) core id number at v e k.has may
          (λ a r n none there. there) (λ none. h.homes.places e.slot number inside' mine_inside (back none)) h.homes.places;
      book = h.homes.book;
    }

    -- the reader's own place is given back
    module _ (held : e.held ≡ true) (one : held_at e.slot v ≡ 1) where
      abbrev p : ℕ
      p = place e.slot number

      abbrev cell : Cell P H
      cell = (give held one).cell

      abbrev homes'' : List (maybe.Option (Cell P H))
      homes'' = set s.homes p (some cell)

      was_away : total (away e.slot number) core.views ≡ 0 → ⊥
      was_away none = let bare = ((away_iff core id number e.slot v k.lawful k.has).0 none).0 in omega arith

      below : (p < book_place core.slots) × (p < length s.homes)
      below = let few = h.sizes in let numbers = few.few_readers in let readers = k.readers in let mine = mine_inside in let low = before_book core.slots e.slot number inside' (omega arith) in
          let slots = k.slots in let deep = h.homes.deep in (low, omega arith)

      stocked_back : IsStockedPlace home source (home plan.first) (source_of core.journal (number_at core.words e.slot)) cell
      stocked_back =
          let early = replays_take core.slots v.seen e.position replay in
          let kept = source_kept core.slots (entry_number core.slots v.seen e) core.journal v.seen k.some k.lawful.follows.replay part
          (front_some core.slots (take e.position v.seen) k.some early) (front_rises core.slots e.position v.seen k.some replay) in
          subst (λ n. IsStockedPlace home source (home plan.first) n cell) (sym (ap (source_of core.journal) (number_is held) ∙ kept)) (give held one).stocked

      gives_place : StandsAtHome home source name_of plan homes'' t'
      gives_place = record {
        deep = length-set s.homes p (some cell) ∙ h.homes.deep;
        places = take_home (λ a r n. (a < core.slots) × (r < core.readers) × IsPlaceAt home source s.homes (home plan.first) core.journal (place a r) n)
            (λ a r n. IsPlaceAt home source homes'' (home plan.first) core.journal (place a r) n) core id number at v e k.has may
            (λ a r n none there. let few = h.sizes in let numbers = few.few_readers in let readers = k.readers in let low = there.1 in let mine = mine_inside in let old = there.2 in record {
              cell = old.cell;
              here = set_else s.homes p (place a r) (some cell)
                  (λ same. let both = apart a e.slot r number (omega arith) (omega arith) same in was_away (subst (λ (x : ℕ × ℕ). total (away x.0 x.1) core.views ≡ 0) (λ i. (both.0 i, both.1 i)) none)) ∙ old.here;
              stocked = old.stocked;
            })
            (λ none. record { cell = cell; here = set_here s.homes p (some cell) below.1; stocked = λ _. stocked_back })
            (λ a r low mine none. (low, mine, h.homes.places a r low mine none));
        book = λ free. set_else s.homes p (book_place plan.slots) (some cell) (λ same. let low = below.0 in let slots = k.slots in omega arith) ∙ h.homes.book free;
      }

    pub takes_at : Steps (KeepsList home source name_of plan) s id m (slot_word e.slot) (λ n. (n + (2 ^ 64 - 1)) % 2 ^ 64) (λ n m'. PinTaken home source here_plan at e m n m')
    takes_at = ⊎_elim
        (λ (held : e.held ≡ true). ⊎_elim
        (λ (one : held_at e.slot v ≡ 1). (
          w',
          gives,
          tt,
          subst (λ hs. KeepsList home source name_of plan record { words = set s.words (slot_word e.slot) ((found e.slot inside' + (2 ^ 64 - 1)) % 2 ^ 64); homes = hs; views = set s.views id w' }) (sym (ap (put_back s.homes) (give held one).is))
              (unpinned_rule (homes'' held one) (gives_place held one)),
          record { view = refl; shown = told; last = λ _ _. refl; further = λ _ more. absurd (omega arith); stray = λ is. absurd (both_ways e.held is held) },
        ))
        (λ (more : held_at e.slot v ≢ 1). (
          w',
          keeps,
          tt,
          unpinned_rule s.homes (keeps_all (λ none. let bare = ((away_iff t' id number e.slot w'.core lawful' here').0 none).0 in let sum = counts_one held in absurd (more (omega arith)))),
          record { view = refl; shown = told; last = λ _ is. absurd (more is); further = λ _ _. refl; stray = λ is. absurd (both_ways e.held is held) },
        ))
        (cases_eq (held_at e.slot v) 1))
        (λ (stray : e.held ≡ false). (
          w',
          keeps,
          tt,
          unpinned_rule s.homes (keeps_all (λ none.
              let zero : one_if ((e.slot == e.slot) && e.held) ≡ 0 = (λ i. one_if (eq-eqb e.slot e.slot refl i && stray i)) in let sum = counts in
              let same : held_at e.slot (unpinned at v) ≡ held_at e.slot v = omega arith in
              sym (total_kept (away e.slot number) core.views id v w'.core k.has.here (ap (λ n. has_claimed e.slot v + cond (has_number number v == 0) 0 n) same)) ∙ none)),
          record { view = refl; shown = told; last = λ held _. absurd (both_ways e.held stray held); further = λ held _. absurd (both_ways e.held stray held); stray = λ _. refl },
        ))
        (cases_Bool e.held)

module _ {P H : Type 0} (home : P → H) (source : P → ℕ) (name_of : H → ℕ → List ℕ) where
  pub adds_pin : (plan : Plan P) (slots id number slot : ℕ) (m : Me (Cell P H) (Sitting P)) → m.0.plan ≡ Some plan → IsReader number m.0.core → MayPin m.0.core → slot ≡ front_slot plan.slots m.0.core.seen
      → Allows (KeepsList home source name_of plan) slots id m (slot_word slot) (λ n. (n + 1) % 2 ^ 64) (λ n m'. ForReader m.0 (λ p r. PinAdded home source p r m n m'))
  adds_pin plan slots id number slot m of_plan reader may is s h deep at fits =
      let k = known home source name_of plan s h id number m.0 at reader in let same = same_plan plan h.core id number m.0.core k in
      subst (λ n. Steps (KeepsList home source name_of plan) s id m (slot_word n) (λ n. (n + 1) % 2 ^ 64) (λ n m'. ForReader m.0 (λ p r. PinAdded home source p r m n m'))) (ap (λ (q : Plan P). front_slot q.slots m.0.core.seen) same ∙ sym is)
      (for_step (KeepsList home source name_of plan) s id (slot_word (front_slot h.core.slots m.0.core.seen)) m (λ n. (n + 1) % 2 ^ 64) (λ p r n m'. PinAdded home source p r m n m') plan (plan_here plan h.core) number of_plan reader same
      (adds_at home source name_of plan s h id number m at reader may))

  pub takes_pin : (plan : Plan P) (slots id number place_at : ℕ) (e : Entry) (m : Me (Cell P H) (Sitting P)) → m.0.plan ≡ Some plan → IsReader number m.0.core → MayTake place_at e m.0.core
      → (e.held ≡ true → held_at e.slot m.0.core ≡ 1 → MayGivePlace home source plan m.0.core.seen (entry_number plan.slots m.0.core.seen e) (place e.slot number) m.1)
      → Allows (KeepsList home source name_of plan) slots id m (slot_word e.slot) (λ n. (n + (2 ^ 64 - 1)) % 2 ^ 64) (λ n m'. ForReader m.0 (λ p r. PinTaken home source p place_at e m n m'))
  takes_pin plan slots id number place_at e m of_plan reader may give s h deep at fits =
      let k = known home source name_of plan s h id number m.0 at reader in let same = same_plan plan h.core id number m.0.core k in
      for_step (KeepsList home source name_of plan) s id (slot_word e.slot) m (λ n. (n + (2 ^ 64 - 1)) % 2 ^ 64) (λ p r n m'. PinTaken home source p place_at e m n m') plan (plan_here plan h.core) number of_plan reader same
      (takes_at home source name_of plan s h id number m at reader place_at e may
      (subst (λ (q : Plan P). e.held ≡ true → held_at e.slot m.0.core ≡ 1 → MayGivePlace home source q m.0.core.seen (entry_number q.slots m.0.core.seen e) (place e.slot number) m.1) (sym same) give))

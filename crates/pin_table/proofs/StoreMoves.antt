-- A store of the front word, after an erase or a push, keeps the rule.
use Rattle.std.proofs.Common.{◌≡◌, ℕ, ◌+◌, ◌<◌, ◌≤◌, List, [], ◌∷◌, ◌++◌, length, set, drop, refl, sym, ap, ◌∙◌, subst, arith, true, Some}
use mathlib.Core.Option as maybe
use mathlib.Core.Option.{some}
use lib.ListN.{get_elem?}
use Rattle.atomic_table.specs.Table.{State, Me, keeps, homes_after, carried_after, Allows}
use Rattle.pin_book.specs.declared.write.Write.{Write}
use Rattle.pin_book.specs.declared.write.Change.{Change}
use Rattle.pin_book.specs.declared.write.Change.TheVariants.{Push, Erase}
use Rattle.pin_book.specs.declared.limits.TheConstants.{READER_NUMBERS}
use Rattle.pin_book.specs.Replay.{front_number, state_after, allowed}
use Rattle.pin_book.proofs.ReplayLemmas.{push_asks}
use Rattle.pin_book.proofs.Journals.{kept_le}
use Rattle.pin_core.specs.declared.view.View.{View}
use Rattle.pin_core.specs.Core.{CoreState, IsReader, number_at, total, has_claimed}
use Rattle.pin_core.specs.Lawful.{away, PlacesAtHome}
use Rattle.pin_core.specs.Step.{MayStore, HasClaimed, stored, store_front, front_after}
use Rattle.pin_core.specs.Run.{stores}
use Rattle.pin_core.specs.Packing.{packed_front, place}
use Rattle.pin_core.proofs.Sums.{total_zero, total_none}
use Rattle.pin_core.proofs.AtHome.{erase_home, push_home, store_book}
use Rattle.pin_table.specs.declared.cell.Cell.{Cell}
use Rattle.pin_table.specs.declared.sitting.Plan.{Plan}
use Rattle.pin_table.specs.declared.sitting.Sitting.{Sitting}
use Rattle.pin_table.specs.declared.layout.TheConstants.{FRONT_WORD}
use Rattle.pin_table.specs.Seat.{knowing}
use Rattle.pin_table.specs.Sources.{source_of}
use Rattle.pin_table.specs.Runs.{run_from, gives_run}
use Rattle.pin_table.specs.Places.{IsStockedPlace, IsPlaceAt, StandsAtHome, IsBookAt}
use Rattle.pin_table.specs.Rule.{KeepsList}
use Rattle.pin_table.specs.Plays.{ForReader, MayWrite, EraseStored, PushStored, HasStockedRun, stored_word}
use Rattle.pin_table.proofs.SourceLemmas.{source_stays, source_pushed}
use Rattle.pin_table.proofs.RunLemmas.{carried_given, given_else, given_here, given_length, given_valid, within_run}
use Rattle.pin_table.proofs.ClaimMoves.{run_apart}
use Rattle.pin_table.proofs.StepLemmas.{front_written, Known, known, after_step, Steps, lives, for_step}

-- a push that the journal allows lists the version of the next number
next_number : (slots : ℕ) (journal : List Write) (change : Change) (n src slot : ℕ) → allowed (state_after slots journal) change ≡ true → change ≡ Push n src slot → n ≡ front_number slots journal + 1
unfolding front_number
next_number slots journal change n src slot allows push = (push_asks (state_after slots journal) n src slot (subst (λ c. allowed (state_after slots journal) c ≡ true) push allows)).next

module _ {P H : Type 0} (home : P → H) (source : P → ℕ) (name_of : H → ℕ → List ℕ) (plan : Plan P) (s : State (Cell P H) (Sitting P)) (h : KeepsList home source name_of plan s)
    (id number : ℕ) (m : Me (Cell P H) (Sitting P)) (seated : get_elem? s.views id ≡ some m.0) (reader : IsReader number m.0.core) (write : Write) (may : MayWrite plan.slots number write m.0.core) where
  abbrev core : CoreState
  core = h.core

  abbrev v : View
  v = m.0.core

  k : Known plan core id number v
  k = known home source name_of plan s h id number m.0 seated reader

  turn : Rattle.pin_core.specs.Lawful.KnowsTurn core.slots core.journal (number_at core.words) core.turn v
  turn = k.lawful.turn.each id v k.has.here (lives plan core id number v k)

  current : v.seen ≡ core.journal
  current = turn.current may.turn

  allowed_store : MayStore core number write v
  allowed_store = record {
    turn = may.turn;
    allowance = may.allowance;
    allows = (λ i. allowed (state_after (k.slots i) (sym current i)) write.change) ∙ may.allows;
    by = may.by;
    seq = may.seq;
    claimed = may.claimed;
  }

  abbrev t : CoreState
  t = store_front core id v write

  abbrev w : Sitting P
  w = knowing (stored write v) m.0

  abbrev new : ℕ
  new = stored_word plan.slots (v.seen ++ write ∷ [])

  new_is : new ≡ packed_front t.front
  new_is = λ i. packed_front (front_after (sym k.slots i) (current i ++ write ∷ []))

  -- a place that is at home keeps a version that was pushed before
  old_number : (at r : ℕ) → at < core.slots → total (away at r) core.views ≡ 0 → number_at core.words at ≤ front_number core.slots core.journal
  old_number at r low none =
      let free : total (has_claimed at) core.views ≡ 0 = total_zero (has_claimed at) core.views (λ j x there. let zero = total_none (away at r) core.views j x none there in omega arith) in
      let kept = k.lawful.follows.kept at low free in let most = kept_le core.slots core.journal at k.some k.lawful.follows.replay in omega arith

  -- what is stocked with the version of a number is so after one more write
  stocked_later : (n : ℕ) (cell : Cell P H) → n ≤ front_number core.slots core.journal → (0 < n → IsStockedPlace home source (home plan.first) (source_of core.journal n) cell) → 0 < n → IsStockedPlace home source (home plan.first) (source_of t.journal n) cell
  stocked_later n cell old stocked positive =
      subst (λ src. IsStockedPlace home source (home plan.first) src cell) (sym (source_stays core.slots n core.journal (write ∷ []) k.some k.lawful.follows.replay positive old)) (stocked positive)

  -- the places at home, with the numbers of their versions
  numbered : PlacesAtHome (λ at r n. (r < core.readers) × (n ≤ front_number core.slots core.journal) × IsPlaceAt home source s.homes (home plan.first) core.journal (place at r) n) core
  numbered at r low mine none = (mine, old_number at r low none, h.homes.places at r low mine none)

  stored_rule : (homes : List (maybe.Option (Cell P H))) → StandsAtHome home source name_of plan homes t → KeepsList home source name_of plan record { words = set s.words FRONT_WORD new; homes = homes; views = set s.views id w }
  stored_rule homes at_home = after_step home source name_of plan s h id w t (set s.words FRONT_WORD new) homes (stores id number v write k.has allowed_store) refl
      (front_written s.words core t new h.words new_is refl refl refl) at_home

  -- ---- an erase ----

  module _ (after gone : ℕ) (erase : write.change ≡ Erase after gone) where
    pub erases_at : Steps (KeepsList home source name_of plan) s id m FRONT_WORD (λ _. new) (λ n m'. EraseStored write m m')
    erases_at = (
      w,
      keeps,
      tt,
      stored_rule s.homes record {
        deep = h.homes.deep;
        places = erase_home (λ at r n. (r < core.readers) × (n ≤ front_number core.slots core.journal) × IsPlaceAt home source s.homes (home plan.first) core.journal (place at r) n)
            (λ at r n. IsPlaceAt home source s.homes (home plan.first) t.journal (place at r) n) core id number after gone v write k.has erase
            (λ at r n there. record { cell = there.2.cell; here = there.2.here; stocked = stocked_later n there.2.cell there.1 there.2.stocked }) numbered;
        book = store_book (IsBookAt home source name_of s.homes plan) core id number v write k.lawful k.has allowed_store;
      },
      refl,
    )

  -- ---- a push ----

  module _ (n src slot : ℕ) (push : write.change ≡ Push n src slot) (run : HasStockedRun home source plan slot src m.1) where
    abbrev behind : List (ℕ × Cell P H)
    behind = drop plan.readers m.1

    abbrev cells : List (Cell P H)
    cells = run.cells

    abbrev homes' : List (maybe.Option (Cell P H))
    homes' = homes_after s.homes (run_from (place slot 0) cells ++ behind) (gives_run (length cells))

    claimed : v.claimed ≡ Some slot
    claimed = subst (HasClaimed v.claimed) push may.claimed

    inside : slot < core.slots
    inside = turn.inside slot claimed

    few_cells : length cells ≤ READER_NUMBERS
    few_cells = let few = h.sizes in let numbers = few.few_readers in let many = run.many in omega arith

    source_is : source_of t.journal (number_at core.words slot) ≡ src
    source_is =
        let coming = turn.coming slot claimed in let next = next_number core.slots core.journal write.change n src slot allowed_store.allows push in
        let same : number_at core.words slot ≡ n = omega arith in
        ap (source_of t.journal) same ∙ source_pushed core.slots n src slot core.journal write k.some k.lawful.follows.replay push next

    pushed : StandsAtHome home source name_of plan homes' t
    pushed = record {
      deep = given_length s.homes behind (place slot 0) cells ∙ h.homes.deep;
      places = push_home (λ at r n. (r < core.readers) × (n ≤ front_number core.slots core.journal) × IsPlaceAt home source s.homes (home plan.first) core.journal (place at r) n)
          (λ at r n. IsPlaceAt home source homes' (home plan.first) t.journal (place at r) n) core id number n src slot v write k.has allowed_store push
          (λ at r m other there. let few = h.sizes in let numbers = few.few_readers in let readers = k.readers in let mine = there.0 in let old = there.2 in record {
            cell = old.cell;
            here = given_else s.homes behind (place slot 0) cells (place at r) (run_apart slot at r (length cells) other (omega arith) few_cells) ∙ old.here;
            stocked = stocked_later m old.cell there.1 old.stocked;
          })
          (λ r mine. let readers = k.readers in let many = run.many in let cell = within_run cells r (omega arith) in
          let few = few_cells in let slots = k.slots in let low = inside in let deep = h.homes.deep in
          let to : place slot 0 + r ≡ place slot r = omega arith in record {
            cell = cell.0;
            here = subst (λ p. get_elem? homes' p ≡ some (some cell.0)) to (given_here s.homes behind (place slot 0) cells r cell.0 (omega arith) cell.1);
            stocked = λ _. subst (λ q. IsStockedPlace home source (home plan.first) q cell.0) (sym source_is) (run.stocked r cell.0 cell.1);
          })
          numbered;
      book = store_book (IsBookAt home source name_of homes' plan) core id number v write k.lawful k.has allowed_store;
    }

    pub pushes_at : Steps (KeepsList home source name_of plan) s id m FRONT_WORD (λ _. new) (λ n m'. PushStored plan write m m')
    pushes_at = (
      w,
      gives_run (length cells),
      given_valid s.homes m.1 (length cells),
      subst (λ c. KeepsList home source name_of plan record { words = set s.words FRONT_WORD new; homes = homes_after s.homes c (gives_run (length cells)); views = set s.views id w }) (sym run.is) (stored_rule homes' pushed),
      ap (λ (c : List (ℕ × Cell P H)). (w, carried_after c (gives_run (length cells)))) run.is ∙ ap (λ (c : List (ℕ × Cell P H)). (w, c)) (carried_given behind (place slot 0) cells),
    )

module _ {P H : Type 0} (home : P → H) (source : P → ℕ) (name_of : H → ℕ → List ℕ) where
  pub stores_erase : (plan : Plan P) (slots id number after gone : ℕ) (write : Write) (m : Me (Cell P H) (Sitting P)) → IsReader number m.0.core → MayWrite plan.slots number write m.0.core → write.change ≡ Erase after gone
      → Allows (KeepsList home source name_of plan) slots id m FRONT_WORD (λ _. stored_word plan.slots (m.0.core.seen ++ write ∷ [])) (λ _ m'. EraseStored write m m')
  stores_erase plan slots id number after gone write m reader may erase s h deep at fits = erases_at home source name_of plan s h id number m at reader write may after gone erase

  pub stores_push : (plan : Plan P) (slots id number n src slot : ℕ) (write : Write) (m : Me (Cell P H) (Sitting P)) → IsReader number m.0.core → MayWrite plan.slots number write m.0.core
      → m.0.plan ≡ Some plan → write.change ≡ Push n src slot → HasStockedRun home source plan slot src m.1
      → Allows (KeepsList home source name_of plan) slots id m FRONT_WORD (λ _. stored_word plan.slots (m.0.core.seen ++ write ∷ [])) (λ _ m'. ForReader m.0 (λ p r. PushStored p write m m'))
  stores_push plan slots id number n src slot write m reader may of_plan push run s h deep at fits =
      for_step (KeepsList home source name_of plan) s id FRONT_WORD m (λ _. stored_word plan.slots (m.0.core.seen ++ write ∷ [])) (λ p r n m'. PushStored p write m m') plan plan number of_plan reader refl
      (pushes_at home source name_of plan s h id number m at reader write may n src slot push run)

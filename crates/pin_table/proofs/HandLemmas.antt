-- What a reader's hand holds after a call that took the turn, or was refused it.
use Rattle.std.proofs.Common.{◌≡◌, ◌≢◌, ℕ, suc, ◌<◌, List, [], ◌∷◌, length, take, sym, refl, ap, ◌∙◌, subst, arith, false, ne_eqb, Option, Some, None}
use Rattle.std.specs.List.{Contains}
use Rattle.std.proofs.lemmas.List.{take_all}
use Rattle.atomic_table.specs.Table.{Me, rest}
use Rattle.pin_book.specs.declared.write.Write.{Write}
use Rattle.pin_book.specs.Book.{Chronicle}
use Rattle.pin_book.specs.Replay.{kept_number}
use Rattle.pin_core.specs.declared.entry.Entry.{Entry}
use Rattle.pin_core.specs.declared.view.View.{View}
use Rattle.pin_core.specs.Core.{IsReader, times, one_if}
use Rattle.pin_core.specs.Lawful.{entry_number}
use Rattle.pin_core.specs.Step.{got_turn, gave_turn, was_refused}
use Rattle.pin_core.specs.Packing.{place, book_place}
use Rattle.pin_table.specs.declared.cell.Cell.{Cell}
use Rattle.pin_table.specs.declared.sitting.Plan.{Plan}
use Rattle.pin_table.specs.declared.sitting.Sitting.{Sitting}
use Rattle.pin_table.specs.Seat.{knowing}
use Rattle.pin_table.specs.Carried.{slots_of}
use Rattle.pin_table.specs.Handles.{HoldsFront, CarriesPlaces, slot_of}
use Rattle.pin_table.specs.Plays.{ForReader, GoesOn, TurnGiven}
use Rattle.pin_table.specs.Idle.{IsIdle}
use Rattle.pin_table.specs.BookHeld.{HoldsBook}
use Rattle.pin_table.proofs.PlaceLemmas.{holds_later, places_later}
use Rattle.pin_table.proofs.StepLemmas.{for_reader}

-- The view is that of a reader between two calls again, which has the same handles as before and has seen as much at
-- least. The slots of its handles still keep their numbers.
pub record LeavesHandles (slots : ℕ) (v v' : View) : Type 0 where
  pub role : v'.role ≡ v.role
  pub numbers : v'.numbers ≡ v.numbers
  pub entries : v'.entries ≡ v.entries
  pub turn : v'.turn ≡ false
  pub claimed : v'.claimed ≡ None
  pub grows : take (length v.seen) v'.seen ≡ v.seen
  pub kept : (e : Entry) → Contains v.entries e → kept_number slots v'.seen e.slot ≡ entry_number slots v'.seen e

-- a refused turn leaves them
pub refused_leaves : (slots number : ℕ) (holder : Option ℕ) (v : View) → IsIdle slots number v → LeavesHandles slots v (was_refused holder v)
refused_leaves slots number holder v h = record {
  role = refl;
  numbers = refl;
  entries = refl;
  turn = h.turn;
  claimed = h.claimed;
  grows = take_all (length v.seen) v.seen (omega arith);
  kept = λ e among. (h.handles e among).kept;
}

-- a turn without a write does too
pub turn_leaves : (slots room number : ℕ) (journal : List Write) (v : View) → IsIdle slots number v → GoesOn slots room number v journal → LeavesHandles slots v (gave_turn (got_turn journal v))
turn_leaves slots room number journal v h goes = record {
  role = refl;
  numbers = refl;
  entries = refl;
  turn = refl;
  claimed = h.claimed;
  grows = goes.grows;
  kept = λ e among. goes.handles e among (h.handles e among).held;
}

-- then its reader is between two calls again
pub idle_later : (slots number : ℕ) (v v' : View) → IsIdle slots number v → LeavesHandles slots v v' → IsIdle slots number v'
idle_later slots number v v' h left = record {
  reader = (left.role ∙ h.reader.0, left.numbers ∙ h.reader.1);
  turn = left.turn;
  claimed = left.claimed;
  handles = subst (λ (es : List Entry). (e : Entry) → Contains es e → HoldsFront slots v'.seen e) (sym left.entries) (λ e among. holds_later slots v.seen v'.seen e (h.handles e among) left.grows (left.kept e among));
}

module _ {P H : Type 0} (home : P → H) (source : P → ℕ) (plan : Plan P) (number : ℕ) where
  -- and carries the places of its handles
  pub carries_later : (v v' : View) (carried : List (ℕ × Cell P H)) → IsIdle plan.slots number v → LeavesHandles plan.slots v v' → CarriesPlaces home source plan number v carried → CarriesPlaces home source plan number v' carried
  carries_later v v' carried h left places = places_later home source plan number v v' (λ e among. (h.handles e among).told) left.grows carried left.entries places

  pub idle_seat : (m m' : Me (Cell P H) (Sitting P)) (v' : View) → m' ≡ (knowing v' m.0, m.1) → IsIdle plan.slots number m.0.core → LeavesHandles plan.slots m.0.core v' → IsIdle plan.slots number m'.0.core
  idle_seat m m' v' is h left = subst (λ (x : Me (Cell P H) (Sitting P)). IsIdle plan.slots number x.0.core) (sym is) (idle_later plan.slots number m.0.core v' h left)

  pub places_seat : (m m' : Me (Cell P H) (Sitting P)) (v' : View) → m' ≡ (knowing v' m.0, m.1) → IsIdle plan.slots number m.0.core → LeavesHandles plan.slots m.0.core v' → m.0.plan ≡ Some plan
      → ForReader m.0 (λ p r. CarriesPlaces home source p r m.0.core m.1) → ForReader m'.0 (λ p r. CarriesPlaces home source p r m'.0.core m'.1)
  places_seat m m' v' is h left of_plan places = subst (λ (x : Me (Cell P H) (Sitting P)). ForReader x.0 (λ p r. CarriesPlaces home source p r x.0.core x.1)) (sym is)
      (for_reader plan number (knowing v' m.0) (λ p r. CarriesPlaces home source p r v' m.1) of_plan (left.role ∙ h.reader.0, left.numbers ∙ h.reader.1)
      (carries_later m.0.core v' m.1 h left (places plan number of_plan h.reader)))

  -- ---- which slots are carried ----

  -- a slot that isn't among them
  none_of : (slot : ℕ) (xs : List (ℕ × Cell P H)) → ((x : ℕ × Cell P H) → Contains xs x → x.0 ≢ slot) → times slot (slots_of xs) ≡ 0
  none_of slot [] other = refl
  none_of slot (x ∷ xs) other =
      let here = ap one_if (ne_eqb x.0 slot (other x (0, (omega arith), refl))) in
      let later = none_of slot xs (λ y among. other y (suc among.0, (let low = among.1 in omega arith), among.2)) in omega arith

  -- the book's place isn't a reader's own
  pub book_apart : (v : View) (carried : List (ℕ × Cell P H)) → CarriesPlaces home source plan number v carried → times (book_place plan.slots) (slots_of carried) ≡ 0
  book_apart v carried h = none_of (book_place plan.slots) carried (λ x among same. let own = h.only x among in let at = own.at in let inside = own.inside in omega arith)

  -- nor is a place at a slot where the reader has no handle
  pub place_free : (v : View) (carried : List (ℕ × Cell P H)) (slot reader : ℕ) → CarriesPlaces home source plan number v carried → reader < 16 → Rattle.pin_core.specs.Core.held_at slot v ≡ 0 → times (place slot reader) (slots_of carried) ≡ 0
  place_free v carried slot reader h low none = none_of (place slot reader) carried (λ x among same. let own = h.only x among in let at = own.at in let some_handle = own.some_handle in
      let there : slot_of x.0 ≡ slot = omega arith in let mine = ap (λ (k : ℕ). Rattle.pin_core.specs.Core.held_at k v) there in omega arith)

-- ---- a turn without a write ----

module _ {P H : Type 0} (home : P → H) (name_of : H → ℕ → List ℕ) (plan : Plan P) (number : ℕ) where
  -- what was carried before the turn stands behind the book's place
  pub carried_behind : (m m1 : Me (Cell P H) (Sitting P)) (book : Chronicle) → HoldsBook home name_of plan number m book m1 → rest m1.1 ≡ m.1
  carried_behind m m1 book held = ap (λ (x : Me (Cell P H) (Sitting P)). rest x.1) held.seat

  pub turn_seat : (m m1 m2 : Me (Cell P H) (Sitting P)) (book : Chronicle) (held : HoldsBook home name_of plan number m book m1) → TurnGiven m1 m2 → m2 ≡ (knowing (gave_turn (got_turn held.journal m.0.core)) m.0, m.1)
  turn_seat m m1 m2 book held given = given ∙ ap (λ (x : Me (Cell P H) (Sitting P)). (knowing (gave_turn x.0.core) x.0, rest x.1)) held.seat

  -- the same after a step in the turn that changes what the reader knows by f
  pub step_seat : (f : View → View) (m m1 m2 m3 : Me (Cell P H) (Sitting P)) (book : Chronicle) (held : HoldsBook home name_of plan number m book m1) → m2 ≡ (knowing (f m1.0.core) m1.0, m1.1) → TurnGiven m2 m3
      → m3 ≡ (knowing (gave_turn (f (got_turn held.journal m.0.core))) m.0, m.1)
  step_seat f m m1 m2 m3 book held step given = given ∙ (ap (λ (x : Me (Cell P H) (Sitting P)). (knowing (gave_turn x.0.core) x.0, rest x.1)) step
      ∙ ap (λ (x : Me (Cell P H) (Sitting P)). (knowing (gave_turn (f x.0.core)) x.0, rest x.1)) held.seat)

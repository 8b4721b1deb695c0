-- A pin of a reader: what it leaves in its hand where it holds the front, and where it missed.
use Rattle.std.proofs.Common.{◌≡◌, ◌≢◌, ℕ, ◌+◌, ◌/◌, ◌^◌, ◌<◌, List, [], ◌∷◌, ◌++◌, length, sym, refl, ap, ◌∙◌, subst, ⊎_elim, arith, Bool, true, false, ◌==◌, ◌||◌, ◌&&◌, ne_eqb, Some}
use Rattle.std.specs.Prelude.{slice_get}
use Rattle.std.specs.List.{Contains, remove, list_any}
use Rattle.std.proofs.lemmas.Bool.{cases_Bool, or_parts}
use Rattle.std.proofs.lemmas.List.{length-append}
use Rattle.std.proofs.lemmas.List.Elements.{Contains-append_left, Contains-push}
use Rattle.pin_book.specs.declared.write.Write.{Write}
use Rattle.pin_book.specs.Replay.{front_number, replays}
use Rattle.atomic_table.specs.Table.{Me}
use Rattle.pin_core.specs.declared.entry.Entry.{Entry}
use Rattle.pin_core.specs.declared.view.View.{View}
use Rattle.pin_core.specs.Core.{total, one_if}
use Rattle.pin_core.specs.Step.{new_entry, pinned, loaded, unpinned}
use Rattle.pin_core.specs.Packing.{place}
use Rattle.pin_table.specs.declared.cell.Cell.{Cell}
use Rattle.pin_table.specs.declared.sitting.Plan.{Plan}
use Rattle.pin_table.specs.declared.sitting.Sitting.{Sitting}
use Rattle.pin_table.specs.Carried.{slots_of}
use Rattle.pin_table.specs.Seat.{knowing}
use Rattle.pin_table.specs.Plays.{GoesOn, PinAdded, PinTaken, FrontLoaded}
use Rattle.pin_table.proofs.PlaceLemmas.{places_later}
use Rattle.pin_table.specs.Handles.{AreAllHeld, CarriesPlaces, PinMissed}
use Rattle.pin_table.proofs.ExchangeLemmas.{head_among, tail_among}
use Rattle.pin_table.proofs.HandleMoves.{added, added_holds, added_source, CarriesFor, carries_first, carries_further}

-- ---- pins at a slot ----

-- where no pin is at the slot, no handle is
pub none_there : (slot : ℕ) (es : List Entry) → list_any (λ (e : Entry). e.slot == slot) es ≡ false → total (λ (e : Entry). one_if ((e.slot == slot) && e.held)) es ≡ 0
none_there slot [] none = refl
none_there slot (e ∷ es) none =
    let parts = or_parts (e.slot == slot) (list_any (λ (x : Entry). x.slot == slot) es) none in let more = none_there slot es parts.1 in
    let here : one_if ((e.slot == slot) && e.held) ≡ 0 = rw parts.0 refl in omega arith

-- where one is, and all hold a front, a handle is
pub some_there : (slot : ℕ) (es : List Entry) → ((e : Entry) → Contains es e → e.held ≡ true) → list_any (λ (e : Entry). e.slot == slot) es ≡ true → 0 < total (λ (e : Entry). one_if ((e.slot == slot) && e.held)) es
some_there slot [] held some = absurd (cc)
some_there slot (e ∷ es) held some = ⊎_elim
    (λ (here : (e.slot == slot) ≡ true). let one : one_if ((e.slot == slot) && e.held) ≡ 1 = rw (here, held e (head_among e es)) refl in omega arith)
    (λ (else : (e.slot == slot) ≡ false). let later : list_any (λ (x : Entry). x.slot == slot) es ≡ true = sym (ap (λ b. b || list_any (λ (x : Entry). x.slot == slot) es) else) ∙ some in
    let more = some_there slot es (λ x among. held x (tail_among e es x among)) later in omega arith)
    (cases_Bool (e.slot == slot))

-- where all hold a front, there are as many handles as pins
pub all_counted : (es : List Entry) → ((e : Entry) → Contains es e → e.held ≡ true) → total (λ (e : Entry). one_if e.held) es ≡ length es
all_counted [] held = refl
all_counted (e ∷ es) held = let one = ap one_if (held e (head_among e es)) in let more = all_counted es (λ x among. held x (tail_among e es x among)) in omega arith

-- ---- the last pin ----

pub last_there : (es : List Entry) (e : Entry) → slice_get (es ++ e ∷ []) (length es) ≡ Some e
last_there [] e = refl
last_there (x ∷ es) e = last_there es e

pub last_removed : (es : List Entry) (e : Entry) → remove (es ++ e ∷ []) (length es) ≡ es
last_removed [] e = refl
last_removed (x ∷ es) e = ap (λ (l : List Entry). x ∷ l) (last_removed es e)

pub same_entry : (e : Entry) (slot position : ℕ) (held : Bool) → slot ≡ e.slot → position ≡ e.position → e.held ≡ held → e ≡ record { slot = slot; position = position; held = held }
same_entry e slot position held at when hold = λ i. record { slot = sym at i; position = sym when i; held = hold i }

-- what a step tells of a reader with one pin more holds without that pin
pub goes_on_without : (slots room number shown : ℕ) (v : View) (journal : List Write) → GoesOn slots room number (pinned slots shown v) journal → GoesOn slots room number v journal
goes_on_without slots room number shown v journal g = record {
  grows = g.grows;
  replay = g.replay;
  fits = g.fits;
  own = g.own;
  handles = λ e among. g.handles e (Contains-append_left v.entries (new_entry slots shown v ∷ []) e among);
  strays = λ e among. g.strays e (Contains-append_left v.entries (new_entry slots shown v ∷ []) e among);
  few = (let few = g.few in let long = length-append v.entries (new_entry slots shown v ∷ []) in omega arith);
}

-- a pin that missed tells of more writes
pub missed_later : (slots room number shown : ℕ) (v : View) (journal : List Write) → shown ≢ front_number slots v.seen → GoesOn slots room number (pinned slots shown v) journal → length v.seen < length journal
missed_later slots room number shown v journal other g = g.strays (new_entry slots shown v) (Contains-push v.entries (new_entry slots shown v)) (ne_eqb shown (front_number slots v.seen) other)

-- ---- a pin that holds the front ----

module _ {P H : Type 0} (home : P → H) (source : P → ℕ) (plan : Plan P) (number : ℕ) (small : number < 16) (m : Me (Cell P H) (Sitting P)) (found : ℕ) (m' : Me (Cell P H) (Sitting P))
    (some : 0 < plan.slots) (replay : replays plan.slots m.0.core.seen ≡ true) (held : AreAllHeld plan.slots m.0.core) (carries : CarriesPlaces home source plan number m.0.core m.1)
    (step : PinAdded home source plan number m found m') (shown : found / 2 ^ 32 ≡ front_number plan.slots m.0.core.seen) where
  abbrev v : View
  v = m.0.core

  abbrev e : Entry
  e = added plan.slots v some replay

  -- no pin is there yet: the reader takes its place
  pub first_taken : list_any (λ (x : Entry). x.slot == e.slot) v.entries ≡ false → slots_of m'.1 ≡ place e.slot number ∷ slots_of m.1
  first_taken none = ap slots_of (step.first shown (none_there e.slot v.entries none)).is

  -- one is: it has its place already
  pub further_same : list_any (λ (x : Entry). x.slot == e.slot) v.entries ≡ true → m'.1 ≡ m.1
  further_same there = (step.further (some_there e.slot v.entries (λ x among. (held x among).held) there)).1

  pub pin_carries : CarriesFor home source plan number small v e m'.1
  pin_carries = ⊎_elim
      (λ (there : list_any (λ (x : Entry). x.slot == e.slot) v.entries ≡ true). let more = some_there e.slot v.entries (λ x among. (held x among).held) there in
      subst (CarriesFor home source plan number small v e) (sym (step.further more).1)
      (carries_further home source plan number small v e some replay held (added_holds plan.slots v some replay) m.1 more carries))
      (λ (none : list_any (λ (x : Entry). x.slot == e.slot) v.entries ≡ false). let nothing = none_there e.slot v.entries none in
      carries_first home source plan number small v e some replay held (added_holds plan.slots v some replay) m.1 m'.1 (front_number plan.slots v.seen) nothing (sym (added_source plan.slots v some replay)) carries (step.first shown nothing))
      (cases_Bool (list_any (λ (x : Entry). x.slot == e.slot) v.entries))

-- ---- a pin that missed ----

module _ {P H : Type 0} (home : P → H) (source : P → ℕ) (plan : Plan P) (number : ℕ) (m m1 m2 m3 : Me (Cell P H) (Sitting P)) (found word showed : ℕ) (e : Entry)
    (step : PinAdded home source plan number m found m1) (loads : FrontLoaded plan number m1 word m2) (takes : PinTaken home source plan (length m.0.core.entries) e m2 showed m3)
    (other : found / 2 ^ 32 ≢ front_number plan.slots m.0.core.seen) (no_hold : e.held ≡ false) where
  abbrev pinned_view : View
  pinned_view = pinned plan.slots (found / 2 ^ 32) m.0.core

  abbrev stray : Entry
  stray = new_entry plan.slots (found / 2 ^ 32) m.0.core

  goes : GoesOn plan.slots plan.room number pinned_view loads.journal
  goes = subst (λ (w : Sitting P). GoesOn plan.slots plan.room number w.core loads.journal) step.view loads.goes_on

  missed_view : m3.0 ≡ knowing (record (loaded loads.journal m.0.core) { pins = m.0.core.pins + 1 }) m.0
  missed_view =
      takes.view
      ∙ ap (λ (x : Me (Cell P H) (Sitting P)). knowing (unpinned (length m.0.core.entries) x.0.core) x.0) loads.seat
      ∙ ap (λ (w : Sitting P). knowing (unpinned (length m.0.core.entries) (loaded loads.journal w.core)) w) step.view
      ∙ ap (λ (es : List Entry). knowing (record (loaded loads.journal m.0.core) { entries = es; pins = m.0.core.pins + 1 }) m.0) (last_removed m.0.core.entries stray)

  pub missed_carried : m3.1 ≡ m.1
  missed_carried = takes.stray no_hold ∙ ap (λ (x : Me (Cell P H) (Sitting P)). x.1) loads.seat ∙ step.stray other

  pub missed : PinMissed plan number m word m3
  missed = record {
    journal = loads.journal;
    view = missed_view;
    goes_on = goes_on_without plan.slots plan.room number (found / 2 ^ 32) m.0.core loads.journal goes;
    later = missed_later plan.slots plan.room number (found / 2 ^ 32) m.0.core loads.journal other goes;
    w = loads.w;
    n = loads.n;
    slot = loads.slot;
  }

  pub missed_places : AreAllHeld plan.slots m.0.core → CarriesPlaces home source plan number m.0.core m.1 → CarriesPlaces home source plan number m3.0.core m3.1
  missed_places held h =
      subst (λ (w : Sitting P). CarriesPlaces home source plan number w.core m3.1) (sym missed_view) (subst (CarriesPlaces home source plan number (record (loaded loads.journal m.0.core) { pins = m.0.core.pins + 1 })) (sym missed_carried)
      (places_later home source plan number m.0.core (record (loaded loads.journal m.0.core) { pins = m.0.core.pins + 1 }) (λ x among. (held x among).told) goes.grows m.1 refl h))

-- The places that a reader carries, as it pins, releases and sees more of the journal.
use Rattle.std.proofs.Common.{◌≡◌, ℕ, zero, suc, ◌≤◌, List, [], ◌∷◌, length, take, sym, refl, ap, ◌∙◌, subst, arith, true}
use Rattle.std.proofs.lemmas.List.{take-take}
use Rattle.std.specs.List.{Contains, All}
use Rattle.pin_book.specs.declared.write.Write.{Write}
use Rattle.pin_book.specs.Replay.{kept_number, front_number, front_slot}
use Rattle.pin_core.specs.declared.entry.Entry.{Entry}
use Rattle.pin_core.specs.declared.view.View.{View}
use Rattle.pin_core.specs.Core.{held_at, total}
use Rattle.pin_core.specs.Lawful.{entry_number}
use Rattle.pin_table.specs.declared.cell.Cell.{Cell}
use Rattle.pin_table.specs.declared.cell.Cell.TheVariants.{Empty, Place, Desk}
use Rattle.pin_table.specs.declared.sitting.Plan.{Plan}
use Rattle.pin_table.specs.Sources.{source_of}
use Rattle.pin_table.specs.Plays.{GoesOn}
use Rattle.pin_table.specs.Handles.{HoldsFront, IsOf, IsShelfAt, IsOwnPlace, CarriesPlaces, is_place, shelf_in, slot_of, copies_out}

-- a front part of what was seen stays
pub take_seen : (n : ℕ) (seen later : List Write) → n ≤ length seen → take (length seen) later ≡ seen → take n later ≡ take n seen
take_seen n seen later within grows = sym (take-take n (length seen) later within) ∙ ap (take n) grows

-- who has seen more has seen at least as many writes
pub no_shorter : (seen later : List Write) → take (length seen) later ≡ seen → length seen ≤ length later
no_shorter seen later grows = let long = ap (λ (l : List Write). length l) (sym grows) in let cut = length-take-at_most (length seen) later in omega arith
  where
    length-take-at_most : (n : ℕ) (xs : List Write) → length (take n xs) ≤ length xs
    length-take-at_most zero xs = omega arith
    length-take-at_most (suc n) [] = omega arith
    length-take-at_most (suc n) (x ∷ xs) = let more = length-take-at_most n xs in omega arith

-- what a pin holds stays as more of the journal is seen, where its slot still keeps it
pub holds_later : (slots : ℕ) (seen later : List Write) (e : Entry) → HoldsFront slots seen e → take (length seen) later ≡ seen → kept_number slots later e.slot ≡ entry_number slots later e → HoldsFront slots later e
holds_later slots seen later e h grows kept = record {
  held = h.held;
  told = (let told = h.told in let longer = no_shorter seen later grows in omega arith);
  slot = h.slot ∙ ap (front_slot slots) (sym (take_seen e.position seen later h.told grows));
  inside = h.inside;
  kept = kept;
}

-- the same for all pins of a reader, by what a step tells
pub all_hold : (slots room number : ℕ) (v : View) (journal : List Write) → GoesOn slots room number v journal → ((e : Entry) → Contains v.entries e → HoldsFront slots v.seen e)
    → (e : Entry) → Contains v.entries e → HoldsFront slots journal e
all_hold slots room number v journal goes h e among = let mine = h e among in holds_later slots v.seen journal e mine goes.grows (goes.handles e among mine.held)

-- what is a place holds a shelf
pub place_is : {P H : Type 0} (cell : Cell P H) → is_place cell ≡ true → cell ≡ Place (shelf_in cell)
place_is Empty other = absurd (cc)
place_is (Place shelf) is = refl
place_is (Desk book) other = absurd (cc)

module _ {P H : Type 0} (home : P → H) (source : P → ℕ) (plan : Plan P) (number : ℕ) where
  -- ---- more of the journal is seen ----

  module _ (v v' : View) (told : (e : Entry) → Contains v.entries e → e.position ≤ length v.seen) (grows : take (length v.seen) v'.seen ≡ v.seen) where
    -- the same view with the pins of the first
    abbrev grown : View
    grown = record v' { entries = v.entries }

    grown_shelf : (slot : ℕ) (cell : Cell P H) → IsShelfAt home source plan v slot cell → IsShelfAt home source plan grown slot cell
    grown_shelf slot cell h = record {
      place = h.place;
      many = h.many;
      alike = λ e among at. subst (λ (l : List Write). All (IsOf home source (home plan.first) (source_of l (front_number plan.slots l))) (shelf_in cell)) (sym (take_seen e.position v.seen v'.seen (told e among) grows)) (h.alike e among at);
    }

    pub places_later : (carried : List (ℕ × Cell P H)) → v'.entries ≡ v.entries → CarriesPlaces home source plan number v carried → CarriesPlaces home source plan number v' carried
    places_later carried same h = subst (λ (es : List Entry). CarriesPlaces home source plan number (record v' { entries = es }) carried) (sym same) record {
      once = h.once;
      only = λ x among. let own = h.only x among in record {
        at = own.at;
        inside = own.inside;
        some_handle = own.some_handle;
        shelf = grown_shelf (slot_of x.0) x.1 own.shelf;
      };
      out = h.out;
    }

  -- ---- how many places are carried ----

  -- a reader without pins carries nothing
  pub nothing_carried : (v : View) (carried : List (ℕ × Cell P H)) → CarriesPlaces home source plan number v carried → v.entries ≡ [] → carried ≡ []
  nothing_carried v [] h none = refl
  nothing_carried v (x ∷ xs) h none =
      let own = h.only x (0, (omega arith), refl) in let some_pin = own.some_handle in
      absurd (let no_pin = ap (λ (es : List Entry). held_at (slot_of x.0) (record v { entries = es })) none in omega arith)

  -- it carries no more places than it has pins
  pub few_carried : (v : View) (carried : List (ℕ × Cell P H)) → CarriesPlaces home source plan number v carried → length carried ≤ length v.entries
  few_carried v carried h = let all = h.out in let some_out = each_out carried h.only in omega arith
    where
      each_out : (xs : List (ℕ × Cell P H)) → ((x : ℕ × Cell P H) → Contains xs x → IsOwnPlace home source plan number v x) → length xs ≤ total copies_out xs
      each_out [] own = omega arith
      each_out (x ∷ xs) own =
          let mine = own x (0, (omega arith), refl) in let some_handle = mine.some_handle in let many = mine.shelf.many in
          let more = each_out xs (λ y among. own y (suc among.0, (let low = among.1 in omega arith), among.2)) in omega arith

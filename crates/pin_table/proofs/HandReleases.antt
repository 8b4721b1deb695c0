-- A release: what it asks of a reader's hand, and what it leaves there.
use Rattle.std.proofs.Common.{◌≡◌, ◌≢◌, ◌⊎◌, ℕ, suc, ◌+◌, ◌-◌, ◌*◌, ◌/◌, ◌<◌, List, [], ◌∷◌, ◌++◌, length, take, drop, sym, refl, ap, ◌∙◌, subst, ⊎_elim, arith, true, false, ◌==◌, ◌&&◌, eq-eqb, ne_eqb, Some}
use Rattle.std.specs.Prelude.{nat_lt, slice_get}
use Rattle.std.specs.List.{Contains, All, remove, list_any}
use Rattle.std.proofs.lemmas.Bool.{cases_eq}
use Rattle.std.proofs.lemmas.Option.{slice_get_within, get_or_from_slice_get}
use Rattle.std.proofs.lemmas.List.Edits.{length-remove}
use Rattle.std.proofs.lemmas.List.Elements.{All-append, All-take, All-drop, All-cons, All-contains, All-contains_itself}
use Rattle.std.proofs.lemmas.List.Folds.{list_any_at}
use Rattle.atomic_table.specs.Table.{rest}
use Rattle.pin_book.specs.Replay.{replays}
use Rattle.pin_core.specs.declared.entry.Entry.{Entry}
use Rattle.pin_core.specs.declared.view.View.{View}
use Rattle.pin_core.specs.Core.{times, total, one_if, held_at}
use Rattle.pin_core.specs.Lawful.{entry_number}
use Rattle.pin_core.specs.Packing.{place}
use Rattle.pin_core.proofs.Sums.{total-remove}
use Rattle.pin_table.specs.declared.cell.Cell.{Cell}
use Rattle.pin_table.specs.declared.cell.Cell.TheVariants.{Place}
use Rattle.pin_table.specs.declared.shelf.TheConstants.{SHELF_COPIES}
use Rattle.pin_table.specs.declared.sitting.Plan.{Plan}
use Rattle.pin_table.specs.Carried.{slots_of}
use Rattle.pin_table.specs.Shelf.{AreOf}
use Rattle.pin_table.specs.Plays.{MayGivePlace}
use Rattle.pin_table.specs.Handles.{HoldsFront, AreAllHeld, entry_source, shelf_in, slot_of, copies_out, IsOf, IsOwnPlace, CarriesPlaces, HasRoomAt, CopyPut}
use Rattle.pin_table.proofs.ExchangeLemmas.{same_slots, other_sum, was_carried, now_carried, others_same}
use Rattle.pin_table.proofs.HandleMoves.{source_now, same_source, some_more, of_all, slot_back}
use Rattle.pin_table.proofs.HandPins.{none_there, some_there}

-- what is left after one is taken out was there
pub left_among : {X : Type 0} (xs : List X) (i : ℕ) (x : X) → Contains (remove xs i) x → Contains xs x
left_among xs i x among = All-contains (Contains xs) (remove xs i) x (All-append (Contains xs) (take i xs) (drop (suc i) xs) (All-take (Contains xs) i xs (All-contains_itself xs)) (All-drop (Contains xs) (suc i) xs (All-contains_itself xs))) among

module _ {P H : Type 0} (home : P → H) (source : P → ℕ) (plan : Plan P) (number : ℕ) (small : number < 16) (v : View) (e : Entry) (i : ℕ) (some : 0 < plan.slots) (replay : replays plan.slots v.seen ≡ true) (held : AreAllHeld plan.slots v)
    (there : slice_get v.entries i ≡ Some e) (c : List (ℕ × Cell P H)) (h : CarriesPlaces home source plan number v c) where
  abbrev at : ℕ
  at = place e.slot number

  among : Contains v.entries e
  among = (i, slice_get_within v.entries i e there, get_or_from_slice_get v.entries i e e there)

  pub holds : HoldsFront plan.slots v.seen e
  holds = held e among

  pub held_some : 0 < held_at e.slot v
  held_some = some_there e.slot v.entries (λ x here. (held x here).held)
      (list_any_at (λ (x : Entry). x.slot == e.slot) v.entries i e (slice_get_within v.entries i e there) (eq-eqb _ e.slot (ap (λ (x : Entry). x.slot) (get_or_from_slice_get v.entries i e e there))))

  -- how many handles are there beside the pin
  beside : total (λ (x : Entry). one_if ((x.slot == e.slot) && x.held)) (remove v.entries i) + 1 ≡ held_at e.slot v
  beside =
      let sum = total-remove (λ (x : Entry). one_if ((x.slot == e.slot) && x.held)) v.entries i e (slice_get_within v.entries i e there) in
      let one = ap (λ (x : Entry). one_if ((x.slot == e.slot) && x.held)) (get_or_from_slice_get v.entries i e e there) in
      let held_one : one_if ((e.slot == e.slot) && e.held) ≡ 1 = rw (eq-eqb e.slot e.slot refl, holds.held) refl in omega arith

  -- whether it is the last one there
  pub is_last_there : list_any (λ (x : Entry). x.slot == e.slot) (remove v.entries i) ≡ false → held_at e.slot v ≡ 1
  is_last_there none = let nothing = none_there e.slot (remove v.entries i) none in let all = beside in omega arith

  pub has_others_there : list_any (λ (x : Entry). x.slot == e.slot) (remove v.entries i) ≡ true → 1 < held_at e.slot v
  has_others_there others = let some_other = some_there e.slot (remove v.entries i) (λ x stands. (held x (left_among v.entries i x stands)).held) others in let all = beside in omega arith

  pub own_once : times at (slots_of c) ≡ 1
  own_once = h.once e.slot holds.inside ∙ some_more (held_at e.slot v) held_some

  -- a cell that is carried at the pin's place
  own_of : (cell : Cell P H) → Contains c (at, cell) → IsOwnPlace home source plan number v (at, cell)
  own_of cell here = h.only (at, cell) here

  many_of : (cell : Cell P H) → Contains c (at, cell) → length (shelf_in cell) + held_at e.slot v ≡ SHELF_COPIES
  many_of cell here = subst (λ n. length (shelf_in cell) + held_at n v ≡ SHELF_COPIES) (slot_back home source plan number small e.slot) (own_of cell here).shelf.many

  alike_of : (cell : Cell P H) → Contains c (at, cell) → (x : Entry) → Contains v.entries x → x.slot ≡ e.slot → All (IsOf home source (home plan.first) (entry_source plan.slots v.seen x)) (shelf_in cell)
  alike_of cell here x stands same = (own_of cell here).shelf.alike x stands (same ∙ sym (slot_back home source plan number small e.slot))

  module _ (version : P) (of : IsOf home source (home plan.first) (entry_source plan.slots v.seen e) version) where
    pub has_room : HasRoomAt home source at version c
    has_room cell here = (
      (own_of cell here).shelf.place,
      (let many = many_of cell here in let some_held = held_some in omega arith),
      subst (λ hs. AreOf home source hs (source version) (shelf_in cell)) (sym of.0) (subst (λ src. AreOf home source (home plan.first) src (shelf_in cell)) (sym of.1)
          (of_all home source (home plan.first) (entry_source plan.slots v.seen e) (shelf_in cell) (alike_of cell here e among refl))),
    )

    module _ (c1 : List (ℕ × Cell P H)) (put : CopyPut at version c c1) where
      abbrev full : Cell P H
      full = Place (version ∷ put.others)

      here : Contains c (at, Place put.others)
      here = was_carried at (Place put.others) full c c1 put.is

      many : length put.others + held_at e.slot v ≡ SHELF_COPIES
      many = many_of (Place put.others) here

      -- all copies there are of the version of each pin there
      pub all_alike : (x : Entry) → Contains v.entries x → x.slot ≡ e.slot → All (IsOf home source (home plan.first) (entry_source plan.slots v.seen x)) (version ∷ put.others)
      all_alike x stands same = All-cons (IsOf home source (home plan.first) (entry_source plan.slots v.seen x)) version put.others
          (of.0, of.1 ∙ same_source plan.slots v.seen e x some replay holds (held x stands) (sym same))
          (alike_of (Place put.others) here x stands same)

      pub may_give : held_at e.slot v ≡ 1 → MayGivePlace home source plan v.seen (entry_number plan.slots v.seen e) at c1
      may_give last = record {
        cell = full;
        stocked = record {
          shelf = version ∷ put.others;
          is = refl;
          full = (let all = many in omega arith);
          alike = subst (λ src. AreOf home source (home plan.first) src (version ∷ put.others)) (source_now plan.slots v.seen e some replay holds.told)
              (of_all home source (home plan.first) (entry_source plan.slots v.seen e) (version ∷ put.others) (all_alike e among refl));
        };
        is = put.is.is ∙ ap (λ l. (at, full) ∷ l) (sym (ap rest put.is.is));
      }

      -- the view without the pin
      module _ (v' : View) (seen_same : v'.seen ≡ v.seen) (entries_are : v'.entries ≡ remove v.entries i) where
        held_then : (slot : ℕ) → held_at slot v' + one_if (e.slot == slot) ≡ held_at slot v
        held_then slot =
            let now = ap (total (λ (x : Entry). one_if ((x.slot == slot) && x.held))) entries_are in
            let sum = total-remove (λ (x : Entry). one_if ((x.slot == slot) && x.held)) v.entries i e (slice_get_within v.entries i e there) in
            let one = ap (λ (x : Entry). one_if ((x.slot == slot) && x.held)) (get_or_from_slice_get v.entries i e e there) in
            let held_one : one_if ((e.slot == slot) && e.held) ≡ one_if (e.slot == slot) = rw holds.held (and_true (e.slot == slot)) in omega arith
          where
            and_true : (b : Rattle.std.proofs.Common.Bool) → one_if (b && true) ≡ one_if b
            and_true true = refl
            and_true false = refl

        stayed : (x : Entry) → Contains v'.entries x → Contains v.entries x
        stayed x stands = left_among v.entries i x (subst (λ l. Contains l x) entries_are stands)

        src_now : (x : Entry) → entry_source plan.slots v'.seen x ≡ entry_source plan.slots v.seen x
        src_now x = ap (λ l. entry_source plan.slots l x) seen_same

        fewer : length v'.entries + 1 ≡ length v.entries
        fewer = let less = length-remove v.entries i (slice_get_within v.entries i e there) in let long = ap (λ (l : List Entry). length l) entries_are in omega arith

        -- what stands at another slot
        apart : (x : ℕ × Cell P H) → IsOwnPlace home source plan number v x → x.0 ≢ at → IsOwnPlace home source plan number v' x
        apart x own other =
            let no_slot : e.slot ≢ slot_of x.0 = λ is. other (own.at ∙ ap (λ m. place m number) (sym is)) in
            let same : held_at (slot_of x.0) v' ≡ held_at (slot_of x.0) v = (let then = held_then (slot_of x.0) in let none = ap one_if (ne_eqb e.slot (slot_of x.0) no_slot) in omega arith) in record {
              at = own.at;
              inside = own.inside;
              some_handle = (let some_handle = own.some_handle in omega arith);
              shelf = record {
                place = own.shelf.place;
                many = (let all = own.shelf.many in omega arith);
                alike = λ y stands is. subst (λ src. All (IsOf home source (home plan.first) src) (shelf_in x.1)) (sym (src_now y)) (own.shelf.alike y (stayed y stands) is);
              };
            }

        -- the other places are carried as before
        once_else : (slot : ℕ) → slot < plan.slots → e.slot ≢ slot → times (place slot number) (slots_of c1) ≡ one_if (nat_lt 0 (held_at slot v'))
        once_else slot inside no_slot =
            let same : held_at slot v ≡ held_at slot v' = (let then = held_then slot in let none = ap one_if (ne_eqb e.slot slot no_slot) in omega arith) in
            same_slots at (Place put.others) full c c1 put.is (place slot number) ∙ h.once slot inside ∙ ap (λ n. one_if (nat_lt 0 n)) same

        -- the last handle at its slot
        pub carries_after_last : held_at e.slot v ≡ 1 → CarriesPlaces home source plan number v' (put.is.behind ++ put.is.before)
        carries_after_last last = record {
          once = λ slot inside. let head = ap (λ l. times (place slot number) (slots_of l)) put.is.is in ⊎_elim
              (λ (is : e.slot ≡ slot). let one = ap one_if (eq-eqb at (place slot number) (ap (λ m. place m number) is)) in let before = same_slots at (Place put.others) full c c1 put.is (place slot number) in
              let once = ap (λ m. times (place m number) (slots_of c)) (sym is) ∙ own_once in
              let then = held_then slot in let mine = ap one_if (eq-eqb e.slot slot is) in let all = ap (λ m. held_at m v) (sym is) in
              let nothing : held_at slot v' ≡ 0 = (omega arith) in let none = ap (λ n. one_if (nat_lt 0 n)) nothing in omega arith)
              (λ (else : e.slot ≢ slot). let none = ap one_if (ne_eqb at (place slot number) (λ same. else (omega arith))) in let before = once_else slot inside else in omega arith)
              (cases_eq e.slot slot);
          only = λ x stands. let was = others_same at (Place put.others) full c c1 put.is own_once x stands in apart x (h.only x was.0) was.1;
          out = (let sum = other_sum at (Place put.others) full c c1 put.is copies_out in let head = ap (total copies_out) put.is.is in let all = h.out in let less = fewer in let shelf = many in omega arith);
        }

        -- one of several
        pub carries_after_one : 1 < held_at e.slot v → CarriesPlaces home source plan number v' c1
        carries_after_one several = record {
          once = λ slot inside. ⊎_elim
              (λ (is : e.slot ≡ slot). let then = held_then slot in let mine = ap one_if (eq-eqb e.slot slot is) in let all = ap (λ m. held_at m v) (sym is) in
              same_slots at (Place put.others) full c c1 put.is (place slot number) ∙ ap (λ m. times (place m number) (slots_of c)) (sym is) ∙ own_once ∙ sym (some_more (held_at slot v') (omega arith)))
              (λ (else : e.slot ≢ slot). once_else slot inside else)
              (cases_eq e.slot slot);
          only = λ x stands. ⊎_elim
              (λ head. subst (IsOwnPlace home source plan number v') head here_now)
              (λ tail. apart x (h.only x tail.0) tail.1)
              (now_carried at (Place put.others) full c c1 put.is own_once x stands);
          out = (let sum = other_sum at (Place put.others) full c c1 put.is copies_out in let all = h.out in let less = fewer in let shelf = many in omega arith);
        }
          where
            here_now : IsOwnPlace home source plan number v' (at, full)
            here_now = let back = slot_back home source plan number small e.slot in let then = held_then e.slot in let one = ap one_if (eq-eqb e.slot e.slot refl) in
                let same : held_at (slot_of at) v' ≡ held_at e.slot v' = ap (λ m. held_at m v') back in record {
                  at = ap (λ m. place m number) (sym back);
                  inside = (let inside = holds.inside in omega arith);
                  some_handle = (omega arith);
                  shelf = record {
                    place = refl;
                    many = (let all = many in omega arith);
                    alike = λ y stands is. subst (λ src. All (IsOf home source (home plan.first) src) (version ∷ put.others)) (sym (src_now y)) (all_alike y (stayed y stands) (is ∙ back));
                  };
                }

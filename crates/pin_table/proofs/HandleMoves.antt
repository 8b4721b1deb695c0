-- How pins that are added and taken off change the places that a reader carries.
use Rattle.std.proofs.Common.{◌≡◌, ◌≢◌, ◌⊎◌, ℕ, ◌+◌, ◌<◌, ◌≤◌, List, [], ◌∷◌, ◌++◌, length, take, sym, refl, ap, ◌∙◌, subst, ⊎_elim, arith, Bool, true, false, ◌==◌, ◌&&◌, eq-eqb, ne_eqb}
use Rattle.std.specs.Prelude.{nat_lt}
use Rattle.std.specs.List.{Contains, All}
use Rattle.std.proofs.lemmas.Bool.{cases_eq, cases_Bool, lt-ltb}
use Rattle.std.proofs.lemmas.List.{take_all, length-take-le, length-append}
use Rattle.std.proofs.lemmas.List.Elements.{All-nil, All-cons, All-head, All-tail, Contains-push_cases}
use Rattle.pin_book.specs.declared.write.Write.{Write}
use Rattle.pin_book.specs.Replay.{front_number, front_slot, kept_number, replays}
use Rattle.pin_book.proofs.Journals.{front_slot_inside, front_kept, replays_take}
use Rattle.pin_core.specs.declared.entry.Entry.{Entry}
use Rattle.pin_core.specs.declared.view.View.{View}
use Rattle.pin_core.specs.Core.{times, total, one_if, held_at, held_count}
use Rattle.pin_core.specs.Lawful.{entry_number}
use Rattle.pin_core.specs.Step.{new_entry}
use Rattle.pin_core.specs.Packing.{place}
use Rattle.pin_core.proofs.Sums.{total-append}
use Rattle.pin_table.specs.declared.cell.Cell.{Cell}
use Rattle.pin_table.specs.declared.cell.Cell.TheVariants.{Place}
use Rattle.pin_table.specs.declared.shelf.TheConstants.{SHELF_COPIES}
use Rattle.pin_table.specs.declared.sitting.Plan.{Plan}
use Rattle.pin_table.specs.Carried.{slots_of}
use Rattle.pin_table.specs.Shelf.{AreOf}
use Rattle.pin_table.specs.Sources.{source_of}
use Rattle.pin_table.specs.Plays.{TakesPlace}
use Rattle.pin_table.specs.Handles.{HoldsFront, AreAllHeld, entry_source, is_place, shelf_in, slot_of, copies_out, IsOf, IsOwnPlace, CarriesPlaces, HasCopyAt, CopyTaken}
use Rattle.pin_table.proofs.SourceLemmas.{source_kept, front_some}
use Rattle.pin_table.proofs.PinMoves.{held_entry}
use Rattle.pin_table.proofs.ExchangeLemmas.{among_one_more, same_slots, other_sum, was_carried, now_carried}

-- ---- sources ----

-- the source of a pin's version, by all that the reader has seen
pub source_now : (slots : ℕ) (seen : List Write) (e : Entry) → 0 < slots → replays slots seen ≡ true → e.position ≤ length seen → entry_source slots seen e ≡ source_of seen (entry_number slots seen e)
source_now slots seen e some replay told =
    let part : List Write = take e.position seen in let again = replays_take slots seen e.position replay in
    sym (source_kept slots (front_number slots part) seen part some replay (ap (λ (n : ℕ). take n seen) (length-take-le e.position seen told)) (front_some slots part some again) (omega arith))

-- pins at one slot are of one version
pub same_source : (slots : ℕ) (seen : List Write) (e other : Entry) → 0 < slots → replays slots seen ≡ true → HoldsFront slots seen e → HoldsFront slots seen other → e.slot ≡ other.slot → entry_source slots seen e ≡ entry_source slots seen other
same_source slots seen e other some replay h g same =
    source_now slots seen e some replay h.told
    ∙ ap (source_of seen) (sym h.kept ∙ ap (kept_number slots seen) same ∙ g.kept)
    ∙ sym (source_now slots seen other some replay g.told)

-- the pin that is added at the front
module _ (slots : ℕ) (v : View) (some : 0 < slots) (replay : replays slots v.seen ≡ true) where
  abbrev pub added : Entry
  added = new_entry slots (front_number slots v.seen) v

  whole : take (length v.seen) v.seen ≡ v.seen
  whole = take_all (length v.seen) v.seen (omega arith)

  pub added_holds : HoldsFront slots v.seen added
  added_holds = record {
    held = eq-eqb (front_number slots v.seen) (front_number slots v.seen) refl;
    told = (omega arith);
    slot = ap (front_slot slots) (sym whole);
    inside = front_slot_inside slots v.seen some replay;
    kept = front_kept slots v.seen some replay ∙ ap (front_number slots) (sym whole);
  }

  pub added_source : entry_source slots v.seen added ≡ source_of v.seen (front_number slots v.seen)
  added_source = ap (λ (l : List Write). source_of l (front_number slots l)) whole

-- ---- counts ----

-- no more handles stand at one slot than in all
pub held_le : (slot : ℕ) (entries : List Entry) → total (λ (e : Entry). one_if ((e.slot == slot) && e.held)) entries ≤ total (λ (e : Entry). one_if e.held) entries
held_le slot [] = omega arith
held_le slot (e ∷ es) = let more = held_le slot es in let here = both_le (e.slot == slot) e.held in omega arith
  where
    both_le : (a b : Bool) → one_if (a && b) ≤ one_if b
    both_le true b = omega arith
    both_le false true = omega arith
    both_le false false = omega arith

-- a held pin more
pub held_more : (slot : ℕ) (entries : List Entry) (e : Entry) → e.held ≡ true → total (λ (x : Entry). one_if ((x.slot == slot) && x.held)) (entries ++ e ∷ []) ≡ total (λ (x : Entry). one_if ((x.slot == slot) && x.held)) entries + one_if (e.slot == slot)
held_more slot entries e held =
    let sum = total-append (λ (x : Entry). one_if ((x.slot == slot) && x.held)) entries (e ∷ []) in
    let one : one_if ((e.slot == slot) && e.held) ≡ one_if (e.slot == slot) = rw held (and_true (e.slot == slot)) in omega arith
  where
    and_true : (b : Bool) → one_if (b && true) ≡ one_if b
    and_true true = refl
    and_true false = refl

pub some_more : (n : ℕ) → 0 < n → one_if (nat_lt 0 n) ≡ 1
some_more n some = ap one_if (lt-ltb 0 n some)

module _ {P H : Type 0} (home : P → H) (source : P → ℕ) where
  -- what is said of a shelf in two ways
  pub all_of : (h : H) (src : ℕ) (shelf : List P) → AreOf home source h src shelf → All (IsOf home source h src) shelf
  all_of h src [] of = All-nil (IsOf home source h src)
  all_of h src (x ∷ xs) of = All-cons (IsOf home source h src) x xs (of.0, of.1) (all_of h src xs of.2)

  pub of_all : (h : H) (src : ℕ) (shelf : List P) → All (IsOf home source h src) shelf → AreOf home source h src shelf
  of_all h src [] all = tt
  of_all h src (x ∷ xs) all = let here = All-head (IsOf home source h src) x xs all in (here.0, here.1, of_all h src xs (All-tail (IsOf home source h src) x xs all))

  module _ (plan : Plan P) (number : ℕ) (small : number < 16) where
    pub slot_back : (slot : ℕ) → slot_of (place slot number) ≡ slot
    slot_back slot = omega arith

    -- the place of this pin, while as many copies are out of it as the reader has other pins there
    pub record IsStockedFor (v : View) (e : Entry) (cell : Cell P H) : Type 0 where
      pub place : is_place cell ≡ true
      pub many : length (shelf_in cell) + held_at e.slot v ≡ SHELF_COPIES
      pub alike : All (IsOf home source (home plan.first) (entry_source plan.slots v.seen e)) (shelf_in cell)

    -- what the reader carries once the pin is added, and before a copy is taken
    pub record CarriesFor (v : View) (e : Entry) (c : List (ℕ × Cell P H)) : Type 0 where
      pub once : (slot : ℕ) → slot < plan.slots → times (place slot number) (slots_of c) ≡ one_if (nat_lt 0 (held_at slot v + one_if (e.slot == slot)))
      pub others : (x : ℕ × Cell P H) → Contains c x → x.0 ≢ place e.slot number → IsOwnPlace home source plan number v x
      pub here : (x : ℕ × Cell P H) → Contains c x → x.0 ≡ place e.slot number → IsStockedFor v e x.1
      pub out : total copies_out c ≡ length v.entries

    module _ (v : View) (e : Entry) (some : 0 < plan.slots) (replay : replays plan.slots v.seen ≡ true) (held : AreAllHeld plan.slots v) (holds : HoldsFront plan.slots v.seen e) where
      -- an own place that is this pin's
      mine : (x : ℕ × Cell P H) → IsOwnPlace home source plan number v x → x.0 ≡ place e.slot number → slot_of x.0 ≡ e.slot
      mine x own is = ap slot_of is ∙ slot_back e.slot

      -- the reader has a handle there already
      pub carries_further : (c : List (ℕ × Cell P H)) → 0 < held_at e.slot v → CarriesPlaces home source plan number v c → CarriesFor v e c
      carries_further c more h = record {
        once = λ slot inside. h.once slot inside ∙ ⊎_elim
            (λ (is : (e.slot == slot) ≡ true). some_more (held_at slot v) (subst (λ n. 0 < held_at n v) (eqb_true e.slot slot is) more) ∙ sym (some_more (held_at slot v + one_if (e.slot == slot)) (let one = ap one_if is in omega arith)))
            (λ (no : (e.slot == slot) ≡ false). ap (λ n. one_if (nat_lt 0 n)) (let none = ap one_if no in omega arith))
            (cases_Bool (e.slot == slot));
        others = λ x among _. h.only x among;
        here = λ x among is. let own = h.only x among in let at = mine x own is in let other = held_entry e.slot v.entries more in record {
          place = own.shelf.place;
          many = subst (λ n. length (shelf_in x.1) + held_at n v ≡ SHELF_COPIES) at own.shelf.many;
          alike = subst (λ src. All (IsOf home source (home plan.first) src) (shelf_in x.1)) (same_source plan.slots v.seen other.0 e some replay (held other.0 other.1) holds other.2)
              (own.shelf.alike other.0 other.1 (other.2 ∙ sym at));
        };
        out = h.out;
      }
        where
          eqb_true : (a b : ℕ) → (a == b) ≡ true → a ≡ b
          eqb_true a b is = Rattle.std.proofs.lemmas.Bool.eqb-true a b is

      -- it has none, and has taken its place there
      pub carries_first : (c c1 : List (ℕ × Cell P H)) (n : ℕ) → held_at e.slot v ≡ 0 → source_of v.seen n ≡ entry_source plan.slots v.seen e → CarriesPlaces home source plan number v c
          → TakesPlace home source plan v.seen n (place e.slot number) c c1 → CarriesFor v e c1
      carries_first c c1 n none same h t = subst (CarriesFor v e) (sym t.is) record {
        once = λ slot inside. ⊎_elim
            (λ (is : e.slot ≡ slot). let here = ap one_if (eq-eqb (place e.slot number) (place slot number) (ap (λ m. place m number) is)) in let before = h.once slot inside in
            let zero_held = ap (λ m. held_at m v) (sym is) ∙ none in let zero_times = ap (λ m. one_if (nat_lt 0 m)) zero_held in
            let one = ap one_if (eq-eqb e.slot slot is) in let more = some_more (held_at slot v + one_if (e.slot == slot)) (omega arith) in omega arith)
            (λ (no : e.slot ≢ slot). let else = ap one_if (ne_eqb (place e.slot number) (place slot number) (λ is. no (omega arith))) in let before = h.once slot inside in
            let same_sum : held_at slot v ≡ held_at slot v + one_if (e.slot == slot) = (let zero_one = ap one_if (ne_eqb e.slot slot no) in omega arith) in let same_test = ap (λ m. one_if (nat_lt 0 m)) same_sum in omega arith)
            (cases_eq e.slot slot);
        others = λ x among other. ⊎_elim (λ head. absurd (other (ap (λ (y : ℕ × Cell P H). y.0) (sym head)))) (λ tail. h.only x tail) (among_one_more (place e.slot number, t.cell) c x among);
        here = λ x among is. ⊎_elim
            (λ head. subst (λ (y : ℕ × Cell P H). IsStockedFor v e y.1) head taken)
            (λ tail. let own = h.only x tail in let at = mine x own is in absurd (let some_handle = own.some_handle in let zero_there = ap (λ m. held_at m v) at in omega arith))
            (among_one_more (place e.slot number, t.cell) c x among);
        out = (let full = taken.many in let all = h.out in omega arith);
      }
        where
          taken : IsStockedFor v e t.cell
          taken = subst (IsStockedFor v e) (sym t.stocked.is) record {
            place = refl;
            many = (let full = t.stocked.full in omega arith);
            alike = subst (λ src. All (IsOf home source (home plan.first) src) t.stocked.shelf) same (all_of (home plan.first) (source_of v.seen n) t.stocked.shelf t.stocked.alike);
          }

      module _ (c1 : List (ℕ × Cell P H)) (g : CarriesFor v e c1) where
        pub carried_once : times (place e.slot number) (slots_of c1) ≡ 1
        carried_once = g.once e.slot holds.inside ∙ some_more (held_at e.slot v + one_if (e.slot == e.slot)) (let one = ap one_if (eq-eqb e.slot e.slot refl) in omega arith)

        pub has_copy : held_count v < 8 → HasCopyAt (place e.slot number) c1
        has_copy room cell among = let stock = g.here (place e.slot number, cell) among refl in
            (stock.place, (let many = stock.many in let le = held_le e.slot v.entries in omega arith))

        -- a copy was taken there
        module _ (version : P) (c2 : List (ℕ × Cell P H)) (t : CopyTaken (place e.slot number) version c1 c2) where
          stock : IsStockedFor v e (Place (version ∷ t.others))
          stock = g.here (place e.slot number, Place (version ∷ t.others)) (was_carried (place e.slot number) (Place (version ∷ t.others)) (Place t.others) c1 c2 t.is) refl

          pub copy_is : IsOf home source (home plan.first) (entry_source plan.slots v.seen e) version
          copy_is = All-head (IsOf home source (home plan.first) (entry_source plan.slots v.seen e)) version t.others stock.alike

          -- the view with the pin, whatever else it knows
          module _ (v' : View) (seen_same : v'.seen ≡ v.seen) (entries_are : v'.entries ≡ v.entries ++ e ∷ []) where
            held_now : (slot : ℕ) → held_at slot v' ≡ held_at slot v + one_if (e.slot == slot)
            held_now slot = ap (total (λ (x : Entry). one_if ((x.slot == slot) && x.held))) entries_are ∙ held_more slot v.entries e holds.held

            either : (x : Entry) → Contains v'.entries x → Contains v.entries x ⊎ (e ≡ x)
            either x among = Contains-push_cases v.entries e x (subst (λ l. Contains l x) entries_are among)

            src_now : (x : Entry) → entry_source plan.slots v'.seen x ≡ entry_source plan.slots v.seen x
            src_now x = ap (λ l. entry_source plan.slots l x) seen_same

            -- what stands at another slot
            apart : (x : ℕ × Cell P H) → IsOwnPlace home source plan number v x → x.0 ≢ place e.slot number → IsOwnPlace home source plan number v' x
            apart x own other =
                let no : e.slot ≢ slot_of x.0 = λ is. other (own.at ∙ ap (λ m. place m number) (sym is)) in
                let same : held_at (slot_of x.0) v' ≡ held_at (slot_of x.0) v = (let now = held_now (slot_of x.0) in let none = ap one_if (ne_eqb e.slot (slot_of x.0) no) in omega arith) in record {
                  at = own.at;
                  inside = own.inside;
                  some_handle = (let some_handle = own.some_handle in omega arith);
                  shelf = record {
                    place = own.shelf.place;
                    many = (let many = own.shelf.many in omega arith);
                    alike = λ y among at. ⊎_elim
                        (λ old. subst (λ src. All (IsOf home source (home plan.first) src) (shelf_in x.1)) (sym (src_now y)) (own.shelf.alike y old at))
                        (λ new. absurd (no (ap (λ (z : Entry). z.slot) new ∙ at)))
                        (either y among);
                  };
                }

            -- the place itself
            here_now : IsOwnPlace home source plan number v' (place e.slot number, Place t.others)
            here_now = let back = slot_back e.slot in let now = held_now e.slot in let one = ap one_if (eq-eqb e.slot e.slot refl) in
                let same : held_at (slot_of (place e.slot number)) v' ≡ held_at e.slot v' = ap (λ m. held_at m v') back in record {
                  at = ap (λ m. place m number) (sym back);
                  inside = (let inside = holds.inside in omega arith);
                  some_handle = (omega arith);
                  shelf = record {
                    place = refl;
                    many = (let many = stock.many in omega arith);
                    alike = λ y among at. subst (λ src. All (IsOf home source (home plan.first) src) t.others) (sym (src_now y ∙ ⊎_elim
                        (λ old. same_source plan.slots v.seen y e some replay (held y old) holds (at ∙ back))
                        (λ new. ap (entry_source plan.slots v.seen) (sym new))
                        (either y among)))
                        (All-tail (IsOf home source (home plan.first) (entry_source plan.slots v.seen e)) version t.others stock.alike);
                  };
                }

            pub carries_after_pin : CarriesPlaces home source plan number v' c2
            carries_after_pin = record {
              once = λ slot inside. same_slots (place e.slot number) (Place (version ∷ t.others)) (Place t.others) c1 c2 t.is (place slot number) ∙ g.once slot inside ∙ ap (λ m. one_if (nat_lt 0 m)) (sym (held_now slot));
              only = λ x among. ⊎_elim
                  (λ head. subst (IsOwnPlace home source plan number v') head here_now)
                  (λ tail. apart x (g.others x tail.0 tail.1) tail.1)
                  (now_carried (place e.slot number) (Place (version ∷ t.others)) (Place t.others) c1 c2 t.is carried_once x among);
              out = (let sum = other_sum (place e.slot number) (Place (version ∷ t.others)) (Place t.others) c1 c2 t.is copies_out in let all = g.out in let many = stock.many in
                  let long = ap (λ (l : List Entry). length l) entries_are ∙ length-append v.entries (e ∷ []) in omega arith);
            }

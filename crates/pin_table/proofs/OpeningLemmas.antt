-- A table as it is made meets the rule.
use Rattle.std.proofs.Common.{◌≡◌, ◌≢◌, ℕ, zero, suc, ◌+◌, ◌-◌, ◌*◌, ◌<◌, ◌≤◌, List, [], ◌∷◌, ◌++◌, map, length, set, get_or, replicate, sym, refl, ap, ◌∙◌, subst, ⊎_elim, arith, append_assoc}
use Rattle.std.proofs.Math.ListN.{length-set}
use Rattle.std.proofs.Common.{get_or-set_other, get_or-set_same}
use Rattle.std.proofs.lemmas.Bool.{cases_eq}
use Rattle.std.proofs.lemmas.List.{length-map, length-replicate, get_or-replicate, map-append, length-append}
use mathlib.Core.Option as maybe
use lib.ListN.{get_elem?}
use Rattle.atomic_table.specs.Table.{opening}
use Rattle.atomic_table.proofs.Lists.{at_last, some_there}
use Rattle.pin_book.specs.Book.{Chronicle}
use Rattle.pin_book.specs.Replay.{front_number, front_slot, kept_number}
use Rattle.pin_book.proofs.KeptLemmas.{opening_first, opening_others}
use Rattle.pin_core.specs.Core.{number_at, count_at}
use Rattle.pin_core.specs.Step.{opening_state}
use Rattle.pin_core.specs.Run.{stays}
use Rattle.pin_core.specs.Packing.{packed_slot, packed_front, place, book_place}
use Rattle.pin_core.proofs.Opening.{opens}
use Rattle.pin_table.specs.declared.cell.Cell.{Cell}
use Rattle.pin_table.specs.declared.cell.Cell.TheVariants.{Empty, Place, Desk}
use Rattle.pin_table.specs.declared.sitting.Plan.{Plan}
use Rattle.pin_table.specs.Layout.{slot_word, word_count}
use Rattle.pin_table.specs.Seat.{first_sitting, HasSizes}
use Rattle.pin_table.specs.Shelf.{AreOf, full_shelf}
use Rattle.pin_table.specs.Sources.{source_of, book_of}
use Rattle.pin_table.specs.Places.{IsStockedPlace, StandsAtHome}
use Rattle.pin_table.specs.Rule.{Shows, KeepsList}
use Rattle.pin_table.specs.Opening.{opening_words, opening_cells}

-- ---- the words ----

pub first_number : (slots : ℕ) → front_number slots [] ≡ 1
unfolding front_number
first_number slots = refl

pub first_slot : (slots : ℕ) → front_slot slots [] ≡ 0
unfolding front_slot
first_slot slots = refl

kept_first : (slots : ℕ) → 0 < slots → kept_number slots [] 0 ≡ 1
unfolding kept_number
kept_first slots some_slot = opening_first slots some_slot

kept_others : (slots slot : ℕ) → slot ≢ 0 → kept_number slots [] slot ≡ 0
unfolding kept_number
kept_others slots slot other = opening_others slots slot other

some_word : (n slots : ℕ) → n ≡ 32 + 16 * slots → 0 < n
some_word n slots is = omega arith

module _ (slots readers room : ℕ) (some_slot : 0 < slots) where
  -- no slot is claimed, so each word shows the number that the slot keeps
  number_shown : (slot : ℕ) → slot < slots → number_at (opening_state slots readers room).words slot ≡ kept_number slots [] slot
  number_shown slot low = (opens slots readers room some_slot).follows.kept slot low refl

  no_pins : (slot : ℕ) → slot < slots → count_at (opening_state slots readers room).words slot ≡ 0
  no_pins slot low = (opens slots readers room some_slot).pins slot low

  pub shows_opening : Shows (opening_words slots) (opening_state slots readers room)
  shows_opening =
      let f : ℕ = packed_front record { w = 0; n = 1; slot = 0 } in let e : ℕ = packed_slot record { number = 1; count = 0 } in
      let one : List ℕ = set (replicate {A = ℕ} (word_count slots) 0) 0 f in
      let long0 : length (replicate {A = ℕ} (word_count slots) 0) ≡ 32 + 16 * slots = length-replicate (word_count slots) 0 in
      let long : length one ≡ 32 + 16 * slots = length-set (replicate {A = ℕ} (word_count slots) 0) 0 f ∙ long0 in
      record {
        wide = length-set one 32 e ∙ long;
        front = get_or-set_other one 32 0 e 0 (λ (same : 0 ≡ 32). omega arith) ∙ (get_or-set_same (replicate {A = ℕ} (word_count slots) 0) 0 f 0 (some_word _ slots long0)
            ∙ (λ i. packed_front record { w = 0; n = sym (first_number slots) i; slot = sym (first_slot slots) i }));
        turn = get_or-set_other one 32 16 e 0 (λ (same : 16 ≡ 32). omega arith) ∙ (get_or-set_other (replicate {A = ℕ} (word_count slots) 0) 0 16 f 0 (λ (same : 16 ≡ 0). omega arith) ∙ get_or-replicate (word_count slots) 16 0 0 (omega arith));
        slots = λ slot low. let number = number_shown slot low in let count = no_pins slot low in ⊎_elim
            (λ (is : slot ≡ 0). subst (λ k. get_or (set one 32 e) (slot_word k) 0 ≡ packed_slot record { number = number_at (opening_state slots readers room).words slot; count = count_at (opening_state slots readers room).words slot }) (sym is)
            (get_or-set_same one 32 e 0 (omega arith) ∙ (let is_first : kept_number slots [] slot ≡ 1 = ap (kept_number slots []) is ∙ kept_first slots some_slot in
            let shown : number_at (opening_state slots readers room).words slot ≡ 1 = number ∙ is_first in λ i. packed_slot record { number = sym shown i; count = sym count i })))
            (λ (no : slot ≢ 0). get_or-set_other one 32 (slot_word slot) e 0 (λ (same : slot_word slot ≡ 32). no (omega arith)) ∙ (get_or-set_other (replicate {A = ℕ} (word_count slots) 0) 0 (slot_word slot) f 0 (λ (same : slot_word slot ≡ 0). omega arith)
            ∙ (get_or-replicate (word_count slots) (slot_word slot) 0 0 (omega arith)
            ∙ (let shown : number_at (opening_state slots readers room).words slot ≡ 0 = number ∙ kept_others slots slot no in λ i. packed_slot record { number = sym shown i; count = sym count i }))))
            (cases_eq slot 0);
      }

-- ---- what stands at home ----

module _ {P H : Type 0} (home : P → H) (source : P → ℕ) where
  all_same : (n : ℕ) (version : P) (src : ℕ) → source version ≡ src → AreOf home source (home version) src (replicate n version)
  all_same zero version src is = tt
  all_same (suc n) version src is = (refl, is, all_same n version src is)

at_replicate : {A : Type 0} (n i : ℕ) (x : A) (ys : List A) → i < n → get_elem? (map maybe.some (replicate n x ++ ys)) i ≡ maybe.some (maybe.some x)
at_replicate zero i x ys low = absurd (omega arith)
at_replicate (suc n) zero x ys low = refl
at_replicate (suc n) (suc i) x ys low = at_replicate n i x ys (omega arith)

pub length-opening_words : (slots : ℕ) → length (opening_words slots) ≡ word_count slots
length-opening_words slots =
    let f : ℕ = packed_front record { w = 0; n = 1; slot = 0 } in let e : ℕ = packed_slot record { number = 1; count = 0 } in
    length-set (set (replicate (word_count slots) 0) 0 f) 32 e ∙ (length-set (replicate (word_count slots) 0) 0 f ∙ length-replicate (word_count slots) 0)

pub length-opening_cells : (P H : Type 0) (slots readers : ℕ) (first : P) (book : Chronicle) → readers ≤ 16 → 1 ≤ slots → length (opening_cells {P = P} {H = H} slots readers first book) ≡ 16 * slots + 1
length-opening_cells P H slots readers first book few some_slot =
    let x : Cell P H = Place (full_shelf first) in let blank : Cell P H = Empty in
    let shelves : List (Cell P H) = replicate readers x in let blanks : List (Cell P H) = replicate (book_place slots - readers) blank in
    let a = length-replicate readers x in let b = length-replicate (book_place slots - readers) blank in
    length-append (shelves ++ blanks) (Desk book ∷ []) ∙ (let c = length-append shelves blanks in omega arith)

-- what stands at home in a new table
module _ {P H : Type 0} (home : P → H) (source : P → ℕ) (name_of : H → ℕ → List ℕ) where
  first_source : source_of [] 1 ≡ 0
  unfolding source_of
  first_source = refl

  pub stands_at_first : (plan : Plan P) → HasSizes plan → source plan.first ≡ 0 → (cells : List (Cell P H)) → cells ≡ opening_cells plan.slots plan.readers plan.first (book_of name_of (home plan.first) plan.slots plan.room [])
      → StandsAtHome home source name_of plan (map maybe.some cells) (opening_state plan.slots plan.readers plan.room)
  stands_at_first plan sizes first cells is =
      let few = sizes.few_readers in let least = sizes.some_slots in
      let some_slot : 0 < plan.slots = omega arith in
      let shown : (slot : ℕ) → slot ≡ 0 → slot < plan.slots → number_at (opening_state plan.slots plan.readers plan.room).words slot ≡ 1 = λ slot zero_slot low. number_shown plan.slots plan.readers plan.room some_slot slot low ∙ (ap (kept_number plan.slots []) zero_slot ∙ kept_first plan.slots some_slot) in
      let hidden : (slot : ℕ) → slot ≢ 0 → slot < plan.slots → number_at (opening_state plan.slots plan.readers plan.room).words slot ≡ 0 = λ slot no low. number_shown plan.slots plan.readers plan.room some_slot slot low ∙ kept_others plan.slots slot no in
      let book : Chronicle = book_of name_of (home plan.first) plan.slots plan.room [] in
      let x : Cell P H = Place (full_shelf plan.first) in
      let shelves : List (Cell P H) = replicate plan.readers x in
      let blanks : List (Cell P H) = replicate (book_place plan.slots - plan.readers) Empty in
      let all : map maybe.some cells ≡ map maybe.some ((shelves ++ blanks) ++ Desk book ∷ []) = ap (map maybe.some) is in
      let long : length (shelves ++ blanks) ≡ 16 * plan.slots = length-append shelves blanks ∙ (let a = length-replicate plan.readers x in let b = length-replicate {A = Cell P H} (book_place plan.slots - plan.readers) Empty in omega arith) in
      let last : get_elem? (map maybe.some ((shelves ++ blanks) ++ Desk book ∷ [])) (16 * plan.slots) ≡ maybe.some (maybe.some (Desk book)) = at_end (shelves ++ blanks) (Desk book) (16 * plan.slots) long in
      let whole : length cells ≡ 16 * plan.slots + 1 = ap (λ (l : List (Cell P H)). length l) is ∙ (length-append (shelves ++ blanks) (Desk book ∷ []) ∙ (omega arith)) in
      record {
        deep = length-map cells maybe.some ∙ whole;
        places = λ slot reader low inside away. let there = some_there cells (place slot reader) (omega arith) in ⊎_elim
            (λ (zero_slot : slot ≡ 0). let at : get_elem? (map maybe.some cells) (place slot reader) ≡ maybe.some (maybe.some x) =
            ap (λ (l : List (maybe.Option (Cell P H))). get_elem? l (place slot reader)) all ∙ (ap (λ (l : List (Cell P H)). get_elem? (map maybe.some l) (place slot reader)) (append_assoc shelves blanks (Desk book ∷ []))
            ∙ (let same : place slot reader ≡ reader = omega arith in ap (get_elem? (map maybe.some (shelves ++ (blanks ++ Desk book ∷ [])))) same ∙ at_replicate plan.readers reader x (blanks ++ Desk book ∷ []) inside))
            in record { cell = x; here = at; stocked = λ _. let one = shown slot zero_slot low in subst (λ n. IsStockedPlace home source (home plan.first) (source_of [] n) x) (sym one) record { shelf = full_shelf plan.first; is = refl; full = refl; alike = all_same home source 8 plan.first (source_of [] 1) (first ∙ sym first_source) } })
            (λ (no : slot ≢ 0). record { cell = there.0; here = there.1; stocked = λ some_number. let none = hidden slot no low in absurd (omega arith) })
            (cases_eq slot 0);
        book = λ nobody. ap (λ (l : List (maybe.Option (Cell P H))). get_elem? l (16 * plan.slots)) all ∙ last;
      }
    where
      at_end : (l : List (Cell P H)) (a : Cell P H) (n : ℕ) → length l ≡ n → get_elem? (map maybe.some (l ++ a ∷ [])) n ≡ maybe.some (maybe.some a)
      at_end l a n long = ap (λ (m : List (maybe.Option (Cell P H))). get_elem? m n) (map-append maybe.some l (a ∷ [])) ∙ at_last (map maybe.some l) (maybe.some a) n (length-map l maybe.some ∙ long)

  pub opens_kept : (plan : Plan P) → HasSizes plan → source plan.first ≡ 0 → (cells : List (Cell P H)) → cells ≡ opening_cells plan.slots plan.readers plan.first (book_of name_of (home plan.first) plan.slots plan.room [])
      → KeepsList home source name_of plan (opening (opening_words plan.slots) cells (first_sitting plan))
  opens_kept plan sizes first cells is = let some = sizes.some_slots in record {
    core = opening_state plan.slots plan.readers plan.room;
    sizes = sizes;
    reached = stays;
    words = shows_opening plan.slots plan.readers plan.room (omega arith);
    views = refl;
    homes = stands_at_first plan sizes first cells is;
  }

  -- the same, by what the parts of a new table are made of
  pub opens_as : (plan : Plan P) → HasSizes plan → (first other : P) → plan.first ≡ first → other ≡ first → source first ≡ 0 → (book : Chronicle) (name : List ℕ) → name ≡ name_of (home other) (source other)
      → book ≡ record { slots = plan.slots; room = plan.room; journal = []; names = name ∷ [] } → (words : List ℕ) → words ≡ opening_words plan.slots
      → (cells : List (Cell P H)) → cells ≡ opening_cells plan.slots plan.readers first book → KeepsList home source name_of plan (opening words cells (first_sitting plan))
  opens_as plan sizes first other mine theirs from book name called is words shown cells there =
      let named : name ≡ name_of (home plan.first) 0 = called ∙ (λ i. name_of (home ((theirs ∙ sym mine) i)) ((ap source theirs ∙ from) i)) in
      let is_book : book ≡ book_of name_of (home plan.first) plan.slots plan.room [] = is ∙ ap (λ (n : List ℕ). record { slots = plan.slots; room = plan.room; journal = []; names = n ∷ [] }) named in
      let lies : cells ≡ opening_cells plan.slots plan.readers plan.first (book_of name_of (home plan.first) plan.slots plan.room []) = there ∙ (λ i. opening_cells plan.slots plan.readers (sym mine i) (is_book i)) in
      subst (λ (w : List ℕ). KeepsList home source name_of plan (opening w cells (first_sitting plan))) (sym shown) (opens_kept plan sizes (ap source mine ∙ from) cells lies)

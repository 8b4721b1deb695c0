-- What a reader carries and knows from the moment at which it takes the turn until it gives it back.
use Rattle.std.proofs.Common.{◌≡◌, ℕ, ◌<◌, ◌≤◌, List, [], ◌∷◌, ◌++◌, length, sym, refl, ap, ◌∙◌, subst, arith, true, eq-eqb}
use Rattle.atomic_table.specs.Table.{Me, rest}
use Rattle.pin_book.specs.declared.write.Write.{Write}
use Rattle.pin_book.specs.Book.{Chronicle}
use Rattle.pin_book.specs.Replay.{state_after, replays}
use Rattle.pin_book.proofs.ReplayLemmas.{replay_orderly}
use Rattle.pin_book.proofs.ListLemmas.{few_listed}
use Rattle.pin_core.specs.Core.{times, one_if}
use Rattle.pin_core.specs.Step.{gave_turn}
use Rattle.pin_core.specs.Packing.{book_place}
use Rattle.pin_table.specs.declared.cell.Cell.{Cell}
use Rattle.pin_table.specs.declared.cell.Cell.TheVariants.{Empty, Desk}
use Rattle.pin_table.specs.declared.sitting.Plan.{Plan}
use Rattle.pin_table.specs.declared.sitting.Sitting.{Sitting}
use Rattle.pin_table.specs.Seat.{knowing}
use Rattle.pin_table.specs.Sources.{book_of}
use Rattle.pin_table.specs.Carried.{slots_of, Exchanges}
use Rattle.pin_table.specs.Plays.{TurnTaken, TurnGiven}
use Rattle.pin_table.specs.BookHeld.{HoldsBook}

-- ---- an exchange of a slot that is carried once ----

module _ {S : Type 0} where
  -- a slot that stands in the list is there once at least
  stands_there : (slot : ℕ) (xs ys : List (ℕ × S)) (x : S) → 1 ≤ times slot (slots_of (xs ++ (slot, x) ∷ ys))
  stands_there slot [] ys x = let one = ap one_if (eq-eqb slot slot refl) in omega arith
  stands_there slot (a ∷ xs) ys x = let more = stands_there slot xs ys x in omega arith

  -- it stands in one place
  one_place : (slot : ℕ) (xs before ys behind : List (ℕ × S)) (x old : S) → times slot (slots_of xs) ≡ 0 → times slot (slots_of ys) ≡ 0 → xs ++ (slot, x) ∷ ys ≡ before ++ (slot, old) ∷ behind
      → (xs ≡ before) × (x ≡ old) × (ys ≡ behind)
  one_place slot [] [] ys behind x old free clear same = let head : (slot, x) ≡ (slot, old) = cc in (refl, ap (λ (p : ℕ × S). p.1) head, cc)
  one_place slot [] (b ∷ before) ys behind x old free clear same =
      let tail : ys ≡ before ++ (slot, old) ∷ behind = cc in let there = stands_there slot before behind old in let zero = ap (λ (l : List (ℕ × S)). times slot (slots_of l)) tail in absurd (omega arith)
  one_place slot (a ∷ xs) [] ys behind x old free clear same =
      let head : a ≡ (slot, old) = cc in let one = ap one_if (eq-eqb a.0 slot (ap (λ (p : ℕ × S). p.0) head)) in absurd (omega arith)
  one_place slot (a ∷ xs) (b ∷ before) ys behind x old free clear same =
      let head : a ≡ b = cc in let tail : xs ++ (slot, x) ∷ ys ≡ before ++ (slot, old) ∷ behind = cc in
      let later = one_place slot xs before ys behind x old (omega arith) clear tail in (λ i. head i ∷ later.0 i, later.1, later.2)

  -- so what it held is known, and what is carried then
  pub exchanged_amid : (slot : ℕ) (x old new : S) (xs ys later : List (ℕ × S)) → times slot (slots_of xs) ≡ 0 → times slot (slots_of ys) ≡ 0 → Exchanges slot old new (xs ++ (slot, x) ∷ ys) later
      → (old ≡ x) × (later ≡ (slot, new) ∷ ys ++ xs)
  exchanged_amid slot x old new xs ys later free clear ex =
      let one = one_place slot xs ex.before ys ex.behind x old free clear ex.was in
      (sym one.1, ex.is ∙ (λ i. (slot, new) ∷ sym one.2 i ++ sym one.0 i))

  -- the same at the head
  pub exchanged_head : (slot : ℕ) (x old new : S) (ys later : List (ℕ × S)) → times slot (slots_of ys) ≡ 0 → Exchanges slot old new ((slot, x) ∷ ys) later → (old ≡ x) × (later ≡ (slot, new) ∷ ys)
  exchanged_head slot x old new ys later clear ex = let amid = exchanged_amid slot x old new [] ys later refl clear ex in (amid.0, amid.1 ∙ append_nil ys)
    where
      append_nil : (l : List (ℕ × S)) → (slot, new) ∷ l ++ [] ≡ (slot, new) ∷ l
      append_nil l = ap (λ (k : List (ℕ × S)). (slot, new) ∷ k) (none_more l)
        where
          none_more : (k : List (ℕ × S)) → k ++ [] ≡ k
          none_more [] = refl
          none_more (y ∷ ys) = ap (λ (z : List (ℕ × S)). y ∷ z) (none_more ys)

-- ---- the book is taken into the hand ----

module _ {P H : Type 0} (home : P → H) (name_of : H → ℕ → List ℕ) (plan : Plan P) (number : ℕ) where
  pub took_book : (m m1 m2 : Me (Cell P H) (Sitting P)) (at : ℕ) (old : Cell P H) → TurnTaken home name_of plan number m m1 → at ≡ book_place plan.slots → times (book_place plan.slots) (slots_of m.1) ≡ 0
      → Exchanges at old Empty m1.1 m2.1 → m2.0 ≡ m1.0 → (book : Chronicle) × (old ≡ Desk book) × HoldsBook home name_of plan number m book m2
  took_book m m1 m2 at old taken place apart ex same =
      let journal = taken.journal in let seat = taken.seat in let book : Chronicle = book_of name_of (home plan.first) plan.slots plan.room journal in
      let here = subst (λ (k : ℕ). Exchanges k old Empty ((book_place plan.slots, Desk book) ∷ m.1) m2.1) place (subst (λ (l : List (ℕ × Cell P H)). Exchanges at old Empty l m2.1) (ap (λ (x : Me (Cell P H) (Sitting P)). x.1) seat) ex) in
      let found = exchanged_head (book_place plan.slots) (Desk book) old Empty m.1 m2.1 apart here in (
        book,
        found.0,
        record {
          journal = journal;
          goes_on = taken.goes_on;
          is = refl;
          seat = λ i. ((same ∙ ap (λ (x : Me (Cell P H) (Sitting P)). x.0) seat) i, found.1 i);
        },
      )

-- a cell that is two desks is that of one book
pub same_book : {P H : Type 0} (cell : Cell P H) (book other : Chronicle) → cell ≡ Desk book → cell ≡ Desk other → book ≡ other
same_book cell book other is same = cc

-- ---- the book is put back ----

module _ {P H : Type 0} where
  pub gave_back : (at : ℕ) (m m1 m2 : Me (Cell P H) (Sitting P)) (old new : Cell P H) → m.1 ≡ (at, Empty) ∷ rest m.1 → times at (slots_of (rest m.1)) ≡ 0 → Exchanges at old new m.1 m1.1 → m1.0 ≡ m.0
      → TurnGiven m1 m2 → (m1.1 ≡ (at, new) ∷ rest m.1) × TurnGiven m m2
  gave_back at m m1 m2 old new first apart ex same given =
      let head = exchanged_head at Empty old new (rest m.1) m1.1 apart (subst (λ (l : List (ℕ × Cell P H)). Exchanges at old new l m1.1) first ex) in
      (head.1, given ∙ (λ i. (knowing (gave_turn (same i).core) (same i), rest (head.1 i))))

-- no more versions are listed than there are slots
pub few_rows : (slots most : ℕ) (journal : List Write) → 0 < slots → slots ≤ most → replays slots journal ≡ true → length (state_after slots journal).listed ≤ most
few_rows slots most journal some_slot few is =
    let orderly = replay_orderly slots journal some_slot is in let wide = orderly.wide in
    let low = few_listed _ (state_after slots journal).kept (state_after slots journal).listed orderly.stands in omega arith

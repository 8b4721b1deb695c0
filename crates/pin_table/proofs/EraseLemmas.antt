-- What an erase leaves.
use Rattle.std.proofs.Common.{◌≡◌, ℕ, ◌+◌, ◌<◌, List, [], ◌∷◌, ◌++◌, length, map, refl, sym, ap, ◌∙◌, arith, Bool, true, false, not, ◌==◌, if◌then◌else◌, Result, Ok, Err}
use Rattle.std.proofs.lemmas.Bool.{eqb-false}
use Rattle.std.proofs.lemmas.List.{append-nil}
use Rattle.pin_book.specs.declared.write.Write.{Write}
use Rattle.pin_book.specs.declared.write.Change.TheVariants.{Erase}
use Rattle.pin_book.specs.Replay.{state_after, allowed, is_listed, greatest_below}
use Rattle.pin_book.proofs.BookLemmas.{asked_erase}
use Rattle.pin_book.proofs.Journals as journals
use Rattle.pin_core.specs.declared.view.View.{View}
use Rattle.pin_core.specs.Step.{got_turn, gave_turn, stored}
use Rattle.pin_table.specs.declared.answers.Erased.{Erased}
use Rattle.pin_table.specs.declared.answers.EraseWhy.{EraseWhy}
use Rattle.pin_table.specs.declared.answers.EraseWhy.TheVariants as erase
use Rattle.pin_table.specs.Sources.{sources, book_of}
use Rattle.pin_table.specs.Plays.{GoesOn}
use Rattle.pin_table.specs.Idle.{IsIdle}
use Rattle.pin_table.specs.Turns.{listed_after, erase_answer, view_after_erase}
use Rattle.pin_table.proofs.SourceLemmas.{sources-append}
use Rattle.pin_table.proofs.HandLemmas.{LeavesHandles, turn_leaves}
use Rattle.pin_table.proofs.WriteLemmas.{write_leaves}

-- an erase that was made had all that it asks
made_of : (listed none full : Bool) (w gone : ℕ) (made : Erased)
    → (if not listed then Err (erase.NotListed w) else (if none then Err (erase.Nothing w) else (if full then Err (erase.JournalFull w) else Ok record { w = w + 1; gone = gone }))) ≡ Ok made
    → (listed ≡ true) × (none ≡ false) × (gone ≡ made.gone)
made_of false none full w gone made is = absurd (cc)
made_of true true full w gone made is = absurd (cc)
made_of true false true w gone made is = absurd (cc)
made_of true false false w gone made is = let same : record { w = w + 1; gone = gone } ≡ made = cc in (refl, refl, ap (λ (x : Erased). x.gone) same)

pub erase_allowed : (slots allowance number : ℕ) (journal : List Write) (made : Erased) → Ok made ≡ erase_answer slots journal allowance number → allowed (state_after slots journal) (Erase number made.gone) ≡ true
erase_allowed slots allowance number journal made is =
    let listed = listed_after slots journal in let gone = greatest_below number listed in
    let parts = made_of (is_listed number listed) (gone == 0) (allowance == 0) (length journal) gone made (sym is) in
    let other = eqb-false gone 0 parts.1 in
    asked_erase (state_after slots journal) number made.gone record { listed = parts.0; some = (let same = parts.2 in omega arith); next = sym parts.2 }

-- an erase leaves the handles
pub erased_leaves : (slots room by allowance number : ℕ) (journal : List Write) (v : View) (answer : Result Erased EraseWhy) → 0 < slots → IsIdle slots by v → GoesOn slots room by v journal
    → answer ≡ erase_answer slots journal allowance number → LeavesHandles slots v (gave_turn (view_after_erase by number (got_turn journal v) answer))
erased_leaves slots room by allowance number journal v (Ok made) some_slot h goes is =
    let write : Write = record { by = by; seq = length v.own + 1; change = Erase number made.gone } in
    let left = journals.erased slots journal write number made.gone some_slot goes.replay (erase_allowed slots allowance number journal made is) refl in
    write_leaves slots room by journal write v (gave_turn (stored write (got_turn journal v))) h goes refl refl refl refl h.claimed refl (λ e among. left.kept e.slot)
erased_leaves slots room by allowance number journal v (Err why) some_slot h goes is = turn_leaves slots room by journal v h goes

-- and the names that versions have
module _ {H : Type 0} (name_of : H → ℕ → List ℕ) (home : H) (slots room : ℕ) where
  pub erased_book : (by number : ℕ) (v : View) (answer : Result Erased EraseWhy)
      → record (book_of name_of home slots room v.seen) { journal = (view_after_erase by number v answer).seen } ≡ book_of name_of home slots room (view_after_erase by number v answer).seen
  erased_book by number v (Ok made) =
      let write : Write = record { by = by; seq = length v.own + 1; change = Erase number made.gone } in
      ap (λ (ns : List ℕ). record { slots = slots; room = room; journal = v.seen ++ write ∷ []; names = map (name_of home) ns }) (sym (sources-append v.seen (write ∷ []) ∙ append-nil (sources v.seen)))
  erased_book by number v (Err why) = refl

-- A table whose main has all reader numbers: nobody has the turn, the book is at home, and the main knows its journal.
use Rattle.std.proofs.Common.{◌≡◌, ◌≢◌, ℕ, ◌<◌, List, length, sym, refl, ap, ◌∙◌, subst, arith, eq-eqb, ◌==◌, Option, Some, None}
use mathlib.Core.Option as maybe
use lib.ListN.{get_elem?}
use Rattle.std.specs.List.{All}
use Rattle.atomic_table.specs.Table.{Final, Seen}
use Rattle.pin_book.specs.declared.write.Write.{Write}
use Rattle.pin_book.specs.Book.{Chronicle}
use Rattle.pin_core.specs.declared.view.View.{View}
use Rattle.pin_core.specs.declared.view.Role.TheVariants as roles
use Rattle.pin_core.specs.Core.{CoreState, times, one_if, has_number}
use Rattle.pin_core.specs.Lawful.{Lawful}
use Rattle.pin_core.specs.Step.{HasReader}
use Rattle.pin_core.specs.Packing.{book_place}
use Rattle.pin_core.proofs.Sums.{terms_le}
use Rattle.pin_core.proofs.Holders.{holder_out, has_each, own_all, seen_all}
use Rattle.pin_table.specs.declared.cell.Cell.{Cell}
use Rattle.pin_table.specs.declared.cell.Cell.TheVariants.{Desk}
use Rattle.pin_table.specs.declared.sitting.Plan.{Plan}
use Rattle.pin_table.specs.declared.sitting.Sitting.{Sitting}
use Rattle.pin_table.specs.Sources.{book_of}
use Rattle.pin_table.specs.Rule.{KeepsList}
use Rattle.pin_table.specs.Closing.{IsWhole}
use Rattle.pin_table.proofs.KeptLemmas.{kept_sizes, kept_lawful, kept_view}

module _ (s : CoreState) (id : ℕ) (v : View) (h : Lawful s) (here : get_elem? s.views id ≡ maybe.some v) (main : v.role ≡ roles.Main) (all : length v.numbers ≡ s.readers) where
  -- no reader is out
  none_out : (other number : ℕ) (u : View) → number < s.readers → HasReader s other number u → ⊥
  none_out other number u low has =
      let mine = has_each s id v h here main all number low in
      let its : has_number number u ≡ 1 = ap (times number) has.reader.1 ∙ (let one : one_if (number == number) ≡ 1 = ap one_if (eq-eqb number number refl) in omega arith) in
      let apart : other ≢ id = λ same. roles_differ u has.reader.0 (subst (λ (x : View). x.role ≡ roles.Main) (maybe.some-injective v u (sym here ∙ subst (λ i. get_elem? s.views i ≡ maybe.some u) same has.here)) main) in
      let both = terms_le (has_number number) s.views id other v u apart here has.here in let one = h.owners.numbers number low in omega arith
    where
      roles_differ : (w : View) → w.role ≡ roles.Reader → w.role ≡ roles.Main → ⊥
      roles_differ w a b = absurd (cc)

  pub nobody_has_turn : s.turn ≡ None
  nobody_has_turn = by_turn s.turn refl
    where
      by_turn : (turn : Option ℕ) → s.turn ≡ turn → s.turn ≡ None
      by_turn None is = is
      by_turn (Some holder) is = let out = holder_out s holder h is in absurd (none_out out.0 holder out.1 out.4 out.2)

module _ {P H : Type 0} (home : P → H) (source : P → ℕ) (name_of : H → ℕ → List ℕ) (plan : Plan P) where
  -- what a closed table's book is
  pub record ClosesWith (main : View) (cell : Cell P H) : Type 0 where
    pub journal : List Write
    pub desk : cell ≡ Desk (book_of name_of (home plan.first) plan.slots plan.room journal)
    pub whole : IsWhole plan.readers main journal

  pub closes : (id : ℕ) (v : Sitting P) (words : List ℕ) (cells : List (Cell P H)) (cell : Cell P H) → v.core.role ≡ roles.Main → length v.core.numbers ≡ plan.readers
      → Final (Seen (KeepsList home source name_of plan) id v) words cells → get_elem? cells (book_place plan.slots) ≡ maybe.some cell → ClosesWith v.core cell
  closes id v words cells cell main all final there =
      let s = final.0 in let h = final.1.0 in let lawful = kept_lawful home source name_of plan s h in let readers = (kept_sizes home source name_of plan s h).1 in
      let here = kept_view home source name_of plan s h id v final.1.1 in let all' : length v.core.numbers ≡ h.core.readers = all ∙ sym readers in
      let book : Cell P H = Desk (book_of name_of (home plan.first) plan.slots plan.room h.core.journal) in
      let home_book : get_elem? s.homes (book_place plan.slots) ≡ maybe.some (maybe.some book) = h.homes.book (nobody_has_turn h.core id v.core lawful here main all') in
      let last : get_elem? cells (book_place plan.slots) ≡ maybe.some book = final.4 (book_place plan.slots) book home_book in
      record {
        journal = h.core.journal;
        desk = maybe.some-injective cell book (sym there ∙ last);
        whole = record {
          seen = seen_all h.core id v.core lawful here main all';
          writers = subst (λ n. All (λ (write : Write). write.by < n) h.core.journal) readers lawful.owners.writers;
          counted = lawful.owners.counted;
          own = λ number low. own_all h.core id v.core lawful here main all' number (subst (λ n. number < n) (sym readers) low);
        };
      }

  -- the book that is then found
  pub closed_book : (main : View) (cell : Cell P H) (book : Chronicle) → ClosesWith main cell → cell ≡ Desk book
      → (book ≡ book_of name_of (home plan.first) plan.slots plan.room book.journal) × IsWhole plan.readers main book.journal
  closed_book main cell book h is =
      let same : book ≡ book_of name_of (home plan.first) plan.slots plan.room h.journal = same_desk book (book_of name_of (home plan.first) plan.slots plan.room h.journal) (sym is ∙ h.desk) in
      let journal : book.journal ≡ h.journal = ap (λ (b : Chronicle). b.journal) same in
      (same ∙ ap (book_of name_of (home plan.first) plan.slots plan.room) (sym journal), subst (IsWhole plan.readers main) (sym journal) h.whole)
    where
      same_desk : (one other : Chronicle) → ◌≡◌ {A = Cell P H} (Desk one) (Desk other) → one ≡ other
      same_desk one other e = cc

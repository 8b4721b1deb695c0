-- The opening state is lawful.
use Rattle.std.proofs.Common.{◌≡◌, ◌≢◌, ℕ, zero, suc, ◌+◌, ◌*◌, ◌≤◌, ◌<◌, List, [], ◌∷◌, length, map, set, replicate, suc-mul, get_or, sym, refl, ap, ◌∙◌, subst, ⊎_elim, arith, eq-eqb, ne_eqb}
use mathlib.Core.Option.{some, some-injective, some-ne-none}
use lib.ListN.{get_elem?}
use Rattle.std.specs.List.{All, range_with_len}
use Rattle.std.proofs.lemmas.Bool.{cases_eq}
use Rattle.std.proofs.lemmas.List.{length-set, length-replicate}
use Rattle.std.proofs.lemmas.List.Elements.{All-nil, All-cons}
use Rattle.std.proofs.lemmas.List.FromFn.{length-range_with_len, get_or-range_with_len}
use Rattle.pin_core.specs.declared.entry.SlotWord.{SlotWord}
use Rattle.pin_book.specs.declared.write.Write.{Write}
use Rattle.pin_core.specs.declared.view.View.{View}
use Rattle.pin_core.specs.declared.view.Role.TheVariants as roles
use Rattle.pin_book.specs.Replay.{opening, kept_number}
use Rattle.pin_core.specs.Core.{number_at, count_at, one_if, times, total, has_number, number_count, is_main, has_turn, pins_at, allowance_of, spent, EachSeat}
use Rattle.pin_core.specs.Lawful.{Lawful, KeepsEntry, WasFront, WasFrontOnce}
use Rattle.pin_core.specs.Step.{main_at_first, opening_state, reader_at_first, opening_with_readers}
use Rattle.pin_core.proofs.Words.{count_here, count_else, number_here, number_else}
use Rattle.pin_book.proofs.KeptLemmas.{opening_first, opening_others}

-- each of the first numbers stands once among them
times_range : (number from count : ℕ) → from ≤ number → number < from + count → times number (range_with_len from count) ≡ 1
times_range number from zero low high = absurd (omega arith)
times_range number from (suc count) low high = ⊎_elim
    (λ (is : from ≡ number). let one = ap one_if (eq-eqb from number is) in let none = times_before number (from + 1) count (omega arith) in omega arith)
    (λ (no : from ≢ number). let zero = ap one_if (ne_eqb from number no) in let rest = times_range number (from + 1) count (omega arith) (omega arith) in omega arith) (cases_eq from number)
  where
    times_before : (number from count : ℕ) → number < from → times number (range_with_len from count) ≡ 0
    times_before number from zero low = refl
    times_before number from (suc count) low = let zero = ap one_if (ne_eqb from number (λ is. omega arith)) in let rest = times_before number (from + 1) count (omega arith) in omega arith

each_one : (P : View → Type 0) (v : View) → P v → EachSeat P (v ∷ [])
each_one P v mine zero u at live = subst P (some-injective v u at) mine
each_one P v mine (suc j) u at live = absurd (some-ne-none u (sym at))

main_only : (v : View) → v.role ≡ roles.Main → (id : ℕ) (u : View) → get_elem? (v ∷ []) id ≡ some u → u.role ≢ roles.Spent
main_only v main zero u at spent = let role = ap (λ (x : View). x.role) (some-injective v u at) in absurd (cc)
main_only v main (suc j) u at spent = absurd (some-ne-none u (sym at))

abbrev empty : SlotWord
empty = record { number = 0; count = 0 }

abbrev first : SlotWord
first = record { number = 1; count = 0 }

blank_number : (n slot : ℕ) → number_at (replicate n empty) slot ≡ 0
blank_number zero slot = refl
blank_number (suc n) zero = refl
blank_number (suc n) (suc slot) = blank_number n slot

blank_count : (n slot : ℕ) → count_at (replicate n empty) slot ≡ 0
blank_count zero slot = refl
blank_count (suc n) zero = refl
blank_count (suc n) (suc slot) = blank_count n slot

first_kept : (slots slot : ℕ) → 0 < slots → number_at (set (replicate slots empty) 0 first) slot ≡ kept_number slots [] slot
unfolding kept_number
first_kept slots slot some_slot =
    let long : length (replicate slots empty) ≡ slots = length-replicate slots empty in
    ⊎_elim
    (λ (is : slot ≡ 0). subst (λ k. number_at (set (replicate slots empty) 0 first) k ≡ get_or (opening slots).kept k 0) (sym is) (number_here (replicate slots empty) 0 first (omega arith) ∙ sym (opening_first slots some_slot)))
    (λ (no : slot ≢ 0). number_else (replicate slots empty) 0 first slot no ∙ blank_number slots slot ∙ sym (opening_others slots slot no)) (cases_eq slot 0)

no_count : (slots slot : ℕ) → 0 < slots → count_at (set (replicate slots empty) 0 first) slot ≡ 0
no_count slots slot some_slot =
    let long : length (replicate slots empty) ≡ slots = length-replicate slots empty in
    ⊎_elim (λ (is : slot ≡ 0). ap (count_at (set (replicate slots empty) 0 first)) is ∙ count_here (replicate slots empty) 0 first (omega arith))
    (λ (no : slot ≢ 0). count_else (replicate slots empty) 0 first slot no ∙ blank_count slots slot) (cases_eq slot 0)

pub opens : (slots readers room : ℕ) → 0 < slots → Lawful (opening_state slots readers room)
opens slots readers room some_slot =
    let v : View = main_at_first readers room in
    let inside : All (λ n. n < readers) (range_with_len 0 readers) = λ k d low. (let long = length-range_with_len 0 readers in let at = get_or-range_with_len 0 readers k d (omega arith) in omega arith) in
    record {
      pins = λ slot low. no_count slots slot some_slot;
      handles = each_one _ v (All-nil (KeepsEntry slots [] (number_at (set (replicate slots empty) 0 first))));
      follows = record {
        some_slot = some_slot;
        replay = refl;
        front = refl;
        wide = length-set (replicate slots empty) 0 first ∙ length-replicate slots empty;
        kept = λ slot low none. first_kept slots slot some_slot;
      };
      turn = record {
        one = refl;
        each = each_one _ v record {
          holder = λ is. absurd (cc);
          current = λ is. absurd (cc);
          claims = λ slot is. absurd (cc);
          inside = λ slot is. absurd (cc);
          unlisted = λ slot is. absurd (cc);
          coming = λ slot is. absurd (cc);
        };
      };
      owners = record {
        numbers = λ number low. (let once = times_range number 0 readers (omega arith) (omega arith) in omega arith);
        whole = (let long = length-range_with_len 0 readers in omega arith);
        main = refl;
        writers = All-nil (λ (write : Write). write.by < readers);
        counted = λ number. refl;
        each = each_one _ v record {
          reader = λ is. absurd (cc);
          main = λ _. (refl, refl, refl, refl);
          inside = inside;
          seen = refl;
          own = λ number one. refl;
          told = λ number one. refl;
          only = All-nil (λ (write : Write). has_number write.by v ≡ 1);
        };
      };
      places = each_one _ v record {
        same = refl;
        above = omega arith;
        entries = All-nil (WasFront slots [] 0 0);
        pinned = All-nil (WasFrontOnce slots [] 0 0);
      };
      room = omega arith;
      spent = λ id u at is. absurd (main_only v refl id u at is);
      few = each_one _ v (omega arith);
    }

-- ---- all readers out ----

module _ (writes : ℕ) where
  abbrev out : ℕ → ℕ → List View
  out from count = map (reader_at_first writes) (range_with_len from count)

  numbers_out : (number from count : ℕ) → total (has_number number) (out from count) ≡ times number (range_with_len from count)
  numbers_out number from zero = refl
  numbers_out number from (suc count) = let rest = numbers_out number (from + 1) count in omega arith

  counts_out : (from count : ℕ) → total number_count (out from count) ≡ count
  counts_out from zero = refl
  counts_out from (suc count) = let rest = counts_out (from + 1) count in omega arith

  allowances_out : (from count : ℕ) → total allowance_of (out from count) ≡ count * writes
  allowances_out from zero = omega arith
  allowances_out from (suc count) = let rest = allowances_out (from + 1) count in omega (arith, suc-mul count writes)

  none_out : (f : View → ℕ) (from count : ℕ) → ((number : ℕ) → f (reader_at_first writes number) ≡ 0) → total f (out from count) ≡ 0
  none_out f from zero none = refl
  none_out f from (suc count) none = let rest = none_out f (from + 1) count none in let here = none from in omega arith

  each_out : (P : View → Type 0) (from count : ℕ) → ((number : ℕ) → number < from + count → P (reader_at_first writes number)) → (id : ℕ) (u : View) → get_elem? (out from count) id ≡ some u → P u
  each_out P from zero all id u at = absurd (some-ne-none u (sym at))
  each_out P from (suc count) all zero u at = subst P (some-injective (reader_at_first writes from) u at) (all from (omega arith))
  each_out P from (suc count) all (suc id) u at = each_out P (from + 1) count (λ number low. all number (omega arith)) id u at

  each_with_out : (P : View → Type 0) (v : View) (count : ℕ) → P v → ((number : ℕ) → number < count → P (reader_at_first writes number)) → EachSeat P (v ∷ out 0 count)
  each_with_out P v count main all zero u at live = subst P (some-injective v u at) main
  each_with_out P v count main all (suc id) u at live = each_out P 0 count (λ number low. all number (omega arith)) id u at

pub opens_with_readers : (slots readers writes : ℕ) → 0 < slots → Lawful (opening_with_readers slots readers writes)
opens_with_readers slots readers writes some_slot =
    let main : View = record spent { role = roles.Main } in
    record {
      pins = λ slot low. (let none = none_out writes (pins_at slot) 0 readers (λ n. refl) in let count = no_count slots slot some_slot in omega arith);
      handles = each_with_out writes _ main readers (All-nil (KeepsEntry slots [] (number_at (set (replicate slots empty) 0 first)))) (λ n low. All-nil (KeepsEntry slots [] (number_at (set (replicate slots empty) 0 first))));
      follows = record {
        some_slot = some_slot;
        replay = refl;
        front = refl;
        wide = length-set (replicate slots empty) 0 first ∙ length-replicate slots empty;
        kept = λ slot low none. first_kept slots slot some_slot;
      };
      turn = record {
        one = (let none = none_out writes has_turn 0 readers (λ n. refl) in omega arith);
        each = each_with_out writes _ main readers record {
          holder = λ is. absurd (cc);
          current = λ is. absurd (cc);
          claims = λ slot is. absurd (cc);
          inside = λ slot is. absurd (cc);
          unlisted = λ slot is. absurd (cc);
          coming = λ slot is. absurd (cc);
        } (λ n low. record {
          holder = λ is. absurd (cc);
          current = λ is. absurd (cc);
          claims = λ slot is. absurd (cc);
          inside = λ slot is. absurd (cc);
          unlisted = λ slot is. absurd (cc);
          coming = λ slot is. absurd (cc);
        });
      };
      owners = record {
        numbers = λ number low. (let all = numbers_out writes number 0 readers in let once = times_range number 0 readers (omega arith) (omega arith) in omega arith);
        whole = (let all = counts_out writes 0 readers in omega arith);
        main = (let none = none_out writes is_main 0 readers (λ n. refl) in omega arith);
        writers = All-nil (λ (write : Write). write.by < readers);
        counted = λ number. refl;
        each = each_with_out writes _ main readers record {
          reader = λ is. absurd (cc);
          main = λ _. (refl, refl, refl, refl);
          inside = All-nil (λ n. n < readers);
          seen = refl;
          own = λ number one. refl;
          told = λ number one. refl;
          only = All-nil (λ (write : Write). has_number write.by main ≡ 1);
        } (λ n low. record {
          reader = λ _. (n, refl);
          main = λ is. absurd (cc);
          inside = All-cons (λ k. k < readers) n [] low (All-nil (λ k. k < readers));
          seen = refl;
          own = λ number one. refl;
          told = λ number one. refl;
          only = All-nil (λ (write : Write). has_number write.by (reader_at_first writes n) ≡ 1);
        });
      };
      places = each_with_out writes _ main readers record {
        same = refl;
        above = omega arith;
        entries = All-nil (WasFront slots [] 0 0);
        pinned = All-nil (WasFrontOnce slots [] 0 0);
      } (λ n low. record {
        same = refl;
        above = omega arith;
        entries = All-nil (WasFront slots [] 0 0);
        pinned = All-nil (WasFrontOnce slots [] 0 0);
      });
      room = (let all = allowances_out writes 0 readers in omega arith);
      spent = λ id u at is. (let live : u.role ≢ roles.Spent = no_spent id u at in absurd (live is));
      few = each_with_out writes _ main readers (omega arith) (λ n low. omega arith);
    }
  where
    no_spent : (id : ℕ) (u : View) → get_elem? (record spent { role = roles.Main } ∷ out writes 0 readers) id ≡ some u → u.role ≢ roles.Spent
    no_spent zero u at is = let role = ap (λ (x : View). x.role) (some-injective record spent { role = roles.Main } u at) in absurd (cc)
    no_spent (suc id) u at is = each_out writes (λ (x : View). x.role ≢ roles.Spent) 0 readers (λ n low spent. absurd (cc)) id u at is

-- The opening of a schedule, as what splits make of the opening of a list.
use Rattle.std.proofs.Common.{◌≡◌, ℕ, zero, suc, ◌+◌, ◌-◌, ◌*◌, ◌<◌, ◌==◌, Bool, true, false, not, cond, List, [], ◌∷◌, ◌++◌, length, map, filter, suc-mul, sym, refl, ap, ◌∙◌, subst, arith, eq-eqb, ne_eqb}
use Rattle.std.specs.List.{range_with_len}
use Rattle.std.proofs.Math.Nat.{zero-mul}
use Rattle.std.proofs.lemmas.Bool.{cond-true, cond-false}
use Rattle.pin_core.specs.declared.view.View.{View}
use Rattle.pin_core.specs.declared.view.Role.TheVariants as roles
use Rattle.pin_core.specs.Core.{CoreState, one_if, times, spent}
use Rattle.pin_core.specs.Step.{MaySplit, floor_after, split, opening_state, reader_at_first, opening_with_readers}
use Rattle.pin_core.specs.Run.{splits, Reaches, stays, moves_on}

-- ---- numbers in a row ----

times_before : (number from count : ℕ) → number < from → times number (range_with_len from count) ≡ 0
times_before number from zero low = refl
times_before number from (suc count) low =
    let none = ap one_if (ne_eqb from number (λ is. omega arith)) in let rest = times_before number (from + 1) count (omega arith) in omega arith

kept_before : (number from count : ℕ) → number < from → filter (λ other. not (other == number)) (range_with_len from count) ≡ range_with_len from count
kept_before number from zero low = refl
kept_before number from (suc count) low =
    let rest = kept_before number (from + 1) count (omega arith) in
    cond-true (not (from == number)) (from ∷ filter (λ other. not (other == number)) (range_with_len (from + 1) count)) (filter (λ other. not (other == number)) (range_with_len (from + 1) count)) (ap not (ne_eqb from number (λ is. omega arith)))
    ∙ ap (λ (ns : List ℕ). from ∷ ns) rest

row_more : (f : ℕ → View) (from count : ℕ) → map f (range_with_len from count) ++ f (from + count) ∷ [] ≡ map f (range_with_len from (suc count))
row_more f from zero = let same : from + 0 ≡ from = omega arith in ap (λ n. f n ∷ []) same
row_more f from (suc count) = let same : from + suc count ≡ from + 1 + count = omega arith in
    ap (λ n. f from ∷ (map f (range_with_len (from + 1) count) ++ f n ∷ [])) same ∙ ap (λ (vs : List View). f from ∷ vs) (row_more f (from + 1) count)

same_both : (b : Bool) (n : ℕ) → cond b n n ≡ n
same_both true n = refl
same_both false n = refl

-- ---- one split after another ----

module _ (slots readers writes : ℕ) where
  -- what the main knows after k splits, when m numbers are left
  abbrev main_after : ℕ → ℕ → View
  main_after k m = record spent { role = roles.Main; numbers = range_with_len k m; allowance = m * writes }

  abbrev after_splits : ℕ → ℕ → CoreState
  after_splits k m = record (opening_state slots readers (readers * writes)) { views = main_after k m ∷ map (reader_at_first writes) (range_with_len 0 k) }

  may_split : (k m : ℕ) → MaySplit k writes (main_after k (suc m))
  may_split k m = record {
    main = refl;
    mine = (let one = ap one_if (eq-eqb k k refl) in let none = times_before k (k + 1) m (omega arith) in omega arith);
    room = (let more = suc-mul m writes in omega arith);
  }

  one_split : (k m : ℕ) → split (after_splits k (suc m)) 0 (main_after k (suc m)) k writes ≡ after_splits (suc k) m
  one_split k m =
      let v : View = main_after k (suc m) in
      let floor : floor_after readers v ≡ 0 = same_both (length v.numbers == readers) 0 in
      let rest : List ℕ = filter (λ other. not (other == k)) (range_with_len (k + 1) m) in
      let next : k + 1 ≡ suc k = omega arith in
      let numbers : filter (λ other. not (other == k)) (range_with_len k (suc m)) ≡ range_with_len (suc k) m =
      cond-false (not (k == k)) (k ∷ rest) rest (ap not (eq-eqb k k refl)) ∙ kept_before k (k + 1) m (omega arith) ∙ ap (λ n. range_with_len n m) next in
      let allowance : suc m * writes - writes ≡ m * writes = (let more = suc-mul m writes in omega arith) in
      let zero_k : 0 + k ≡ k = omega arith in
      let row : map (reader_at_first writes) (range_with_len 0 k) ++ reader_at_first writes k ∷ [] ≡ map (reader_at_first writes) (range_with_len 0 (suc k)) =
      ap (λ n. map (reader_at_first writes) (range_with_len 0 k) ++ reader_at_first writes n ∷ []) (sym zero_k) ∙ row_more (reader_at_first writes) 0 k in
      (λ i. record (opening_state slots readers (readers * writes)) {
        views = record spent { role = roles.Main; numbers = numbers i; allowance = allowance i; floor = floor i } ∷ (map (reader_at_first writes) (range_with_len 0 k) ++ record spent { role = roles.Reader; numbers = k ∷ []; allowance = writes; floor = floor i } ∷ []);
        floor = floor i;
      }) ∙ ap (λ (vs : List View). record (opening_state slots readers (readers * writes)) { views = main_after (suc k) m ∷ vs }) row

  splits_on : (m k : ℕ) → k + m ≡ readers → Reaches (opening_state slots readers (readers * writes)) (after_splits k m) → Reaches (opening_state slots readers (readers * writes)) (after_splits readers 0)
  splits_on zero k all run = let same : k ≡ readers = omega arith in subst (λ n. Reaches (opening_state slots readers (readers * writes)) (after_splits n 0)) same run
  splits_on (suc m) k all run = splits_on m (suc k) (omega arith)
      (subst (λ (t : CoreState). Reaches (opening_state slots readers (readers * writes)) t) (one_split k m)
      (moves_on (after_splits k (suc m)) (split (after_splits k (suc m)) 0 (main_after k (suc m)) k writes) run (splits 0 (main_after k (suc m)) k writes refl (may_split k m))))

  pub opening_reached : Reaches (opening_state slots readers (readers * writes)) (opening_with_readers slots readers writes)
  opening_reached =
      let none : 0 * writes ≡ 0 = zero-mul writes in
      subst (λ n. Reaches (opening_state slots readers (readers * writes)) (record (opening_state slots readers (readers * writes)) { views = record spent { role = roles.Main; allowance = n } ∷ map (reader_at_first writes) (range_with_len 0 readers) })) none
      (splits_on readers 0 (omega arith) stays)

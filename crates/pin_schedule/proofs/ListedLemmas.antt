-- Versions that are listed, as a course keeps them at hand.
use Rattle.std.proofs.Common.{◌≡◌, ℕ, List, [], ◌∷◌, map, filter, fold, max, cond, true, false, not, eqb, ltb, ◌||◌, refl, ap, arith}
use Rattle.pin_book.specs.Replay.{Edition, greatest_number, greatest_below, is_listed, is_slot_listed}
use Rattle.pin_schedule.specs.declared.row.Row.{Row}
use Rattle.pin_schedule.specs.Progress.{listed_row, greatest_under, is_placed, is_numbered, without}

pub fold_greatest : (most : ℕ) (numbers : List ℕ) → fold (λ (a b : ℕ). max a b) most numbers ≡ max most (greatest_number numbers)
fold_greatest most [] = omega arith
fold_greatest most (n ∷ ns) = let rest = fold_greatest (max most n) ns in omega (arith, rest)

pub numbers_placed : (es : List Edition) → map (λ (row : Row). row.n) (map listed_row es) ≡ map (λ (e : Edition). e.n) es
numbers_placed [] = refl
numbers_placed (e ∷ es) = ap (λ (ns : List ℕ). e.n ∷ ns) (numbers_placed es)

pub slot_placed : (slot : ℕ) (es : List Edition) → is_placed slot (map listed_row es) ≡ is_slot_listed slot es
slot_placed slot [] = refl
slot_placed slot (e ∷ es) = ap (λ b. eqb e.slot slot || b) (slot_placed slot es)

pub number_placed : (number : ℕ) (es : List Edition) → is_numbered number (map listed_row es) ≡ is_listed number es
number_placed number [] = refl
number_placed number (e ∷ es) = ap (λ b. eqb e.n number || b) (number_placed number es)

pub greatest_placed : (number : ℕ) (es : List Edition) → greatest_under number (map listed_row es) ≡ greatest_below number es
greatest_placed number es = ap (λ (ns : List ℕ). greatest_number (filter (λ other. ltb other number) ns)) (numbers_placed es)

pub without_placed : (gone : ℕ) (es : List Edition) → without gone (map listed_row es) ≡ map listed_row (filter (λ (e : Edition). not (eqb e.n gone)) es)
without_placed gone [] = refl
without_placed gone (e ∷ es) =
    elim (not (eqb e.n gone)) as (λ b. cond b (listed_row e ∷ without gone (map listed_row es)) (without gone (map listed_row es)) ≡ map listed_row (cond b (e ∷ filter (λ (x : Edition). not (eqb x.n gone)) es) (filter (λ (x : Edition). not (eqb x.n gone)) es))) [
      | true ↦ ap (λ (rows : List Row). listed_row e ∷ rows) (without_placed gone es)
      | false ↦ without_placed gone es
    ]

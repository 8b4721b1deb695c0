-- Slot words after one of them changes.
use Rattle.std.proofs.Common.{◌≡◌, ◌≢◌, ℕ, zero, suc, ◌<◌, List, [], ◌∷◌, set, length, refl, ap}
use Rattle.std.proofs.lemmas.List.{get_or-set_same, get_or-set_other}
use Rattle.pin_core.specs.declared.entry.SlotWord.{SlotWord}
use Rattle.pin_core.specs.Core.{number_at, count_at}
use Rattle.pin_core.specs.Step.{with_count}

-- another count changes no number
recounted : (words : List SlotWord) (slot count other : ℕ) → number_at (with_count words slot count) other ≡ number_at words other
recounted [] slot count other = refl
recounted (x ∷ xs) zero count zero = refl
recounted (x ∷ xs) zero count (suc other) = refl
recounted (x ∷ xs) (suc slot) count zero = refl
recounted (x ∷ xs) (suc slot) count (suc other) = recounted xs slot count other

pub numbers_kept : (words : List SlotWord) (slot count : ℕ) → number_at (with_count words slot count) ≡ number_at words
numbers_kept words slot count = λ i other. recounted words slot count other i

module _ (words : List SlotWord) (slot : ℕ) (new : SlotWord) where
  -- the word that was written, and each other one
  pub count_here : slot < length words → count_at (set words slot new) slot ≡ new.count
  count_here inside = ap (λ (w : SlotWord). w.count) (get_or-set_same words slot new record { number = 0; count = 0 } inside)

  pub count_else : (other : ℕ) → other ≢ slot → count_at (set words slot new) other ≡ count_at words other
  count_else other else = ap (λ (w : SlotWord). w.count) (get_or-set_other words slot other new record { number = 0; count = 0 } else)

  pub number_here : slot < length words → number_at (set words slot new) slot ≡ new.number
  number_here inside = ap (λ (w : SlotWord). w.number) (get_or-set_same words slot new record { number = 0; count = 0 } inside)

  pub number_else : (other : ℕ) → other ≢ slot → number_at (set words slot new) other ≡ number_at words other
  number_else other else = ap (λ (w : SlotWord). w.number) (get_or-set_other words slot other new record { number = 0; count = 0 } else)

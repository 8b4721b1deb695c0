-- Lists of a few words.
use Rattle.std.proofs.Common.{◌≡◌, Bool, true, false, not, bytes_eq, ℕ, List, [], ◌∷◌, length, get_or, refl, arith}
use Rattle.std.proofs.lemmas.Slice.Eq.{bytes_eq-Decides}

-- a list of two elements is those at its two places
pub two : {A : Type 0} (xs : List A) (a b : A) → length xs ≡ 2 → a ≡ get_or xs 0 a → b ≡ get_or xs 1 b → xs ≡ a ∷ b ∷ []
two [] a b h p q = absurd (omega arith)
two (w ∷ []) a b h p q = absurd (omega arith)
two (w ∷ x ∷ []) a b h p q = cc
two (w ∷ x ∷ y ∷ xs) a b h p q = absurd (omega arith)

-- a list of four elements is those at its four places
pub four : {A : Type 0} (xs : List A) (a b c d : A) → length xs ≡ 4 → a ≡ get_or xs 0 a → b ≡ get_or xs 1 b → c ≡ get_or xs 2 c → d ≡ get_or xs 3 d → xs ≡ a ∷ b ∷ c ∷ d ∷ []
four [] a b c d h p q r s = absurd (omega arith)
four (w ∷ []) a b c d h p q r s = absurd (omega arith)
four (w ∷ x ∷ []) a b c d h p q r s = absurd (omega arith)
four (w ∷ x ∷ y ∷ []) a b c d h p q r s = absurd (omega arith)
four (w ∷ x ∷ y ∷ z ∷ []) a b c d h p q r s = cc
four (w ∷ x ∷ y ∷ z ∷ v ∷ xs) a b c d h p q r s = absurd (omega arith)

-- a list of five elements is those at its five places
pub five : {A : Type 0} (xs : List A) (a b c d e : A) → length xs ≡ 5 → a ≡ get_or xs 0 a → b ≡ get_or xs 1 b → c ≡ get_or xs 2 c → d ≡ get_or xs 3 d → e ≡ get_or xs 4 e → xs ≡ a ∷ b ∷ c ∷ d ∷ e ∷ []
five [] a b c d e h p q r s t = absurd (omega arith)
five (w ∷ []) a b c d e h p q r s t = absurd (omega arith)
five (w ∷ x ∷ []) a b c d e h p q r s t = absurd (omega arith)
five (w ∷ x ∷ y ∷ []) a b c d e h p q r s t = absurd (omega arith)
five (w ∷ x ∷ y ∷ z ∷ []) a b c d e h p q r s t = absurd (omega arith)
five (w ∷ x ∷ y ∷ z ∷ v ∷ []) a b c d e h p q r s t = cc
five (w ∷ x ∷ y ∷ z ∷ v ∷ u ∷ xs) a b c d e h p q r s t = absurd (omega arith)

-- texts that are alike byte by byte are equal
pub alike : (word entry : List ℕ) → false ≡ not (bytes_eq word entry) → word ≡ entry
alike word entry h = (bytes_eq-Decides word entry).0 (yes_not (bytes_eq word entry) h)
  where
    yes_not : (b : Bool) → false ≡ not b → b ≡ true
    yes_not true h = refl
    yes_not false h = cc

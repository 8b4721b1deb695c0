-- Where numbers end in a text.
use Rattle.std.proofs.Common.{◌≡◌, ℕ, ◌<◌, ◌^◌, List, [], ◌∷◌, ◌++◌, refl, ap, arith}
use Rattle.std.specs.Fmt.{decimal}
use Rattle.std.specs.Str.Parse.{AllDigits}
use Rattle.std.proofs.lemmas.Fmt.{decimal_is_IsNumeral, decimal_injective}
use Rattle.std.proofs.lemmas.Str.Parse.{digit_from_value}

-- two texts that are one have the same first byte
pub first_same : (a b : ℕ) (x y : List ℕ) → a ∷ x ≡ b ∷ y → a ≡ b
first_same a b x y e = cc

-- and the same bytes behind it
pub rest_same : (a b : ℕ) (x y : List ℕ) → a ∷ x ≡ b ∷ y → x ≡ y
rest_same a b x y e = cc

both_more : (a : ℕ) (xs ys u v : List ℕ) → (xs ≡ ys) × (u ≡ v) → (a ∷ xs ≡ a ∷ ys) × (u ≡ v)
both_more a xs ys u v h = (ap (λ zs. a ∷ zs) h.0, h.1)

-- digits end where a byte below them stands
pub digits_end : (a b : List ℕ) (c d : ℕ) (x y : List ℕ) → AllDigits 10 a → AllDigits 10 b → c < 48 → d < 48
    → a ++ c ∷ x ≡ b ++ d ∷ y → (a ≡ b) × (c ∷ x ≡ d ∷ y)
digits_end [] [] c d x y all_a all_b low_c low_d e = (refl, e)
digits_end [] (g ∷ b) c d x y all_a all_b low_c low_d e =
    absurd (omega (arith, digit_from_value g all_b.0, first_same c g x (b ++ d ∷ y) e))
digits_end (f ∷ a) [] c d x y all_a all_b low_c low_d e =
    absurd (omega (arith, digit_from_value f all_a.0, first_same f d (a ++ c ∷ x) y e))
digits_end (f ∷ a) (g ∷ b) c d x y all_a all_b low_c low_d e =
    let same : f ≡ g = first_same f g (a ++ c ∷ x) (b ++ d ∷ y) e in
    let later = digits_end a b c d x y all_a.1 all_b.1 low_c low_d (rest_same f g (a ++ c ∷ x) (b ++ d ∷ y) e) in
    rw same (both_more g a b (c ∷ x) (d ∷ y) later)

-- a number is settled by what is printed of it, where no digit follows
pub number_ends : (m n c d : ℕ) (x y : List ℕ) → m < 2 ^ 64 → n < 2 ^ 64 → c < 48 → d < 48
    → decimal m ++ c ∷ x ≡ decimal n ++ d ∷ y → (m ≡ n) × (c ∷ x ≡ d ∷ y)
number_ends m n c d x y fits_m fits_n low_c low_d e =
    let cut = digits_end (decimal m) (decimal n) c d x y (decimal_is_IsNumeral m fits_m).0.1 (decimal_is_IsNumeral n fits_n).0.1 low_c low_d e in
    (decimal_injective m n fits_m fits_n cut.0, cut.1)

-- the same where the byte that follows is the same
pub number_before : (c m n : ℕ) (x y : List ℕ) → c < 48 → m < 2 ^ 64 → n < 2 ^ 64
    → decimal m ++ c ∷ x ≡ decimal n ++ c ∷ y → (m ≡ n) × (x ≡ y)
number_before c m n x y low fits_m fits_n e =
    let cut = number_ends m n c c x y fits_m fits_n low low e in
    (cut.0, rest_same c c x y cut.1)

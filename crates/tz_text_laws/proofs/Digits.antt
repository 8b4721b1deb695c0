-- How great numbers, years and amounts may be, by their forms.
use Rattle.std.proofs.Common.{◌≡◌, ℕ, ◌+◌, ◌-◌, ◌*◌, ◌^◌, ◌<◌, ◌≤◌, true, false, ◌&&◌, ◌==◌, nat_le, IsTrue, List, [], ◌∷◌, length, ℤ, pos, neg_ℤ, Option, Some, None, option_map, refl, sym, ap, ◌∙◌, ⊎_elim, lit<, arith, subst}
use Rattle.std.specs.List.{list_all, fold}
use Rattle.std.proofs.lemmas.Bool.{cases_Bool}
use Rattle.std.proofs.lemmas.Bool.Decides.{nat_tests}
use Rattle.std.proofs.Math.Nat.{pow-le-pow_right, pow-succ', mul-le-mul_right, mul_assoc}
use Rattle.jiff_core.specs.Calendar.{IsWithin}
use Rattle.jiff_core.proofs.SignedLemmas.{signed_arith}
use Rattle.tz_types.specs.declared.limit.TheConstants.{LAST_WRITTEN_YEAR}
use Rattle.tz_types.specs.Year.{IsWrittenYear}
use Rattle.tz_specs.specs.Number.{minus, is_digit, decimal_value, are_digits, number_of, signed_number_of, year_of}
use Rattle.tz_specs.proofs.AscendingLemmas.{both_hold}

-- digits behind a value
digits_below : (value : ℕ) (digits : List ℕ) → IsTrue (list_all is_digit digits) → fold (λ value digit. 10 * value + (digit - 0x30)) value digits < (value + 1) * 10 ^ length digits
digits_below value [] h = omega arith
digits_below value (digit ∷ digits) h =
    let both = both_hold (is_digit digit) (list_all is_digit digits) h in
    let small : digit - 0x30 ≤ 9 = grind (arith, nat_tests, both.0) in
    let later = digits_below (10 * value + (digit - 0x30)) digits both.1 in
    let room : (10 * value + (digit - 0x30) + 1) * 10 ^ length digits ≤ (value + 1) * 10 * 10 ^ length digits =
    mul-le-mul_right (10 ^ length digits) (omega (arith, small)) in
    let power : (value + 1) * 10 ^ length (digit ∷ digits) ≡ (value + 1) * 10 * 10 ^ length digits =
    ap (λ n. (value + 1) * n) (pow-succ' 10 (length digits)) ∙ sym (mul_assoc (value + 1) 10 (10 ^ length digits)) in
    omega (arith, later, room, power)

-- a number of at most so many digits lies below the power
pub number_below : (least most : ℕ) (word : List ℕ) (value : ℕ) → number_of least most word ≡ Some value → value < 10 ^ most
unfolding number_of
number_below least most word value h =
    ⊎_elim (λ (digits : are_digits least most word ≡ true).
    let parts = both_hold (nat_le least (length word) && nat_le (length word) most) (list_all is_digit word) digits in
    let sizes = both_hold (nat_le least (length word)) (nat_le (length word) most) parts.0 in
    let few : length word ≤ most = grind (arith, nat_tests, sizes.1) in
    let below = digits_below 0 word parts.1 in
    let wide = pow-le-pow_right {n = 10} (lit< tt) {i = length word} {j = most} few in
    let is : Some (decimal_value word) ≡ Some value = rw digits at h in
    let same : decimal_value word ≡ value = cc in
    omega (arith, below, wide, same))
    (λ (none : are_digits least most word ≡ false). let bad : None ≡ Some value = rw none at h in absurd (cc))
    (cases_Bool (are_digits least most word))

unsigned : (most : ℕ) (word : List ℕ) (value : ℤ) (limit : ℕ) → 10 ^ most ≡ limit + 1 → option_map pos (number_of 1 most word) ≡ Some value → IsWithin limit value
unsigned most word value limit is h = by_number (number_of 1 most word) refl h
  where
    by_number : (number : Option ℕ) → number_of 1 most word ≡ number → option_map pos number ≡ Some value → IsWithin limit value
    by_number None from h = absurd (cc)
    by_number (Some n) from h =
        let same : pos n ≡ value = cc in
        let below = number_below 1 most word n from in
        subst (IsWithin limit) same (omega (arith, signed_arith), omega (arith, signed_arith, below, is))

negative : (most : ℕ) (word : List ℕ) (value : ℤ) (limit : ℕ) → 10 ^ most ≡ limit + 1 → option_map (λ value. neg_ℤ (pos value)) (number_of 1 most word) ≡ Some value → IsWithin limit value
negative most word value limit is h = by_number (number_of 1 most word) refl h
  where
    by_number : (number : Option ℕ) → number_of 1 most word ≡ number → option_map (λ value. neg_ℤ (pos value)) number ≡ Some value → IsWithin limit value
    by_number None from h = absurd (cc)
    by_number (Some n) from h =
        let same : neg_ℤ (pos n) ≡ value = cc in
        let below = number_below 1 most word n from in
        subst (IsWithin limit) same (omega (arith, signed_arith, below, is), omega (arith, signed_arith))

-- a number with an optional sign lies as far from 0
pub signed_within : (most : ℕ) (word : List ℕ) (value : ℤ) (limit : ℕ) → 10 ^ most ≡ limit + 1 → signed_number_of 1 most word ≡ Some value → IsWithin limit value
unfolding signed_number_of
signed_within most [] value limit is h = unsigned most [] value limit is h
signed_within most (byte ∷ rest) value limit is h =
    ⊎_elim (λ (sign : (byte == minus) ≡ true). negative most rest value limit is (rw sign at h))
    (λ (none : (byte == minus) ≡ false). unsigned most (byte ∷ rest) value limit is (rw none at h))
    (cases_Bool (byte == minus))

-- a year has at most nine digits
pub year_within : (field : List ℕ) (year : ℤ) → year_of field ≡ Some year → IsWrittenYear year
year_within field year h = signed_within 9 field year LAST_WRITTEN_YEAR refl h

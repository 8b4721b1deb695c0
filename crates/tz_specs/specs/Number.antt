-- Decimal numbers and years, as texts write them.
use Rattle.std.specs.Prelude.{ℕ, ◌+◌, ◌-◌, ◌*◌, ◌==◌, nat_le, Bool, ◌&&◌, if◌then◌else◌, List, [], ◌∷◌, length, fold, ℤ, pos, neg_ℤ, Option, Some, None, option_map}
use Rattle.std.specs.List.{list_all}

abbrev pub minus : ℕ
minus = 0x2d

abbrev pub is_digit : ℕ → Bool
is_digit byte = nat_le 0x30 byte && nat_le byte 0x39

-- what the digits stand for, the first being the highest
abbrev pub decimal_value : List ℕ → ℕ
decimal_value digits = fold (λ value digit. 10 * value + (digit - 0x30)) 0 digits

-- least to most bytes, all of them digits
abbrev pub are_digits : ℕ → ℕ → List ℕ → Bool
are_digits least most word = nat_le least (length word) && nat_le (length word) most && list_all is_digit word

-- a number of least to most digits
unfoldable pub number_of : ℕ → ℕ → List ℕ → Option ℕ
number_of least most word = if are_digits least most word then Some (decimal_value word) else None

-- the same with an optional `-` before it
unfoldable pub signed_number_of : ℕ → ℕ → List ℕ → Option ℤ
signed_number_of least most [] = option_map pos (number_of least most [])
signed_number_of least most (byte ∷ rest) =
    if byte == minus then option_map (λ value. neg_ℤ (pos value)) (number_of least most rest)
    else option_map pos (number_of least most (byte ∷ rest))

-- a year: an optional `-` and one to nine digits
abbrev pub year_of : List ℕ → Option ℤ
year_of word = signed_number_of 1 9 word

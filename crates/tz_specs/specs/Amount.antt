-- Amounts of time, after zic(8), "Rule lines", AT and SAVE: `2`, `2:00`, `15:00`, `2:30s`, `1:28:14`, `00:19:32.13`, `-2:30`.
-- An amount is rounded to the nearest second, and a tie to the even one. The sign is applied last.
use Rattle.std.specs.Prelude.{ℕ, ◌+◌, ◌*◌, ◌%◌, ◌^◌, ◌==◌, nat_le, nat_lt, if◌then◌else◌, List, [], ◌∷◌, length, ℤ, pos, neg_ℤ, Option, Some, None, option_map}
use Rattle.std.specs.List.{list_any}
use Rattle.tz_specs.specs.Choice.{◌>>=◌, only_if}
use Rattle.tz_specs.specs.Number.{minus, number_of, are_digits, decimal_value}
use Rattle.tz_specs.specs.Parts.{parts_at}
use Rattle.tz_specs.specs.Word.{lower}

-- whole seconds, and the digits of a fraction of one more
pub record Length : Type 0 where
  pub whole : ℕ
  pub fraction : List ℕ

-- the nearest second, of two that are as near the even one
abbrev pub rounded : Length → ℕ
rounded size =
    let tenths = 10 ^ length size.fraction in
    let twice = 2 * decimal_value size.fraction in
    if nat_lt twice tenths then size.whole
    else (if nat_lt tenths twice then size.whole + 1 else size.whole + size.whole % 2)

-- a number of at most two digits that is at most so much
abbrev pub part_up_to : ℕ → List ℕ → Option ℕ
part_up_to most word = number_of 1 2 word >>= λ value. only_if (nat_le value most) value

-- seconds, and where there is a point, the fraction after it of one to twelve digits
abbrev pub seconds_of : List (List ℕ) → Option Length
seconds_of [] = None
seconds_of (seconds ∷ []) = option_map (λ value. record { whole = value; fraction = [] }) (part_up_to 60 seconds)
seconds_of (seconds ∷ fraction ∷ []) =
    part_up_to 60 seconds >>= λ value. only_if (are_digits 1 12 fraction) (record { whole = value; fraction = fraction })
seconds_of (seconds ∷ fraction ∷ other ∷ parts) = None

-- hours; hours and minutes; hours, minutes and seconds
abbrev pub clock_of : List (List ℕ) → Option Length
clock_of [] = None
clock_of (hours ∷ []) = option_map (λ h. record { whole = 3600 * h; fraction = [] }) (number_of 1 3 hours)
clock_of (hours ∷ minutes ∷ []) = do
  h ← number_of 1 3 hours
  m ← part_up_to 59 minutes
  Some (record { whole = 3600 * h + 60 * m; fraction = [] })
clock_of (hours ∷ minutes ∷ seconds ∷ []) = do
  h ← number_of 1 3 hours
  m ← part_up_to 59 minutes
  s ← seconds_of (parts_at 0x2e seconds)
  Some (record { whole = 3600 * h + 60 * m + s.whole; fraction = s.fraction })
clock_of (hours ∷ minutes ∷ seconds ∷ other ∷ parts) = None

-- the size of an amount: hours, minutes and seconds between colons
unfoldable pub size_of : List ℕ → Option ℕ
size_of word = option_map rounded (clock_of (parts_at 0x3a word))

-- the bytes before the last one, and the last one in lower case, where that is one of the letters; else all and 0
abbrev pub onto_front : ℕ → List ℕ × ℕ → List ℕ × ℕ
onto_front byte split = (byte ∷ split.0, split.1)

abbrev pub suffix_split : List ℕ → List ℕ → List ℕ × ℕ
suffix_split letters [] = ([], 0)
suffix_split letters (byte ∷ []) =
    if list_any (λ letter. lower byte == letter) letters then ([], lower byte) else (byte ∷ [], 0)
suffix_split letters (byte ∷ next ∷ bytes) = onto_front byte (suffix_split letters (next ∷ bytes))

-- the amount without a sign, and its suffix
abbrev pub unsigned_amount : List ℕ → List ℕ → Option (ℕ × ℕ)
unsigned_amount letters word =
    let split = suffix_split letters word in
    option_map (λ size. (size, split.1)) (size_of split.0)

-- Seconds, and the suffix in lower case or 0 where there is none. A lone `-` is 0 seconds, and takes no suffix.
unfoldable pub amount_of : List ℕ → List ℕ → Option (ℤ × ℕ)
amount_of letters [] = None
amount_of letters (byte ∷ []) =
    if byte == minus then Some (pos 0, 0)
    else option_map (λ amount. (pos amount.0, amount.1)) (unsigned_amount letters (byte ∷ []))
amount_of letters (byte ∷ next ∷ rest) =
    if byte == minus then option_map (λ amount. (neg_ℤ (pos amount.0), amount.1)) (unsigned_amount letters (next ∷ rest))
    else option_map (λ amount. (pos amount.0, amount.1)) (unsigned_amount letters (byte ∷ next ∷ rest))

-- The offset that a text says: `+` or `-`, and hours, hours and minutes, or hours, minutes and seconds, of two digits each.
use Rattle.std.specs.Prelude.{ℕ, ◌+◌, ◌*◌, ◌==◌, if◌then◌else◌, List, [], ◌∷◌, ℤ, pos, neg_ℤ, Option, Some, None, option_map}
use Rattle.std.specs.List.{list_all}
use Rattle.tz_specs.specs.Number.{is_digit, decimal_value}

-- how many seconds the digits are, by how many there are
abbrev pub seconds_counted : List ℕ → Option ℕ
seconds_counted (a ∷ b ∷ []) = Some (3600 * decimal_value (a ∷ b ∷ []))
seconds_counted (a ∷ b ∷ c ∷ d ∷ []) = Some (3600 * decimal_value (a ∷ b ∷ []) + 60 * decimal_value (c ∷ d ∷ []))
seconds_counted (a ∷ b ∷ c ∷ d ∷ e ∷ f ∷ []) =
    Some (3600 * decimal_value (a ∷ b ∷ []) + 60 * decimal_value (c ∷ d ∷ []) + decimal_value (e ∷ f ∷ []))
seconds_counted _ = None

-- the same, and none where one of them is no digit
abbrev pub seconds_written : List ℕ → Option ℕ
seconds_written digits = if list_all is_digit digits then seconds_counted digits else None

-- the offset: behind `+` the seconds, behind `-` as many the other way
abbrev pub offset_written : List ℕ → Option ℤ
offset_written [] = None
offset_written (sign ∷ digits) =
    if sign == 0x2b then option_map pos (seconds_written digits)
    else if sign == 0x2d then option_map (λ seconds. neg_ℤ (pos seconds)) (seconds_written digits)
    else None

-- The names of holds.
use Rattle.std.specs.Prelude.{ℕ, nat_le, Bool, not, ◌&&◌, ◌||◌, List, length, codes}
use Rattle.std.specs.List.{list_all}
use Rattle.tz_specs.specs.Number.{is_digit}
use Rattle.tz_specs.specs.Value.{is_exactly}
use Rattle.tz_script.specs.declared.limit.TheConstants.{LONGEST_HOLD_NAME}

-- an ASCII letter
abbrev pub is_letter : ℕ → Bool
is_letter byte = (nat_le 0x41 byte && nat_le byte 0x5a) || (nat_le 0x61 byte && nat_le byte 0x7a)

-- an ASCII letter or digit
abbrev pub is_letter_or_digit : ℕ → Bool
is_letter_or_digit byte = is_letter byte || is_digit byte

-- the word that stands for the version at the front of the list
abbrev pub is_front : List ℕ → Bool
is_front word = is_exactly word (codes "front")

-- 1 to 16 letters and digits, other than `front`
abbrev pub is_hold_name : List ℕ → Bool
is_hold_name word =
    nat_le 1 (length word) && nat_le (length word) LONGEST_HOLD_NAME && list_all is_letter_or_digit word && not (is_front word)

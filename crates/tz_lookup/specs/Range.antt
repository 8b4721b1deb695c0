-- How ranges are spelled.
use Rattle.std.specs.Prelude.{ℕ, List, [], ◌∷◌, ◌++◌, codes, ℤ}
use Rattle.std.specs.Fmt.{signed_decimal}
use Rattle.tz_types.specs.declared.range.SysInfo.{SysInfo}

-- an abbreviation, and `""` where it has no bytes
abbrev pub shown : List ℕ → List ℕ
shown [] = codes "\"\""
shown (byte ∷ bytes) = byte ∷ bytes

-- a number and a space
abbrev pub spaced : ℤ → List ℕ
spaced number = signed_decimal number ++ codes " "

-- `BEGIN END OFFSET SAVE ABBREV`
unfoldable pub range_text : SysInfo → List ℕ
range_text range =
    spaced range.begin ++ spaced range.end ++ spaced range.offset ++ spaced range.save ++ shown range.abbrev

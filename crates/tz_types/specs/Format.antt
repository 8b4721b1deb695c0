-- The formats of abbreviations, after zic(8), "Zone lines", FORMAT: a plain text, one with `%s` or `%z` in it,
-- or a pair for standard and daylight time with `/` between.
use Rattle.std.specs.Prelude.{ℕ, ◌+◌, Bool, not, ◌&&◌, ◌||◌, ◌==◌, List, length, nat_le}
use Rattle.std.specs.List.{list_all}
use Rattle.tz_types.specs.declared.limit.TheConstants.{LONGEST_FORMAT}
use Rattle.tz_types.specs.declared.format.Format.{Format}
use Rattle.tz_types.specs.declared.format.Format.TheVariants as formats

-- no `%` and no `/`
abbrev pub is_plain_part : List ℕ → Bool
is_plain_part bytes = list_all (λ byte. not ((byte == 0x25) || (byte == 0x2f))) bytes

-- a format is written with one to so many bytes
abbrev pub is_format_length : ℕ → Bool
is_format_length bytes = nat_le 1 bytes && nat_le bytes LONGEST_FORMAT

abbrev pub is_format : Format → Bool
is_format (formats.Text text) = is_plain_part text && is_format_length (length text)
is_format (formats.Letters before after) =
    is_plain_part before && is_plain_part after && is_format_length (length before + 2 + length after)
is_format (formats.Offset before after) =
    is_plain_part before && is_plain_part after && is_format_length (length before + 2 + length after)
is_format (formats.Pair standard daylight) =
    is_plain_part standard && is_plain_part daylight && nat_le 1 (length standard) && nat_le 1 (length daylight)
    && is_format_length (length standard + 1 + length daylight)

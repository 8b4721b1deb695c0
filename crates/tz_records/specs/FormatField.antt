-- The format that the parts of a field are.
use Rattle.std.specs.Prelude.{Bool, ◌&&◌}
use Rattle.std.specs.List.{list_all}
use Rattle.tz_types.specs.Text.{is_printable}
use Rattle.tz_types.specs.declared.format.Format.{Format}
use Rattle.tz_types.specs.declared.format.Format.TheVariants as formats
use Rattle.tz_records.specs.declared.format_field.FormatField.{FormatField}
use Rattle.tz_records.specs.declared.format_field.FormatField.TheVariants as fields

abbrev pub format_told : FormatField → Format
format_told (fields.Text text) = formats.Text text.now
format_told (fields.Letters before after) = formats.Letters before.now after.now
format_told (fields.Offset before after) = formats.Offset before.now after.now
format_told (fields.Pair standard daylight) = formats.Pair standard.now daylight.now

-- all bytes of a format are visible
abbrev pub is_visible_format : Format → Bool
is_visible_format (formats.Text text) = list_all is_printable text
is_visible_format (formats.Letters before after) = list_all is_printable before && list_all is_printable after
is_visible_format (formats.Offset before after) = list_all is_printable before && list_all is_printable after
is_visible_format (formats.Pair standard daylight) = list_all is_printable standard && list_all is_printable daylight

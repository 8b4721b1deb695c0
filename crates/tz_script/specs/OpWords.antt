-- What the words of an operation say: its keyword, and its operands, as many as it has.
use Rattle.std.specs.Prelude.{ℕ, List, Option}
use Rattle.tz_specs.specs.Choice.{◌>>=◌}
use Rattle.tz_text.specs.LocalTime.{local_time_of}
use Rattle.tz_script.specs.Keyword.{keyword_of}
use Rattle.tz_script.specs.declared.keyword.Keyword.{Keyword}
use Rattle.tz_script.specs.declared.keyword.Keyword.TheVariants as keywords
use Rattle.tz_script.specs.declared.limit.TheConstants.{LAST_SOURCE, LONGEST_STEP, MOST_SCANNED}
use Rattle.tz_script.specs.declared.operation.Op.{Op}
use Rattle.tz_script.specs.declared.operation.Op.TheVariants as ops
use Rattle.tz_script.specs.FirstWord.{first, ends}
use Rattle.tz_script.specs.Operand.{hold_name_of, pick_of, zone_name_of, signed_of, counted_of, choice_of, conversion_of}

-- H
unfoldable pub hold_op : List (List ℕ) → Option Op
hold_op words = first hold_name_of words >>= λ name. ends (ops.Hold name.0) name.1

-- H
unfoldable pub drop_op : List (List ℕ) → Option Op
drop_op words = first hold_name_of words >>= λ name. ends (ops.Drop name.0) name.1

-- V ZONE T
unfoldable pub info_op : List (List ℕ) → Option Op
info_op words = do
  v ← first pick_of words
  zone ← first zone_name_of v.1
  t ← first signed_of zone.1
  ends (ops.Info v.0 zone.0 t.0) t.1

-- V ZONE L
unfoldable pub local_op : List (List ℕ) → Option Op
local_op words = do
  v ← first pick_of words
  zone ← first zone_name_of v.1
  l ← first local_time_of zone.1
  ends (ops.Local v.0 zone.0 l.0) l.1

-- V ZONE L CHOICE
unfoldable pub sys_op : List (List ℕ) → Option Op
sys_op words = do
  v ← first pick_of words
  zone ← first zone_name_of v.1
  l ← first local_time_of zone.1
  choose ← first choice_of l.1
  ends (ops.Sys v.0 zone.0 l.0 choose.0) choose.1

-- V ZONE FROM STEP COUNT
unfoldable pub scan_op : List (List ℕ) → Option Op
scan_op words = do
  v ← first pick_of words
  zone ← first zone_name_of v.1
  from ← first signed_of zone.1
  step ← first (counted_of 1 LONGEST_STEP) from.1
  count ← first (counted_of 1 MOST_SCANNED) step.1
  ends (ops.Scan v.0 zone.0 from.0 step.0 count.0) count.1

-- V CONV X
unfoldable pub clock_op : List (List ℕ) → Option Op
clock_op words = do
  v ← first pick_of words
  conv ← first conversion_of v.1
  x ← first signed_of conv.1
  ends (ops.Clock v.0 conv.0 x.0) x.1

-- SRC
unfoldable pub reload_op : List (List ℕ) → Option Op
reload_op words = first (counted_of 0 LAST_SOURCE) words >>= λ src. ends (ops.Reload src.0) src.1

-- V
unfoldable pub erase_op : List (List ℕ) → Option Op
erase_op words = first pick_of words >>= λ v. ends (ops.Erase v.0) v.1

-- the operation of a keyword, by the words of its operands
abbrev pub op_of : Keyword → List (List ℕ) → Option Op
op_of keywords.Look words = ends ops.Look words
op_of keywords.Hold words = hold_op words
op_of keywords.Drop words = drop_op words
op_of keywords.Info words = info_op words
op_of keywords.Local words = local_op words
op_of keywords.Sys words = sys_op words
op_of keywords.Scan words = scan_op words
op_of keywords.Clock words = clock_op words
op_of keywords.Reload words = reload_op words
op_of keywords.Erase words = erase_op words
op_of keywords.List words = ends ops.List words

-- the keyword that the first word is, and the words after it
abbrev pub keyword_first : List (List ℕ) → Option (Keyword × List (List ℕ))
keyword_first words = first keyword_of words

-- the operation that the words say
abbrev pub op_said : List (List ℕ) → Option Op
op_said words = keyword_first words >>= λ keyword. op_of keyword.0 keyword.1

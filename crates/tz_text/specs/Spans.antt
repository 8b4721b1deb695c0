-- The places of a line's fields.
use Rattle.std.specs.Prelude.{◌≡◌, ℕ, ◌+◌, ◌≤◌, List, [], ◌∷◌, Option, length, map, take, drop, replicate, slice_set}
use Rattle.std.specs.List.{slice_range}
use Rattle.std.specs.Option.{option_map}
use Rattle.tz_specs.specs.Field.{fields_from, Between}
use Rattle.tz_text.specs.declared.kept.TheConstants.{MOST_KEPT}
use Rattle.tz_text.specs.Kept.{Kept}
use Rattle.tz_text.specs.declared.cut.spans.Span.{Span}
use Rattle.tz_text.specs.declared.cut.spans.Span.TheVariants.{Line, Joined}
use Rattle.tz_text.specs.declared.cut.spans.Spans.{Spans}
use Rattle.tz_text.specs.declared.cut.spans.Field.{Field}

-- the bytes of a field, from its line or from the bytes that were joined
abbrev pub bytes_of : List ℕ → List ℕ → Span → List ℕ
bytes_of line joined (Line start end) = slice_range line start end
bytes_of line joined (Joined start end) = slice_range joined start end

-- the place lies within the bytes that it speaks of
abbrev pub LiesIn : List ℕ → List ℕ → Span → Type 0
LiesIn line joined (Line start end) = (start ≤ end) × (end ≤ length line)
LiesIn line joined (Joined start end) = (start ≤ end) × (end ≤ length joined)

-- no field yet
abbrev pub no_spans : Spans
no_spans = record { first = replicate MOST_KEPT (Line 0 0); count = 0 }

-- one field more: its place is kept while there is room
abbrev pub with_span : Spans → Span → Spans
with_span spans span = record { first = slice_set spans.first spans.count span; count = spans.count + 1 }

-- what the places stand for
abbrev pub kept_in : List ℕ → List ℕ → Spans → Kept
kept_in line joined spans =
    record { first = take spans.count (map (bytes_of line joined) spans.first); count = spans.count }

-- the field with which this reading of the line goes on; it ends at `from` or later
pub record IsField (line earlier joined : List ℕ) (from : ℕ) (reading : Option (List (List ℕ))) (field : Field) : Type 0 where
  pub onwards : from ≤ field.after
  pub within : field.after ≤ length line
  pub room : length joined ≤ field.after
  pub longer : length earlier ≤ length joined
  pub same : take (length earlier) joined ≡ earlier
  pub lies : LiesIn line joined field.span
  pub goes_on :
      reading
      ≡ option_map (λ fields. bytes_of line joined field.span ∷ fields) (fields_from Between [] (drop field.after line))

-- What may be wrong with a line of any text, beside its fields.
use Rattle.std.specs.Prelude.{ℕ, ◌==◌, nat_lt, Bool, List, [], ◌∷◌, ◌++◌}
use Rattle.std.specs.Option.{is_none}
use Rattle.std.specs.List.{list_any}
use Rattle.tz_types.specs.declared.limit.TheConstants.{LONGEST_LINE, MOST_TEXT_LINES}
use Rattle.tz_types.specs.declared.cause.Cause.{Cause}
use Rattle.tz_types.specs.declared.cause.Cause.TheVariants as causes
use Rattle.tz_specs.specs.Line.{line_length}
use Rattle.tz_specs.specs.Field.{fields_of}

-- the causes that a line has by its bytes: then it has no fields that could have others
abbrev pub opening_causes : List ℕ → List (Cause × Bool)
opening_causes line =
    (causes.LongLine, nat_lt LONGEST_LINE (line_length line))
    ∷ (causes.Nul, list_any (λ byte. byte == 0) line)
    ∷ (causes.OpenQuote, is_none (fields_of line))
    ∷ []

-- the cause that a line has by its number
abbrev pub number_causes : ℕ → List (Cause × Bool)
number_causes number = (causes.Limit, nat_lt MOST_TEXT_LINES number) ∷ []

-- the causes of a line, by its number and by those of its fields
abbrev pub causes_with : ℕ → List ℕ → List (Cause × Bool) → List (Cause × Bool)
causes_with number line of_fields = opening_causes line ++ of_fields ++ number_causes number

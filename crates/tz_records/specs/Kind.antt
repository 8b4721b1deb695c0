-- The kinds of records, as the reader tells them apart.
use Rattle.std.specs.Prelude.{ℕ, List, [], ◌∷◌, Option, slice_get}
use Rattle.tz_specs.specs.Choice.{◌>>=◌}
use Rattle.tz_specs.specs.Word.{named_entry}
use Rattle.tz_specs.specs.Record.{RuleLine, ZoneLine, LinkLine, ContinuationLine, keyword_table}
use Rattle.tz_specs.specs.Record as records
use Rattle.tz_records.specs.declared.kind.Kind.{Kind}
use Rattle.tz_records.specs.declared.kind.Kind.TheVariants as kinds

abbrev pub kind_told : Kind → records.Kind
kind_told kinds.Rule = RuleLine
kind_told kinds.Zone = ZoneLine
kind_told kinds.Link = LinkLine
kind_told kinds.Continuation = ContinuationLine

-- the kind that a keyword names
abbrev pub kind_named : List ℕ → Option records.Kind
kind_named word =
    named_entry word keyword_table >>= λ place. slice_get (RuleLine ∷ ZoneLine ∷ LinkLine ∷ []) place

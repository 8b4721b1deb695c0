-- The kind of a record by what is kept of its fields.
use Rattle.std.proofs.Common.{◌≡◌, ℕ, false, List, ap}
use Rattle.tz_text.specs.Kept.{Kept, kept_of}
use Rattle.tz_specs.specs.Value.{field_at}
use Rattle.tz_specs.specs.Record.{kind_of_record}
use Rattle.tz_records.specs.Kind.{kind_named}
use Rattle.tz_records.proofs.KeptFields.{first_field}

pub first_kept : (all : List (List ℕ)) (kept : Kept) → kept_of all ≡ kept → kind_of_record false all ≡ kind_named (field_at 0 kept.first)
first_kept all kept e = ap kind_named (first_field all kept e)

-- What a line comes to, of a zone text or of a leap text, by what its bytes and its fields come to.
use Rattle.std.proofs.Common.{◌≡◌, ℕ, Bool, List, ◌++◌, Option, Some, None, option_map, Result, Err, ap}
use Rattle.tz_types.specs.declared.cause.Cause.{Cause}
use Rattle.tz_text.specs.Kept.{Kept, kept_of}
use Rattle.tz_specs.specs.Field.{fields_of}
use Rattle.tz_specs.specs.Causes.{least_cause, unless_cause}
use Rattle.tz_specs.specs.LineCauses.{opening_causes}
use Rattle.tz_specs.specs.Contents.{fields_or_none}
use Rattle.tz_records.proofs.LeastCauses.{least_before, least_after}

-- the least cause of a line, by the causes of its fields
abbrev pub cause_of : (List (List ℕ) → List (Cause × Bool)) → List ℕ → Option Cause
cause_of rows line = least_cause (opening_causes line ++ rows (fields_or_none (fields_of line)))

pub early_cause : (rows : List (List ℕ) → List (Cause × Bool)) (line : List ℕ) (cause : Cause) → least_cause (opening_causes line) ≡ Some cause → cause_of rows line ≡ Some cause
early_cause rows line cause h = least_before (opening_causes line) (rows (fields_or_none (fields_of line))) cause h

read_some : (rows : List (List ℕ) → List (Cause × Bool)) (P : Option Cause → List (List ℕ) → Type 0) (read : Option (List (List ℕ))) (kept : Kept) → option_map kept_of read ≡ Some kept → ((all : List (List ℕ)) → kept_of all ≡ kept → P (least_cause (rows all)) all) → P (least_cause (rows (fields_or_none read))) (fields_or_none read)
read_some rows P None kept e says = cc
read_some rows P (Some all) kept e says =
    let same : kept_of all ≡ kept = cc in
    says all same

-- what holds of all that its fields may be, and of their least cause, holds of the line
pub whole_cause : (rows : List (List ℕ) → List (Cause × Bool)) (P : Option Cause → List (List ℕ) → Type 0) (line : List ℕ) (kept : Kept) → least_cause (opening_causes line) ≡ None → option_map kept_of (fields_of line) ≡ Some kept → ((all : List (List ℕ)) → kept_of all ≡ kept → P (least_cause (rows all)) all) → P (cause_of rows line) (fields_or_none (fields_of line))
whole_cause rows P line kept none e says =
    rw (least_after (opening_causes line) (rows (fields_or_none (fields_of line))) none) (read_some rows P (fields_of line) kept e says)

-- the least cause of a line, or else what it says, by what its fields say
abbrev pub comes_to : {A : Type 0} → (List (List ℕ) → List (Cause × Bool)) → (List (List ℕ) → A) → List ℕ → Result A Cause
comes_to rows said line = unless_cause (cause_of rows line) (said (fields_or_none (fields_of line)))

-- where a cause is known
pub refused_line : {A : Type 0} (rows : List (List ℕ) → List (Cause × Bool)) (said : List (List ℕ) → A) (line : List ℕ) (cause : Cause) → least_cause (opening_causes line) ≡ Some cause → comes_to rows said line ≡ Err cause
refused_line rows said line cause h =
    ap (λ (it : Option Cause). unless_cause it (said (fields_or_none (fields_of line)))) (early_cause rows line cause h)

-- what holds of all that its fields may come to holds of the line
pub whole_line : {A : Type 0} (rows : List (List ℕ) → List (Cause × Bool)) (said : List (List ℕ) → A) (P : Result A Cause → Type 0) (line : List ℕ) (kept : Kept) → least_cause (opening_causes line) ≡ None → option_map kept_of (fields_of line) ≡ Some kept → ((all : List (List ℕ)) → kept_of all ≡ kept → P (unless_cause (least_cause (rows all)) (said all))) → P (comes_to rows said line)
whole_line rows said P line kept none e says =
    whole_cause rows (λ cause all. P (unless_cause cause (said all))) line kept none e says

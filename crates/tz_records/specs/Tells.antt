-- What a record comes to by its causes.
use Rattle.std.specs.Prelude.{◌≡◌, Bool, true, false, List, [], ◌∷◌, Option, Some, None, Result, Ok, Err}
use Rattle.tz_types.specs.declared.cause.Cause.{Cause}
use Rattle.tz_types.specs.declared.cause.Cause.TheVariants as causes
use Rattle.tz_specs.specs.Causes.{least_cause}

-- the least cause, or where there is none a value that stands for what is said
abbrev pub Tells : {A B : Type 0} → (B → A) → List (Cause × Bool) → Option A → Result B Cause → Type 0
Tells written rows said (Ok told) = (least_cause rows ≡ None) × (said ≡ Some (written told))
Tells written rows said (Err cause) = least_cause rows ≡ Some cause

-- The same where rows tell also whether the value is one too many, the greatest cause: it is left to others to ask that, so
-- the value is told where there is no other cause.
abbrev pub TellsUncounted : {A B : Type 0} → (B → A) → (A → Bool) → List (Cause × Bool) → Option A → Result B Cause → Type 0
TellsUncounted written too_many rows said (Ok told) =
    (least_cause rows ≡ least_cause ((causes.Limit, too_many (written told)) ∷ [])) × (said ≡ Some (written told))
TellsUncounted written too_many rows said (Err cause) = least_cause rows ≡ Some cause

-- what is said by a line, unless it is one too many
abbrev pub unless_late : {A : Type 0} → Bool → A → Result A Cause
unless_late true said = Err causes.Limit
unless_late false said = Ok said

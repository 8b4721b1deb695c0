-- Why a file isn't written, and indices of designations that no octet holds.
use Rattle.std.specs.Prelude.{◌≡◌, ℕ, List, nat_lt, Option, Some, None}
use Rattle.std.specs.List.{find}
use Rattle.tz_tzif.specs.declared.tzif_error.TzifError.{TzifError}
use Rattle.tz_tzif.specs.declared.tzif_error.TzifError.TheVariants as errors

-- the first of the indices that is above 255
abbrev pub first_far : List ℕ → Option ℕ
first_far indices = find (nat_lt 255) indices

-- the error as a reason, and none for want of memory
abbrev pub file_refusal : TzifError → Option TzifError
file_refusal errors.NoMemory = None
file_refusal error = Some error

-- the error tells the first index that is above 255
abbrev pub TellsFar : Option ℕ → TzifError → Type 0
TellsFar far (errors.Designations at) = far ≡ Some at
TellsFar far error = ⊥

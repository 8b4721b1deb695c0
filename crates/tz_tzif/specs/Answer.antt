-- What is answered for the ranges that meet a stretch.
use Rattle.std.specs.Prelude.{◌≡◌, ℕ, ◌<◌, List, length, ℤ, Option, Result, Ok, Err, Some, None, Vec}
use Rattle.std.specs.declared.alloc.Global.{Global}
use Rattle.tz_types.specs.Reason.{HasReason}
use Rattle.tz_types.specs.declared.range.SysInfo.{SysInfo}
use Rattle.tz_tzif.specs.declared.local_type.LocalType.{LocalType}
use Rattle.tz_tzif.specs.declared.types.TheConstants.{MOST_TYPES}
use Rattle.tz_tzif.specs.declared.tzif_error.TzifError.{TzifError}
use Rattle.tz_tzif.specs.declared.tzif_error.TzifError.TheVariants as errors
use Rattle.tz_tzif.specs.Types.{merged, AreFew, types_of}
use Rattle.tz_tzif.specs.Designations.{designations_of, indices_in}
use Rattle.tz_tzif.specs.File.{spelling}
use Rattle.tz_tzif.specs.Refusal.{first_far, file_refusal}

-- the first of the indices of designations that no octet holds
abbrev pub far_index : List LocalType → Option ℕ
far_index types = first_far (indices_in (designations_of types) types)

-- too many types are told, and of few ones the first index that is too far
abbrev pub TellsTypes : List LocalType → TzifError → Type 0
TellsTypes types (errors.Types count) = (MOST_TYPES < length types) × (count ≡ length types)
TellsTypes types (errors.Designations at) = AreFew types × (far_index types ≡ Some at)
TellsTypes types errors.NoMemory = ⊥

-- the file, where the types are few and no index is too far, and else why there is none
abbrev pub Answers : ℤ → List SysInfo → Result (Vec ℕ Global) TzifError → Type 0
Answers a ranges (Ok file) =
    let types = types_of (merged ranges) in
    AreFew types × (far_index types ≡ None) × (file.items ≡ spelling a ranges)
Answers a ranges (Err error) = HasReason (TellsTypes (types_of (merged ranges))) (file_refusal error)

-- What `{}` prints of an error.
use Rattle.std.specs.Prelude.{ℕ, List, ◌++◌, codes}
use Rattle.std.specs.Fmt.{decimal}
use Rattle.tz_tzif.specs.declared.tzif_error.TzifError.{TzifError}
use Rattle.tz_tzif.specs.declared.tzif_error.TzifError.TheVariants as errors

abbrev pub tzif_error_text : TzifError → List ℕ
tzif_error_text errors.NoMemory = codes "memory ran out"
tzif_error_text (errors.Types count) =
    codes "there are " ++ decimal count ++ codes " local time types, and at most 256 have numbers"
tzif_error_text (errors.Designations at) =
    codes "a designation has the index " ++ decimal at ++ codes ", and the greatest is 255"

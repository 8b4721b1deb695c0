-- What `{}` prints of an error.
use Rattle.std.specs.Prelude.{ℕ, List, codes}
use Rattle.tz_types.specs.Fault.{fault_text}
use Rattle.tz_database.specs.declared.error.BuildError.{BuildError}
use Rattle.tz_database.specs.declared.error.BuildError.TheVariants as errors

abbrev pub build_error_text : BuildError → List ℕ
build_error_text errors.NoMemory = codes "memory ran out"
build_error_text (errors.Fault line cause) = fault_text (record { file = 0; line = line; cause = cause })

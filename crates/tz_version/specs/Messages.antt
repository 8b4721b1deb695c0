-- What `{}` prints of an error.
use Rattle.std.specs.Prelude.{ℕ, List, ◌++◌, codes}
use Rattle.tz_types.specs.Fault.{fault_text}
use Rattle.tz_version.specs.declared.error.MakeError.{MakeError}
use Rattle.tz_version.specs.declared.error.MakeError.TheVariants as errors

abbrev pub make_error_text : MakeError → List ℕ
make_error_text errors.NoMemory = codes "memory ran out"
make_error_text (errors.Leaps fault) = codes "leap text: " ++ fault_text fault
make_error_text (errors.Text fault) = fault_text fault

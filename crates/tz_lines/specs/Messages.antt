-- What `{}` prints of an error.
use Rattle.std.specs.Prelude.{ℕ, List, codes}
use Rattle.tz_types.specs.Fault.{fault_text}
use Rattle.tz_lines.specs.declared.error.ReadError.{ReadError}
use Rattle.tz_lines.specs.declared.error.ReadError.TheVariants as errors

abbrev pub read_error_text : ReadError → List ℕ
read_error_text errors.NoMemory = codes "memory ran out"
read_error_text (errors.Fault fault) = fault_text fault

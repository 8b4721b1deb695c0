-- What `{}` prints of an error.
use Rattle.std.specs.Prelude.{ℕ, List, codes}
use Rattle.tz_io.specs.declared.files.FileError.{FileError}
use Rattle.tz_io.specs.declared.files.FileError.TheVariants as file_errors
use Rattle.tz_io.specs.declared.sink.PutError.{PutError}
use Rattle.tz_io.specs.declared.sink.PutError.TheVariants as put_errors

abbrev pub file_error_text : FileError → List ℕ
file_error_text file_errors.NoMemory = codes "memory ran out"
file_error_text file_errors.Failed = codes "the file cannot be read"

abbrev pub put_error_text : PutError → List ℕ
put_error_text put_errors.Failed = codes "a write failed"
put_error_text put_errors.Stalled = codes "a write took nothing"

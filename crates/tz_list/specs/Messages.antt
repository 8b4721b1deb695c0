-- What `{}` prints of an error.
use Rattle.std.specs.Prelude.{ℕ, List, ◌++◌, codes}
use Rattle.std.specs.Fmt.{decimal}
use Rattle.tz_types.specs.Fault.{fault_text}
use Rattle.tz_list.specs.declared.error.ReloadError.{ReloadError}
use Rattle.tz_list.specs.declared.error.ReloadError.TheVariants as reload

abbrev pub reload_error_text : ReloadError → List ℕ
reload_error_text reload.NoMemory = codes "memory ran out"
reload_error_text (reload.Text fault) = fault_text fault
reload_error_text (reload.Same w n) = codes "version " ++ decimal n ++ codes " is the newest, and has the same version text"
reload_error_text (reload.JournalFull w) = codes "the reader may make no more writes"
reload_error_text (reload.Full w) = codes "each slot is listed or held"

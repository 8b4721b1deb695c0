-- What errors print.
use Rattle.std.specs.Prelude.{ℕ, List, codes}
use Rattle.pin_book.specs.declared.after_error.AfterError.{AfterError}
use Rattle.pin_book.specs.declared.after_error.AfterError.TheVariants.{NotListed, Nothing}

abbrev pub after_error_text : AfterError → List ℕ
after_error_text NotListed = codes "no version of this number is listed"
after_error_text Nothing = codes "nothing is listed behind this version"

-- Whether something that is added would be one too many.
use Rattle.std.specs.Prelude.{◌≡◌, Bool, true, false, Option, Some, None, Result, Ok, Err}
use Rattle.tz_types.specs.Reason.{HasReason}
use Rattle.tz_lines.specs.declared.error.AddError.{AddError}
use Rattle.tz_lines.specs.declared.error.AddError.TheVariants as errors

-- whether it was told to be one too many, which want of memory doesn't tell
abbrev pub excess_of : {A : Type 0} → Result A AddError → Option Bool
excess_of (Ok done) = Some false
excess_of (Err errors.NoMemory) = None
excess_of (Err errors.Limit) = Some true

-- The limit comes exactly where it would be one too many.
abbrev pub MeansLimit : {A : Type 0} → Result A AddError → Bool → Type 0
MeansLimit told too_many = HasReason (λ excess. too_many ≡ excess) (excess_of told)

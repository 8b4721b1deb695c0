-- How great the numbers of operations are.
use Rattle.std.specs.Prelude.{ℕ, ℤ, List, Option, Some, None, IfSome}
use Rattle.std.specs.Int.{IsInRange}
use Rattle.std.specs.List.{All}
use Rattle.jiff_core.specs.Calendar.{IsWithin}
use Rattle.tz_script.specs.declared.limit.TheConstants.{LONGEST_STEP, MOST_SCANNED}
use Rattle.tz_script.specs.declared.operation.Op.{Op}
use Rattle.tz_script.specs.declared.operation.Op.TheVariants as ops
use Rattle.tz_script.specs.declared.operation.Operation.{Operation}

-- 15 digits, with either sign
abbrev pub most_signed : ℕ
most_signed = 999_999_999_999_999

-- the instant or the count of an operation
abbrev pub number_asked : Op → Option ℤ
number_asked (ops.Info v zone t) = Some t
number_asked (ops.Scan v zone from step count) = Some from
number_asked (ops.Clock v conv x) = Some x
number_asked _ = None

-- how far the instants of a scan are apart
abbrev pub step_asked : Op → Option ℕ
step_asked (ops.Scan v zone from step count) = Some step
step_asked _ = None

-- how many instants a scan has
abbrev pub count_asked : Op → Option ℕ
count_asked (ops.Scan v zone from step count) = Some count
count_asked _ = None

-- The numbers are as great as their digits and their ranges allow. A local time is bounded only as its range is.
abbrev pub IsSized : Op → Type 0
IsSized op =
    IfSome (number_asked op) (IsWithin most_signed) × IfSome (step_asked op) (IsInRange 1 LONGEST_STEP)
    × IfSome (count_asked op) (IsInRange 1 MOST_SCANNED)

-- those of all operations are
abbrev pub AreSized : List Operation → Type 0
AreSized operations = All (λ (operation : Operation). IsSized operation.op) operations

-- The version that is given with a source.
use Rattle.std.specs.Prelude.{ℕ, List, Option, Some, None}
use Rattle.tz_types.specs.Text.{IsText}
use Rattle.tz_types.specs.declared.limit.TheConstants.{LONGEST_VERSION}

-- where one is given, it has 1 to 64 bytes, all of them visible
abbrev pub IsVersionGiven : Option (List ℕ) → Type 0
IsVersionGiven None = Unit {0}
IsVersionGiven (Some version) = IsText 1 LONGEST_VERSION version

-- The faults of a leap text as a whole, where its leap seconds stand in the order of their dates and lines.
use Rattle.std.specs.Prelude.{Bool, false, List, [], ◌∷◌, ◌++◌, map, filter_map, int_le, ℤ, Option, Some, None}
use Rattle.std.specs.Ordering.{int_eq}
use Rattle.std.specs.Option.{option_to_list}
use Rattle.tz_types.specs.declared.fault.LineFault.{LineFault}
use Rattle.tz_types.specs.declared.cause.Cause.TheVariants as causes
use Rattle.tz_specs.specs.LeapText.{leap_fault, leap_fault_where}
use Rattle.tz_lines.specs.declared.leap_contents.WrittenLeap.{WrittenLeap}
use Rattle.tz_lines.specs.declared.leap_contents.WrittenExpiry.{WrittenExpiry}

-- each that has the date of the one before it
abbrev pub repeats_after : WrittenLeap → List WrittenLeap → List LineFault
repeats_after before [] = []
repeats_after before (leap ∷ leaps) =
    option_to_list (leap_fault_where (int_eq before.date leap.date) leap.line causes.LeapRepeat) ++ repeats_after leap leaps

abbrev pub repeats : List WrittenLeap → List LineFault
repeats [] = []
repeats (leap ∷ leaps) = repeats_after leap leaps

-- each expiry but the first
abbrev pub later_expiries : List WrittenExpiry → List LineFault
later_expiries [] = []
later_expiries (expiry ∷ expiries) = map (λ later. leap_fault later.line causes.ExpiresTwice) expiries

-- the date of the last leap second
abbrev pub last_date : List WrittenLeap → Option ℤ
last_date [] = None
last_date (leap ∷ []) = Some leap.date
last_date (leap ∷ next ∷ leaps) = last_date (next ∷ leaps)

-- the moment isn't after that date
abbrev pub is_early : Option ℤ → ℤ → Bool
is_early None moment = false
is_early (Some date) moment = int_le moment date

-- each expiry that isn't after it
abbrev pub early_expiries : Option ℤ → List WrittenExpiry → List LineFault
early_expiries last expiries =
    filter_map (λ expiry. leap_fault_where (is_early last expiry.moment) expiry.line causes.ExpiresEarly) expiries

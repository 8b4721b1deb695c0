-- How what there is to know of a UTC count is spelled.
use Rattle.std.specs.Prelude.{ℕ, if◌then◌else◌, List, [], ◌++◌, codes}
use Rattle.std.specs.Fmt.{signed_decimal}
use Rattle.tz_types.specs.declared.leap_info.LeapInfo.{LeapInfo}

-- `leap E` for an added second and `plain E` for another, where E seconds were added up to it, less those that were
-- skipped, and behind it ` expired` where the table isn't known to hold
unfoldable pub leap_text : LeapInfo → List ℕ
leap_text info =
    (if info.is_leap then codes "leap " else codes "plain ") ++ signed_decimal info.elapsed
    ++ (if info.expired then codes " expired" else [])

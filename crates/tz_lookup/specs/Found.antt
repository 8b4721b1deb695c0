-- How what is found is spelled.
use Rattle.std.specs.Prelude.{ℕ, List, ◌++◌, codes}
use Rattle.std.specs.Fmt.{decimal, signed_decimal}
use Rattle.tz_windows.specs.declared.scan.Scan.{Scan}
use Rattle.tz_lookup.specs.Range.{range_text}
use Rattle.tz_lookup.specs.LocalInfo.{local_text}
use Rattle.tz_lookup.specs.LeapInfo.{leap_text}
use Rattle.tz_lookup.specs.declared.found.Found.{Found}
use Rattle.tz_lookup.specs.declared.found.Found.TheVariants as found

-- a space and a number
abbrev pub after_space : ℕ → List ℕ
after_space number = codes " " ++ decimal number

-- `scan INSIDE OFFSETS CHANGES`
unfoldable pub scan_text : Scan → List ℕ
scan_text scan =
    codes "scan" ++ after_space scan.inside ++ (codes " " ++ signed_decimal scan.offsets) ++ after_space scan.changes

-- what is found: a range, a count and what there is to know of a count or of a local time are told alone, and all else
-- behind its word
abbrev pub found_text : Found → List ℕ
found_text (found.Info range) = range_text range
found_text (found.Local info) = local_text info
found_text (found.Sys t) = codes "sys " ++ signed_decimal t
found_text (found.Undecided info) = local_text info
found_text (found.Scan scan) = scan_text scan
found_text (found.Clock count) = signed_decimal count
found_text (found.Leap info) = leap_text info
found_text found.NoZone = codes "nozone"
found_text found.Range = codes "range"

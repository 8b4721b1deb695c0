-- The words of the conversions between clocks.
use Rattle.std.specs.Prelude.{ℕ, List, codes}
use Rattle.tz_lookup.specs.declared.conversion.Conversion.{Conversion}
use Rattle.tz_lookup.specs.declared.conversion.Conversion.TheVariants as conversions

-- the word that stands for a conversion
abbrev pub conversion_word : Conversion → List ℕ
conversion_word conversions.SysToUtc = codes "sys-utc"
conversion_word conversions.UtcToSys = codes "utc-sys"
conversion_word conversions.UtcInfo = codes "utc-info"
conversion_word conversions.UtcToTai = codes "utc-tai"
conversion_word conversions.TaiToUtc = codes "tai-utc"
conversion_word conversions.UtcToGps = codes "utc-gps"
conversion_word conversions.GpsToUtc = codes "gps-utc"

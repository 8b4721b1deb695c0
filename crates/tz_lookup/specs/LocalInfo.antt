-- How what there is to know of a local time is spelled.
use Rattle.std.specs.Prelude.{ℕ, List, ◌++◌, codes}
use Rattle.tz_types.specs.declared.range.LocalInfo.{LocalInfo}
use Rattle.tz_types.specs.declared.range.LocalInfo.TheVariants.{Unique, Nonexistent, Ambiguous}
use Rattle.tz_lookup.specs.Range.{range_text}

-- one range, or the first and the last of those that show the time, or the two sides of the gap
abbrev pub local_text : LocalInfo → List ℕ
local_text (Unique range) = codes "unique " ++ range_text range
local_text (Nonexistent first second) =
    codes "nonexistent " ++ range_text first ++ codes " " ++ range_text second
local_text (Ambiguous first second) = codes "ambiguous " ++ range_text first ++ codes " " ++ range_text second

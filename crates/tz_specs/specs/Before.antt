-- What a line's abbreviations have for letters before any occurrence is in effect.
use Rattle.std.specs.Prelude.{ℕ, List, []}
use Rattle.tz_specs.specs.Occurrence.{occurrences}
use Rattle.tz_specs.specs.State.{first_letters}
use Rattle.tz_specs.specs.Until.{Following, Nothing, Fixed, Rules}

-- those of the first occurrence with save 0; none without a rule set, or where no occurrence has save 0
abbrev pub letters_before : Following → List ℕ
letters_before Nothing = []
letters_before (Fixed save daylight) = []
letters_before (Rules set) = first_letters (occurrences set)

-- How a command tells what is found: its status and its line.
use Rattle.std.specs.Prelude.{◌≡◌, ℕ, List, ◌++◌, codes}
use Rattle.tz_lookup.specs.Found.{found_text}
use Rattle.tz_lookup.specs.declared.found.Found.{Found}
use Rattle.tz_lookup.specs.declared.found.Found.TheVariants as found
use Rattle.tz_words.specs.declared.status.Status.{Status}
use Rattle.tz_words.specs.declared.status.Status.TheVariants as statuses

-- the status of a command that finds this
abbrev pub found_status : Found → Status
found_status (found.Undecided info) = statuses.Local
found_status found.NoZone = statuses.NoZone
found_status found.Range = statuses.Range
found_status _ = statuses.Ok

-- and its line
abbrev pub found_line : Found → List ℕ
found_line what = found_text what ++ codes "\n"

-- The status and the line are those of something that is found.
abbrev pub IsFoundLine : (Found → Type 0) → Status → List ℕ → Type 0
IsFoundLine finds status line =
    (what : Found) × finds what × (status ≡ found_status what) × (line ≡ found_line what)

-- What the first ranges of a zone tell of a local time.
use Rattle.std.specs.Prelude.{◌≡◌, List, [], ◌∷◌, ℤ}
use Rattle.tz_types.specs.declared.range.SysInfo.{SysInfo}
use Rattle.tz_types.specs.declared.range.LocalInfo.TheVariants.{Unique, Nonexistent, Ambiguous}
use Rattle.tz_specs.specs.Local.{candidates, from_last_begun, last_from}
use Rattle.tz_local.specs.declared.findings.Findings.{Findings}
use Rattle.tz_local.specs.declared.findings.Findings.TheVariants.{Begun, Told}

-- None of the ranges shows l and the last of them is the last that begins by l; or what local info the ranges give alone.
abbrev pub AreFindings : List SysInfo → ℤ → Findings → Type 0
AreFindings seen l (Begun range) =
    (candidates seen l ≡ []) × (from_last_begun seen l ≡ range ∷ [])
AreFindings seen l (Told (Unique range)) = candidates seen l ≡ range ∷ []
AreFindings seen l (Told (Ambiguous first second)) =
    (next : SysInfo) × (later : List SysInfo) × (candidates seen l ≡ first ∷ next ∷ later) × (last_from next later ≡ second)
AreFindings seen l (Told (Nonexistent first second)) =
    (later : List SysInfo) × (candidates seen l ≡ []) × (from_last_begun seen l ≡ first ∷ second ∷ later)

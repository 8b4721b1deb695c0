-- Lines and ranges that follow one another in time without a gap.
use Rattle.std.specs.Prelude.{◌≡◌, List, [], ◌∷◌, ℤ, ◌<ℤ◌}
use Rattle.tz_types.specs.declared.range.SysInfo.{SysInfo}
use Rattle.tz_types.specs.declared.database.Db.{Db}
use Rattle.tz_types.specs.declared.zone.Zone.{Zone}
use Rattle.tz_specs.specs.Expansion.{Period, first_instant, end_of_time, periods_of}

-- The periods run from a to b: each one takes time, and begins where the one before it ends.
abbrev pub Chains : ℤ → ℤ → List Period → Type 0
Chains a b [] = a ≡ b
Chains a b (period ∷ later) =
    (period.start ≡ a) × (period.start <ℤ period.finish) × Chains period.finish b later

-- The ranges run from a to b: each one takes time, and begins where the one before it ends.
abbrev pub Covers : ℤ → ℤ → List SysInfo → Type 0
Covers a b [] = a ≡ b
Covers a b (range ∷ later) = (range.begin ≡ a) × (range.begin <ℤ range.end) × Covers range.end b later

-- The instants lie strictly between a and b, each after the one before it.
abbrev pub Rises : ℤ → ℤ → List ℤ → Type 0
Rises a b [] = a <ℤ b
Rises a b (instant ∷ later) = (a <ℤ instant) × Rises instant b later

-- where the last of the periods ends, or where they start if there is none
abbrev pub end_from : ℤ → List Period → ℤ
end_from start [] = start
end_from start (period ∷ later) = end_from period.finish later

-- A zone is sound where its lines run over all of time: each one ends after it begins, and the last at the end.
abbrev pub IsSound : Db → Zone → Type 0
IsSound db zone = Chains first_instant end_of_time (periods_of db zone)

-- Which zone a name reaches, through links of any number.
use Rattle.std.specs.Prelude.{◌≡◌, ℕ, false, List, [], ◌∷◌, find, Some, IsTrue}
use Rattle.tz_specs.specs.Value.{is_exactly}
use Rattle.tz_specs.specs.Written.{WrittenZone, WrittenLink}
use Rattle.tz_specs.specs.Whole.{is_zone_name}

-- The links lead from the name to the zone: each is the earliest of its name, which is no zone's, and the next one's name is its
-- target.
abbrev pub AreChain : List WrittenZone → List WrittenLink → List ℕ → List WrittenLink → List ℕ → Type 0
AreChain zones links name [] zone = (zone ≡ name) × IsTrue (is_zone_name zones name)
AreChain zones links name (link ∷ chain) zone =
    (is_zone_name zones name ≡ false) × (find (λ other. is_exactly other.name name) links ≡ Some link) × AreChain zones links link.target chain zone

-- some links lead from the name to the zone
abbrev pub LeadsTo : List WrittenZone → List WrittenLink → List ℕ → List ℕ → Type 0
LeadsTo zones links name zone = (chain : List WrittenLink) × AreChain zones links name chain zone

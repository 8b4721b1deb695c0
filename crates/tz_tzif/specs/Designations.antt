-- Designations: the abbreviations of types as octets, and where each of them begins.
use Rattle.std.specs.Prelude.{ℕ, ◌+◌, if◌then◌else◌, List, [], ◌∷◌, ◌++◌, length, map}
use Rattle.std.specs.List.{flat_map}
use Rattle.std.specs.Str.{bytes_eq}
use Rattle.tz_tzif.specs.declared.local_type.LocalType.{LocalType}
use Rattle.tz_tzif.specs.Types.{distinct}

-- the different abbreviations of types, in the order of the types
abbrev pub designations_of : List LocalType → List (List ℕ)
designations_of types = distinct bytes_eq (map (λ local_type. local_type.designation) types)

-- a designation, followed by a zero octet
abbrev pub terminated : List ℕ → List ℕ
terminated designation = designation ++ 0 ∷ []

-- all of them, one after another
abbrev pub designation_octets : List (List ℕ) → List ℕ
designation_octets designations = flat_map terminated designations

-- the index of a designation: the number of octets before it
abbrev pub index_in : List (List ℕ) → List ℕ → ℕ
index_in [] designation = 0
index_in (other ∷ later) designation =
    if bytes_eq other designation then 0 else length (terminated other) + index_in later designation

-- the indices of the designations of types
abbrev pub indices_in : List (List ℕ) → List LocalType → List ℕ
indices_in designations types = map (λ local_type. index_in designations local_type.designation) types

-- Files of RFC 8536, section 3, as octets: version 2, with no leap seconds, no indicators and an empty footer.
use Rattle.std.specs.Prelude.{ℕ, if◌then◌else◌, List, [], ◌∷◌, ◌++◌, length, map, replicate, codes, ℤ}
use Rattle.std.specs.Int.{w32, w64, to_be_bytes, cast_unsigned}
use Rattle.std.specs.List.{flat_map}
use Rattle.tz_types.specs.declared.range.SysInfo.{SysInfo}
use Rattle.tz_tzif.specs.declared.local_type.LocalType.{LocalType}
use Rattle.tz_tzif.specs.Types.{type_of, merged, transitions_after, types_of, number_in}
use Rattle.tz_tzif.specs.Designations.{designations_of, designation_octets, index_in}

-- a count in four octets, the highest first
abbrev pub count_octets : ℕ → List ℕ
count_octets count = to_be_bytes w32 count

-- an offset in four octets of two's complement, the highest first
abbrev pub offset_octets : ℤ → List ℕ
offset_octets offset = to_be_bytes w32 (cast_unsigned w32 offset)

-- the begin of a range in eight octets of two's complement, the highest first
abbrev pub time_octets : SysInfo → List ℕ
time_octets range = to_be_bytes w64 (cast_unsigned w64 range.begin)

-- a header: "TZif", the version 2, fifteen zero octets, and six counts
unfoldable pub header : List ℕ → List ℕ
header counts = codes "TZif2" ++ replicate 15 0 ++ flat_map count_octets counts

-- a type: its offset, a mark that is 1 where it is daylight saving time, and the index of its designation
abbrev pub type_octets : List (List ℕ) → LocalType → List ℕ
type_octets designations local_type =
    offset_octets local_type.offset
    ++ (if local_type.is_daylight then 1 else 0) ∷ index_in designations local_type.designation ∷ []

-- the block of version 1: a header, and the one type that each block has, with an empty designation
unfoldable pub first_block : List ℕ
first_block = header (0 ∷ 0 ∷ 0 ∷ 0 ∷ 1 ∷ 1 ∷ []) ++ replicate 7 0

-- the data of the block of version 2: the times of the transitions, their types, the types, and the designations
abbrev pub data_octets : List SysInfo → List LocalType → List (List ℕ) → List ℕ
data_octets transitions types designations =
    flat_map time_octets transitions
    ++ map (λ range. number_in types (type_of range)) transitions
    ++ flat_map (type_octets designations) types
    ++ designation_octets designations

-- a file: both blocks, and a footer with no rule between its newlines
unfoldable pub file_of : List SysInfo → List LocalType → List (List ℕ) → List ℕ
file_of transitions types designations =
    first_block
    ++ header (0 ∷ 0 ∷ 0 ∷ length transitions ∷ length types ∷ length (designation_octets designations) ∷ [])
    ++ data_octets transitions types designations
    ++ 10 ∷ 10 ∷ []

-- the file of the ranges that meet a stretch that begins at a
abbrev pub spelling : ℤ → List SysInfo → List ℕ
spelling a ranges =
    let types = types_of (merged ranges) in
    file_of (transitions_after a (merged ranges)) types (designations_of types)

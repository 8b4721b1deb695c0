-- What a file means by the words of RFC 8536, section 3, where its block of version 1 has one type, an empty
-- designation and nothing else.
use Rattle.std.specs.Prelude.{◌≡◌, ℕ, ◌+◌, ◌*◌, ◌==◌, ◌<◌, ◌⊎◌, not, List, take, drop, take_while, slice_index, ℤ, ◌≤ℤ◌, ◌<ℤ◌}
use Rattle.std.specs.Int.{w32, w64, from_be_bytes, cast_signed}
use Rattle.tz_tzif.specs.declared.local_type.LocalType.{LocalType}

-- the number in the four octets from a place on, the highest first
abbrev pub unsigned_at : List ℕ → ℕ → ℕ
unsigned_at file place = from_be_bytes w32 (take 4 (drop place file))

-- the signed number in the four octets from a place on
abbrev pub offset_at : List ℕ → ℕ → ℤ
offset_at file place = cast_signed w32 (unsigned_at file place)

-- the signed number in the eight octets from a place on
abbrev pub time_at : List ℕ → ℕ → ℤ
time_at file place = cast_signed w64 (from_be_bytes w64 (take 8 (drop place file)))

-- the octets from a place on, before the next zero octet
abbrev pub text_at : List ℕ → ℕ → List ℕ
text_at file place = take_while (λ octet. not (octet == 0)) (drop place file)

-- a header has 44 octets
abbrev pub header_size : ℕ
header_size = 44

-- the second one begins behind the first and its seven octets of data
abbrev pub header_place : ℕ
header_place = header_size + 7

-- the data of the second block begin behind it
abbrev pub data_place : ℕ
data_place = header_place + header_size

-- Of the six counts, that of transitions begins 32 octets after the header does, and that of types 36 octets.
abbrev pub time_count : List ℕ → ℕ
time_count file = unsigned_at file (header_place + 32)

abbrev pub type_count : List ℕ → ℕ
type_count file = unsigned_at file (header_place + 36)

-- The data have the times of the transitions, eight octets each,
abbrev pub transition_time : List ℕ → ℕ → ℤ
transition_time file number = time_at file (data_place + 8 * number)

-- then their types, an octet each,
abbrev pub transition_type : List ℕ → ℕ → ℕ
transition_type file number = slice_index file (data_place + 8 * time_count file + number)

-- then the types, six octets each,
abbrev pub type_place : List ℕ → ℕ → ℕ
type_place file number = data_place + 9 * time_count file + 6 * number

-- and then the designations.
abbrev pub designation_place : List ℕ → ℕ
designation_place file = type_place file (type_count file)

-- the type with a number: an offset, the mark of daylight saving time, and the designation that begins at an index
abbrev pub type_at : List ℕ → ℕ → LocalType
type_at file number =
    let place = type_place file number in
    record {
      offset = offset_at file place;
      is_daylight = slice_index file (place + 4) == 1;
      designation = text_at file (designation_place file + slice_index file (place + 5));
    }

-- the transition is the greatest at or before t
pub record IsLatest (file : List ℕ) (t : ℤ) (number : ℕ) : Type 0 where
  pub inside : number < time_count file
  pub come : transition_time file number ≤ℤ t
  pub greatest : (other : ℕ) → other < time_count file → transition_time file other ≤ℤ t → transition_time file other ≤ℤ transition_time file number

-- The number of the type at t: that of the greatest transition at or before t, and 0 where there is none. From the last
-- transition on, which RFC 8536 leaves to the footer, its type holds on, since there is no rule there.
abbrev pub IsTypeNumber : List ℕ → ℤ → ℕ → Type 0
IsTypeNumber file t type_number =
    ((number : ℕ) × IsLatest file t number × (type_number ≡ transition_type file number))
    ⊎ (((number : ℕ) → number < time_count file → t <ℤ transition_time file number) × (type_number ≡ 0))

-- the meaning of the file at t is this type
abbrev pub IsMeaning : List ℕ → ℤ → LocalType → Type 0
IsMeaning file t local_type = (number : ℕ) × IsTypeNumber file t number × (type_at file number ≡ local_type)

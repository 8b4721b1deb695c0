-- Ranges by their types: neighbours of equal type are one, and the types are numbered.
use Rattle.std.specs.Prelude.{ℕ, ◌≤◌, Bool, not, ◌&&◌, List, [], ◌∷◌, length, map, filter, position, unwrap_or, int_lt, ℤ, pos}
use Rattle.std.specs.List.{dedup}
use Rattle.std.specs.Ordering.{int_eq}
use Rattle.std.specs.Bool.{beq}
use Rattle.std.specs.Str.{bytes_eq}
use Rattle.jiff_core.specs.Calendar.{IsWithin}
use Rattle.tz_types.specs.declared.limit.TheConstants.{LONGEST_OFFSET}
use Rattle.tz_types.specs.declared.range.SysInfo.{SysInfo}
use Rattle.tz_tzif.specs.declared.types.TheConstants.{MOST_TYPES}
use Rattle.tz_tzif.specs.declared.local_type.LocalType.{LocalType}

-- the type of a range: its offset, whether it has a save, and its abbreviation
abbrev pub type_of : SysInfo → LocalType
type_of range =
    record {
      offset = range.offset;
      is_daylight = not (int_eq range.save (pos 0));
      designation = range.abbrev;
    }

-- its offset is at most two days, with either sign
abbrev pub HasNearOffset : LocalType → Type 0
HasNearOffset local_type = IsWithin LONGEST_OFFSET local_type.offset

-- the two are the same type
abbrev pub same_type : LocalType → LocalType → Bool
same_type one other =
    int_eq one.offset other.offset && beq one.is_daylight other.is_daylight
    && bytes_eq one.designation other.designation

-- the two ranges are of the same type
abbrev pub are_alike : SysInfo → SysInfo → Bool
are_alike one other = same_type (type_of one) (type_of other)

-- neighbours of equal type are one, which begins where the first of them does
unfoldable pub merged : List SysInfo → List SysInfo
merged ranges = dedup are_alike ranges

-- each range that begins after a is a transition, at its begin, to its type
abbrev pub transitions_after : ℤ → List SysInfo → List SysInfo
transitions_after a ranges = filter (λ range. int_lt a range.begin) ranges

-- the different elements of a list, each where it first appears
unfoldable pub distinct : {X : Type 0} → (X → X → Bool) → List X → List X
distinct same [] = []
distinct same (x ∷ xs) = x ∷ filter (λ y. not (same x y)) (distinct same xs)

-- the types of ranges, numbered from 0 by their places
abbrev pub types_of : List SysInfo → List LocalType
types_of ranges = distinct same_type (map type_of ranges)

-- there are so few that their numbers are octets
abbrev pub AreFew : {X : Type 0} → List X → Type 0
AreFew xs = length xs ≤ MOST_TYPES

-- the number of a type
abbrev pub number_in : List LocalType → LocalType → ℕ
number_in types local_type = unwrap_or (position (same_type local_type) types) 0

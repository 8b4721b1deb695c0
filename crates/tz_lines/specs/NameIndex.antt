-- Where each of some names stands.
use Rattle.std.specs.Prelude.{◌≡◌, ℕ, List, Option, position}
use Rattle.std.specs.Str.{bytes_eq}
use Rattle.std.specs.HashMap.{get_by}
use Rattle.tz_specs.specs.Value.{is_exactly}
use Rattle.tz_lines.specs.declared.name_index.NameIndex.{NameIndex}

-- the place that is noted for a name
abbrev pub place_of : NameIndex → List ℕ → Option ℕ
place_of index name = get_by (λ key. bytes_eq name key.items) index.places

-- the place of a name among names
abbrev pub name_position : List ℕ → List (List ℕ) → Option ℕ
name_position name names = position (λ other. is_exactly other name) names

-- the place of each of the names is noted, and of no other
abbrev pub IsIndex : NameIndex → List (List ℕ) → Type 0
IsIndex index names = (name : List ℕ) → place_of index name ≡ name_position name names

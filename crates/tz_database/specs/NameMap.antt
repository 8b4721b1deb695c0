-- What a map by names, which it borrows, has of a name.
use Rattle.std.specs.Prelude.{ℕ, List, Option}
use Rattle.std.specs.Str.{bytes_eq}
use Rattle.std.specs.HashMap.{HashMap, get_by}
use denote.Ref.{Bor}

abbrev pub known_of : {X S : Type 0} → HashMap (Bor (List ℕ)) X S → List ℕ → Option X
known_of known name = get_by (λ key. bytes_eq name key.now) known

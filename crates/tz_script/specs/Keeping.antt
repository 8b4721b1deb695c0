-- What operations keep: the rules on holds, by the operations of one lane in one round, and that each text is there.
use Rattle.std.specs.Prelude.{◌≡◌, ℕ, ◌==◌, nat_lt, Bool, true, not, ◌&&◌, if◌then◌else◌, List, [], ◌∷◌, ◌++◌, length, map, Option, Some, None, IsTrue}
use Rattle.std.specs.List.{filter, list_all, list_any}
use Rattle.tz_specs.specs.Value.{is_exactly}
use Rattle.tz_script.specs.declared.limit.TheConstants.{MOST_HOLDS}
use Rattle.tz_script.specs.Line.{is_missing}
use Rattle.tz_script.specs.Operation.{hold_begun, hold_needed, source_asked}
use Rattle.tz_script.specs.declared.operation.Op.{Op}
use Rattle.tz_script.specs.declared.operation.Op.TheVariants as ops
use Rattle.tz_script.specs.declared.operation.Operation.{Operation}

-- the operation is of that lane and that round
abbrev pub is_in : ℕ → ℕ → Operation → Bool
is_in lane round operation = (operation.lane == lane) && (operation.round == round)

-- what a lane does in a round, in its order
abbrev pub ops_in : ℕ → ℕ → List Operation → List Op
ops_in lane round operations = map (λ (operation : Operation). operation.op) (filter (is_in lane round) operations)

-- the name is one of them
abbrev pub is_among_names : List ℕ → List (List ℕ) → Bool
is_among_names name names = list_any (λ other. is_exactly other name) names

-- a hold that begins has another name than those that are open, and these are at most six
abbrev pub may_begin : List (List ℕ) → Option (List ℕ) → Bool
may_begin names None = true
may_begin names (Some name) = not (is_among_names name names) && nat_lt (length names) MOST_HOLDS

-- the hold that has to be open is
abbrev pub has_needed : List (List ℕ) → Option (List ℕ) → Bool
has_needed names None = true
has_needed names (Some name) = is_among_names name names

-- the operation may stand where holds of these names are open
abbrev pub may_stand : List (List ℕ) → Op → Bool
may_stand names op = may_begin names (hold_begun op) && has_needed names (hold_needed op)

-- the names that are open after it
abbrev pub names_after : Op → List (List ℕ) → List (List ℕ)
names_after (ops.Hold name) names = names ++ name ∷ []
names_after (ops.Drop name) names = filter (λ other. not (is_exactly other name)) names
names_after _ names = names

-- the names that are open after operations, where each of them may stand
abbrev pub names_open : List (List ℕ) → List Op → Option (List (List ℕ))
names_open names [] = Some names
names_open names (op ∷ more) = if may_stand names op then names_open (names_after op names) more else None

-- In each round each lane begins without an open hold, may do what it does, and ends without one.
abbrev pub KeepsHolds : List Operation → Type 0
KeepsHolds operations = (lane round : ℕ) → names_open [] (ops_in lane round operations) ≡ Some []

-- there is a text of the number that is asked for
abbrev pub is_there : ℕ → Operation → Bool
is_there sources operation = not (is_missing sources (source_asked operation.op))

-- each text that is asked for is there
abbrev pub KeepsSources : ℕ → List Operation → Type 0
KeepsSources sources operations = IsTrue (list_all (is_there sources) operations)

-- Scripts that are read keep the rules on holds.
use Rattle.std.proofs.Common.{◌≡◌, ℕ, ◌+◌, ◌==◌, Bool, true, false, not, if◌then◌else◌, List, [], ◌∷◌, ◌++◌, length, map, Option, Some, None, refl, ap, ◌∙◌, ⊎_elim, arith}
use Rattle.std.specs.List.{filter, count_by}
use Rattle.std.proofs.lemmas.Bool.{cases_Bool}
use Rattle.std.proofs.lemmas.Bool.Decides.{nat_tests}
use Rattle.std.proofs.lemmas.List.{map-append, append-nil}
use Rattle.std.proofs.lemmas.List.Recursion.{is_count_by}
use Rattle.std.proofs.lemmas.List.Elements.{filter-append}
use Rattle.tz_specs.specs.Value.{is_exactly}
use Rattle.tz_script.specs.Holds.{is_open, without_hold, holds_after}
use Rattle.tz_script.specs.Keeping.{is_in, ops_in, is_among_names, may_stand, names_after, names_open}
use Rattle.tz_script.specs.declared.holds.OpenHold.{OpenHold}
use Rattle.tz_script.specs.declared.operation.Op.{Op}
use Rattle.tz_script.specs.declared.operation.Op.TheVariants as ops
use Rattle.tz_script.specs.declared.operation.Operation.{Operation}

abbrev in_lane : ℕ → OpenHold → Bool
in_lane lane hold = hold.lane == lane

abbrev name_of : OpenHold → List ℕ
name_of hold = hold.name

-- the names of the holds that a lane has open
abbrev pub names_in : ℕ → List OpenHold → List (List ℕ)
names_in lane holds = map name_of (filter (in_lane lane) holds)

-- the lane has a hold of the name open where the name is one of those
pub open_is_named : (lane : ℕ) (name : List ℕ) (holds : List OpenHold) → is_open lane name holds ≡ is_among_names name (names_in lane holds)
open_is_named lane name [] = refl
open_is_named lane name (hold ∷ holds) =
    ⊎_elim
    (λ (here : (hold.lane == lane) ≡ true). simp (here, open_is_named lane name holds) refl)
    (λ (there : (hold.lane == lane) ≡ false). simp (there, open_is_named lane name holds) refl)
    (cases_Bool (hold.lane == lane))

pub count_in : (lane : ℕ) (holds : List OpenHold) → length (names_in lane holds) ≡ count_by (in_lane lane) holds
count_in lane holds = is_count_by (λ (all : List OpenHold). length (names_in lane all)) (in_lane lane) refl step holds
  where
    step : (hold : OpenHold) (all : List OpenHold) → length (names_in lane (hold ∷ all)) ≡ (if in_lane lane hold then 1 + length (names_in lane all) else length (names_in lane all))
    step hold all =
        ⊎_elim
        (λ (here : (hold.lane == lane) ≡ true). simp here (omega arith))
        (λ (there : (hold.lane == lane) ≡ false). simp there refl)
        (cases_Bool (hold.lane == lane))

begun_in : (lane : ℕ) (holds : List OpenHold) (hold : OpenHold) → (hold.lane == lane) ≡ true → names_in lane (holds ++ hold ∷ []) ≡ names_in lane holds ++ hold.name ∷ []
begun_in lane holds hold here =
    let one : filter (in_lane lane) (hold ∷ []) ≡ hold ∷ [] = rw here refl in
    ap (map name_of) (filter-append (in_lane lane) holds (hold ∷ []))
    ∙ map-append name_of (filter (in_lane lane) holds) (filter (in_lane lane) (hold ∷ []))
    ∙ ap (λ (more : List OpenHold). names_in lane holds ++ map name_of more) one

begun_elsewhere : (lane : ℕ) (holds : List OpenHold) (hold : OpenHold) → (hold.lane == lane) ≡ false → names_in lane (holds ++ hold ∷ []) ≡ names_in lane holds
begun_elsewhere lane holds hold there =
    let none : filter (in_lane lane) (hold ∷ []) ≡ [] = rw there refl in
    ap (map name_of) (filter-append (in_lane lane) holds (hold ∷ []) ∙ ap (λ (more : List OpenHold). filter (in_lane lane) holds ++ more) none ∙ append-nil (filter (in_lane lane) holds))

ended_in : (lane : ℕ) (name : List ℕ) (holds : List OpenHold) → names_in lane (without_hold lane name holds) ≡ filter (λ other. not (is_exactly other name)) (names_in lane holds)
ended_in lane name [] = refl
ended_in lane name (hold ∷ holds) =
    ⊎_elim
    (λ (here : (hold.lane == lane) ≡ true).
    ⊎_elim
    (λ (same : is_exactly hold.name name ≡ true). simp (here, same) (ended_in lane name holds))
    (λ (other : is_exactly hold.name name ≡ false). simp (here, other) (ap (λ (names : List (List ℕ)). hold.name ∷ names) (ended_in lane name holds)))
    (cases_Bool (is_exactly hold.name name)))
    (λ (there : (hold.lane == lane) ≡ false). simp there (ended_in lane name holds))
    (cases_Bool (hold.lane == lane))

same_lane : (a b other : ℕ) → (a == b) ≡ true → (b == other) ≡ false → (a == other) ≡ false
same_lane a b other same unlike =
    let is : a ≡ b = is_same a b same in ap (λ (n : ℕ). n == other) is ∙ unlike
  where
    is_same : (a b : ℕ) → (a == b) ≡ true → a ≡ b
    is_same a b same = grind (arith, nat_tests)

ended_elsewhere : (lane other : ℕ) (name : List ℕ) (holds : List OpenHold) → (lane == other) ≡ false → names_in other (without_hold lane name holds) ≡ names_in other holds
ended_elsewhere lane other name [] unlike = refl
ended_elsewhere lane other name (hold ∷ holds) unlike =
    ⊎_elim
    (λ (here : (hold.lane == lane) ≡ true).
    let there = same_lane hold.lane lane other here unlike in
    ⊎_elim
    (λ (same : is_exactly hold.name name ≡ true). simp (here, same, there) (ended_elsewhere lane other name holds unlike))
    (λ (differs : is_exactly hold.name name ≡ false). simp (here, differs, there) (ended_elsewhere lane other name holds unlike))
    (cases_Bool (is_exactly hold.name name)))
    (λ (away : (hold.lane == lane) ≡ false).
    ⊎_elim
    (λ (there : (hold.lane == other) ≡ true). simp (away, there) (ap (λ (names : List (List ℕ)). hold.name ∷ names) (ended_elsewhere lane other name holds unlike)))
    (λ (nowhere : (hold.lane == other) ≡ false). simp (away, nowhere) (ended_elsewhere lane other name holds unlike))
    (cases_Bool (hold.lane == other)))
    (cases_Bool (hold.lane == lane))

same_number : (n : ℕ) → (n == n) ≡ true
same_number n = grind (arith, nat_tests)

-- the names of a lane after its operation
pub names_of_lane : (number lane : ℕ) (op : Op) (holds : List OpenHold) → names_in lane (holds_after number lane op holds) ≡ names_after op (names_in lane holds)
names_of_lane number lane ops.Look holds = refl
names_of_lane number lane (ops.Hold name) holds =
    begun_in lane holds (record { lane = lane; name = name; line = number }) (same_number lane)
names_of_lane number lane (ops.Drop name) holds = ended_in lane name holds
names_of_lane number lane (ops.Info v zone t) holds = refl
names_of_lane number lane (ops.Local v zone l) holds = refl
names_of_lane number lane (ops.Sys v zone l choose) holds = refl
names_of_lane number lane (ops.Scan v zone from step count) holds = refl
names_of_lane number lane (ops.Clock v conv x) holds = refl
names_of_lane number lane (ops.Reload src) holds = refl
names_of_lane number lane (ops.Erase v) holds = refl
names_of_lane number lane ops.List holds = refl

-- the names of another lane
pub names_of_others : (number lane other : ℕ) (op : Op) (holds : List OpenHold) → (lane == other) ≡ false → names_in other (holds_after number lane op holds) ≡ names_in other holds
names_of_others number lane other ops.Look holds unlike = refl
names_of_others number lane other (ops.Hold name) holds unlike =
    begun_elsewhere other holds (record { lane = lane; name = name; line = number }) unlike
names_of_others number lane other (ops.Drop name) holds unlike = ended_elsewhere lane other name holds unlike
names_of_others number lane other (ops.Info v zone t) holds unlike = refl
names_of_others number lane other (ops.Local v zone l) holds unlike = refl
names_of_others number lane other (ops.Sys v zone l choose) holds unlike = refl
names_of_others number lane other (ops.Scan v zone from step count) holds unlike = refl
names_of_others number lane other (ops.Clock v conv x) holds unlike = refl
names_of_others number lane other (ops.Reload src) holds unlike = refl
names_of_others number lane other (ops.Erase v) holds unlike = refl
names_of_others number lane other ops.List holds unlike = refl

pub pushed_in : (lane round : ℕ) (operations : List Operation) (operation : Operation) → is_in lane round operation ≡ true → ops_in lane round (operations ++ operation ∷ []) ≡ ops_in lane round operations ++ operation.op ∷ []
pushed_in lane round operations operation here =
    let one : filter (is_in lane round) (operation ∷ []) ≡ operation ∷ [] = rw here refl in
    ap (map (λ (it : Operation). it.op)) (filter-append (is_in lane round) operations (operation ∷ []))
    ∙ map-append (λ (it : Operation). it.op) (filter (is_in lane round) operations) (filter (is_in lane round) (operation ∷ []))
    ∙ ap (λ (more : List Operation). ops_in lane round operations ++ map (λ (it : Operation). it.op) more) one

pub pushed_elsewhere : (lane round : ℕ) (operations : List Operation) (operation : Operation) → is_in lane round operation ≡ false → ops_in lane round (operations ++ operation ∷ []) ≡ ops_in lane round operations
pushed_elsewhere lane round operations operation there =
    let none : filter (is_in lane round) (operation ∷ []) ≡ [] = rw there refl in
    ap (map (λ (it : Operation). it.op)) (filter-append (is_in lane round) operations (operation ∷ []) ∙ ap (λ (more : List Operation). filter (is_in lane round) operations ++ more) none ∙ append-nil (filter (is_in lane round) operations))

pub open_pushed : (names : List (List ℕ)) (some : List Op) (op : Op) (open_names : List (List ℕ)) → names_open names some ≡ Some open_names → may_stand open_names op ≡ true → names_open names (some ++ op ∷ []) ≡ Some (names_after op open_names)
open_pushed names [] op open_names e may =
    let same : names ≡ open_names = cc in rw same (rw may refl)
open_pushed names (first ∷ some) op open_names e may =
    by_test (may_stand names first) (names_open (names_after first names) some) (names_open (names_after first names) (some ++ op ∷ [])) e (λ (h : names_open (names_after first names) some ≡ Some open_names). open_pushed (names_after first names) some op open_names h may)
  where
    by_test : (test : Bool) (rest more : Option (List (List ℕ))) → (if test then rest else None) ≡ Some open_names → (rest ≡ Some open_names → more ≡ Some (names_after op open_names)) → (if test then more else None) ≡ Some (names_after op open_names)
    by_test true rest more h next = next h
    by_test false rest more h next = cc

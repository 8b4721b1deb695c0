-- Where each of some names stands, with one more name.
use Rattle.std.proofs.Common.{◌≡◌, ◌≢◌, ℕ, zero, suc, ◌+◌, ◌<◌, ◌≤◌, Bool, true, false, not, ◌||◌, nat_lt, eqb, cond, List, [], ◌∷◌, ◌++◌, length, get_or, Option, Some, None, Result, Ok, Err, IsOk, is_ok, if◌then◌else◌, refl, sym, ap, ◌∙◌, subst, ⊎_elim, arith}
use Rattle.std.specs.Prelude.{Vec}
use Rattle.std.specs.declared.alloc.Global.{Global}
use Rattle.std.specs.Str.{bytes_eq}
use Rattle.std.specs.HashMap.{HashMap, UpdatesBy, get_by}
use Rattle.std.specs.Map.{KeepsOthers, IsKeyTest, AreApart, lookup}
use Rattle.std.specs.List.{AllPairs, list_any, slice_get, position, position_or_len}
use Rattle.std.specs.Cmp.Lexicographic.{nat_list_eq_equiv}
use Rattle.std.proofs.lemmas.Bool.{cases_Bool, cond-true, cond-false, or_parts}
use Rattle.std.proofs.lemmas.Bool.Decides.{nat_tests}
use Rattle.std.proofs.lemmas.Option.{slice_get-get_or, get_or_from_slice_get}
use Rattle.std.proofs.lemmas.List.{length-append}
use Rattle.std.proofs.lemmas.List.Elements.{All-push}
use Rattle.std.proofs.lemmas.List.Kept.{AllPairs-cons}
use Rattle.std.proofs.lemmas.List.Folds.{position_or_len_push}
use Rattle.std.proofs.lemmas.List.Sums.{position_or_len_is}
use Rattle.std.proofs.lemmas.List.Quantifiers.{position-Some}
use Rattle.std.proofs.lemmas.Slice.Eq.{bytes_eq-Decides}
use Rattle.tz_specs.specs.Value.{is_exactly}
use Rattle.tz_lines.specs.declared.name_index.NameIndex.{NameIndex}
use Rattle.tz_lines.specs.NameIndex.{place_of, name_position, IsIndex}

-- a map whose keys are bytes, where the value of some bytes was set

not_key : (name other key : List ℕ) → bytes_eq name other ≡ false → bytes_eq name key ≡ true → bytes_eq other key ≡ false
not_key name other key n y =
    nat_list_eq_equiv.symm other key ∙ sym (nat_list_eq_equiv.congr name key other y) ∙ n

other_entries : {K X : Type 0} (eq : K → K → Bool) (test : K → Bool) (old new : List (K × X)) → KeepsOthers eq test old new → (other : K → Bool) → IsKeyTest eq other → AreApart test other → lookup other new ≡ lookup other old
unfolding KeepsOthers
other_entries eq test old new h = h

by_bytes : {W : Type 0} (f g : List ℕ → W) (name : List ℕ) (w : W) → g name ≡ w → ((other : List ℕ) → bytes_eq name other ≡ false → g other ≡ f other) → (other : List ℕ) → g other ≡ cond (bytes_eq name other) w (f other)
by_bytes f g name w here others other =
    ⊎_elim
    (λ (y : bytes_eq name other ≡ true). subst (λ it. g it ≡ w) ((bytes_eq-Decides name other).0 y) here ∙ sym (cond-true (bytes_eq name other) w (f other) y))
    (λ (n : bytes_eq name other ≡ false). others other n ∙ sym (cond-false (bytes_eq name other) w (f other) n))
    (cases_Bool (bytes_eq name other))

pub set_at_bytes : {X S : Type 0} (name : List ℕ) (old new : HashMap (Vec ℕ Global) X S) (w : Option X) → UpdatesBy (λ x y. bytes_eq x.items y.items) (λ key. bytes_eq name key.items) old new w → (other : List ℕ) → get_by (λ key. bytes_eq other key.items) new ≡ cond (bytes_eq name other) w (get_by (λ key. bytes_eq other key.items) old)
set_at_bytes name old new w h =
    by_bytes (λ it. get_by (λ key. bytes_eq it key.items) old) (λ it. get_by (λ key. bytes_eq it key.items) new) name w h.1 (λ other n. other_entries _ _ _ _ h.3 _ (λ x y. nat_list_eq_equiv.congr other x.items y.items) (λ key. not_key name other key.items n))

-- the place of a name, when one more came

next_within : (here : Bool) (place count : ℕ) → place ≤ count → cond here (1 + place) 0 ≤ suc count
next_within true place count within = omega arith
next_within false place count within = omega arith

within_all : {X : Type 0} (p : X → Bool) (xs : List X) → position_or_len p xs ≤ length xs
within_all p [] = omega arith
within_all p (x ∷ xs) = next_within (not (p x)) (position_or_len p xs) (length xs) (within_all p xs)

by_place : (place count : ℕ) (here : Bool) → place ≤ count → cond (nat_lt (cond (eqb place count) (count + cond here 0 1) place) (count + 1)) (Some (cond (eqb place count) (count + cond here 0 1) place)) None ≡ cond (nat_lt place count) (Some place) (cond here (Some count) None)
by_place place count true within = grind (arith, nat_tests)
by_place place count false within = grind (arith, nat_tests)

pushed : {X : Type 0} (p : X → Bool) (xs : List X) (x : X) → position p (xs ++ x ∷ []) ≡ cond (nat_lt (position_or_len p xs) (length xs)) (Some (position_or_len p xs)) (cond (p x) (Some (length xs)) None)
pushed p xs x =
    rw (position_or_len_push p xs x, length-append xs (x ∷ [])) (by_place (position_or_len p xs) (length xs) (p x) (within_all p xs))

-- whether the place is that of one of them
abbrev placed : ℕ → ℕ → Option ℕ
placed place count = cond (nat_lt place count) (Some place) None

last_placed : (place count : ℕ) → placed place count ≡ None → cond (nat_lt place count) (Some place) (Some count) ≡ Some count
last_placed place count none = by_test (nat_lt place count) none
  where
    by_test : (within : Bool) → cond within (Some place) None ≡ None → cond within (Some place) (Some count) ≡ Some count
    by_test true e = cc
    by_test false e = refl

by_name : (places : List ℕ → Option ℕ) (names : List (List ℕ)) (name other : List ℕ) (same : Bool) → is_exactly name other ≡ same → name_position name names ≡ None → ((it : List ℕ) → places it ≡ name_position it names) → cond same (Some (length names)) (places other) ≡ name_position other (names ++ name ∷ [])
by_name places names name other true e none at =
    let equal : name ≡ other = (bytes_eq-Decides name other).0 e in
    let missing : name_position other names ≡ None = ap (λ it. name_position it names) (sym equal) ∙ none in
    rw (pushed (λ it. is_exactly it other) names name, e) (sym (last_placed (position_or_len (λ it. is_exactly it other) names) (length names) missing))
by_name places names name other false e none at =
    rw (pushed (λ it. is_exactly it other) names name, e) (at other)

-- the index of names with one more, which is none of them
pub indexed : (old new : NameIndex) (names : List (List ℕ)) (name : List ℕ) (place : ℕ) → place ≡ length names → IsIndex old names → name_position name names ≡ None → ((other : List ℕ) → place_of new other ≡ (if is_exactly name other then Some place else place_of old other)) → IsIndex new (names ++ name ∷ [])
indexed old new names name place last at none noted = λ other.
    noted other ∙ ap (λ (it : ℕ). cond (is_exactly name other) (Some it) (place_of old other)) last
    ∙ by_name (place_of old) names name other (is_exactly name other) refl none at

-- a name that is there, and one that isn't

pub found_there : (names : List (List ℕ)) (place : ℕ) (name : List ℕ) → name_position name names ≡ Some place → slice_get names place ≡ Some name
found_there names place name e =
    let at = position-Some (λ other. is_exactly other name) names place [] e in
    slice_get-get_or names place [] at.0 ∙ ap Some ((bytes_eq-Decides (get_or names place []) name).0 at.1)

later : (place count : ℕ) → placed (1 + place) (suc count) ≡ None → placed place count ≡ None
later place count e =
    let same : nat_lt (1 + place) (suc count) ≡ nat_lt place count = grind (arith, nat_tests) in
    by_test (nat_lt place count) (ap (λ within. cond within (Some (1 + place)) None) (sym same) ∙ e)
  where
    by_test : (within : Bool) → cond within (Some (1 + place)) None ≡ None → cond within (Some place) None ≡ None
    by_test true e = cc
    by_test false e = refl

none_or_some : (place : ℕ) → Some place ≡ None → ⊥
none_or_some place e = cc

pub not_there : (names : List (List ℕ)) (name : List ℕ) → name_position name names ≡ None → list_any (λ other. is_exactly other name) names ≡ false
not_there [] name e = refl
not_there (other ∷ names) name e = by_test (is_exactly other name) e (not_there names name)
  where
    by_test : (here : Bool) → placed (cond (not here) (1 + position_or_len (λ it. is_exactly it name) names) 0) (suc (length names)) ≡ None → (name_position name names ≡ None → list_any (λ it. is_exactly it name) names ≡ false) → (here || list_any (λ it. is_exactly it name) names) ≡ false
    by_test true e next =
        let some : nat_lt 0 (suc (length names)) ≡ true = grind (arith, nat_tests) in
        absurd (none_or_some 0 (rw some at e))
    by_test false e next = next (later (position_or_len (λ it. is_exactly it name) names) (length names) e)

-- names that differ

pub differs : (a b : List ℕ) → a ≢ b → is_exactly a b ≡ false
differs a b never =
    ⊎_elim (λ (e : is_exactly a b ≡ true). absurd (never ((bytes_eq-Decides a b).0 e))) (λ (e : is_exactly a b ≡ false). e) (cases_Bool (is_exactly a b))

never_same : (a b : List ℕ) → is_exactly a b ≡ false → a ≢ b
never_same a b e same = let is : is_exactly a b ≡ true = (bytes_eq-Decides a b).1 same in cc

none_same : (name : List ℕ) (names : List (List ℕ)) → list_any (λ other. is_exactly other name) names ≡ false → (k : ℕ) (d : List ℕ) → k < length names → get_or names k d ≢ name
none_same name [] e k d within = absurd (omega arith)
none_same name (other ∷ names) e zero d within =
    never_same other name (or_parts (is_exactly other name) (list_any (λ it. is_exactly it name) names) e).0
none_same name (other ∷ names) e (suc k) d within =
    none_same name names (or_parts (is_exactly other name) (list_any (λ it. is_exactly it name) names) e).1 k d (omega arith)

-- the rest of names that differ
pub apart_rest : (name : List ℕ) (names : List (List ℕ)) → AllPairs ◌≢◌ (name ∷ names) → AllPairs ◌≢◌ names
apart_rest name names apart = λ i j d less within. apart (suc i) (suc j) d (omega arith) (omega arith)

-- and the first is none of the rest
pub first_apart : (name : List ℕ) (names : List (List ℕ)) → AllPairs ◌≢◌ (name ∷ names) → (k : ℕ) (d : List ℕ) → k < length names → name ≢ get_or names k d
first_apart name names apart k d within = apart 0 (suc k) d (omega arith) (omega arith)

pub pushed_apart : (names : List (List ℕ)) (name : List ℕ) → AllPairs ◌≢◌ names → list_any (λ other. is_exactly other name) names ≡ false → AllPairs ◌≢◌ (names ++ name ∷ [])
pushed_apart [] name apart none = λ i j d less within. absurd (omega arith)
pushed_apart (other ∷ names) name apart none =
    let parts = or_parts (is_exactly other name) (list_any (λ it. is_exactly it name) names) none in
    AllPairs-cons ◌≢◌ other (names ++ name ∷ []) (All-push (λ it. other ≢ it) names name (first_apart other names apart) (never_same other name parts.0)) (pushed_apart names name (apart_rest other names apart) parts.1)

-- so each has one place
pub only_place : (names : List (List ℕ)) (place : ℕ) (name : List ℕ) → AllPairs ◌≢◌ names → slice_get names place ≡ Some name → Some place ≡ name_position name names
only_place names place name apart e =
    let within : place < length names = there names place name e in
    let is : get_or names place name ≡ name = get_or_from_slice_get names place name name e in
    let at : position_or_len (λ other. is_exactly other name) names ≡ place = position_or_len_is (λ other. is_exactly other name) names place name (omega arith) (λ k less. differs (get_or names k name) name (λ same. apart k place name less within (same ∙ sym is))) (λ low. (bytes_eq-Decides (get_or names place name) name).1 is) in
    let some : nat_lt place (length names) ≡ true = grind (arith, nat_tests) in
    rw (at, some) refl
  where
    there : (names : List (List ℕ)) (place : ℕ) (name : List ℕ) → slice_get names place ≡ Some name → place < length names
    there [] place name e = cc
    there (other ∷ names) zero name e = omega arith
    there (other ∷ names) (suc place) name e = (let below = there names place name e in omega (arith, below))

-- what a push leaves that finds room
pub pushed_items : {X A E : Type 0} (told : Result A E) (olds news : List X) (x : X) → news ≡ (if is_ok told then olds ++ x ∷ [] else olds) → IsOk told → news ≡ olds ++ x ∷ []
pushed_items (Ok done) olds news x e ok = e
pushed_items (Err error) olds news x e ok = cc

-- What stands at the places of a file: pieces of one length, numbers, and texts that a zero octet ends.
use Rattle.std.proofs.Common.{◌≡◌, ℕ, zero, suc, ◌+◌, ◌*◌, ◌<◌, Bool, true, false, not, ◌==◌, inl, inr, ⊎_elim, refl, sym, ap, ◌∙◌, arith, List, [], ◌∷◌, ◌++◌, length, take, drop, get_or, map, Some, unwrap_or}
use Rattle.std.specs.Prelude.{slice_get, take_while, position, nat_le, filter}
use Rattle.std.specs.List.{flat_map, list_all, prefix_len, position_or_len}
use Rattle.std.specs.Str.{bytes_eq}
use Rattle.std.proofs.lemmas.Option.{none-some, same_Some}
use Rattle.std.proofs.lemmas.Bool.{and_parts, leb-true, ne_eqb, lt-ltb}
use Rattle.std.proofs.lemmas.List.{append_assoc, drop_at, drop-drop, length-append}
use Rattle.std.proofs.lemmas.Slice.Eq.{bytes_eq-Decides}
use Rattle.tz_types.specs.Text.{is_printable}
use Rattle.tz_specs.proofs.Tests.{by_test, not_both}
use Rattle.tz_specs.proofs.ListLemmas.{In, In-filter}
use Rattle.tz_tzif.specs.Designations.{terminated, designation_octets, index_in}
use Rattle.tz_tzif.specs.Types.{distinct}
use Rattle.tz_tzif.proofs.DistinctLemmas.{Tells}

-- ---- pieces of one length
wide_none : (wide : ℕ) → wide * 0 ≡ 0
wide_none wide = omega arith

wide_more : (wide place : ℕ) → wide * suc place ≡ wide + wide * place
wide_more wide place = grind arith

pub length_pieces : {X : Type 0} (octets : X → List ℕ) (wide : ℕ) → ((x : X) → length (octets x) ≡ wide) → (xs : List X) → length (flat_map octets xs) ≡ wide * length xs
length_pieces octets wide each [] = omega arith
length_pieces octets wide each (x ∷ xs) =
    let here = each x in
    let rest = length_pieces octets wide each xs in
    let both = length-append (octets x) (flat_map octets xs) in
    let more = wide_more wide (length xs) in
    omega arith

-- the piece at a place stands behind so many others
pub piece_at : {X : Type 0} (octets : X → List ℕ) (wide : ℕ) → ((x : X) → length (octets x) ≡ wide) → (xs : List X) (tail : List ℕ) (place : ℕ) (x : X) → slice_get xs place ≡ Some x → (rest : List ℕ) × (drop (wide * place) (flat_map octets xs ++ tail) ≡ octets x ++ rest)
piece_at octets wide each [] tail place x there = absurd (none-some x there)
piece_at octets wide each (y ∷ ys) tail zero x there =
    let same : y ≡ x = same_Some y x there in (
      flat_map octets ys ++ tail,
      ap (λ n. drop n ((octets y ++ flat_map octets ys) ++ tail)) (wide_none wide)
          ∙ append_assoc (octets y) (flat_map octets ys) tail ∙ ap (λ z. octets z ++ (flat_map octets ys ++ tail)) same,
    )
piece_at octets wide each (y ∷ ys) tail (suc place) x there =
    let rest = piece_at octets wide each ys tail place x there in
    let whole = (octets y ++ flat_map octets ys) ++ tail in
    let first : drop wide whole ≡ flat_map octets ys ++ tail = ap (λ zs. drop wide zs) (append_assoc (octets y) (flat_map octets ys) tail) ∙ drop_at (octets y) (flat_map octets ys ++ tail) wide (each y) in (
      rest.0,
      ap (λ n. drop n whole) (wide_more wide place) ∙ sym (drop-drop (wide * place) wide whole)
          ∙ ap (λ zs. drop (wide * place) zs) first ∙ rest.1,
    )

-- ---- numbers at places
pub get_at : (xs tail : List ℕ) (place x : ℕ) → slice_get xs place ≡ Some x → get_or (xs ++ tail) place 0 ≡ x
get_at [] tail place x there = absurd (none-some x there)
get_at (y ∷ ys) tail zero x there = same_Some y x there
get_at (y ∷ ys) tail (suc place) x there = get_at ys tail place x there

pub get-map : {X Y : Type 0} (f : X → Y) (xs : List X) (place : ℕ) (x : X) → slice_get xs place ≡ Some x → slice_get (map f xs) place ≡ Some (f x)
get-map f [] place x there = absurd (none-some x there)
get-map f (y ∷ ys) zero x there = ap (λ z. Some (f z)) (same_Some y x there)
get-map f (y ∷ ys) (suc place) x there = get-map f ys place x there

pub get_some : {X : Type 0} (xs : List X) (place : ℕ) → place < length xs → (x : X) × (slice_get xs place ≡ Some x)
get_some [] place within = absurd (omega arith)
get_some (x ∷ xs) zero within = (x, refl)
get_some (x ∷ xs) (suc place) within = get_some xs place (omega arith)

pub some_within : {X : Type 0} (xs : List X) (place : ℕ) (x : X) → slice_get xs place ≡ Some x → place < length xs
some_within [] place x there = absurd (none-some x there)
some_within (y ∷ ys) zero x there = omega arith
some_within (y ∷ ys) (suc place) x there =
    let rest = some_within ys place x there in
    omega arith

-- ---- texts
-- an octet that isn't zero
abbrev pub is_letter : ℕ → Bool
is_letter octet = not (octet == 0)

printable_letter : (octet : ℕ) → is_printable octet ≡ true → is_letter octet ≡ true
printable_letter octet e =
    let low = leb-true 0x21 octet (and_parts (nat_le 0x21 octet) (nat_le octet 0x7e) e).0 in
    let apart : (octet == 0) ≡ false = ne_eqb octet 0 (λ h. omega arith) in
    rw apart refl

one_plus : (n : ℕ) → 1 + n ≡ suc n
one_plus n = omega arith

take_front : (n x : ℕ) (xs : List ℕ) → take (1 + n) (x ∷ xs) ≡ x ∷ take n xs
take_front n x xs = ap (λ k. take k (x ∷ xs)) (one_plus n)

-- a printable text ends before the next zero octet
pub text_before : (text rest : List ℕ) → list_all is_printable text ≡ true → take_while is_letter (text ++ 0 ∷ rest) ≡ text
text_before [] rest printable = refl
text_before (octet ∷ text) rest printable =
    let parts = and_parts (is_printable octet) (list_all is_printable text) printable in
    let here : is_letter octet ≡ true = printable_letter octet parts.0 in
    let later = text ++ 0 ∷ rest in
    rw here (take_front (prefix_len is_letter later) octet later ∙ ap (λ xs. octet ∷ xs) (text_before text rest parts.1))

-- a designation stands at its index
pub at_index : (designations : List (List ℕ)) (designation tail : List ℕ) → In designation designations → (rest : List ℕ) × (drop (index_in designations designation) (designation_octets designations ++ tail) ≡ designation ++ 0 ∷ rest)
at_index [] designation tail has = absurd has
at_index (other ∷ later) designation tail has =
    let octets = designation_octets later in
    let whole : (terminated other ++ octets) ++ tail ≡ terminated other ++ (octets ++ tail) = append_assoc (terminated other) octets tail in
    by_test (bytes_eq other designation)
    (λ e.
    let same : other ≡ designation = (bytes_eq-Decides other designation).0 e in
    rw e (octets ++ tail, whole ∙ append_assoc other (0 ∷ []) (octets ++ tail) ∙ ap (λ d. d ++ 0 ∷ (octets ++ tail)) same))
    (λ e.
    let later_has : In designation later = ⊎_elim (λ (same : other ≡ designation). not_both (bytes_eq other designation) ((bytes_eq-Decides other designation).1 same) e) (λ (h : In designation later). h) has in
    let rest = at_index later designation tail later_has in
    let first : drop (length (terminated other)) ((terminated other ++ octets) ++ tail) ≡ octets ++ tail = ap (λ zs. drop (length (terminated other)) zs) whole ∙ drop_at (terminated other) (octets ++ tail) (length (terminated other)) refl in
    rw e (rest.0, sym (drop-drop (index_in later designation) (length (terminated other)) ((terminated other ++ octets) ++ tail)) ∙ ap (λ zs. drop (index_in later designation) zs) first ∙ rest.1))

-- ---- different elements
in_rest : {X : Type 0} (same : X → X → Bool) → Tells same → (y x : X) (xs : List X) → In x xs → same y x ≡ false → In x (filter (λ z. not (same y z)) xs)
in_rest same tells y x xs has other = In-filter (λ z. not (same y z)) xs x has (rw other refl)

pub In-distinct : {X : Type 0} (same : X → X → Bool) → Tells same → (xs : List X) (x : X) → In x xs → In x (distinct same xs)
unfolding distinct
In-distinct same tells [] x has = has
In-distinct same tells (y ∷ xs) x has =
    by_test (same y x) (λ e. inl ((tells y x).0 e))
    (λ e.
    ⊎_elim (λ (here : y ≡ x). not_both (same y x) ((tells y x).1 here) e)
    (λ (later : In x xs). inr (in_rest same tells y x (distinct same xs) (In-distinct same tells xs x later) e))
    has)

-- an element stands at its place
at_first : {X : Type 0} (same : X → X → Bool) → Tells same → (xs : List X) (x : X) → In x xs → slice_get xs (position_or_len (same x) xs) ≡ Some x
at_first same tells [] x has = absurd has
at_first same tells (y ∷ ys) x has =
    by_test (same x y) (λ e. rw e (ap (λ z. Some z) (sym ((tells x y).0 e))))
    (λ e.
    let later : In x ys = ⊎_elim (λ (here : y ≡ x). not_both (same x y) ((tells x y).1 (sym here)) e) (λ (h : In x ys). h) has in
    rw (e, one_plus (position_or_len (same x) ys)) (at_first same tells ys x later))

pub get-position : {X : Type 0} (same : X → X → Bool) → Tells same → (xs : List X) (x : X) → In x xs → slice_get xs (unwrap_or (position (same x) xs) 0) ≡ Some x
get-position same tells xs x has =
    let there = at_first same tells xs x has in
    let within = some_within xs (position_or_len (same x) xs) x there in
    rw (lt-ltb (position_or_len (same x) xs) (length xs) within) there

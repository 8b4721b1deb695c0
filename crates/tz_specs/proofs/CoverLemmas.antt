-- Ranges that cover time.
use Rattle.std.proofs.Common.{◌≡◌, ℕ, zero, suc, ◌<◌, true, false, ◌⊎◌, ◌&&◌, inl, inr, ⊎_elim, refl, sym, ◌∙◌, arith, List, [], ◌∷◌, ◌++◌, Some, None, IsTrue, ℤ, ◌<ℤ◌, ◌≤ℤ◌}
use Rattle.std.specs.Prelude.{int_lt, int_le, slice_get}
use Rattle.std.specs.Ordering.{int_eq}
use Rattle.std.proofs.lemmas.Option.{none-some, same_Some}
use Rattle.std.proofs.lemmas.Bool.{cond-true, cond-false, and_parts, and_from, and_left, and_right, cases_order}
use Rattle.std.proofs.lemmas.Int.{ints, by_lt_z}
use Rattle.tz_types.specs.declared.range.SysInfo.{SysInfo}
use Rattle.tz_specs.specs.Expansion.{Period, holds_instant, range_at}
use Rattle.tz_specs.specs.Sound.{leads}
use Rattle.tz_specs.specs.Cover.{Chains, Covers}
use Rattle.tz_specs.proofs.Tests.{int_eq-true, eq-int_eq, int_le-true, int_lt-true, le-int_le, lt-int_le, lt-int_lt, le-int_lt}

-- one cover after another
pub Covers-append : (a b c : ℤ) (xs ys : List SysInfo) → Covers a b xs → Covers b c ys → Covers a c (xs ++ ys)
Covers-append a b c [] ys first second = rw first second
Covers-append a b c (x ∷ xs) ys first second = (first.0, first.1, Covers-append x.end b c xs ys first.2 second)

-- time doesn't run backwards
pub covers_ordered : (a b : ℤ) (ranges : List SysInfo) → Covers a b ranges → a ≤ℤ b
covers_ordered a b [] covers = omega (arith, ints)
covers_ordered a b (range ∷ later) covers =
    let rest : range.end ≤ℤ b = covers_ordered range.end b later covers.2 in
    let begins : range.begin ≡ a = covers.0 in
    let takes : range.begin <ℤ range.end = covers.1 in
    omega (arith, ints)

-- each range lies inside
pub covers_each : (a b : ℤ) (ranges : List SysInfo) (place : ℕ) (range : SysInfo) → Covers a b ranges → slice_get ranges place ≡ Some range → (a ≤ℤ range.begin) × (range.begin <ℤ range.end) × (range.end ≤ℤ b)
covers_each a b [] place range covers there = absurd (none-some range there)
covers_each a b (first ∷ later) zero range covers there =
    let same : first ≡ range = same_Some first range there in
    let rest : first.end ≤ℤ b = covers_ordered first.end b later covers.2 in
    let begins : first.begin ≡ a = covers.0 in
    let takes : first.begin <ℤ first.end = covers.1 in
    let at_first : (a ≤ℤ first.begin) × (first.begin <ℤ first.end) × (first.end ≤ℤ b) =
    (omega (arith, ints), takes, rest) in
    rw (← same) at_first
covers_each a b (first ∷ later) (suc place) range covers there =
    let inside = covers_each first.end b later place range covers.2 there in
    let begins : first.begin ≡ a = covers.0 in
    let takes : first.begin <ℤ first.end = covers.1 in
    (omega (arith, ints, inside.0), inside.1, inside.2)

-- an earlier range ends before a later one begins
pub covers_in_order : (a b : ℤ) (ranges : List SysInfo) (place later : ℕ) (range other : SysInfo) → Covers a b ranges → place < later → slice_get ranges place ≡ Some range → slice_get ranges later ≡ Some other → range.end ≤ℤ other.begin
covers_in_order a b [] place later range other covers before here there = absurd (none-some range here)
covers_in_order a b (first ∷ others) place zero range other covers before here there = absurd (omega arith)
covers_in_order a b (first ∷ others) zero (suc later) range other covers before here there =
    let same : first ≡ range = same_Some first range here in
    let inside = covers_each first.end b others later other covers.2 there in
    rw (← same) inside.0
covers_in_order a b (first ∷ others) (suc place) (suc later) range other covers before here there =
    covers_in_order first.end b others place later range other covers.2 (omega arith) here there

pub holds-true : (t : ℤ) (range : SysInfo) → holds_instant t range ≡ true → (range.begin ≤ℤ t) × (t <ℤ range.end)
holds-true t range h =
    let parts = and_parts (int_le range.begin t) (int_lt t range.end) h in
    (int_le-true range.begin t parts.0, int_lt-true t range.end parts.1)

pub true-holds : (t : ℤ) (range : SysInfo) → range.begin ≤ℤ t → t <ℤ range.end → holds_instant t range ≡ true
true-holds t range low high =
    and_from (int_le range.begin t) (int_lt t range.end) (le-int_le range.begin t low) (lt-int_lt t range.end high)

pub after-holds : (t : ℤ) (range : SysInfo) → range.end ≤ℤ t → holds_instant t range ≡ false
after-holds t range h = and_right (int_le range.begin t) (int_lt t range.end) (le-int_lt t range.end h)

pub before-holds : (t : ℤ) (range : SysInfo) → t <ℤ range.begin → holds_instant t range ≡ false
before-holds t range h = and_left (int_le range.begin t) (int_lt t range.end) (lt-int_le range.begin t h)

range_at-here : (t : ℤ) (range : SysInfo) (later : List SysInfo) → holds_instant t range ≡ true → range_at (range ∷ later) t ≡ Some range
unfolding range_at
range_at-here t range later h = cond-true (holds_instant t range) (Some range) (range_at later t) h

range_at-later : (t : ℤ) (range : SysInfo) (later : List SysInfo) → holds_instant t range ≡ false → range_at (range ∷ later) t ≡ range_at later t
unfolding range_at
range_at-later t range later h = cond-false (holds_instant t range) (Some range) (range_at later t) h

range_at-none : (t : ℤ) → range_at [] t ≡ None
unfolding range_at
range_at-none t = refl

-- an instant inside lies in a range
pub range_at_found : (a b t : ℤ) (ranges : List SysInfo) → Covers a b ranges → a ≤ℤ t → t <ℤ b → (place : ℕ) × (range : SysInfo) × (slice_get ranges place ≡ Some range) × (range_at ranges t ≡ Some range) × (holds_instant t range ≡ true)
range_at_found a b t [] covers low high = absurd (omega (arith, ints))
range_at_found a b t (range ∷ later) covers low high =
    let begins : range.begin ≡ a = covers.0 in
    by_lt_z t range.end
    (λ inside.
    let holds = true-holds t range (omega (arith, ints)) inside in
    (0, range, refl, range_at-here t range later holds, holds))
    (λ after.
    let rest = range_at_found range.end b t later covers.2 after high in
    (suc rest.0, rest.1, rest.2, range_at-later t range later (after-holds t range after) ∙ rest.3, rest.4))

-- before it begins there is none
pub range_at-before : (a b t : ℤ) (ranges : List SysInfo) → Covers a b ranges → t <ℤ a → range_at ranges t ≡ None
range_at-before a b t [] covers before = range_at-none t
range_at-before a b t (range ∷ later) covers before =
    let begins : range.begin ≡ a = covers.0 in
    let takes : range.begin <ℤ range.end = covers.1 in
    range_at-later t range later (before-holds t range (omega (arith, ints)))
    ∙ range_at-before range.end b t later covers.2 (omega (arith, ints))

-- and none from its end on
pub range_at-after : (a b t : ℤ) (ranges : List SysInfo) → Covers a b ranges → b ≤ℤ t → range_at ranges t ≡ None
range_at-after a b t [] covers after = range_at-none t
range_at-after a b t (range ∷ later) covers after =
    let rest : range.end ≤ℤ b = covers_ordered range.end b later covers.2 in
    range_at-later t range later (after-holds t range (omega (arith, ints)))
    ∙ range_at-after range.end b t later covers.2 after

-- two ranges that hold one instant stand at one place
pub holds_once : (a b t : ℤ) (ranges : List SysInfo) (place other_place : ℕ) (range other : SysInfo) → Covers a b ranges → slice_get ranges place ≡ Some range → slice_get ranges other_place ≡ Some other → holds_instant t range ≡ true → holds_instant t other ≡ true → place ≡ other_place
holds_once a b t ranges place other_place range other covers here there holds holds_too =
    let in_range = holds-true t range holds in
    let in_other = holds-true t other holds_too in
    ⊎_elim (λ (same : place ≡ other_place). same)
    (⊎_elim
    (λ (lt : place < other_place). absurd (omega (arith, ints, in_range, in_other, covers_in_order a b ranges place other_place range other covers lt here there)))
    (λ (gt : other_place < place). absurd (omega (arith, ints, in_range, in_other, covers_in_order a b ranges other_place place other range covers gt there here))))
    (cases_order place other_place)

-- a range that holds the instant is the one that is found
pub range_at_only : (a b t : ℤ) (ranges : List SysInfo) (place : ℕ) (range : SysInfo) → Covers a b ranges → slice_get ranges place ≡ Some range → holds_instant t range ≡ true → range_at ranges t ≡ Some range
range_at_only a b t ranges place range covers here holds =
    let inside = covers_each a b ranges place range covers here in
    let in_range = holds-true t range holds in
    let found = range_at_found a b t ranges covers (omega (arith, ints, inside.0, in_range.0)) (omega (arith, ints, inside.2, in_range.1)) in
    let same_place : place ≡ found.0 = holds_once a b t ranges place found.0 range found.1 covers here found.2 holds found.4 in
    let there : slice_get ranges found.0 ≡ Some range = rw (← same_place) here in
    found.3 ∙ sym found.2 ∙ there

-- there is none exactly outside
pub range_at_outside : (a b t : ℤ) (ranges : List SysInfo) → Covers a b ranges → range_at ranges t ≡ None → (t <ℤ a) ⊎ (b ≤ℤ t)
range_at_outside a b t ranges covers none =
    by_lt_z t a (λ before. inl before)
    (λ begun.
    by_lt_z t b
    (λ inside.
    let found = range_at_found a b t ranges covers begun inside in
    absurd (none-some found.1 (sym none ∙ found.3)))
    (λ after. inr after))

-- ---- the test and the relation of lines that follow one another
pub leads-chains : (a b : ℤ) (periods : List Period) → IsTrue (leads a b periods) → Chains a b periods
leads-chains a b [] leading = int_eq-true a b leading
leads-chains a b (period ∷ later) leading =
    let whole = and_parts (int_eq period.start a && int_lt period.start period.finish) (leads period.finish b later) leading in
    let front = and_parts (int_eq period.start a) (int_lt period.start period.finish) whole.0 in
    (int_eq-true period.start a front.0, int_lt-true period.start period.finish front.1, leads-chains period.finish b later whole.1)

pub chains-leads : (a b : ℤ) (periods : List Period) → Chains a b periods → IsTrue (leads a b periods)
chains-leads a b [] chains = eq-int_eq a b chains
chains-leads a b (period ∷ later) chains =
    and_from (int_eq period.start a && int_lt period.start period.finish) (leads period.finish b later)
    (and_from (int_eq period.start a) (int_lt period.start period.finish) (eq-int_eq period.start a chains.0)
    (lt-int_lt period.start period.finish chains.1))
    (chains-leads period.finish b later chains.2)

-- Which ranges of a list begin with a move.
use Rattle.std.proofs.Common.{◌≡◌, ℕ, zero, suc, true, false, ◌&&◌, inl, inr, ⊎_elim, refl, ap, subst, arith, List, [], ◌∷◌, ◌++◌, Some, ℤ, ◌<ℤ◌, ◌≤ℤ◌}
use Rattle.std.specs.Prelude.{slice_get, nat_eq}
use Rattle.std.specs.Ordering.{int_eq}
use Rattle.std.specs.Cmp.Lexicographic.{pointwise}
use Rattle.std.proofs.lemmas.Int.{ints}
use Rattle.std.proofs.lemmas.Bool.{cond-true, cond-false, and_parts, and_from, false_from_ne_true}
use Rattle.std.proofs.lemmas.Option.{none-some, same_Some}
use Rattle.tz_types.specs.declared.range.SysInfo.{SysInfo}
use Rattle.tz_specs.specs.Cover.{Covers}
use Rattle.std.proofs.lemmas.Slice.Eq.{bytes_eq-Decides}
use Rattle.std.specs.List.{Contains}
use Rattle.tz_specs.proofs.Tests.{by_test, not_both, int_eq-true, eq-int_eq}
use Rattle.tz_specs.proofs.ListLemmas.{In, In-from_Contains, Contains-from_In}
use Rattle.tz_specs.proofs.CoverLemmas.{covers_ordered}
use Rattle.tz_moves.specs.Moves.{runs_alike, moved_after, moved_ranges}

pub moved_after-alike : (before range : SysInfo) (later : List SysInfo) → runs_alike before range ≡ true → moved_after before (range ∷ later) ≡ moved_after range later
moved_after-alike before range later alike =
    cond-true (runs_alike before range) (moved_after range later) (range ∷ moved_after range later) alike

pub moved_after-differs : (before range : SysInfo) (later : List SysInfo) → runs_alike before range ≡ false → moved_after before (range ∷ later) ≡ range ∷ moved_after range later
moved_after-differs before range later differs =
    cond-false (runs_alike before range) (moved_after range later) (range ∷ moved_after range later) differs

moved_after-append : (before : SysInfo) (seen : List SysInfo) (range : SysInfo) (ahead : List SysInfo) → moved_after before (seen ++ range ∷ ahead) ≡ moved_after before (seen ++ range ∷ []) ++ moved_after range ahead
moved_after-append before [] range ahead =
    by_test (runs_alike before range)
    (λ alike. rw (moved_after-alike before range ahead alike, moved_after-alike before range [] alike) refl)
    (λ differs. rw (moved_after-differs before range ahead differs, moved_after-differs before range [] differs) refl)
moved_after-append before (first ∷ seen) range ahead =
    by_test (runs_alike before first)
    (λ alike.
    rw (moved_after-alike before first (seen ++ range ∷ ahead) alike, moved_after-alike before first (seen ++ range ∷ []) alike)
    (moved_after-append first seen range ahead))
    (λ differs.
    rw (moved_after-differs before first (seen ++ range ∷ ahead) differs, moved_after-differs before first (seen ++ range ∷ []) differs)
    (ap (λ (rs : List SysInfo). first ∷ rs) (moved_after-append first seen range ahead)))

-- a list is cut at a range: what begins with a move up to it, and what does after it
pub moved-append : (seen : List SysInfo) (range : SysInfo) (ahead : List SysInfo) → moved_ranges (seen ++ range ∷ ahead) ≡ moved_ranges (seen ++ range ∷ []) ++ moved_after range ahead
moved-append [] range ahead = refl
moved-append (first ∷ seen) range ahead = moved_after-append first seen range ahead

pub In-moved_after : (before : SysInfo) (ranges : List SysInfo) (range : SysInfo) → In range (moved_after before ranges) → In range ranges
In-moved_after before [] range has = has
In-moved_after before (first ∷ ranges) range has =
    by_test (runs_alike before first)
    (λ alike.
    let has' : In range (moved_after first ranges) = rw (moved_after-alike before first ranges alike) at has in
    inr (In-moved_after first ranges range has'))
    (λ differs.
    let has' : In range (first ∷ moved_after first ranges) = rw (moved_after-differs before first ranges differs) at has in
    ⊎_elim (λ (same : first ≡ range). inl same)
    (λ (later : In range (moved_after first ranges)). inr (In-moved_after first ranges range later)) has')

pub In-moved : (ranges : List SysInfo) (range : SysInfo) → In range (moved_ranges ranges) → In range ranges
In-moved [] range has = has
In-moved (first ∷ ranges) range has = inr (In-moved_after first ranges range has)

-- each range of a cover begins before its end
pub begun_before : (a b : ℤ) (ranges : List SysInfo) (range : SysInfo) → Covers a b ranges → In range ranges → range.begin <ℤ b
begun_before a b [] range covers has = absurd has
begun_before a b (first ∷ ranges) range covers has =
    let ordered : first.end ≤ℤ b = covers_ordered first.end b ranges covers.2 in
    let takes : first.begin <ℤ first.end = covers.1 in
    ⊎_elim (λ (same : first ≡ range). let here : first.begin <ℤ b = omega (arith, ints) in rw (← same) here)
    (λ (later : In range ranges). begun_before first.end b ranges range covers.2 later)
    has

-- and ends after its begin
pub ends_after_begin : (a b : ℤ) (ranges : List SysInfo) (range : SysInfo) → Covers a b ranges → In range ranges → a <ℤ range.end
ends_after_begin a b [] range covers has = absurd has
ends_after_begin a b (first ∷ ranges) range covers has =
    let begins : first.begin ≡ a = covers.0 in
    let takes : first.begin <ℤ first.end = covers.1 in
    ⊎_elim (λ (same : first ≡ range). let here : a <ℤ first.end = omega (arith, ints) in rw (← same) here)
    (λ (later : In range ranges).
    let there : first.end <ℤ range.end = ends_after_begin first.end b ranges range covers.2 later in
    omega (arith, ints))
    has

-- a cover that takes no time has no range
pub none_covered : (a b : ℤ) (ranges : List SysInfo) → Covers a b ranges → b ≤ℤ a → ranges ≡ []
none_covered a b [] covers past = refl
none_covered a b (first ∷ ranges) covers past =
    let ordered : first.end ≤ℤ b = covers_ordered first.end b ranges covers.2 in
    let begins : first.begin ≡ a = covers.0 in
    let takes : first.begin <ℤ first.end = covers.1 in
    absurd (omega (arith, ints))

-- ---- neighbours that differ
pub alike-parts : (before range : SysInfo) → runs_alike before range ≡ true → (before.offset ≡ range.offset) × (before.save ≡ range.save) × (before.abbrev ≡ range.abbrev)
alike-parts before range alike =
    let whole = and_parts (int_eq before.offset range.offset && int_eq before.save range.save) (pointwise nat_eq before.abbrev range.abbrev) alike in
    let front = and_parts (int_eq before.offset range.offset) (int_eq before.save range.save) whole.0 in
    (int_eq-true before.offset range.offset front.0, int_eq-true before.save range.save front.1, (bytes_eq-Decides before.abbrev range.abbrev).0 whole.1)

pub alike-from : (before range : SysInfo) → before.offset ≡ range.offset → before.save ≡ range.save → before.abbrev ≡ range.abbrev → runs_alike before range ≡ true
alike-from before range offset save called =
    and_from (int_eq before.offset range.offset && int_eq before.save range.save) (pointwise nat_eq before.abbrev range.abbrev)
    (and_from (int_eq before.offset range.offset) (int_eq before.save range.save) (eq-int_eq before.offset range.offset offset) (eq-int_eq before.save range.save save))
    ((bytes_eq-Decides before.abbrev range.abbrev).1 called)

-- the two stand next to each other in the list, and the clock doesn't run alike in them
abbrev pub AreUnlike : List SysInfo → SysInfo → Type 0
AreUnlike ranges range =
    (place : ℕ) × (before : SysInfo) × (slice_get ranges place ≡ Some before) × (slice_get ranges (suc place) ≡ Some range) × ¬ ((before.offset ≡ range.offset) × (before.save ≡ range.save) × (before.abbrev ≡ range.abbrev))

unlike : (before range : SysInfo) → runs_alike before range ≡ false → ¬ ((before.offset ≡ range.offset) × (before.save ≡ range.save) × (before.abbrev ≡ range.abbrev))
unlike before range differs same = not_both (runs_alike before range) (alike-from before range same.0 same.1 same.2) differs

differs_from : (before range : SysInfo) → ¬ ((before.offset ≡ range.offset) × (before.save ≡ range.save) × (before.abbrev ≡ range.abbrev)) → runs_alike before range ≡ false
differs_from before range other = false_from_ne_true (runs_alike before range) (λ alike. other (alike-parts before range alike))

later_unlike : (first : SysInfo) (ranges : List SysInfo) (range : SysInfo) → AreUnlike ranges range → AreUnlike (first ∷ ranges) range
later_unlike first ranges range is = (suc is.0, is.1, is.2, is.3, is.4)

after_unlike : (before : SysInfo) (ranges : List SysInfo) (range : SysInfo) → In range (moved_after before ranges) → AreUnlike (before ∷ ranges) range
after_unlike before [] range has = absurd has
after_unlike before (first ∷ ranges) range has =
    by_test (runs_alike before first)
    (λ alike.
    let has' : In range (moved_after first ranges) = rw (moved_after-alike before first ranges alike) at has in
    later_unlike before (first ∷ ranges) range (after_unlike first ranges range has'))
    (λ differs.
    let has' : In range (first ∷ moved_after first ranges) = rw (moved_after-differs before first ranges differs) at has in
    ⊎_elim (λ (same : first ≡ range).
    let here : AreUnlike (before ∷ first ∷ ranges) first = (0, before, refl, refl, unlike before first differs) in
    subst (λ (r : SysInfo). AreUnlike (before ∷ first ∷ ranges) r) same here)
    (λ (later : In range (moved_after first ranges)). later_unlike before (first ∷ ranges) range (after_unlike first ranges range later)) has')

unlike_after : (before : SysInfo) (ranges : List SysInfo) (place : ℕ) (other range : SysInfo) → slice_get (before ∷ ranges) place ≡ Some other → slice_get (before ∷ ranges) (suc place) ≡ Some range → runs_alike other range ≡ false → In range (moved_after before ranges)
unlike_after before [] place other range here there differs = absurd (none-some range there)
unlike_after before (first ∷ ranges) zero other range here there differs =
    let before_is : before ≡ other = same_Some before other here in
    let first_is : first ≡ range = same_Some first range there in
    let apart : runs_alike before first ≡ false = rw (before_is, first_is) differs in
    rw (moved_after-differs before first ranges apart) (inl first_is)
unlike_after before (first ∷ ranges) (suc place) other range here there differs =
    let rest = unlike_after first ranges place other range here there differs in
    by_test (runs_alike before first) (λ alike. rw (moved_after-alike before first ranges alike) rest)
    (λ apart. rw (moved_after-differs before first ranges apart) (inr rest))

pub moved_are_unlike : (ranges : List SysInfo) (range : SysInfo) → Contains (moved_ranges ranges) range → AreUnlike ranges range
moved_are_unlike [] range has = absurd (In-from_Contains (moved_ranges []) range has)
moved_are_unlike (first ∷ ranges) range has =
    after_unlike first ranges range (In-from_Contains (moved_after first ranges) range has)

pub unlike_are_moved : (ranges : List SysInfo) (range : SysInfo) → AreUnlike ranges range → Contains (moved_ranges ranges) range
unlike_are_moved [] range is = absurd (none-some range is.3)
unlike_are_moved (first ∷ ranges) range is =
    Contains-from_In (moved_after first ranges) range (unlike_after first ranges is.0 is.1 range is.2 is.3 (differs_from is.1 range is.4))

-- Which type is in force at an instant of a stretch, told by the merged ranges.
use Rattle.std.proofs.Common.{◌≡◌, ℕ, zero, suc, ◌<◌, true, false, cond, ◌⊎◌, inl, inr, ⊎_elim, refl, sym, ap, ◌∙◌, arith, List, [], ◌∷◌, Some, ℤ, ◌<ℤ◌, ◌≤ℤ◌}
use Rattle.std.specs.Prelude.{filter, int_lt, slice_get}
use Rattle.std.specs.List.{dedup_from}
use Rattle.std.proofs.lemmas.Int.{ints, by_lt_z}
use Rattle.std.proofs.lemmas.Bool.{cond-true, cond-false, and_left, and_right}
use Rattle.std.proofs.lemmas.Option.{none-some, same_Some}
use Rattle.tz_types.specs.declared.range.SysInfo.{SysInfo}
use Rattle.tz_specs.specs.Expansion.{holds_instant, range_at}
use Rattle.tz_specs.specs.Cover.{Covers}
use Rattle.tz_specs.proofs.Tests.{by_test, lt-int_lt, le-int_lt}
use Rattle.tz_specs.proofs.CoverLemmas.{true-holds, after-holds}
use Rattle.tz_expand.specs.Stretch.{meets}
use Rattle.tz_expand.proofs.Told.{meets-from}
use Rattle.tz_tzif.specs.declared.local_type.LocalType.{LocalType}
use Rattle.tz_tzif.specs.Types.{type_of, are_alike, merged, transitions_after}
use Rattle.tz_tzif.proofs.DistinctLemmas.{same_type-Decides}

-- the ranges that stay behind the one that was kept last
abbrev pub changes : SysInfo → List SysInfo → List SysInfo
changes kept [] = []
changes kept (range ∷ later) = cond (are_alike range kept) (changes kept later) (range ∷ changes range later)

deduped : (kept : SysInfo) (ranges : List SysInfo) → dedup_from are_alike kept ranges ≡ kept ∷ changes kept ranges
deduped kept [] = refl
deduped kept (range ∷ later) =
    by_test (are_alike range kept) (λ e. rw e (deduped kept later)) (λ e. rw e (ap (λ rs. kept ∷ rs) (deduped range later)))

pub merged-changes : (first : SysInfo) (later : List SysInfo) → merged (first ∷ later) ≡ first ∷ changes first later
unfolding merged
merged-changes first later = deduped first later

alike-type : (one other : SysInfo) → are_alike one other ≡ true → type_of one ≡ type_of other
alike-type one other e = (same_type-Decides (type_of one) (type_of other)).0 e

-- ---- ranges that begin after an instant
abbrev pub AllAfter : ℤ → List SysInfo → Type 0
AllAfter a [] = Unit {0}
AllAfter a (range ∷ later) = (a <ℤ range.begin) × AllAfter a later

pub covers_after : (a low high : ℤ) (ranges : List SysInfo) → Covers low high ranges → a <ℤ low → AllAfter a ranges
covers_after a low high [] covers before = tt
covers_after a low high (range ∷ later) covers before =
    let begins : range.begin ≡ low = covers.0 in
    let takes : range.begin <ℤ range.end = covers.1 in
    (omega (arith, ints), covers_after a range.end high later covers.2 (omega (arith, ints)))

pub changes_after : (a : ℤ) (kept : SysInfo) (ranges : List SysInfo) → AllAfter a ranges → AllAfter a (changes kept ranges)
changes_after a kept [] after = tt
changes_after a kept (range ∷ later) after =
    by_test (are_alike range kept) (λ e. rw e (changes_after a kept later after.1))
    (λ e. rw e (after.0, changes_after a range later after.1))

pub all_kept : (a : ℤ) (ranges : List SysInfo) → AllAfter a ranges → transitions_after a ranges ≡ ranges
all_kept a [] after = refl
all_kept a (range ∷ later) after =
    let here : int_lt a range.begin ≡ true = lt-int_lt a range.begin after.0 in
    rw here (ap (λ rs. range ∷ rs) (all_kept a later after.1))

pub first_left_out : (a : ℤ) (first : SysInfo) (ranges : List SysInfo) → first.begin ≤ℤ a → AllAfter a ranges → transitions_after a (first ∷ ranges) ≡ ranges
first_left_out a first ranges begun after =
    let here : int_lt a first.begin ≡ false = le-int_lt a first.begin begun in
    rw here (all_kept a ranges after)

pub after_at : (a : ℤ) (ranges : List SysInfo) (place : ℕ) (range : SysInfo) → AllAfter a ranges → slice_get ranges place ≡ Some range → a <ℤ range.begin
after_at a [] place range after there = absurd (none-some range there)
after_at a (first ∷ later) zero range after there =
    let same : first ≡ range = same_Some first range there in
    rw (← same) after.0
after_at a (first ∷ later) (suc place) range after there = after_at a later place range after.1 there

-- ---- ranges of which each begins after the one before it
abbrev pub Rising : List SysInfo → Type 0
Rising [] = Unit {0}
Rising (range ∷ later) = AllAfter range.begin later × Rising later

pub covers_rising : (low high : ℤ) (ranges : List SysInfo) → Covers low high ranges → Rising ranges
covers_rising low high [] covers = tt
covers_rising low high (range ∷ later) covers =
    (covers_after range.begin range.end high later covers.2 covers.1, covers_rising range.end high later covers.2)

pub changes_rising : (kept : SysInfo) (ranges : List SysInfo) → Rising ranges → Rising (changes kept ranges)
changes_rising kept [] rising = tt
changes_rising kept (range ∷ later) rising =
    by_test (are_alike range kept) (λ e. rw e (changes_rising kept later rising.1))
    (λ e. rw e (changes_after range.begin range later rising.0, changes_rising range later rising.1))

pub rising_at : (ranges : List SysInfo) (place other : ℕ) (range its : SysInfo) → Rising ranges → place < other → slice_get ranges place ≡ Some range → slice_get ranges other ≡ Some its → range.begin <ℤ its.begin
rising_at [] place other range its rising before there here = absurd (none-some range there)
rising_at (first ∷ later) place zero range its rising before there here = absurd (omega arith)
rising_at (first ∷ later) zero (suc other) range its rising before there here =
    let same : first ≡ range = same_Some first range there in
    rw (← same) (after_at first.begin later other its rising.0 here)
rising_at (first ∷ later) (suc place) (suc other) range its rising before there here =
    rising_at later place other range its rising.1 (omega arith) there here

-- ---- the type in force
-- the range at this place is the greatest at or before t
pub record IsLast (t : ℤ) (ranges : List SysInfo) (place : ℕ) (range : SysInfo) : Type 0 where
  pub there : slice_get ranges place ≡ Some range
  pub begun : range.begin ≤ℤ t
  pub last : (other : ℕ) (its : SysInfo) → slice_get ranges other ≡ Some its → its.begin ≤ℤ t → its.begin ≤ℤ range.begin

abbrev pub HasLast : ℤ → List SysInfo → LocalType → Type 0
HasLast t ranges now =
    (place : ℕ) × (range : SysInfo) × IsLast t ranges place range × (now ≡ type_of range)

-- the type of the greatest range at or before t, and else the first type
abbrev pub InForce : ℤ → LocalType → List SysInfo → LocalType → Type 0
InForce t first ranges now = (AllAfter t ranges × (now ≡ first)) ⊎ HasLast t ranges now

only : (t : ℤ) (first : SysInfo) (later : List SysInfo) (other : ℕ) (its : SysInfo) → AllAfter t later → slice_get (first ∷ later) other ≡ Some its → its.begin ≤ℤ t → its.begin ≤ℤ first.begin
only t first later zero its after there begun =
    let same : first ≡ its = same_Some first its there in
    rw same (omega (arith, ints))
only t first later (suc other) its after there begun =
    absurd (omega (arith, ints, after_at t later other its after there))

among : (t : ℤ) (first : SysInfo) (later : List SysInfo) (place other : ℕ) (range its : SysInfo) → AllAfter first.begin later → IsLast t later place range → slice_get (first ∷ later) other ≡ Some its → its.begin ≤ℤ t → its.begin ≤ℤ range.begin
among t first later place zero range its after is there begun =
    let same : first ≡ its = same_Some first its there in
    let before : first.begin <ℤ range.begin = after_at first.begin later place range after is.there in
    rw (← same) (omega (arith, ints))
among t first later place (suc other) range its after is there begun = is.last other its there begun

-- one range more in front
shifted : (t : ℤ) (first : SysInfo) (later : List SysInfo) (before now : LocalType) → first.begin ≤ℤ t → AllAfter first.begin later → InForce t (type_of first) later now → InForce t before (first ∷ later) now
shifted t first later before now begun after force =
    ⊎_elim
    (λ (none : AllAfter t later × (now ≡ type_of first)).
    inr (0, first, record { there = refl; begun = begun; last = λ other its there its_begun. only t first later other its none.0 there its_begun }, none.1))
    (λ (some : HasLast t later now).
    inr (suc some.0, some.1, record { there = some.2.there; begun = some.2.begun; last = λ other its there its_begun. among t first later some.0 other some.1 its after some.2 there its_begun }, some.3))
    force

found_here : (t : ℤ) (range now : SysInfo) (later : List SysInfo) → range.begin ≤ℤ t → t <ℤ range.end → range_at (range ∷ later) t ≡ Some now → range ≡ now
unfolding range_at
found_here t range now later begun inside found =
    let holds = true-holds t range begun inside in
    same_Some range now (sym (cond-true (holds_instant t range) (Some range) (range_at later t) holds) ∙ found)

found_later : (t : ℤ) (range now : SysInfo) (later : List SysInfo) → range.end ≤ℤ t → range_at (range ∷ later) t ≡ Some now → range_at later t ≡ Some now
unfolding range_at
found_later t range now later past found =
    let fails = after-holds t range past in
    sym (cond-false (holds_instant t range) (Some range) (range_at later t) fails) ∙ found

found_none : (t : ℤ) (now : SysInfo) → range_at [] t ≡ Some now → ⊥
unfolding range_at
found_none t now found = none-some now found

pub in_force : (t high : ℤ) (range kept : SysInfo) (later : List SysInfo) (now : SysInfo) → Covers range.begin high (range ∷ later) → type_of range ≡ type_of kept → range.begin ≤ℤ t → range_at (range ∷ later) t ≡ Some now → InForce t (type_of kept) (changes kept later) (type_of now)
in_force t high range kept [] now covers alike begun found =
    by_lt_z t range.end
    (λ inside.
    let is : range ≡ now = found_here t range now [] begun inside found in
    inl (tt, rw (← is) alike))
    (λ past. absurd (found_none t now (found_later t range now [] past found)))
in_force t high range kept (next ∷ later) now covers alike begun found =
    by_lt_z t range.end
    (λ inside.
    let is : range ≡ now = found_here t range now (next ∷ later) begun inside found in
    inl (changes_after t kept (next ∷ later) (covers_after t range.end high (next ∷ later) covers.2 inside), rw (← is) alike))
    (λ past.
    let rest = found_later t range now (next ∷ later) past found in
    let begins : next.begin ≡ range.end = covers.2.0 in
    let come : next.begin ≤ℤ t = omega (arith, ints) in
    let covered : Covers next.begin high (next ∷ later) = (refl, covers.2.1, covers.2.2) in
    by_test (are_alike next kept)
    (λ e. rw e (in_force t high next kept later now covered (alike-type next kept e) come rest))
    (λ e.
    let after = changes_after next.begin next later (covers_after next.begin next.end high later covers.2.2 covers.2.1) in
    rw e (shifted t next (changes next later) (type_of kept) (type_of now) come after (in_force t high next next later now covered refl come rest))))

-- ---- the ranges that meet a stretch
pub record Meeting (a b : ℤ) (ranges : List SysInfo) : Type 0 where
  pub first : SysInfo
  pub later : List SysInfo
  pub high : ℤ
  pub are : filter (meets a b) ranges ≡ first ∷ later
  pub begun : first.begin ≤ℤ a
  pub lasts : a <ℤ first.end
  pub covers : Covers first.begin high (first ∷ later)

too_early : (a b : ℤ) (range : SysInfo) → range.end ≤ℤ a → meets a b range ≡ false
too_early a b range h = and_right (int_lt range.begin b) (int_lt a range.end) (le-int_lt a range.end h)

too_late : (a b : ℤ) (range : SysInfo) → b ≤ℤ range.begin → meets a b range ≡ false
too_late a b range h = and_left (int_lt range.begin b) (int_lt a range.end) (le-int_lt range.begin b h)

none_meet : (a b low high : ℤ) (ranges : List SysInfo) → Covers low high ranges → b ≤ℤ low → filter (meets a b) ranges ≡ []
none_meet a b low high [] covers past = refl
none_meet a b low high (range ∷ later) covers past =
    let begins : range.begin ≡ low = covers.0 in
    let takes : range.begin <ℤ range.end = covers.1 in
    rw (too_late a b range (omega (arith, ints))) (none_meet a b range.end high later covers.2 (omega (arith, ints)))

rest_covers : (a b low high : ℤ) (ranges : List SysInfo) → Covers low high ranges → a ≤ℤ low → (end : ℤ) × Covers low end (filter (meets a b) ranges)
rest_covers a b low high [] covers after = (low, refl)
rest_covers a b low high (range ∷ later) covers after =
    let begins : range.begin ≡ low = covers.0 in
    let takes : range.begin <ℤ range.end = covers.1 in
    by_lt_z range.begin b
    (λ early.
    let rest = rest_covers a b range.end high later covers.2 (omega (arith, ints)) in
    rw (meets-from a b range early (omega (arith, ints))) (rest.0, (begins, takes, rest.1)))
    (λ late.
    rw (too_late a b range late, none_meet a b range.end high later covers.2 (omega (arith, ints))) (low, refl))

pub meeting : (a b low high : ℤ) (ranges : List SysInfo) → Covers low high ranges → low ≤ℤ a → a <ℤ high → a <ℤ b → Meeting a b ranges
meeting a b low high [] covers begun inside ordered = absurd (omega (arith, ints))
meeting a b low high (range ∷ later) covers begun inside ordered =
    let begins : range.begin ≡ low = covers.0 in
    let takes : range.begin <ℤ range.end = covers.1 in
    by_lt_z a range.end
    (λ here.
    let rest = rest_covers a b range.end high later covers.2 (omega (arith, ints)) in
    let kept : filter (meets a b) (range ∷ later) ≡ range ∷ filter (meets a b) later = rw (meets-from a b range (omega (arith, ints)) here) refl in
    record { first = range; later = filter (meets a b) later; high = rest.0; are = kept; begun = omega (arith, ints); lasts = here; covers = (refl, takes, rest.1) })
    (λ past.
    let rest = meeting a b range.end high later covers.2 past inside ordered in
    let left : filter (meets a b) (range ∷ later) ≡ filter (meets a b) later = rw (too_early a b range past) refl in
    record { first = rest.first; later = rest.later; high = rest.high; are = left ∙ rest.are; begun = rest.begun; lasts = rest.lasts; covers = rest.covers })

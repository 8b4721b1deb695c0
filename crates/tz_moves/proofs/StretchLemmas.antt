-- The moves of a stretch are told by the ranges that meet it and the second before it.
use Rattle.std.proofs.Common.{◌≡◌, ℕ, zero, suc, ◌+◌, ◌<◌, ◌≤◌, length, drop, get_or, true, false, ◌⊎◌, inl, inr, ⊎_elim, refl, sym, ap, ◌∙◌, arith, List, [], ◌∷◌, ◌++◌, map, ℤ, pos, ◌+ℤ◌, ◌-ℤ◌, ◌<ℤ◌, ◌≤ℤ◌}
use Rattle.std.specs.Prelude.{filter, int_lt, int_le}
use Rattle.std.specs.Int.{int_max}
use Rattle.std.proofs.lemmas.Int.{ints, by_lt_z}
use Rattle.std.proofs.lemmas.List.{append-nil, drop_more}
use Rattle.std.proofs.lemmas.Bool.{and_left, and_right, and_from}
use Rattle.tz_types.specs.declared.range.SysInfo.{SysInfo}
use Rattle.tz_specs.specs.Expansion.{first_instant, end_of_time}
use Rattle.tz_specs.specs.Cover.{Covers}
use Rattle.tz_specs.proofs.Tests.{by_test, le-int_le, lt-int_le, lt-int_lt, le-int_lt}
use Rattle.tz_specs.proofs.ListLemmas.{In}
use Rattle.tz_expand.specs.declared.compiled_zone.CompiledZone.{CompiledZone}
use Rattle.tz_expand.specs.Zone.{expansion_of}
use Rattle.tz_expand.specs.Stretch.{IsStretch, meets, ranges_between}
use Rattle.tz_expand.proofs.Told.{meets-from}
use Rattle.tz_local.proofs.InfoLemmas.{zone_covers, begun_from}
use Rattle.tz_moves.specs.Moves.{runs_alike, moved_after, moved_ranges, begins_between}
use Rattle.tz_moves.specs.declared.moves.Move.{Move}
use Rattle.tz_moves.specs.Move.{move_to, moves_between}
use Rattle.tz_moves.proofs.ListLemmas.{filter-pass, filter-fail, filter-none}
use Rattle.tz_moves.proofs.MoveLemmas.{moved_after-alike, moved_after-differs, In-moved_after}

begins-between : (from to : ℤ) (range : SysInfo) → from ≤ℤ range.begin → range.begin <ℤ to → begins_between from to range ≡ true
begins-between from to range low high =
    and_from (int_le from range.begin) (int_lt range.begin to) (le-int_le from range.begin low) (lt-int_lt range.begin to high)

begins-before : (from to : ℤ) (range : SysInfo) → range.begin <ℤ from → begins_between from to range ≡ false
begins-before from to range early =
    and_left (int_le from range.begin) (int_lt range.begin to) (lt-int_le from range.begin early)

begins-behind : (from to : ℤ) (range : SysInfo) → to ≤ℤ range.begin → begins_between from to range ≡ false
begins-behind from to range late =
    and_right (int_le from range.begin) (int_lt range.begin to) (le-int_lt range.begin to late)

meets-behind : (since to : ℤ) (range : SysInfo) → to ≤ℤ range.begin → meets since to range ≡ false
meets-behind since to range late =
    and_left (int_lt range.begin to) (int_lt since range.end) (le-int_lt range.begin to late)

meets-before : (since to : ℤ) (range : SysInfo) → range.end ≤ℤ since → meets since to range ≡ false
meets-before since to range early =
    and_right (int_lt range.begin to) (int_lt since range.end) (le-int_lt since range.end early)

-- behind a range that meets the stretch
moved_within : (a b since from to : ℤ) (before : SysInfo) (ranges : List SysInfo) → Covers a b ranges → since <ℤ a → from ≤ℤ a → moved_after before (filter (meets since to) ranges) ≡ filter (begins_between from to) (moved_after before ranges)
moved_within a b since from to before [] covers after begun = refl
moved_within a b since from to before (range ∷ ranges) covers after begun =
    let begins : range.begin ≡ a = covers.0 in
    let takes : range.begin <ℤ range.end = covers.1 in
    by_lt_z range.begin to
    (λ early.
    let kept = filter-pass (meets since to) range ranges (meets-from since to range early (omega (arith, ints))) in
    let rest = moved_within range.end b since from to range ranges covers.2 (omega (arith, ints)) (omega (arith, ints)) in
    by_test (runs_alike before range)
    (λ alike.
    ap (moved_after before) kept
    ∙ moved_after-alike before range (filter (meets since to) ranges) alike
    ∙ rest
    ∙ sym (ap (filter (begins_between from to)) (moved_after-alike before range ranges alike)))
    (λ differs.
    ap (moved_after before) kept
    ∙ moved_after-differs before range (filter (meets since to) ranges) differs
    ∙ ap (λ (rs : List SysInfo). range ∷ rs) rest
    ∙ sym (filter-pass (begins_between from to) range (moved_after range ranges) (begins-between from to range (omega (arith, ints)) early))
    ∙ sym (ap (filter (begins_between from to)) (moved_after-differs before range ranges differs))))
    (λ late.
    let far : (other : SysInfo) → In other (range ∷ ranges) → to ≤ℤ other.begin =
    λ other has. let there : a ≤ℤ other.begin = begun_from a b (range ∷ ranges) other covers has in omega (arith, ints) in
    ap (moved_after before) (filter-none (meets since to) (range ∷ ranges) (λ other has. meets-behind since to other (far other has)))
    ∙ sym (filter-none (begins_between from to) (moved_after before (range ∷ ranges))
    (λ other has. begins-behind from to other (far other (In-moved_after before (range ∷ ranges) other has)))))

-- a range that begins before the stretch tells no move of it
moved_early : (from to : ℤ) (before : SysInfo) (ranges : List SysInfo) → ((range : SysInfo) → (later : List SysInfo) → ranges ≡ range ∷ later → range.begin <ℤ from) → filter (begins_between from to) (moved_after before ranges) ≡ filter (begins_between from to) (moved_ranges ranges)
moved_early from to before [] early = refl
moved_early from to before (range ∷ ranges) early =
    let begins : range.begin <ℤ from = early range ranges refl in
    by_test (runs_alike before range)
    (λ alike. ap (filter (begins_between from to)) (moved_after-alike before range ranges alike))
    (λ differs.
    ap (filter (begins_between from to)) (moved_after-differs before range ranges differs)
    ∙ filter-fail (begins_between from to) range (moved_after range ranges) (begins-before from to range begins))

moved_met : (a b since from to : ℤ) (ranges : List SysInfo) → Covers a b ranges → a ≤ℤ since → from <ℤ to → ((since +ℤ pos 1) ≡ from) ⊎ ((since ≡ from) × (since ≡ a)) → moved_ranges (filter (meets since to) ranges) ≡ filter (begins_between from to) (moved_ranges ranges)
moved_met a b since from to [] covers inside ordered near = refl
moved_met a b since from to (first ∷ ranges) covers inside ordered near =
    let begins : first.begin ≡ a = covers.0 in
    let takes : first.begin <ℤ first.end = covers.1 in
    by_lt_z since first.end
    (λ meeting.
    let early : first.begin <ℤ to = ⊎_elim (λ (is : (since +ℤ pos 1) ≡ from). omega (arith, ints)) (λ (is : (since ≡ from) × (since ≡ a)). omega (arith, ints, is.0)) near in
    let begun : from ≤ℤ first.end = ⊎_elim (λ (is : (since +ℤ pos 1) ≡ from). omega (arith, ints)) (λ (is : (since ≡ from) × (since ≡ a)). omega (arith, ints, is.0)) near in
    ap moved_ranges (filter-pass (meets since to) first ranges (meets-from since to first early meeting))
    ∙ moved_within first.end b since from to first ranges covers.2 meeting begun)
    (λ past.
    let next : (since +ℤ pos 1) ≡ from = ⊎_elim (λ (is : (since +ℤ pos 1) ≡ from). is) (λ (is : (since ≡ from) × (since ≡ a)). absurd (omega (arith, ints, is.1))) near in
    ap moved_ranges (filter-fail (meets since to) first ranges (meets-before since to first past))
    ∙ moved_met first.end b since from to ranges covers.2 past ordered (inl next)
    ∙ sym (moved_early from to first ranges (λ range later is. head_begins range later is past next)))
  where
    head_begins : (range : SysInfo) (later : List SysInfo) → ranges ≡ range ∷ later → first.end ≤ℤ since → (since +ℤ pos 1) ≡ from → range.begin <ℤ from
    head_begins range later is past next =
        let rest : Covers first.end b (range ∷ later) = rw is at covers.2 in
        let begins : range.begin ≡ first.end = rest.0 in
        omega (arith, ints)

pub moves_told : (zone : CompiledZone) (since from to : ℤ) → IsStretch from to → since ≡ int_max first_instant (from -ℤ pos 1) → map move_to (moved_ranges (ranges_between zone since to)) ≡ moves_between zone from to
moves_told zone since from to stretch is =
    let begins : first_instant ≤ℤ from = stretch.begins in
    ap (map move_to)
    (by_lt_z first_instant from
    (λ later.
    let next : (since +ℤ pos 1) ≡ from = since_next first_instant from since later is in
    moved_met first_instant end_of_time since from to (expansion_of zone) (zone_covers zone) (omega (arith, ints)) stretch.ordered (inl next))
    (λ at.
    let same : from ≡ first_instant = omega (arith, ints) in
    let first : since ≡ first_instant = since_first first_instant from since at is in
    moved_met first_instant end_of_time since from to (expansion_of zone) (zone_covers zone) (omega (arith, ints)) stretch.ordered (inr (first ∙ sym same, first))))
  where
    since_next : (a f s : ℤ) → a <ℤ f → s ≡ int_max a (f -ℤ pos 1) → (s +ℤ pos 1) ≡ f
    since_next a f s later is = grind (arith, ints)

    since_first : (a f s : ℤ) → f ≤ℤ a → s ≡ int_max a (f -ℤ pos 1) → s ≡ a
    since_first a f s at is = grind (arith, ints)

-- the same of the ranges that were made
pub made_told : (zone : CompiledZone) (since from end to : ℤ) (made : List SysInfo) → made ≡ ranges_between zone since end → since ≡ int_max first_instant (from -ℤ pos 1) → end ≡ to → IsStretch from to → map move_to (moved_ranges made) ≡ moves_between zone from to
made_told zone since from end to made is begins ends stretch =
    ap (λ (ranges : List SysInfo). map move_to (moved_ranges ranges)) is
    ∙ ap (λ (last : ℤ). map move_to (moved_ranges (ranges_between zone since last))) ends
    ∙ moves_told zone since from to stretch begins

-- ---- the ranges one after another
pub pushed : (ranges : List SysInfo) (place : ℕ) (before range : SysInfo) (old new total : List Move) → place + 1 < length ranges → before ≡ get_or ranges place before → range ≡ get_or ranges (place + 1) range → old ++ map move_to (moved_ranges (drop place ranges)) ≡ total → ((later : List SysInfo) → new ++ map move_to (moved_after range later) ≡ old ++ map move_to (moved_after before (range ∷ later))) → new ++ map move_to (moved_ranges (drop (place + 1) ranges)) ≡ total
pushed ranges place before range old new total within before_is range_is so_far push =
    let later = drop (place + 1 + 1) ranges in
    let from_range : drop (place + 1) ranges ≡ range ∷ later =
    drop_more ranges (place + 1) range within ∙ ap (λ (r : SysInfo). r ∷ later) (sym range_is) in
    let from_before : drop place ranges ≡ before ∷ range ∷ later =
    drop_more ranges place before (omega arith) ∙ ap (λ (r : SysInfo). r ∷ drop (place + 1) ranges) (sym before_is) ∙ ap (λ (rs : List SysInfo). before ∷ rs) from_range in
    ap (λ (rs : List SysInfo). new ++ map move_to (moved_ranges rs)) from_range
    ∙ push later
    ∙ sym (ap (λ (rs : List SysInfo). old ++ map move_to (moved_ranges rs)) from_before)
    ∙ so_far

pub all_pushed : (ranges : List SysInfo) (place : ℕ) (moves total : List Move) → length ranges ≤ place + 1 → moves ++ map move_to (moved_ranges (drop place ranges)) ≡ total → moves ≡ total
all_pushed ranges place moves total past so_far =
    sym (append-nil moves)
    ∙ sym (ap (λ (rs : List SysInfo). moves ++ map move_to rs) (one_left ranges place past))
    ∙ so_far
  where
    one_left : (xs : List SysInfo) (k : ℕ) → length xs ≤ k + 1 → moved_ranges (drop k xs) ≡ []
    one_left [] zero few = refl
    one_left [] (suc k) few = refl
    one_left (x ∷ []) zero few = refl
    one_left (x ∷ y ∷ xs) zero few = absurd (omega arith)
    one_left (x ∷ xs) (suc k) few = one_left xs k (omega arith)

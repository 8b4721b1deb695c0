-- The ranges of a stretch, told by its instants.
use Rattle.std.proofs.Common.{◌≡◌, Bool, true, ⊎_elim, refl, arith, List, [], ◌∷◌, ℤ, ◌<ℤ◌, ◌≤ℤ◌}
use Rattle.std.specs.Prelude.{filter, find}
use Rattle.std.specs.List.{Contains}
use Rattle.std.proofs.lemmas.Int.{ints, by_lt_z}
use Rattle.tz_types.specs.declared.range.SysInfo.{SysInfo}
use Rattle.tz_specs.specs.Expansion.{first_instant, end_of_time, holds_instant, range_at}
use Rattle.tz_specs.specs.Cover.{Covers}
use Rattle.tz_specs.proofs.Tests.{by_test, not_both}
use Rattle.tz_specs.proofs.ListLemmas.{In, In-from_Contains, Contains-from_In, In-filter, In-filter_back}
use Rattle.tz_specs.proofs.CoverLemmas.{holds-true, leads-chains}
use Rattle.tz_specs.proofs.CutLemmas.{expansion_covers}
use Rattle.tz_expand.specs.declared.compiled_zone.CompiledZone.{CompiledZone}
use Rattle.tz_expand.specs.Compiled.{periods}
use Rattle.tz_expand.specs.Zone.{expansion_of}
use Rattle.tz_expand.specs.Stretch.{meets, ranges_between}
use Rattle.tz_expand.proofs.Told.{meets-parts, meets-from}

-- an instant of both
abbrev pub Shares : ℤ → ℤ → SysInfo → Type 0
Shares from to range =
    (t : ℤ) × (from ≤ℤ t) × (t <ℤ to) × (range.begin ≤ℤ t) × (t <ℤ range.end)

takes_time : (a b : ℤ) (ranges : List SysInfo) (r : SysInfo) → Covers a b ranges → In r ranges → r.begin <ℤ r.end
takes_time a b [] r covers has = absurd has
takes_time a b (first ∷ later) r covers has =
    ⊎_elim (λ (same : first ≡ r). rw (← same) covers.1) (λ (rest : In r later). takes_time first.end b later r covers.2 rest) has

zone_covers : (zone : CompiledZone) → Covers first_instant end_of_time (expansion_of zone)
zone_covers zone =
    expansion_covers first_instant end_of_time (periods zone.lines) (leads-chains first_instant end_of_time (periods zone.lines) zone.covers)

shares-from : (from to : ℤ) (range : SysInfo) → from <ℤ to → range.begin <ℤ range.end → meets from to range ≡ true → Shares from to range
shares-from from to range ordered takes meeting =
    let parts = meets-parts from to range meeting in
    by_lt_z from range.begin
    (λ later. (range.begin, omega (arith, ints), parts.0, omega (arith, ints), takes))
    (λ begun. (from, omega (arith, ints), ordered, begun, parts.1))

shares-back : (from to : ℤ) (range : SysInfo) → Shares from to range → meets from to range ≡ true
shares-back from to range shares =
    meets-from from to range (omega (arith, ints, shares.2, shares.3)) (omega (arith, ints, shares.1, shares.4))

pub between_members : (zone : CompiledZone) (from to : ℤ) (range : SysInfo) → from <ℤ to → Contains (ranges_between zone from to) range → Contains (expansion_of zone) range × Shares from to range
between_members zone from to range ordered has =
    let kept = In-filter_back (meets from to) (expansion_of zone) range (In-from_Contains (ranges_between zone from to) range has) in
    (Contains-from_In (expansion_of zone) range kept.0, shares-from from to range ordered (takes_time first_instant end_of_time (expansion_of zone) range (zone_covers zone) kept.0) kept.1)

pub members_between : (zone : CompiledZone) (from to : ℤ) (range : SysInfo) → Contains (expansion_of zone) range → Shares from to range → Contains (ranges_between zone from to) range
members_between zone from to range has shares =
    Contains-from_In (ranges_between zone from to) range
    (In-filter (meets from to) (expansion_of zone) range (In-from_Contains (expansion_of zone) range has) (shares-back from to range shares))

found_in_filter : (test keeps : SysInfo → Bool) (ranges : List SysInfo) → ((r : SysInfo) → test r ≡ true → keeps r ≡ true) → find test (filter keeps ranges) ≡ find test ranges
found_in_filter test keeps [] all = refl
found_in_filter test keeps (r ∷ ranges) all =
    by_test (keeps r)
    (λ kept.
    by_test (test r) (λ passes. rw (kept, passes) refl) (λ fails. rw (kept, fails) (found_in_filter test keeps ranges all)))
    (λ dropped.
    by_test (test r) (λ passes. not_both (keeps r) (all r passes) dropped)
    (λ fails. rw (dropped, fails) (found_in_filter test keeps ranges all)))

pub between_instants : (zone : CompiledZone) (from to t : ℤ) → from ≤ℤ t → t <ℤ to → range_at (ranges_between zone from to) t ≡ range_at (expansion_of zone) t
unfolding range_at
between_instants zone from to t low high =
    found_in_filter (holds_instant t) (meets from to) (expansion_of zone)
    (λ r holds. let inside = holds-true t r holds in meets-from from to r (omega (arith, ints, inside.0)) (omega (arith, ints, inside.1)))

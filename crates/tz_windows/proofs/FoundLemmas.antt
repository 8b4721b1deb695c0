-- Ranges that are found among those of a zone.
use Rattle.std.proofs.Common.{◌≡◌, inl, inr, sym, ◌∙◌, arith, List, [], ◌∷◌, ℤ, Some, None}
use Rattle.std.specs.Prelude.{Option, IfSome}
use Rattle.std.proofs.lemmas.Int.{ints}
use Rattle.std.proofs.lemmas.Bool.{cond-true, cond-false}
use Rattle.std.proofs.lemmas.Option.{none-some, same_Some}
use Rattle.jiff_core.specs.Calendar.{IsWithin}
use Rattle.tz_types.specs.declared.limit.TheConstants.{LONGEST_OFFSET}
use Rattle.tz_types.specs.declared.range.SysInfo.{SysInfo}
use Rattle.tz_specs.specs.Expansion.{first_instant, end_of_time, holds_instant, range_at}
use Rattle.tz_specs.specs.Cover.{Covers}
use Rattle.tz_specs.proofs.Tests.{by_test}
use Rattle.tz_specs.proofs.ListLemmas.{In, get_from_In}
use Rattle.tz_specs.proofs.CoverLemmas.{covers_each, holds_once, true-holds, leads-chains}
use Rattle.tz_specs.proofs.CutLemmas.{expansion_covers}
use Rattle.tz_expand.specs.declared.compiled_zone.CompiledZone.{CompiledZone}
use Rattle.tz_expand.specs.Compiled.{periods}
use Rattle.tz_expand.specs.Zone.{expansion_of}
use Rattle.tz_expand.proofs.ZoneOffsets.{offset_near}

found_in : (t : ℤ) (ranges : List SysInfo) (range : SysInfo) → range_at ranges t ≡ Some range → In range ranges
unfolding range_at
found_in t [] range found = absurd (none-some range found)
found_in t (first ∷ ranges) range found =
    by_test (holds_instant t first)
    (λ holds. inl (same_Some first range (sym (cond-true (holds_instant t first) (Some first) (range_at ranges t) holds) ∙ found)))
    (λ passed. inr (found_in t ranges range (sym (cond-false (holds_instant t first) (Some first) (range_at ranges t) passed) ∙ found)))

pub found_near : (zone : CompiledZone) (t : ℤ) (range : SysInfo) → range_at (expansion_of zone) t ≡ Some range → IsWithin LONGEST_OFFSET range.offset
found_near zone t range found = offset_near zone range (found_in t (expansion_of zone) range found)

zone_covers : (zone : CompiledZone) → Covers first_instant end_of_time (expansion_of zone)
zone_covers zone =
    expansion_covers first_instant end_of_time (periods zone.lines) (leads-chains first_instant end_of_time (periods zone.lines) zone.covers)

begin_apart_in : (a b : ℤ) (ranges : List SysInfo) (range other : SysInfo) → Covers a b ranges → In range ranges → In other ranges → range.begin ≡ other.begin → range ≡ other
begin_apart_in a b ranges range other covers has has_too same =
    let here = get_from_In ranges range has in
    let there = get_from_In ranges other has_too in
    let inside = covers_each a b ranges here.0 range covers here.1 in
    let inside_too = covers_each a b ranges there.0 other covers there.1 in
    let holds = true-holds range.begin range (omega (arith, ints)) inside.1 in
    let holds_too = true-holds range.begin other (omega (arith, ints)) (omega (arith, ints, inside_too.1)) in
    let place = holds_once a b range.begin ranges here.0 there.0 range other covers here.1 there.1 holds holds_too in
    let at_place = here.1 in
    let at_other = there.1 in
    cc

pub begin_apart : (zone : CompiledZone) (t u : ℤ) (range other : SysInfo) → range_at (expansion_of zone) t ≡ Some range → range_at (expansion_of zone) u ≡ Some other → range.begin ≡ other.begin → range ≡ other
begin_apart zone t u range other found found_too same =
    begin_apart_in first_instant end_of_time (expansion_of zone) range other (zone_covers zone) (found_in t (expansion_of zone) range found) (found_in u (expansion_of zone) other found_too) same

pub found_offset_near : (zone : CompiledZone) (t : ℤ) (found : Option SysInfo) → found ≡ range_at (expansion_of zone) t → IfSome found (λ range. IsWithin LONGEST_OFFSET range.offset)
found_offset_near zone t None is = tt
found_offset_near zone t (Some range) is = found_near zone t range (sym is)

-- What a scan has seen, one range after another.
use Rattle.std.proofs.Common.{◌≡◌, ℕ, suc, ◌+◌, ◌*◌, ◌<◌, ◌≤◌, ◌-◌, if◌then◌else◌, refl, sym, ap, subst, ◌∙◌, zero-add, add_assoc, arith, List, [], ◌∷◌, length, map, ℤ, pos, ◌+ℤ◌, Some, None}
use Rattle.std.specs.Prelude.{filter_map}
use Rattle.std.specs.List.{range_with_len}
use Rattle.std.specs.Ordering.{int_eq}
use Rattle.std.proofs.lemmas.Int.{ints}
use Rattle.tz_types.specs.declared.range.SysInfo.{SysInfo}
use Rattle.tz_windows.specs.declared.scan.Scan.{Scan}
use Rattle.tz_windows.specs.declared.scan.Seen.{Seen}
use Rattle.tz_specs.specs.Expansion.{range_at}
use Rattle.tz_expand.specs.declared.compiled_zone.CompiledZone.{CompiledZone}
use Rattle.tz_expand.specs.Zone.{expansion_of}
use Rattle.tz_windows.specs.Scan.{ranges_seen, sum_of_offsets, changes_after, changes, scan_of}
use Rattle.tz_windows.specs.Seen.{nothing_seen, change_to, changes_from, scan_from, IsSoFar}

same_scan : (inside also_inside : ℕ) (offsets also_offsets : ℤ) (changes also_changes : ℕ) → inside ≡ also_inside → offsets ≡ also_offsets → changes ≡ also_changes
    → (let one : Scan = record { inside = inside; offsets = offsets; changes = changes } in let other : Scan = record { inside = also_inside; offsets = also_offsets; changes = also_changes } in one ≡ other)
same_scan inside also_inside offsets also_offsets changes also_changes a b c = rw (a, b, c)

-- one more range
pub one_more_seen : (seen next : Seen) (range : SysInfo) (later : List SysInfo) → next.scan.inside ≡ seen.scan.inside + 1 → next.scan.offsets ≡ seen.scan.offsets +ℤ range.offset → next.scan.changes ≡ seen.scan.changes + change_to seen.begin range → next.begin ≡ Some range.begin → scan_from next later ≡ scan_from seen (range ∷ later)
one_more_seen seen next range later inside offsets changed begins =
    same_scan _ _ _ _ _ _ (omega arith) (omega (arith, ints))
    (rw (changed, begins) (add_assoc seen.scan.changes (change_to seen.begin range) (changes_from (Some range.begin) later)))

changes_are : (range : SysInfo) (ranges : List SysInfo) → changes_from (Some range.begin) ranges ≡ changes_after range ranges
changes_are range [] = refl
changes_are range (next ∷ ranges) = ap (λ n. (if int_eq range.begin next.begin then 0 else 1) + n) (changes_are next ranges)

changes_from_none : (ranges : List SysInfo) → changes_from None ranges ≡ changes ranges
changes_from_none [] = refl
changes_from_none (range ∷ ranges) = zero-add (changes_from (Some range.begin) ranges) ∙ changes_are range ranges

-- from the beginning on
pub from_nothing : (ranges : List SysInfo) → (let whole : Scan = record { inside = length ranges; offsets = sum_of_offsets ranges; changes = changes ranges } in scan_from nothing_seen ranges ≡ whole)
from_nothing ranges =
    same_scan _ _ _ _ _ _ (zero-add (length ranges)) (omega (arith, ints)) (zero-add (changes_from None ranges) ∙ changes_from_none ranges)

-- the numbers from a place on, where there is one
pub first_of_rest : (f : ℕ → ℤ) (place count : ℕ) → place < count → map f (range_with_len place (count - place)) ≡ f place ∷ map f (range_with_len (place + 1) (count - (place + 1)))
first_of_rest f place count h = let one : count - place ≡ suc (count - (place + 1)) = omega arith in rw one refl

from_here : (seen : Seen) → scan_from seen [] ≡ seen.scan
from_here seen = same_scan _ _ _ _ _ _ (omega arith) (omega (arith, ints)) (omega arith)

-- what is seen at the instants before a place
pub record IsSeenBefore (zone : CompiledZone) (from : ℤ) (step count place : ℕ) (seen : Seen) : Type 0 where
  pub so_far : IsSoFar seen
  pub few : seen.scan.inside ≤ place
  pub whole : scan_from seen (filter_map (range_at (expansion_of zone)) (map (λ place. from +ℤ pos (place * step)) (range_with_len place (count - place)))) ≡ scan_of zone from step count

nothing_before : (zone : CompiledZone) (from : ℤ) (step count : ℕ) → IsSeenBefore zone from step count 0 nothing_seen
nothing_before zone from step count =
    record {
      so_far = record { offsets = (omega (arith, ints), omega (arith, ints)); changes = omega arith };
      few = omega arith;
      whole = let all : count - 0 ≡ count = omega arith in rw all (from_nothing (ranges_seen zone from step count));
    }

pub seen_before_first : (zone : CompiledZone) (from : ℤ) (step count : ℕ) (seen : Seen) → seen ≡ nothing_seen → IsSeenBefore zone from step count 0 seen
seen_before_first zone from step count seen is = rw is (nothing_before zone from step count)

pub seen_before_next : (zone self : CompiledZone) (from t : ℤ) (step count place : ℕ) (seen next : Seen) → self ≡ zone → t ≡ from +ℤ pos (place * step) → place < count → IsSeenBefore zone from step count place seen → IsSoFar next → next.scan.inside ≤ seen.scan.inside + 1
    → ((later : List ℤ) → scan_from next (filter_map (range_at (expansion_of self)) later) ≡ scan_from seen (filter_map (range_at (expansion_of self)) (t ∷ later)))
    → IsSeenBefore zone from step count (place + 1) next
seen_before_next zone self from t step count place seen next same at_place within before so_far few later =
    let at : ℕ → ℤ = λ place. from +ℤ pos (place * step) in
    let Looks : CompiledZone → ℤ → Type 0 = λ zone t. (later : List ℤ) → scan_from next (filter_map (range_at (expansion_of zone)) later) ≡ scan_from seen (filter_map (range_at (expansion_of zone)) (t ∷ later)) in
    let here : Looks zone (at place) = subst (Looks zone) at_place (subst (λ (zone : CompiledZone). Looks zone t) same later) in
    let earlier = before.few in
    record {
      so_far = so_far;
      few = omega arith;
      whole =
          here (map at (range_with_len (place + 1) (count - (place + 1))))
          ∙ (ap (λ (instants : List ℤ). scan_from seen (filter_map (range_at (expansion_of zone)) instants)) (sym (first_of_rest at place count within)) ∙ before.whole);
    }

pub seen_before_end : (zone : CompiledZone) (from : ℤ) (step count : ℕ) (seen : Seen) → IsSeenBefore zone from step count count seen → seen.scan ≡ scan_of zone from step count
seen_before_end zone from step count seen before =
    let none : count - count ≡ 0 = omega arith in
    sym (from_here seen) ∙ (rw none at before.whole)

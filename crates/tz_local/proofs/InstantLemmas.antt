-- The instants of local times.
use Rattle.std.proofs.Common.{◌≡◌, ℤ, Option, Some, None}
use Rattle.tz_types.specs.declared.range.LocalInfo.{LocalInfo}
use Rattle.tz_types.specs.declared.range.LocalInfo.TheVariants.{Unique, Nonexistent, Ambiguous}
use Rattle.tz_types.specs.declared.range.Choose.{Choose}
use Rattle.tz_types.specs.declared.range.Choose.TheVariants.{Earliest, Latest}
use Rattle.tz_specs.specs.Local.{local_info, chosen_instant}
use Rattle.tz_specs.proofs.ListLemmas.{In-from_Contains, In-from_get}
use Rattle.tz_specs.proofs.LocalLemmas.{told_unique, told_ambiguous, told_gap}
use Rattle.tz_specs.specs.Expansion.{first_instant, end_of_time}
use Rattle.tz_expand.specs.declared.compiled_zone.CompiledZone.{CompiledZone}
use Rattle.tz_expand.specs.Zone.{expansion_of}
use Rattle.tz_local.specs.Choice.{HasNearOffsets, IsNotUnique}
use Rattle.tz_expand.proofs.ZoneOffsets.{offset_near}
use Rattle.tz_local.proofs.InfoLemmas.{zone_covers}

-- no instant comes exactly where there is no choice and the local time isn't unique
pub undecided : (info : LocalInfo) (l : ℤ) (choose : Option Choose) → chosen_instant info l choose ≡ None → (choose ≡ None) × IsNotUnique info
unfolding chosen_instant
undecided (Unique range) l choose none = cc
undecided (Nonexistent first second) l None none = (cc, tt)
undecided (Nonexistent first second) l (Some choice) none = cc
undecided (Ambiguous first second) l None none = (cc, tt)
undecided (Ambiguous first second) l (Some Earliest) none = cc
undecided (Ambiguous first second) l (Some Latest) none = cc

pub decided : (info : LocalInfo) (l t : ℤ) (choose : Option Choose) → chosen_instant info l choose ≡ Some t → choose ≡ None → IsNotUnique info → ⊥
unfolding chosen_instant
decided (Unique range) l t choose some none not_unique = not_unique
decided (Nonexistent first second) l t None some none not_unique = cc
decided (Nonexistent first second) l t (Some choice) some none not_unique = cc
decided (Ambiguous first second) l t None some none not_unique = cc
decided (Ambiguous first second) l t (Some choice) some none not_unique = cc

-- ranges that are told are ranges of the zone
pub info_near : (zone : CompiledZone) (l : ℤ) (info : LocalInfo) → local_info (expansion_of zone) l ≡ Some info → HasNearOffsets info
info_near zone l (Unique range) told =
    let once = told_unique (expansion_of zone) l range told in
    offset_near zone range (In-from_Contains (expansion_of zone) range once.among)
info_near zone l (Nonexistent first second) told =
    let gap = told_gap first_instant end_of_time (expansion_of zone) l first second (zone_covers zone) told in (
      offset_near zone first (In-from_get (expansion_of zone) gap.place first gap.first_at),
      offset_near zone second (In-from_get (expansion_of zone) _ second gap.second_at),
    )
info_near zone l (Ambiguous first second) told =
    let twice = told_ambiguous first_instant end_of_time (expansion_of zone) l first second (zone_covers zone) told in (
      offset_near zone first (In-from_Contains (expansion_of zone) first twice.first_among),
      offset_near zone second (In-from_Contains (expansion_of zone) second twice.second_among),
    )

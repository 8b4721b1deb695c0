-- What a zone's clock shows at the instants of local times.
use Rattle.std.proofs.Common.{◌≡◌, suc, true, ◌⊎◌, inl, inr, ⊎_elim, refl, ap, subst, arith, ℤ, ◌+ℤ◌, ◌-ℤ◌, ◌<ℤ◌, ◌≤ℤ◌, Option, Some, None, Contains}
use Rattle.std.proofs.lemmas.Int.{ints}
use Rattle.std.proofs.lemmas.Option.{same_Some}
use Rattle.tz_types.specs.declared.range.SysInfo.{SysInfo}
use Rattle.tz_types.specs.declared.range.LocalInfo.{LocalInfo}
use Rattle.tz_types.specs.declared.range.LocalInfo.TheVariants.{Unique, Nonexistent, Ambiguous}
use Rattle.tz_types.specs.declared.range.Choose.{Choose}
use Rattle.tz_types.specs.declared.range.Choose.TheVariants.{Earliest, Latest}
use Rattle.tz_specs.specs.Expansion.{IsInstant, first_instant, end_of_time, range_at}
use Rattle.tz_specs.specs.Local.{shows_local, local_info, chosen_instant}
use Rattle.tz_specs.proofs.Tests.{not_both}
use Rattle.tz_specs.proofs.ListLemmas.{In-from_Contains, Contains-from_In, In-append_right, get_from_In}
use Rattle.tz_specs.proofs.CoverLemmas.{true-holds, covers_each, range_at_only}
use Rattle.tz_specs.proofs.LocalLemmas.{shows-true, true-shows, told_unique, told_ambiguous, told_gap}
use Rattle.tz_expand.specs.declared.compiled_zone.CompiledZone.{CompiledZone}
use Rattle.tz_expand.specs.Zone.{expansion_of}
use Rattle.tz_local.specs.Clock.{ShowsAt}
use Rattle.tz_local.proofs.InfoLemmas.{zone_covers, found_among}

-- ---- a range that shows l, and the instant at which it does
pub record IsShowing (zone : CompiledZone) (t l : ℤ) (range : SysInfo) : Type 0 where
  pub has : Contains (expansion_of zone) range
  pub shows : shows_local l range ≡ true
  pub begun : range.begin ≤ℤ t
  pub ends : t <ℤ range.end
  pub is : t ≡ (l -ℤ range.offset)

showing : (zone : CompiledZone) (t l : ℤ) (at : ShowsAt zone t l) → IsShowing zone t l at.0
showing zone t l at =
    let range = at.0 in
    let shown : l ≡ (t +ℤ range.offset) = at.2 in
    let among = found_among first_instant end_of_time t (expansion_of zone) range (zone_covers zone) at.1 in
    let there = In-append_right among.before _ range (inl refl) in
    record {
      has = Contains-from_In (expansion_of zone) range (rw among.split there);
      shows = true-shows l range (omega (arith, ints, among.begun)) (omega (arith, ints, among.ends));
      begun = among.begun;
      ends = among.ends;
      is = omega (arith, ints);
    }

shows_at : (zone : CompiledZone) (l t : ℤ) (range : SysInfo) → Contains (expansion_of zone) range → shows_local l range ≡ true → t ≡ (l -ℤ range.offset) → ShowsAt zone t l
shows_at zone l t range has shows is =
    let parts = shows-true l range shows in
    let place = get_from_In (expansion_of zone) range (In-from_Contains (expansion_of zone) range has) in
    let holds = true-holds t range (omega (arith, ints, parts.0)) (omega (arith, ints, parts.1)) in
    (range, range_at_only first_instant end_of_time t (expansion_of zone) place.0 range (zone_covers zone) place.1 holds, omega (arith, ints))

pub shown_in_time : (zone : CompiledZone) (t : ℤ) (range : SysInfo) → range_at (expansion_of zone) t ≡ Some range → IsInstant t
shown_in_time zone t range found =
    let among = found_among first_instant end_of_time t (expansion_of zone) range (zone_covers zone) found in
    let has = In-append_right among.before _ range (inl refl) in
    let place = get_from_In (expansion_of zone) range (rw among.split has) in
    let inside = covers_each first_instant end_of_time (expansion_of zone) place.0 range (zone_covers zone) place.1 in
    (omega (arith, ints, inside.0, among.begun), omega (arith, ints, inside.2, among.ends))

-- ---- gaps
pub never_shown : (zone : CompiledZone) (l t : ℤ) (first second : SysInfo) → local_info (expansion_of zone) l ≡ Some (Nonexistent first second) → ¬ (ShowsAt zone t l)
never_shown zone l t first second told = λ at.
    let gap = told_gap first_instant end_of_time (expansion_of zone) l first second (zone_covers zone) told in
    let is = showing zone t l at in
    not_both (shows_local l at.0) is.shows (gap.not_shown at.0 is.has)

pub gap_begins : (zone : CompiledZone) (l : ℤ) (first second : SysInfo) → local_info (expansion_of zone) l ≡ Some (Nonexistent first second) → range_at (expansion_of zone) first.end ≡ Some second
gap_begins zone l first second told =
    let gap = told_gap first_instant end_of_time (expansion_of zone) l first second (zone_covers zone) told in
    let inside = covers_each first_instant end_of_time (expansion_of zone) (suc gap.place) second (zone_covers zone) gap.second_at in
    let holds = true-holds first.end second (omega (arith, ints, gap.meet)) (omega (arith, ints, gap.meet, inside.1)) in
    range_at_only first_instant end_of_time first.end (expansion_of zone) (suc gap.place) second (zone_covers zone) gap.second_at holds

-- ---- instants that are chosen
at_first : (zone : CompiledZone) (l : ℤ) (first second : SysInfo) → local_info (expansion_of zone) l ≡ Some (Ambiguous first second) → ShowsAt zone (l -ℤ first.offset) l
at_first zone l first second told =
    let twice = told_ambiguous first_instant end_of_time (expansion_of zone) l first second (zone_covers zone) told in
    shows_at zone l (l -ℤ first.offset) first twice.first_among twice.first_shown refl

at_second : (zone : CompiledZone) (l : ℤ) (first second : SysInfo) → local_info (expansion_of zone) l ≡ Some (Ambiguous first second) → ShowsAt zone (l -ℤ second.offset) l
at_second zone l first second told =
    let twice = told_ambiguous first_instant end_of_time (expansion_of zone) l first second (zone_covers zone) told in
    shows_at zone l (l -ℤ second.offset) second twice.second_among twice.second_shown refl

at_only : (zone : CompiledZone) (l : ℤ) (range : SysInfo) → local_info (expansion_of zone) l ≡ Some (Unique range) → ShowsAt zone (l -ℤ range.offset) l
at_only zone l range told =
    let once = told_unique (expansion_of zone) l range told in
    shows_at zone l (l -ℤ range.offset) range once.among once.shown refl

pub chosen_shown : (zone : CompiledZone) (l t : ℤ) (info : LocalInfo) (choose : Option Choose) → local_info (expansion_of zone) l ≡ Some info → chosen_instant info l choose ≡ Some t → ShowsAt zone t l ⊎ ((other : ℤ) → ¬ (ShowsAt zone other l))
unfolding chosen_instant
chosen_shown zone l t (Unique range) choose told chosen =
    inl (subst (λ (u : ℤ). ShowsAt zone u l) (same_Some (l -ℤ range.offset) t chosen) (at_only zone l range told))
chosen_shown zone l t (Ambiguous first second) None told chosen = cc
chosen_shown zone l t (Ambiguous first second) (Some Earliest) told chosen =
    inl (subst (λ (u : ℤ). ShowsAt zone u l) (same_Some (l -ℤ first.offset) t chosen) (at_first zone l first second told))
chosen_shown zone l t (Ambiguous first second) (Some Latest) told chosen =
    inl (subst (λ (u : ℤ). ShowsAt zone u l) (same_Some (l -ℤ second.offset) t chosen) (at_second zone l first second told))
chosen_shown zone l t (Nonexistent first second) choose told chosen =
    inr (λ other. never_shown zone l other first second told)

pub chosen_in_time : (zone : CompiledZone) (l t : ℤ) (info : LocalInfo) (choose : Option Choose) → local_info (expansion_of zone) l ≡ Some info → chosen_instant info l choose ≡ Some t → IsInstant t
unfolding chosen_instant
chosen_in_time zone l t (Unique range) choose told chosen =
    let at = at_only zone l range told in
    subst IsInstant (same_Some (l -ℤ range.offset) t chosen) (shown_in_time zone (l -ℤ range.offset) at.0 at.1)
chosen_in_time zone l t (Ambiguous first second) None told chosen = cc
chosen_in_time zone l t (Ambiguous first second) (Some Earliest) told chosen =
    let at = at_first zone l first second told in
    subst IsInstant (same_Some (l -ℤ first.offset) t chosen) (shown_in_time zone (l -ℤ first.offset) at.0 at.1)
chosen_in_time zone l t (Ambiguous first second) (Some Latest) told chosen =
    let at = at_second zone l first second told in
    subst IsInstant (same_Some (l -ℤ second.offset) t chosen) (shown_in_time zone (l -ℤ second.offset) at.0 at.1)
chosen_in_time zone l t (Nonexistent first second) None told chosen = cc
chosen_in_time zone l t (Nonexistent first second) (Some choice) told chosen =
    subst IsInstant (same_Some first.end t chosen) (shown_in_time zone first.end second (gap_begins zone l first second told))

pub earliest_first : (zone : CompiledZone) (l t other : ℤ) (info : LocalInfo) → local_info (expansion_of zone) l ≡ Some info → chosen_instant info l (Some Earliest) ≡ Some t → ShowsAt zone other l → t ≤ℤ other
unfolding chosen_instant
earliest_first zone l t other (Unique range) told chosen at =
    let once = told_unique (expansion_of zone) l range told in
    let it = showing zone other l at in
    let same : at.0.offset ≡ range.offset = ap (λ (r : SysInfo). r.offset) (once.alone at.0 it.has it.shows) in
    let is : (l -ℤ range.offset) ≡ t = same_Some (l -ℤ range.offset) t chosen in
    omega (arith, ints, it.is)
earliest_first zone l t other (Ambiguous first second) told chosen at =
    let twice = told_ambiguous first_instant end_of_time (expansion_of zone) l first second (zone_covers zone) told in
    let it = showing zone other l at in
    let is : (l -ℤ first.offset) ≡ t = same_Some (l -ℤ first.offset) t chosen in
    let parts = shows-true l first twice.first_shown in
    ⊎_elim
    (λ (same : at.0 ≡ first). let offset : at.0.offset ≡ first.offset = ap (λ (r : SysInfo). r.offset) same in omega (arith, ints, it.is))
    (λ (later : first.end ≤ℤ at.0.begin). omega (arith, ints, it.begun, parts.1))
    (twice.from_first at.0 it.has it.shows)
earliest_first zone l t other (Nonexistent first second) told chosen at =
    absurd (never_shown zone l other first second told at)

pub latest_last : (zone : CompiledZone) (l t other : ℤ) (info : LocalInfo) → local_info (expansion_of zone) l ≡ Some info → chosen_instant info l (Some Latest) ≡ Some t → ShowsAt zone other l → other ≤ℤ t
unfolding chosen_instant
latest_last zone l t other (Unique range) told chosen at =
    let once = told_unique (expansion_of zone) l range told in
    let it = showing zone other l at in
    let same : at.0.offset ≡ range.offset = ap (λ (r : SysInfo). r.offset) (once.alone at.0 it.has it.shows) in
    let is : (l -ℤ range.offset) ≡ t = same_Some (l -ℤ range.offset) t chosen in
    omega (arith, ints, it.is)
latest_last zone l t other (Ambiguous first second) told chosen at =
    let twice = told_ambiguous first_instant end_of_time (expansion_of zone) l first second (zone_covers zone) told in
    let it = showing zone other l at in
    let is : (l -ℤ second.offset) ≡ t = same_Some (l -ℤ second.offset) t chosen in
    let parts = shows-true l second twice.second_shown in
    ⊎_elim
    (λ (same : at.0 ≡ second). let offset : at.0.offset ≡ second.offset = ap (λ (r : SysInfo). r.offset) same in omega (arith, ints, it.is))
    (λ (earlier : at.0.end ≤ℤ second.begin). omega (arith, ints, it.ends, parts.0))
    (twice.to_second at.0 it.has it.shows)
latest_last zone l t other (Nonexistent first second) told chosen at =
    absurd (never_shown zone l other first second told at)

-- The walk through the ranges round a local time.
use Rattle.std.proofs.Common.{◌≡◌, suc, ◌≤◌, true, false, inl, inr, ⊎_elim, refl, sym, ap, subst, ◌∙◌, arith, List, [], ◌∷◌, ◌++◌, append_assoc, ℤ, pos, negsuc, ◌+ℤ◌, ◌-ℤ◌, ◌<ℤ◌, ◌≤ℤ◌, Some, None, IsTrue}
use Rattle.std.specs.Int.{int_gap}
use Rattle.std.proofs.lemmas.Int.{ints}
use Rattle.std.proofs.lemmas.Bool.{cond-true, cond-false, false_from_ne_true}
use Rattle.std.proofs.lemmas.List.{append-nil}
use Rattle.std.proofs.lemmas.Option.{same_Some, none-some}
use Rattle.jiff_core.specs.Calendar.{IsWithin}
use Rattle.tz_types.specs.declared.limit.TheConstants.{LONGEST_OFFSET}
use Rattle.tz_types.specs.declared.range.SysInfo.{SysInfo}
use Rattle.tz_types.specs.declared.range.LocalInfo.{LocalInfo}
use Rattle.tz_types.specs.declared.range.LocalInfo.TheVariants.{Unique, Nonexistent, Ambiguous}
use Rattle.tz_specs.specs.Expansion.{IsInstant, first_instant, end_of_time, holds_instant, range_at}
use Rattle.tz_specs.specs.Cover.{Covers}
use Rattle.tz_specs.specs.Local.{shows_local, candidates, begins_by, from_last_begun, gap_between, local_info}
use Rattle.tz_specs.proofs.Tests.{by_test, le-int_le}
use Rattle.tz_specs.proofs.ListLemmas.{In, In-from_get, In-append_left, In-append_right}
use Rattle.tz_specs.proofs.CoverLemmas.{Covers-append, covers_ordered, holds-true, true-holds, after-holds, leads-chains}
use Rattle.tz_specs.proofs.CutLemmas.{expansion_covers}
use Rattle.tz_specs.proofs.LocalLemmas.{shows-true, begins-true, last_begun, last_end, not_shown, has_ended, local_info-none, local_info-one, local_info-more}
use Rattle.tz_expand.specs.declared.compiled_zone.CompiledZone.{CompiledZone}
use Rattle.tz_expand.specs.Compiled.{periods}
use Rattle.tz_expand.specs.Zone.{expansion_of}
use Rattle.tz_local.specs.LocalTime.{IsLocalTime}
use Rattle.tz_local.specs.declared.findings.Findings.{Findings}
use Rattle.tz_local.specs.declared.findings.Findings.TheVariants.{Begun, Told}
use Rattle.tz_local.specs.Findings.{AreFindings}
use Rattle.tz_local.proofs.FindingsLemmas.{still_told}
use Rattle.tz_expand.proofs.ZoneOffsets.{offset_near}

pub zone_covers : (zone : CompiledZone) → Covers first_instant end_of_time (expansion_of zone)
zone_covers zone =
    expansion_covers first_instant end_of_time (periods zone.lines) (leads-chains first_instant end_of_time (periods zone.lines) zone.covers)

-- ---- the range that holds an instant
range_at-here : (t : ℤ) (range : SysInfo) (later : List SysInfo) → holds_instant t range ≡ true → range_at (range ∷ later) t ≡ Some range
unfolding range_at
range_at-here t range later h = cond-true (holds_instant t range) (Some range) (range_at later t) h

range_at-later : (t : ℤ) (range : SysInfo) (later : List SysInfo) → holds_instant t range ≡ false → range_at (range ∷ later) t ≡ range_at later t
unfolding range_at
range_at-later t range later h = cond-false (holds_instant t range) (Some range) (range_at later t) h

range_at-none : (t : ℤ) → range_at [] t ≡ None
unfolding range_at
range_at-none t = refl

-- it stands in the list, between the ranges that end before it and those that begin after it
pub record IsAmong (a b t : ℤ) (ranges : List SysInfo) (range : SysInfo) : Type 0 where
  pub before : List SysInfo
  pub later : List SysInfo
  pub split : ranges ≡ before ++ range ∷ later
  pub covered : Covers a range.begin before
  pub takes : range.begin <ℤ range.end
  pub covers : Covers range.end b later
  pub begun : range.begin ≤ℤ t
  pub ends : t <ℤ range.end

pub found_among : (a b t : ℤ) (ranges : List SysInfo) (range : SysInfo) → Covers a b ranges → range_at ranges t ≡ Some range → IsAmong a b t ranges range
found_among a b t [] range covers found = absurd (none-some range (sym (range_at-none t) ∙ found))
found_among a b t (first ∷ ranges) range covers found =
    by_test (holds_instant t first)
    (λ holds.
    let same : first ≡ range = same_Some first range (sym (range_at-here t first ranges holds) ∙ found) in
    let inside = holds-true t first holds in
    let at_first : IsAmong a b t (first ∷ ranges) first =
    record {
      before = [];
      later = ranges;
      split = refl;
      covered = sym covers.0;
      takes = covers.1;
      covers = covers.2;
      begun = inside.0;
      ends = inside.1;
    } in
    subst (λ (r : SysInfo). IsAmong a b t (first ∷ ranges) r) same at_first)
    (λ other.
    let rest = found_among first.end b t ranges range covers.2 (sym (range_at-later t first ranges other) ∙ found) in
    record {
      before = first ∷ rest.before;
      later = rest.later;
      split = ap (λ (rs : List SysInfo). first ∷ rs) rest.split;
      covered = (covers.0, covers.1, rest.covered);
      takes = rest.takes;
      covers = rest.covers;
      begun = rest.begun;
      ends = rest.ends;
    })

-- ranges that have ended don't hold it
pub range_at-past : (a b t : ℤ) (seen ahead : List SysInfo) → Covers a b seen → b ≤ℤ t → range_at (seen ++ ahead) t ≡ range_at ahead t
range_at-past a b t [] ahead covers past = refl
range_at-past a b t (first ∷ seen) ahead covers past =
    let ordered : first.end ≤ℤ b = covers_ordered first.end b seen covers.2 in
    range_at-later t first (seen ++ ahead) (after-holds t first (omega (arith, ints)))
    ∙ range_at-past first.end b t seen ahead covers.2 past

-- ---- how far the walk has come
pub record IsWalk (zone : CompiledZone) (l end : ℤ) (findings : Findings) : Type 0 where
  pub seen : List SysInfo
  pub ahead : List SysInfo
  pub split : expansion_of zone ≡ seen ++ ahead
  pub found : AreFindings seen l findings
  pub covered : Covers first_instant end seen
  pub covers : Covers end end_of_time ahead

pub range_near : (zone : CompiledZone) (t : ℤ) (range : SysInfo) → range_at (expansion_of zone) t ≡ Some range → IsWithin LONGEST_OFFSET range.offset
range_near zone t range found =
    let among = found_among first_instant end_of_time t (expansion_of zone) range (zone_covers zone) found in
    let has : In range (among.before ++ range ∷ among.later) = In-append_right among.before (range ∷ among.later) range (inl refl) in
    offset_near zone range (rw among.split has)

none_shown : (l : ℤ) (ranges : List SysInfo) → ((range : SysInfo) → In range ranges → shows_local l range ≡ false) → candidates ranges l ≡ []
none_shown l [] hidden = refl
none_shown l (range ∷ ranges) hidden =
    cond-false (shows_local l range) (range ∷ candidates ranges l) (candidates ranges l) (hidden range (inl refl))
    ∙ none_shown l ranges (λ other has. hidden other (inr has))

pub ended_by : (a b : ℤ) (ranges : List SysInfo) (range : SysInfo) → Covers a b ranges → In range ranges → range.end ≤ℤ b
ended_by a b [] range covers has = absurd has
ended_by a b (first ∷ ranges) range covers has =
    let ordered : first.end ≤ℤ b = covers_ordered first.end b ranges covers.2 in
    ⊎_elim (λ (same : first ≡ range). rw (← same) ordered)
    (λ (later : In range ranges). ended_by first.end b ranges range covers.2 later)
    has

pub begun_from : (a b : ℤ) (ranges : List SysInfo) (range : SysInfo) → Covers a b ranges → In range ranges → a ≤ℤ range.begin
begun_from a b [] range covers has = absurd has
begun_from a b (first ∷ ranges) range covers has =
    let begins : first.begin ≡ a = covers.0 in
    let takes : first.begin <ℤ first.end = covers.1 in
    ⊎_elim
    (λ (same : first ≡ range). let here : a ≤ℤ first.begin = omega (arith, ints) in rw (← same) here)
    (λ (later : In range ranges). let there = begun_from first.end b ranges range covers.2 later in omega (arith, ints, there))
    has

too_early : (l : ℤ) (range : SysInfo) → IsWithin LONGEST_OFFSET range.offset → range.end ≤ℤ (l -ℤ pos LONGEST_OFFSET) → shows_local l range ≡ false
too_early l range near early =
    false_from_ne_true (shows_local l range) (λ shows. let parts = shows-true l range shows in omega (arith, ints, near, parts.1))

-- a range that holds the instant two days before l has begun by l
pub first_begun : (zone : CompiledZone) (l : ℤ) (range : SysInfo) → range_at (expansion_of zone) (l -ℤ pos LONGEST_OFFSET) ≡ Some range → IsTrue (begins_by l range)
first_begun zone l range found =
    let among = found_among first_instant end_of_time (l -ℤ pos LONGEST_OFFSET) (expansion_of zone) range (zone_covers zone) found in
    let near = range_near zone (l -ℤ pos LONGEST_OFFSET) range found in
    le-int_le (range.begin +ℤ range.offset) l (omega (arith, ints, among.begun, near))

pub first_seen : (zone : CompiledZone) (l : ℤ) (range : SysInfo) (findings : Findings) → range_at (expansion_of zone) (l -ℤ pos LONGEST_OFFSET) ≡ Some range → ((before : List SysInfo) → candidates before l ≡ [] → AreFindings (before ++ range ∷ []) l findings) → IsWalk zone l range.end findings
first_seen zone l range findings found told =
    let t = l -ℤ pos LONGEST_OFFSET in
    let among = found_among first_instant end_of_time t (expansion_of zone) range (zone_covers zone) found in
    let none = none_shown l among.before
    (λ other has.
    let there : In other (among.before ++ range ∷ among.later) = In-append_left among.before (range ∷ among.later) other has in
    let near = offset_near zone other (rw among.split there) in
    let ended = ended_by first_instant range.begin among.before other among.covered has in
    too_early l other near (omega (arith, ints, ended, among.begun))) in
    record {
      seen = among.before ++ range ∷ [];
      ahead = among.later;
      split = among.split ∙ sym (append_assoc among.before (range ∷ []) among.later);
      found = told among.before none;
      covered = Covers-append first_instant range.begin range.end among.before (range ∷ []) among.covered (refl, among.takes, refl);
      covers = among.covers;
    }

pub next_head : (b t : ℤ) (ahead : List SysInfo) (range : SysInfo) → Covers t b ahead → range_at ahead t ≡ Some range → (later : List SysInfo) × (ahead ≡ range ∷ later) × (range.begin ≡ t) × (range.begin <ℤ range.end) × Covers range.end b later
next_head b t [] range covers found = absurd (none-some range (sym (range_at-none t) ∙ found))
next_head b t (first ∷ later) range covers found =
    let begins : first.begin ≡ t = covers.0 in
    let takes : first.begin <ℤ first.end = covers.1 in
    let holds = true-holds t first (omega (arith, ints)) (omega (arith, ints)) in
    let same : first ≡ range = same_Some first range (sym (range_at-here t first later holds) ∙ found) in
    let at_first : (others : List SysInfo) × (first ∷ later ≡ first ∷ others) × (first.begin ≡ t) × (first.begin <ℤ first.end) × Covers first.end b others =
    (later, refl, begins, takes, covers.2) in
    subst (λ (r : SysInfo). (others : List SysInfo) × (first ∷ later ≡ r ∷ others) × (r.begin ≡ t) × (r.begin <ℤ r.end) × Covers r.end b others) same at_first

pub record IsNext (zone : CompiledZone) (l end : ℤ) (range : SysInfo) (findings : Findings) : Type 0 where
  pub walk : IsWalk zone l range.end findings
  pub later : end <ℤ range.end

pub next_seen : (zone : CompiledZone) (l end : ℤ) (findings : Findings) (range : SysInfo) (more : Findings) → IsWalk zone l end findings → range_at (expansion_of zone) end ≡ Some range → ((seen : List SysInfo) → AreFindings seen l findings → AreFindings (seen ++ range ∷ []) l more) → IsNext zone l end range more
next_seen zone l end findings range more walk found told =
    let whole : range_at (walk.seen ++ walk.ahead) end ≡ Some range = rw walk.split at found in
    let ahead = sym (range_at-past first_instant end end walk.seen walk.ahead walk.covered (omega (arith, ints))) ∙ whole in
    let head = next_head end_of_time end walk.ahead range walk.covers ahead in
    let begins : end ≡ range.begin = sym head.2 in
    let covered : Covers first_instant range.begin walk.seen = rw begins at walk.covered in
    record {
      walk = record {
        seen = walk.seen ++ range ∷ [];
        ahead = head.0;
        split = walk.split ∙ ap (λ (rs : List SysInfo). walk.seen ++ rs) head.1 ∙ sym (append_assoc walk.seen (range ∷ []) head.0);
        found = told walk.seen walk.found;
        covered = Covers-append first_instant range.begin range.end walk.seen (range ∷ []) covered (refl, head.3, refl);
        covers = head.4;
      };
      later = omega (arith, ints, head.2, head.3);
    }

-- ---- the end of the walk
too_late : (l : ℤ) (range : SysInfo) → IsWithin LONGEST_OFFSET range.offset → (l +ℤ pos LONGEST_OFFSET) <ℤ range.begin → begins_by l range ≡ false
too_late l range near late =
    false_from_ne_true (begins_by l range) (λ begins. let early = begins-true l range begins in omega (arith, ints, near, early))

late_hidden : (l : ℤ) (range : SysInfo) → begins_by l range ≡ false → shows_local l range ≡ false
late_hidden l range late =
    false_from_ne_true (shows_local l range)
    (λ shows.
    let parts = shows-true l range shows in
    let begun = le-int_le (range.begin +ℤ range.offset) l (omega (arith, ints, parts.0)) in
    cc)

all_told : (l : ℤ) (info : LocalInfo) (seen ahead : List SysInfo) → AreFindings seen l (Told info) → ((range : SysInfo) → In range ahead → begins_by l range ≡ false) → AreFindings (seen ++ ahead) l (Told info)
all_told l info seen [] found late = subst (λ (rs : List SysInfo). AreFindings rs l (Told info)) (sym (append-nil seen)) found
all_told l info seen (range ∷ ahead) found late =
    let not_begun = late range (inl refl) in
    let more = still_told seen l range info (late_hidden l range not_begun) not_begun found in
    let all = all_told l info (seen ++ range ∷ []) ahead more (λ other has. late other (inr has)) in
    subst (λ (rs : List SysInfo). AreFindings rs l (Told info)) (append_assoc seen (range ∷ []) ahead) all

found_is_info : (ranges : List SysInfo) (l : ℤ) (info : LocalInfo) → AreFindings ranges l (Told info) → local_info ranges l ≡ Some info
found_is_info ranges l (Unique range) found = local_info-one ranges l range found
found_is_info ranges l (Ambiguous first second) found =
    local_info-more ranges l first found.0 found.1 found.2 ∙ ap (λ (r : SysInfo). Some (Ambiguous first r)) found.3
found_is_info ranges l (Nonexistent first second) found =
    let between : gap_between (from_last_begun ranges l) ≡ Some (Nonexistent first second) = rw found.2 in
    local_info-none ranges l found.1 ∙ between

pub walked : (zone : CompiledZone) (l end : ℤ) (info : LocalInfo) → IsWalk zone l end (Told info) → (l +ℤ pos LONGEST_OFFSET) <ℤ end → local_info (expansion_of zone) l ≡ Some info
walked zone l end info walk past =
    let all = all_told l info walk.seen walk.ahead walk.found
    (λ range has.
    let there : In range (walk.seen ++ walk.ahead) = In-append_right walk.seen walk.ahead range has in
    let near = offset_near zone range (rw walk.split there) in
    let begins = begun_from end end_of_time walk.ahead range walk.covers has in
    too_late l range near (omega (arith, ints, begins))) in
    found_is_info (expansion_of zone) l info (subst (λ (rs : List SysInfo). AreFindings rs l (Told info)) (sym walk.split) all)

pub never_begun : (zone : CompiledZone) (l end : ℤ) (range : SysInfo) → IsWalk zone l end (Begun range) → (l +ℤ pos LONGEST_OFFSET) <ℤ end → ⊥
never_begun zone l end range walk past =
    let last = last_begun walk.seen l range [] walk.found.1 in
    let has : In range walk.seen = In-from_get walk.seen last.place range last.here in
    let there : In range (walk.seen ++ walk.ahead) = In-append_left walk.seen walk.ahead range has in
    let near = offset_near zone range (rw walk.split there) in
    let ended = has_ended l range last.begins (not_shown walk.seen l range walk.found.0 has) in
    let ends = last_end first_instant end walk.seen last.place range walk.covered last.here last.next in
    omega (arith, ints, near, ended, ends)

-- ---- the walk ends
pub walks_on : (end next limit : ℤ) → end <ℤ next → end <ℤ limit → suc (int_gap next limit) ≤ int_gap end limit
walks_on (pos end) (pos next) (pos limit) later below = omega (arith, ints)
walks_on (pos end) (pos next) (negsuc limit) later below = absurd (omega (arith, ints))
walks_on (pos end) (negsuc next) limit later below = absurd (omega (arith, ints))
walks_on (negsuc end) (pos next) (pos limit) later below = omega (arith, ints)
walks_on (negsuc end) (pos next) (negsuc limit) later below = omega (arith, ints)
walks_on (negsuc end) (negsuc next) (pos limit) later below = omega (arith, ints)
walks_on (negsuc end) (negsuc next) (negsuc limit) later below = omega (arith, ints)

pub ends_inside : (zone : CompiledZone) (l end : ℤ) (findings : Findings) → IsWalk zone l end findings → IsLocalTime l → end ≤ℤ (l +ℤ pos LONGEST_OFFSET) → IsInstant end
ends_inside zone l end findings walk inside not_past =
    let covered = covers_ordered first_instant end walk.seen walk.covered in
    (covered, omega (arith, ints, inside.1))

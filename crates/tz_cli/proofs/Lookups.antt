-- What is found is told as an answer, and a lookup has one status.
use Rattle.std.proofs.Common.{◌≡◌, ℕ, List, Option, Result, Ok, Err, Some, None, slice_get, refl, sym, ap, ◌∙◌, subst, ℤ}
use Rattle.std.proofs.lemmas.Option.{same_Some}
use Rattle.tz_types.specs.declared.range.Choose.{Choose}
use Rattle.tz_types.specs.declared.range.Choose.TheVariants.{Earliest, Latest}
use Rattle.tz_types.specs.declared.range.SysInfo.{SysInfo}
use Rattle.tz_types.specs.declared.source.Source.{Source}
use Rattle.tz_types.specs.declared.database.Db.{Db}
use Rattle.tz_specs.specs.Expansion.{Period, IsInstant, periods_of, full_expansion}
use Rattle.tz_specs.proofs.SameDatabase.{one_database}
use Rattle.tz_specs.proofs.LeapTextLemmas.{read_leaps_are_not_refused}
use Rattle.tz_lines.specs.Locate.{located}
use Rattle.tz_local.specs.LocalTime.{IsLocalTime}
use Rattle.tz_expand.specs.declared.compiled_zone.CompiledZone.{CompiledZone}
use Rattle.tz_expand.specs.Zone.{expansion_of}
use Rattle.tz_lookup.specs.Finding.{IsInfoFound, IsLocalFound, IsSysFound, IsFoundByLeaps}
use Rattle.tz_lookup.specs.declared.choice.Choice.{Choice}
use Rattle.tz_lookup.specs.declared.choice.Choice.TheVariants as choices
use Rattle.tz_lookup.specs.declared.conversion.Conversion.{Conversion}
use Rattle.tz_lookup.specs.declared.found.Found.{Found}
use Rattle.tz_lookup.specs.declared.found.Found.TheVariants as found
use Rattle.tz_lookup.proofs.FoundOnce.{local_once, sys_once, by_leaps_once}
use Rattle.tz_cli.specs.NamedZone.{IsNamedZone, RefusesZone}
use Rattle.tz_cli.specs.FoundLine.{found_status, found_line, IsFoundLine}
use Rattle.tz_cli.specs.SourceAnswer.{SourceAnswers}
use Rattle.tz_cli.specs.Lookup.{HasZone, IsFoundInZone, IsFoundByChoice, ClockAnswers}
use Rattle.tz_cli.specs.Outcome.{Exactly}
use Rattle.tz_cli.specs.Output.{GivesOutput, output_text, output_status}
use Rattle.tz_cli.specs.Refusal.{refusal_status, refusal_line}
use Rattle.tz_cli.specs.declared.output.Output.{Output}
use Rattle.tz_cli.specs.declared.refusal.Refusal.{Refusal}
use Rattle.tz_cli.specs.declared.refusal.Refusal.TheVariants as refusals
use Rattle.tz_words.specs.declared.status.Status.{Status}
use Rattle.tz_words.specs.declared.status.Status.TheVariants as statuses
use Rattle.tz_cli.proofs.SourceAnswer.{answers_once}

-- what holds of the ranges of the zone named, holds of those of the source
zone_has : (source : Source) (name : List ℕ) (holds : List SysInfo → Type 0) (zone : CompiledZone) → IsNamedZone source name zone
    → holds (expansion_of zone) → HasZone source name holds
zone_has source name holds zone named is =
    record {
      db = named.db;
      reads = named.reads;
      place = named.place;
      named = named.named;
      zone = named.zone;
      there = named.there;
      is = subst (λ (periods : List Period). holds (full_expansion periods)) named.is.lines is;
    }

-- what is found is in range, or is that it isn't; and never that there is no zone
abbrev KeepsRange : Type 0 → Found → Type 0
KeepsRange inside found.NoZone = ⊥
KeepsRange inside found.Range = inside → ⊥
KeepsRange inside _ = inside

pub info_within : (t : ℤ) (ranges : List SysInfo) (f : Found) → IsInfoFound ranges t f → KeepsRange (IsInstant t) f
info_within t ranges (found.Info range) is = is.0
info_within t ranges found.Range is = is
info_within t ranges f is = absurd is

local_within : (l : ℤ) (ranges : List SysInfo) (f : Found) → IsLocalFound ranges l f → KeepsRange (IsLocalTime l) f
local_within l ranges (found.Local info) is = is.0
local_within l ranges found.Range is = is
local_within l ranges f is = absurd is

sys_within : (l : ℤ) (choose : Option Choose) (ranges : List SysInfo) (f : Found) → IsSysFound ranges l choose f → KeepsRange (IsLocalTime l) f
sys_within l choose ranges (found.Sys t) is = is.0
sys_within l choose ranges (found.Undecided info) is = is.1
sys_within l choose ranges found.Range is = is
sys_within l choose ranges f is = absurd is

pub choice_within : (choice : Choice) (l : ℤ) (ranges : List SysInfo) (f : Found) → IsFoundByChoice choice l ranges f → KeepsRange (IsLocalTime l) f
choice_within choices.None l ranges f is = local_within l ranges f is
choice_within choices.Strict l ranges f is = sys_within l None ranges f is
choice_within choices.Earliest l ranges f is = sys_within l (Some Earliest) ranges f is
choice_within choices.Latest l ranges f is = sys_within l (Some Latest) ranges f is

-- ---- what is told ----

module _ (source : Source) (name : List ℕ) (inside : Type 0) (finds : List SysInfo → Found → Type 0) (zone : CompiledZone) (named : IsNamedZone source name zone) where
  abbrev Told : Status → List ℕ → Type 0
  Told = SourceAnswers source (Some name) inside (IsFoundInZone source name finds)

  -- what is found in range is told with the status 0, or that of an undecided time
  told_well : (f : Found) (line : List ℕ) → inside → finds (expansion_of zone) f → found_status f ≡ statuses.Ok → line ≡ found_line f → Told statuses.Ok line
  told_well f line within is status told =
      (within, zone_has source name (λ ranges. IsFoundLine (finds ranges) statuses.Ok line) zone named (f, is, sym status, told))

  told_undecided : (f : Found) (line : List ℕ) → inside → finds (expansion_of zone) f → found_status f ≡ statuses.Local → line ≡ found_line f → Told statuses.Local line
  told_undecided f line within is status told =
      (within, zone_has source name (λ ranges. IsFoundLine (finds ranges) statuses.Local line) zone named (f, is, sym status, told))

  at_status : (r s : Status) (line : List ℕ) → s ≡ r → Told r line → Told s line
  at_status r s line same told = subst (λ (status : Status). Told status line) (sym same) told

  -- the line of what is found, at its status, is an answer
  line_gives : (f : Found) (status : Status) (line : List ℕ) → KeepsRange inside f → finds (expansion_of zone) f → status ≡ found_status f → line ≡ found_line f → Told status line
  line_gives (found.Info range) status line within is at told = at_status statuses.Ok status line at (told_well (found.Info range) line within is refl told)
  line_gives (found.Local info) status line within is at told = at_status statuses.Ok status line at (told_well (found.Local info) line within is refl told)
  line_gives (found.Sys t) status line within is at told = at_status statuses.Ok status line at (told_well (found.Sys t) line within is refl told)
  line_gives (found.Undecided info) status line within is at told = at_status statuses.Local status line at (told_undecided (found.Undecided info) line within is refl told)
  line_gives (found.Scan scan) status line within is at told = at_status statuses.Ok status line at (told_well (found.Scan scan) line within is refl told)
  line_gives (found.Clock count) status line within is at told = at_status statuses.Ok status line at (told_well (found.Clock count) line within is refl told)
  line_gives (found.Leap info) status line within is at told = at_status statuses.Ok status line at (told_well (found.Leap info) line within is refl told)
  line_gives found.NoZone status line within is at told = absurd within
  line_gives found.Range status line within is at told =
      at_status statuses.Range status line at (record { db = named.db; reads = named.reads; there = rw named.named refl; outside = within }, told)

  -- what a command comes to that finds this in the zone named is an answer
  pub zone_lookup_gives : (f : Found) (result : Result Output Refusal) → KeepsRange inside f → finds (expansion_of zone) f → GivesOutput (Exactly (found_status f) (found_line f)) result → GivesOutput Told result
  zone_lookup_gives f (Ok output) within is told = line_gives f (output_status output) (output_text output) within is told.0 told.1
  zone_lookup_gives f (Err refusals.Memory) within is told = tt
  zone_lookup_gives f (Err refusal) within is told = line_gives f (refusal_status refusal) (refusal_line refusal) within is told.0 told.1

-- where there is no zone to look into, the refusal is an answer
pub refused_zone : (source : Source) (name : List ℕ) (inside : Type 0) (answers : Status → List ℕ → Type 0) (refusal : Refusal)
    → RefusesZone source name refusal → GivesOutput (SourceAnswers source (Some name) inside answers) (Err refusal)
refused_zone source name inside answers refusals.Memory why = tt
refused_zone source name inside answers (refusals.Text fault) why = (fault, why, refl)
refused_zone source name inside answers refusals.NoZone why = (why, refl)
refused_zone source name inside answers refusal why = absurd why

-- nothing that is found has the status of a refused text
never_text : (f : Found) → statuses.Text ≡ found_status f → ⊥
never_text (found.Info range) same = cc
never_text (found.Local info) same = cc
never_text (found.Sys t) same = cc
never_text (found.Undecided info) same = cc
never_text (found.Scan scan) same = cc
never_text (found.Clock count) same = cc
never_text (found.Leap info) same = cc
never_text found.NoZone same = cc
never_text found.Range same = cc

-- nor that of words of no command
pub never_usage : (f : Found) → statuses.Usage ≡ found_status f → ⊥
never_usage (found.Info range) same = cc
never_usage (found.Local info) same = cc
never_usage (found.Sys t) same = cc
never_usage (found.Undecided info) same = cc
never_usage (found.Scan scan) same = cc
never_usage (found.Clock count) same = cc
never_usage (found.Leap info) same = cc
never_usage found.NoZone same = cc
never_usage found.Range same = cc

-- what is found over a leap text, told at its status, is an answer
clock_line_gives : (text : List ℕ) (conversion : Conversion) (x : ℤ) (f : Found) (status : Status) (line : List ℕ) → IsFoundByLeaps text conversion x f
    → status ≡ found_status f → line ≡ found_line f → ClockAnswers text conversion x status line
clock_line_gives text conversion x f statuses.Text line is at told = absurd (never_text f at)
clock_line_gives text conversion x f status line is at told = (f, is, at, told)

pub clock_gives : (text : List ℕ) (conversion : Conversion) (x : ℤ) (f : Found) (result : Result Output Refusal) → IsFoundByLeaps text conversion x f
    → GivesOutput (Exactly (found_status f) (found_line f)) result → GivesOutput (ClockAnswers text conversion x) result
clock_gives text conversion x f (Ok output) is told = clock_line_gives text conversion x f (output_status output) (output_text output) is told.0 told.1
clock_gives text conversion x f (Err refusals.Memory) is told = tt
clock_gives text conversion x f (Err refusal) is told = clock_line_gives text conversion x f (refusal_status refusal) (refusal_line refusal) is told.0 told.1

-- ---- one status ----

-- what is found has the status with which it is told
same_status : (r s : Status) (f g : Found) → f ≡ g → r ≡ found_status f → s ≡ found_status g → r ≡ s
same_status r s f g same a b = a ∙ ap found_status same ∙ sym b

-- a name stands for one zone of a source
one_expansion : (source : Source) (name : List ℕ) (p q : List SysInfo → Type 0) (a : HasZone source name p) (b : HasZone source name q)
    → full_expansion (periods_of a.db a.zone) ≡ full_expansion (periods_of b.db b.zone)
one_expansion source name p q a b =
    let dbs = one_database source a.db b.db a.reads b.reads in
    let places : Some a.place ≡ Some b.place = sym a.named ∙ ap (λ (db : Db). located db name) dbs ∙ b.named in
    let place = same_Some a.place b.place places in
    let zones : Some a.zone ≡ Some b.zone = sym a.there ∙ (λ i. slice_get (dbs i).zones (place i)) ∙ b.there in
    let zone = same_Some a.zone b.zone zones in
    λ i. full_expansion (periods_of (dbs i) (zone i))

-- by its choice a lookup of a local time finds one thing
pub by_choice_once : (choice : Choice) (l : ℤ) (ranges : List SysInfo) (f g : Found) → IsFoundByChoice choice l ranges f
    → IsFoundByChoice choice l ranges g → f ≡ g
by_choice_once choices.None l ranges f g here there = local_once l ranges f g here there
by_choice_once choices.Strict l ranges f g here there = sys_once l None ranges f g here there
by_choice_once choices.Earliest l ranges f g here there = sys_once l (Some Earliest) ranges f g here there
by_choice_once choices.Latest l ranges f g here there = sys_once l (Some Latest) ranges f g here there

-- a lookup by a name has one status, where one thing is found in the ranges of each zone
pub lookup_once : (source : Source) (name : List ℕ) (inside : Type 0) (finds : List SysInfo → Found → Type 0) (r s : Status) (line other : List ℕ)
    → ((ranges : List SysInfo) (f g : Found) → finds ranges f → finds ranges g → f ≡ g)
    → SourceAnswers source (Some name) inside (IsFoundInZone source name finds) r line
    → SourceAnswers source (Some name) inside (IsFoundInZone source name finds) s other → r ≡ s
lookup_once source name inside finds r s line other one a b =
    answers_once source (Some name) inside (IsFoundInZone source name finds) r s line other
    (λ (status : Status) (line : List ℕ) is. (is.db, is.reads, rw is.named refl)) same a b
  where
    same : IsFoundInZone source name finds r line → IsFoundInZone source name finds s other → r ≡ s
    same here there =
        let ranges = one_expansion source name (λ ranges. IsFoundLine (finds ranges) r line) (λ ranges. IsFoundLine (finds ranges) s other) here there in
        let moved = subst (λ (it : List SysInfo). IsFoundLine (finds it) r line) ranges here.is in
        same_status r s moved.0 there.is.0 (one (full_expansion (periods_of there.db there.zone)) moved.0 there.is.0 moved.1 there.is.1) moved.2 there.is.2

-- a conversion over a leap text has one status
pub clock_once : (text : List ℕ) (conversion : Conversion) (x : ℤ) (r s : Status) (line other : List ℕ) → ClockAnswers text conversion x r line
    → ClockAnswers text conversion x s other → r ≡ s
clock_once text conversion x statuses.Text statuses.Text line other a b = refl
clock_once text conversion x statuses.Text s line other a b = absurd (read_leaps_are_not_refused text b.1.0 a.0 b.1.1 a.1)
clock_once text conversion x r statuses.Text line other a b = absurd (read_leaps_are_not_refused text a.1.0 b.0 a.1.1 b.1)
clock_once text conversion x r s line other a b = same_status r s a.0 b.0 (by_leaps_once text conversion x a.0 b.0 a.1 b.1) a.2 b.2

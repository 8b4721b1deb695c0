-- What a lookup finds in a version that a lane has pinned.
use Rattle.std.specs.Prelude.{◌≡◌, ℕ, Bool, true, false}
use Rattle.pin_table.specs.Handles.{Handle}
use Rattle.tz_script.specs.declared.operation.Op.{Op}
use Rattle.tz_script.specs.declared.operation.Op.TheVariants as ops
use Rattle.tz_script.specs.declared.operation.Pick.{Pick}
use Rattle.tz_script.specs.declared.operation.Pick.TheVariants.{Front}
use Rattle.tz_lookup.specs.declared.found.Found.{Found}
use Rattle.tz_version.specs.declared.sources.Sources.{Sources}
use Rattle.tz_version.specs.Release.{Release}
use Rattle.tz_batch.specs.Answering.{IsToldAs}
use Rattle.tz_batch.specs.Finding.{FindsInfo, FindsLocal, FindsSys, FindsScan, FindsInZone, FindsByClock}
use Rattle.tz_batch.specs.Round.{Round, newest_at}
use Rattle.tz_batch.specs.declared.answer.Answer.{Answer}
use Rattle.tz_batch.specs.declared.answer.Answer.TheVariants as answers

-- the operation looks something up in a version
abbrev pub is_lookup : Op → Bool
is_lookup (ops.Info v zone t) = true
is_lookup (ops.Local v zone l) = true
is_lookup (ops.Sys v zone l choose) = true
is_lookup (ops.Scan v zone from step count) = true
is_lookup (ops.Clock v conv x) = true
is_lookup _ = false

-- the version that a lookup picks
abbrev pub pick_asked : Op → Pick
pick_asked (ops.Info v zone t) = v
pick_asked (ops.Local v zone l) = v
pick_asked (ops.Sys v zone l choose) = v
pick_asked (ops.Scan v zone from step count) = v
pick_asked (ops.Clock v conv x) = v
pick_asked _ = Front

-- what a lookup finds in the version of the source at a place; no other operation asks for anything there
abbrev pub FindsFor : Op → Sources → ℕ → Found → Type 0
FindsFor (ops.Info v zone t) sources src found = FindsInZone sources src zone (λ compiled. FindsInfo compiled t) found
FindsFor (ops.Local v zone l) sources src found = FindsInZone sources src zone (λ compiled. FindsLocal compiled l) found
FindsFor (ops.Sys v zone l choose) sources src found = FindsInZone sources src zone (λ compiled. FindsSys compiled l choose) found
FindsFor (ops.Scan v zone from step count) sources src found = FindsInZone sources src zone (λ compiled. FindsScan compiled from step count) found
FindsFor (ops.Clock v conv x) sources src found = FindsByClock sources conv x found
FindsFor _ sources src found = Unit {0}

-- the answer to a lookup in a handle's version
abbrev pub IsOnHandle : Op → Handle Release → Answer → Type 0
IsOnHandle op handle (answers.On n slot found) =
    (n ≡ handle.number) × (slot ≡ handle.slot) × FindsFor op handle.version.sources handle.version.src found
IsOnHandle op handle _ = ⊥

-- the answer to a lookup in the version that was at the front at a position
abbrev pub AnswersOnFrontAt : Round → Op → ℕ → Answer → Type 0
AnswersOnFrontAt round op position (answers.On n slot found) =
    IsToldAs (newest_at round position) n slot × FindsFor op round.sources (newest_at round position).src found
AnswersOnFrontAt round op position _ = ⊥

-- What a reload answers, and what its reader then knows.
use Rattle.std.specs.Prelude.{◌≡◌, ℕ, length, take, Result, Ok, Err}
use Rattle.pin_core.specs.declared.view.View.{View}
use Rattle.pin_table.specs.declared.answers.Pushed.{Pushed}
use Rattle.pin_table.specs.declared.answers.PushWhy.{PushWhy}
use Rattle.pin_table.specs.declared.answers.PushWhy.TheVariants as push
use Rattle.pin_table.specs.declared.sitting.Plan.{Plan}
use Rattle.pin_table.specs.Turns.{Pushes, AfterWait}
use Rattle.tz_version.specs.declared.sources.Sources.{Sources}
use Rattle.tz_version.specs.Release.{Release, IsVersionOf, version_name}
use Rattle.tz_version.specs.Refusal.{RefusesSource}
use Rattle.tz_list.specs.declared.error.ReloadError.{ReloadError}
use Rattle.tz_list.specs.declared.error.ReloadError.TheVariants as reload

-- the sources that a version comes from: its home in a table
abbrev pub release_home : Release → Sources
release_home version = version.sources

-- the place of its own among them
abbrev pub release_source : Release → ℕ
release_source version = version.src

-- The version of the source was made, and then came a push of it, once no other reader had the turn. This is what the push
-- answered.
pub record PushesSource (plan : Plan Release) (sources : Sources) (src by : ℕ) (v v' : View) (answer : Result Pushed PushWhy) : Type 0 where
  pub version : Release
  pub is : IsVersionOf sources src version
  pub pushes : AfterWait v (λ turn. Pushes release_home release_source version_name plan by turn v' version answer)

-- The reload of the source at a place by the reader of a number. Where its version isn't made the reader has met nothing,
-- and no turn was taken.
abbrev pub Reloads : Plan Release → Sources → ℕ → ℕ → View → View → Result Pushed ReloadError → Type 0
Reloads plan sources src by v v' (Ok pushed) = PushesSource plan sources src by v v' (Ok pushed)
Reloads plan sources src by v v' (Err reload.NoMemory) = v' ≡ v
Reloads plan sources src by v v' (Err (reload.Text fault)) = RefusesSource sources src fault × (v' ≡ v)
Reloads plan sources src by v v' (Err (reload.Same w n)) = PushesSource plan sources src by v v' (Err (push.Same w n))
Reloads plan sources src by v v' (Err (reload.JournalFull w)) = PushesSource plan sources src by v v' (Err (push.JournalFull w))
Reloads plan sources src by v v' (Err (reload.Full w)) = PushesSource plan sources src by v v' (Err (push.Full w))

-- why the version of a source isn't made; a reload that makes none has no other error
abbrev pub LacksVersion : Sources → ℕ → ReloadError → Type 0
LacksVersion sources src reload.NoMemory = Unit {0}
LacksVersion sources src (reload.Text fault) = RefusesSource sources src fault
LacksVersion sources src (reload.Same w n) = ⊥
LacksVersion sources src (reload.JournalFull w) = ⊥
LacksVersion sources src (reload.Full w) = ⊥

-- What stays of a reader over a reload: its pins, its number, its floor, and all that it had seen.
pub record ReloadKeeps (v v' : View) : Type 0 where
  pub entries : v'.entries ≡ v.entries
  pub role : v'.role ≡ v.role
  pub numbers : v'.numbers ≡ v.numbers
  pub floor : v'.floor ≡ v.floor
  pub grows : take (length v.seen) v'.seen ≡ v.seen

-- What contracts see of a sink, and what writes leave of it.
use Rattle.std.specs.Prelude.{◌≡◌, ℕ, ◌<◌, ◌≤◌, ◌⊎◌, List, ◌++◌, Option, length, take}
use Rattle.std.specs.Option.{option_map}
use Rattle.tz_io.specs.Counts.{Rose}
use Rattle.tz_io.specs.declared.sink.PutError.{PutError}
use Rattle.tz_io.specs.declared.sink.PutError.TheVariants as errors

-- All bytes that a sink has taken, where it tells them; how often a write has failed, and how often one took nothing of a
-- piece that was not empty.
pub record SinkState : Type 0 where
  pub bytes : Option (List ℕ)
  pub faults : ℕ
  pub stalls : ℕ

-- the state once these bytes are taken too, with nothing counted
abbrev pub with_bytes : SinkState → List ℕ → SinkState
with_bytes sink more = record sink { bytes = option_map (λ bytes. bytes ++ more) sink.bytes }

-- A write took nothing of a piece that was not empty.
abbrev pub IsStall : ℕ → List ℕ → Type 0
IsStall count piece = (count ≡ 0) × (0 < length piece)

-- That error was counted, and nothing else changed.
abbrev pub Counts : PutError → SinkState → SinkState → Type 0
Counts errors.Failed before after =
    (after ≡ record before { faults = after.faults }) × (before.faults ≤ after.faults) × Rose before.faults after.faults
Counts errors.Stalled before after =
    (after ≡ record before { stalls = after.stalls }) × (before.stalls ≤ after.stalls) × Rose before.stalls after.stalls

-- A first part of the text was taken that is shorter than the text, and then that error was counted.
abbrev pub StopsBy : PutError → SinkState → SinkState → List ℕ → Type 0
StopsBy error before after text =
    (count : ℕ) × (count < length text) × Counts error (with_bytes before (take count text)) after

-- the same of either error
abbrev pub Stops : SinkState → SinkState → List ℕ → Type 0
Stops before after text = (error : PutError) × StopsBy error before after text

-- A fault or a stall was counted.
abbrev pub SinkFailed : SinkState → SinkState → Type 0
SinkFailed before after = Rose before.faults after.faults ⊎ Rose before.stalls after.stalls

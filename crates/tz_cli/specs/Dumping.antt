-- How the text of a dump comes out, piece by piece.
use Rattle.std.specs.Prelude.{◌≡◌, ℕ, List, ◌++◌, ℤ, take}
use Rattle.std.specs.List.{flat_map}
use Rattle.tz_expand.specs.declared.compiled_zone.CompiledZone.{CompiledZone}
use Rattle.tz_expand.specs.Stretch.{ranges_between}
use Rattle.tz_io.specs.Sink.{SinkState, with_bytes, Stops}
use Rattle.tz_cli.specs.Dump.{zone_lines}
use Rattle.tz_cli.specs.declared.dump.Stop.{Stop}
use Rattle.tz_cli.specs.declared.dump.Stop.TheVariants as stops

-- a compiled zone with its ranges that meet the stretch
abbrev pub compiled_text : ℤ → ℤ → CompiledZone → List ℕ
compiled_text from to zone = zone_lines zone.name (ranges_between zone from to)

-- compiled zones one after another
abbrev pub compiled_texts : ℤ → ℤ → List CompiledZone → List ℕ
compiled_texts from to zones = flat_map (compiled_text from to) zones

-- Why a text stopped: memory ran out, when a first part was taken and nothing was counted; or a write failed or stalled.
abbrev pub IsStopped : Stop → SinkState → SinkState → List ℕ → Type 0
IsStopped stops.Memory before after text = (count : ℕ) × (after ≡ with_bytes before (take count text))
IsStopped stops.Write before after text = Stops before after text

-- A text was put behind what waited to be written: what was written since and what waits now are together what waited
-- before, and the text. Nothing was counted.
pub record IsPut (before after : SinkState) (waited waits text : List ℕ) : Type 0 where
  pub written : List ℕ
  pub state : after ≡ with_bytes before written
  pub whole : written ++ waits ≡ waited ++ text

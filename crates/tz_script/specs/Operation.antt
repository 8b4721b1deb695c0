-- What an operation asks of the holds, of the texts and of the list.
use Rattle.std.specs.Prelude.{ℕ, Bool, true, false, List, Option, Some, None}
use Rattle.tz_script.specs.declared.operation.Pick.{Pick}
use Rattle.tz_script.specs.declared.operation.Pick.TheVariants.{Front, Held}
use Rattle.tz_script.specs.declared.operation.Op.{Op}
use Rattle.tz_script.specs.declared.operation.Op.TheVariants as ops

-- the hold that is picked
abbrev pub hold_picked : Pick → Option (List ℕ)
hold_picked Front = None
hold_picked (Held name) = Some name

-- the hold that begins
abbrev pub hold_begun : Op → Option (List ℕ)
hold_begun (ops.Hold name) = Some name
hold_begun _ = None

-- the hold that has to be open
abbrev pub hold_needed : Op → Option (List ℕ)
hold_needed ops.Look = None
hold_needed (ops.Hold name) = None
hold_needed (ops.Drop name) = Some name
hold_needed (ops.Info v zone t) = hold_picked v
hold_needed (ops.Local v zone l) = hold_picked v
hold_needed (ops.Sys v zone l choose) = hold_picked v
hold_needed (ops.Scan v zone from step count) = hold_picked v
hold_needed (ops.Clock v conv x) = hold_picked v
hold_needed (ops.Reload src) = None
hold_needed (ops.Erase v) = hold_picked v
hold_needed ops.List = None

-- the text that is asked for
abbrev pub source_asked : Op → Option ℕ
source_asked (ops.Reload src) = Some src
source_asked _ = None

-- a reload or an erasure
abbrev pub is_change : Op → Bool
is_change (ops.Reload src) = true
is_change (ops.Erase v) = true
is_change _ = false

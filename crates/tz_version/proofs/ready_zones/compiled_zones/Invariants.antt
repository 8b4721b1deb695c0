use Rattle.std.proofs.Common.{take}
use Rattle.std.specs.List.{AllZip}
use Rattle.tz_expand.specs.Zone.{IsCompiled}
use Rattle.tz_version.proofs.ready_zones.compiled_zones.Given as goal

abbrev pub invariant-loop-place : goal.invariant-loop-place
invariant-loop-place l = AllZip (IsCompiled l.db) (take l.place l.db.zones) l.compiled

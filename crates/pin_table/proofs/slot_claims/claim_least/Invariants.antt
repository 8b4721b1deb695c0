use Rattle.std.proofs.Common.{◌≡◌}
use Rattle.pin_table.specs.Carried.{slots_of}
use Rattle.pin_table.specs.Claims.{PassesBelow}
use Rattle.pin_table.specs.Table.{IsAt, plan}
use Rattle.pin_table.proofs.slot_claims.claim_least.Given as goal

abbrev pub invariant-loop-slot : goal.invariant-loop-slot
invariant-loop-slot g l = record { own : IsAt l.table l.seat; listed : l.carried ≡ slots_of l.seat.me.1; passed : PassesBelow (plan l.table) l.slot l.initial.seat.me l.seat.me }

use Rattle.std.proofs.Common.{◌≡◌, drop}
use Rattle.pin_table.proofs.slot_claims.give_run.Given as goal

abbrev pub invariant-loop : goal.invariant-loop
invariant-loop l = l.carried ≡ drop l.counter l.initial.carried

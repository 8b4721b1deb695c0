use Rattle.std.proofs.Common.{◌≡◌, ◌++◌, drop}
use Rattle.tz_types.specs.Amount.{IsShift}
use Rattle.tz_specs.specs.State.{instants, instants_from}
use Rattle.rule_rows.proofs.state.instants.Given as goal

abbrev pub invariant-loop-occurrence : goal.invariant-loop-occurrence
invariant-loop-occurrence l =
    record {
      told : l.instants.items ++ instants_from l.stdoff l.save (drop l.occurrence-index l.list) ≡ instants l.stdoff l.list;
      save_in : IsShift l.save;
    }

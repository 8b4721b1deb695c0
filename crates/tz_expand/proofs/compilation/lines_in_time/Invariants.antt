use Rattle.std.proofs.Common.{◌≡◌, ◌++◌, drop, IsTrue}
use Rattle.tz_specs.specs.Expansion.{first_instant, periods_from}
use Rattle.tz_expand.specs.Compiled.{periods}
use Rattle.tz_expand.specs.Zone.{are_known}
use Rattle.tz_expand.proofs.compilation.lines_in_time.Given as goal

-- the periods so far, and those of the lines that are left
abbrev pub invariant-loop-line : goal.invariant-loop-line
invariant-loop-line l =
    record {
      told : periods l.compiled ++ periods_from l.sets l.start (drop l.line-index l.lines) ≡ periods_from l.sets first_instant l.lines;
      rest : IsTrue (are_known l.sets (drop l.line-index l.lines));
    }

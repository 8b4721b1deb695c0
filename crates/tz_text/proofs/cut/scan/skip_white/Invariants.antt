use Rattle.std.proofs.Common.{length, ◌-◌, ◌≡◌, [], ◌≤◌, drop}
use Rattle.tz_specs.specs.Field.{fields_from, Between}
use Rattle.tz_text.proofs.cut.scan.skip_white.Given as goal

abbrev pub invariant-loop-index : goal.invariant-loop-index
invariant-loop-index l = record {
  onwards : l.from ≤ l.index;
  within : l.index ≤ length l.line;
  same : fields_from Between [] (drop l.from l.line) ≡ fields_from Between [] (drop l.index l.line);
}

abbrev pub decreases-loop-index : goal.decreases-loop-index
decreases-loop-index l = length l.line - l.index

use Rattle.std.proofs.Common.{◌≡◌, ◌++◌, ◌+◌, drop}
use Rattle.tz_batch.specs.OutcomeText.{write_lines}
use Rattle.tz_batch.proofs.write_line.put_writes.Given as goal

abbrev pub invariant-loop-write : goal.invariant-loop-write
invariant-loop-write l = record {
  counted : l.w ≡ l.write-index;
  written : l.out.items ++ write_lines (l.w + 1) (drop l.write-index l.writes) ≡ l.initial.out.items ++ write_lines 1 l.writes;
}

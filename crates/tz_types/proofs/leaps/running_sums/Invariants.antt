use Rattle.std.proofs.Common.{◌≡◌, ◌++◌, drop, pos, ◌≤ℤ◌, neg_ℤ}
use Rattle.tz_types.specs.Leap.{running_sums}
use Rattle.tz_types.proofs.leaps.running_sums.Given as goal

-- the sums so far, with those from the sum of all entries so far on
abbrev pub invariant-loop-entry : goal.invariant-loop-entry
invariant-loop-entry l =
    record {
      same : running_sums (pos 0) l.entries ≡ l.sums.items ++ running_sums l.sum (drop l.entry-index l.entries);
      low : neg_ℤ (pos l.entry-index) ≤ℤ l.sum;
      high : l.sum ≤ℤ pos l.entry-index;
    }

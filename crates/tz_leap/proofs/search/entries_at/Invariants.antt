use Rattle.std.proofs.Common.{◌≡◌, ℕ, ◌-◌, ◌≤◌, ◌<◌, true, false, length}
use Rattle.tz_specs.specs.LeapSecond.{counts_at}
use Rattle.tz_specs.proofs.LeapLemmas.{entry_at}
use Rattle.tz_leap.proofs.search.entries_at.Given as goal

-- the entries before `low` count, and those from `high` on don't
abbrev pub invariant-loop-low : goal.invariant-loop-low
invariant-loop-low l =
    record {
      order : l.low ≤ l.high;
      within : l.high ≤ length l.leaps.entries;
      upto : (k : ℕ) → k < l.low → counts_at l.leaps.entries l.u (entry_at l.leaps.entries k) ≡ true;
      after : (k : ℕ) → l.high ≤ k → k < length l.leaps.entries → counts_at l.leaps.entries l.u (entry_at l.leaps.entries k) ≡ false;
    }

abbrev pub decreases-loop-low : goal.decreases-loop-low
decreases-loop-low l = l.high - l.low

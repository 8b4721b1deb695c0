use Rattle.std.proofs.Common.{length, ◌-◌, ◌≡◌, ◌≤◌, drop, take}
use Rattle.std.specs.List.{slice_range}
use Rattle.tz_specs.specs.Field.{fields_from, Inside}
use Rattle.tz_text.proofs.cut.join.Given as goal

abbrev pub invariant-loop-after : goal.invariant-loop-after
invariant-loop-after l = record {
  onwards : l.fn.first.after ≤ l.after;
  within : l.after ≤ length l.line;
  room : length l.joined.bytes.items ≤ l.after;
  longer : l.start ≤ length l.joined.bytes.items;
  earlier : take l.start l.joined.bytes.items ≡ l.fn.joined.bytes.items;
  goes_on :
      fields_from Inside (slice_range l.line l.fn.first.start l.fn.first.end) (drop l.fn.first.after l.line)
      ≡ fields_from Inside (drop l.start l.joined.bytes.items) (drop l.after l.line);
}

abbrev pub decreases-loop-after : goal.decreases-loop-after
decreases-loop-after l = length l.line - l.after

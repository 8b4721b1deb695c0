use Rattle.std.proofs.Common.{length, ◌-◌, ◌≡◌, [], ◌<◌, ◌≤◌, drop, get_or, false}
use Rattle.std.specs.List.{All}
use Rattle.std.specs.Option.{option_map}
use Rattle.tz_specs.specs.Field.{fields_from, fields_of, is_white, Between}
use Rattle.tz_text.specs.Kept.{with_later, kept_of}
use Rattle.tz_text.specs.Spans.{LiesIn, kept_in}
use Rattle.tz_text.proofs.cut.spans_of.Given as goal

abbrev pub invariant-loop-index : goal.invariant-loop-index
invariant-loop-index l = record {
  within : l.index ≤ length l.line;
  fewer : l.spans.count ≤ l.index;
  room : length l.joined.bytes.items ≤ l.index;
  no_white : l.index < length l.line → is_white (get_or l.line l.index 0) ≡ false;
  ten : length l.spans.first ≡ 10;
  lie : All (LiesIn l.line l.joined.bytes.items) l.spans.first;
  goes_on :
      option_map (with_later (kept_in l.line l.joined.bytes.items l.spans)) (fields_from Between [] (drop l.index l.line))
      ≡ option_map kept_of (fields_of l.line);
}

abbrev pub decreases-loop-index : goal.decreases-loop-index
decreases-loop-index l = length l.line - l.index

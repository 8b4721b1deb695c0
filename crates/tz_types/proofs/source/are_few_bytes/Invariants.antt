use Rattle.std.proofs.Common.{◌≡◌, ◌+◌, length, take}
use Rattle.std.specs.List.{sum_by}
use Rattle.tz_types.specs.declared.limit.TheConstants.{MOST_BYTES}
use Rattle.tz_types.proofs.source.are_few_bytes.Given as goal

abbrev pub invariant-loop-text : goal.invariant-loop-text
invariant-loop-text l = l.left + sum_by length (take l.text-index l.texts) ≡ MOST_BYTES

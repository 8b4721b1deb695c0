use Rattle.std.proofs.Common.{◌≡◌, ◌+◌, ◌≤◌, length, map, None}
use Rattle.tz_specs.specs.Word.{places_from}
use Rattle.tz_text.specs.Places.{only_with}
use Rattle.tz_text.proofs.table.named_among.Given as goal

abbrev pub invariant-loop-rest : goal.invariant-loop-rest
invariant-loop-rest l = record {
  found : only_with l.found (places_from l.place l.word (map (λ entry. entry.now) l.rest)) ≡ only_with None (places_from 0 l.word (map (λ entry. entry.now) l.entries));
  room : l.place + length l.rest ≤ length l.entries;
}

abbrev pub decreases-loop-rest : goal.decreases-loop-rest
decreases-loop-rest l = length l.rest

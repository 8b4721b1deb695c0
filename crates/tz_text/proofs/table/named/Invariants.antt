use Rattle.std.proofs.Common.{◌≡◌, ◌+◌, ◌≤◌, length, None}
use Rattle.tz_specs.specs.Word.{places_from}
use Rattle.tz_specs.specs.Parts.{parts_at}
use Rattle.tz_text.specs.Places.{only_with}
use Rattle.tz_text.proofs.table.named.Given as goal

abbrev pub invariant-loop-space : goal.invariant-loop-space
invariant-loop-space l = record {
  found : only_with l.found (places_from l.entry l.word (parts_at 0x20 l.rest)) ≡ only_with None (places_from 0 l.word (parts_at 0x20 l.table));
  room : l.entry + length l.rest ≤ length l.table;
}

abbrev pub decreases-loop-space : goal.decreases-loop-space
decreases-loop-space l = length l.rest

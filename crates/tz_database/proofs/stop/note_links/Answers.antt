use Rattle.std.proofs.Common.{arith, ◌∙◌}
use Rattle.std.proofs.lemmas.Map.Text.{hash_map_updates_str}
use Rattle.tz_database.specs.NameMap.{known_of}
use Rattle.tz_types.specs.declared.link.Link.{Link}
use Rattle.tz_database.specs.declared.stop.Stop.TheVariants as stops
use Rattle.tz_database.proofs.FirstStops.{noted_last}
use Rattle.tz_database.proofs.stop.note_links.Goals as goal

pub loop-place-preserved : goal.loop-place-preserved
loop-place-preserved c =
    let steps = c.in-Some.ensures.steps in
    let updates = c.in_ok-insert.ensures.updates in
    record {
      from_first = steps.0 ∙ c.loop-place.invariant.from_first;
      each = λ name.
          noted_last stops.Link name (λ (link : Link). link.name) c.loop-place.place-iterator.iter.iter.rest.now c.next.new.self.iter.iter.rest.now c.in-Some.link.now c.in-Some.place (known_of c.loop-place.known name) (known_of c.insert.new.self name) steps.1.0 (omega (arith, steps.1.1, c.loop-place.invariant.from_first)) (rw c.as_bytes.ensures.bytes at (hash_map_updates_str c.as_bytes.result.now c.loop-place.known c.insert.new.self _ updates name)) ∙ c.loop-place.invariant.each name;
    }

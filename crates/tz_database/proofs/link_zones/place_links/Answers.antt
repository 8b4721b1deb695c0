use Rattle.std.proofs.Common.{◌≡◌, ℕ, length, Some, None, sym, ap, ◌∙◌, arith}
use Rattle.std.proofs.lemmas.List.{length-map}
use Rattle.tz_specs.specs.Written.{written_link}
use Rattle.tz_database.specs.ZonePlace.{place_reached}
use Rattle.tz_database.proofs.LinkZones.{looks_same, placed_more}
use Rattle.tz_database.proofs.link_zones.place_links.Goals as goal

pub loop-place-preserved : goal.loop-place-preserved
loop-place-preserved c =
    let items = c.loop-place.link-items in
    let i = c.loop-place.place in
    let after = c.place_link.new.link in
    let total : length items ≡ length c.args.links = simp length-map at (ap length c.loop-place.invariant.written) in
    record {
      written = looks_same written_link items i c.link-item.result after c.place_link.ensures.written ∙ c.loop-place.invariant.written;
      places = placed_more (place_reached c.args.names.now c.args.zones.now) items c.args.reached.now i after None (omega arith) (omega arith) c.loop-place.invariant.places (ap (λ (zone : ℕ). Some zone) c.place_link.ensures.zone ∙ (sym c.in-Some.is ∙ c.place_reached.ensures));
    }

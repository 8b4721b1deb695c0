use Rattle.std.proofs.Common.{refl}
use Rattle.tz_database.proofs.BuiltDatabases.{sets_had, settled_apart, placed_apart, few_settled, few_placed, all_reached, is_built_of}
use Rattle.tz_database.proofs.settle.settle.Goals as goal

pub settled_zones-requires : goal.settled_zones-requires
settled_zones-requires c =
    sets_had c.args.parts c.args.places.now c.requires.places c.requires.faultless

pub sort_zones-requires : goal.sort_zones-requires
sort_zones-requires c =
    settled_apart c.args.parts c.in_ok-zones.zones.items (c.in_ok-zones.ensures c.args.parts.sets c.args.parts.names c.requires.places) c.requires.faultless c.requires.zones

pub place_links-links-requires-clause-few : goal.place_links-links-requires-clause-few
place_links-links-requires-clause-few c =
    rw c.as_slice-3.ensures.value (few_settled c.args.parts c.in_ok-zones.zones.items c.sort_zones.new.zones.items (c.in_ok-zones.ensures c.args.parts.sets c.args.parts.names c.requires.places) c.sort_zones.ensures.same)

pub place_links-links-requires-clause-there : goal.place_links-links-requires-clause-there
place_links-links-requires-clause-there c =
    rw (c.as_slice-3.ensures.value, c.as_slice-2.ensures.value, c.in_ok-names.ensures, c.as_slice.ensures) (all_reached c.args.parts c.in_ok-zones.zones.items c.sort_zones.new.zones.items c.args.reached.now (c.in_ok-zones.ensures c.args.parts.sets c.args.parts.names c.requires.places) c.sort_zones.ensures.same c.sort_zones.ensures.ascend c.requires.reached c.requires.faultless)

pub sort_links-requires : goal.sort_links-requires
sort_links-requires c =
    placed_apart c.args.parts c.place_links-links.result.items c.place_links-links.ensures.written c.requires.faultless c.requires.links

pub invariant_of-result : goal.invariant_of-result
invariant_of-result c = record {
  sets_ascend = rw c.in_ok-shared_sets.ensures c.args.parts.sets_ascend;
  zones_ascend = rw c.from_vec.ensures c.sort_zones.ensures.ascend;
  links_ascend = rw c.from_vec-2.ensures c.sort_links.ensures.ascend;
  few_sets = rw c.in_ok-shared_sets.ensures c.args.parts.few_sets;
  few_zones = rw c.from_vec.ensures (few_settled c.args.parts c.in_ok-zones.zones.items c.sort_zones.new.zones.items (c.in_ok-zones.ensures c.args.parts.sets c.args.parts.names c.requires.places) c.sort_zones.ensures.same);
  few_links = rw c.from_vec-2.ensures (few_placed c.args.parts c.place_links-links.result.items c.sort_links.new.links.items c.place_links-links.ensures.written c.sort_links.ensures.same);
}

pub returns : goal.returns
returns c =
    is_built_of c.args.parts c.in_ok-zones.zones.items c.place_links-links.result.items c.args.reached.now _ (record {
      version_is = refl;
      sets_are = c.in_ok-shared_sets.ensures;
      settled_are = c.in_ok-zones.ensures c.args.parts.sets c.args.parts.names c.requires.places;
      zones_are = rw c.from_vec.ensures c.sort_zones.ensures.same;
      written = c.place_links-links.ensures.written;
      placed_are = rw c.from_vec.ensures (rw (c.as_slice-3.ensures.value, c.as_slice-2.ensures.value, c.in_ok-names.ensures, c.as_slice.ensures) at c.place_links-links.ensures.places);
      links_are = rw c.from_vec-2.ensures c.sort_links.ensures.same;
      reached_are = c.requires.reached;
    }) c.requires.faultless

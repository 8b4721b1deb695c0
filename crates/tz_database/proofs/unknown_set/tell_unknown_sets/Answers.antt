use Rattle.std.proofs.Common.{◌≡◌, ◌<◌, map, length, get_or, refl, ◌∙◌}
use Rattle.std.specs.List.{filter_map, flat_map}
use Rattle.tz_specs.specs.Written.{written_zone}
use Rattle.tz_specs.specs.Whole.{unknown_rule}
use Rattle.tz_database.proofs.ToldLists.{told_more}
use Rattle.tz_database.proofs.unknown_set.tell_unknown_sets.Goals as goal

pub loop-zone-preserved : goal.loop-zone-preserved
loop-zone-preserved c =
    let parts = c.args.parts.now in
    let within : c.loop-zone.zone-index < length parts.zones = rw c.as_slice-zone-items.ensures at c.loop-zone-test.true in
    let item : c.zone-item.result ≡ get_or parts.zones c.loop-zone.zone-index c.zone-item.result = rw c.as_slice-zone-items.ensures at c.zone-item.is in
    told_more (λ zone. filter_map (unknown_rule parts.sets) (written_zone parts.names zone).lines) (λ zones. flat_map (λ zone. filter_map (unknown_rule parts.sets) zone.lines) (map (written_zone parts.names) zones)) (λ x xs. refl) parts.zones c.loop-zone.zone-index c.zone-item.result c.loop-zone.told.least c.tell_unknown_lines.new.told.least within item (rw c.as_slice.ensures at c.tell_unknown_lines.ensures) ∙ c.loop-zone.invariant

use Rattle.std.proofs.Common.{sym, Ok, Err, rules, of_calls}
use Rattle.std.proofs.lemmas.Fn.{always_returns_same}
use Rattle.tz_types.specs.declared.zone.Zone.{Zone}
use Rattle.tz_database.proofs.NameOrder.{searched, compared}
use Rattle.tz_database.proofs.NamesFound.{found-position, missing-position}
use Rattle.tz_lines.proofs.zone_place.zone_place.Goals as goal

pub returns-in-Ok-clause-place : goal.returns-in-Ok-clause-place
returns-in-Ok-clause-place c =
    let name_of = λ (zone : Zone). zone.name in
    let place = searched name_of c.args.name.now c.args.zones.now (Ok c.in-Ok.place) c.requires c.in-Ok.ensures.bound (c.in-Ok.ensures.position (λ (zone : Zone). compared zone.name c.args.name.now) (always_returns_same _ _ _ (λ a r f k. search (rules, of_calls)))) in
    sym (found-position name_of c.args.name.now c.args.zones.now c.in-Ok.place (sym place))

pub returns-in-Err-clause-place : goal.returns-in-Err-clause-place
returns-in-Err-clause-place c =
    let name_of = λ (zone : Zone). zone.name in
    let place = searched name_of c.args.name.now c.args.zones.now (Err c.in-Err.field-0) c.requires c.in-Err.ensures.bound (c.in-Err.ensures.position (λ (zone : Zone). compared zone.name c.args.name.now) (always_returns_same _ _ _ (λ a r f k. search (rules, of_calls)))) in
    sym (missing-position name_of c.args.name.now c.args.zones.now c.in-Err.field-0 c.requires (sym place))

use Rattle.std.proofs.Common.{sym, Ok, Err, rules, of_calls}
use Rattle.std.proofs.lemmas.Fn.{always_returns_same}
use Rattle.tz_expand.specs.declared.compiled_zone.CompiledZone.{CompiledZone}
use Rattle.tz_database.proofs.NameOrder.{searched, compared}
use Rattle.tz_database.proofs.NamesFound.{found-position, missing-position}
use Rattle.tz_version.proofs.search.zone_place.Goals as goal

pub returns-in-Ok : goal.returns-in-Ok
returns-in-Ok c =
    let name_of = λ (zone : CompiledZone). zone.name in
    let place = searched name_of c.args.name.now c.args.zones.now (Ok c.in-Ok.place) c.requires c.in-Ok.ensures.bound (c.in-Ok.ensures.position (λ (zone : CompiledZone). compared zone.name c.args.name.now) (always_returns_same _ _ _ (λ a r f k. search (rules, of_calls)))) in
    sym (found-position name_of c.args.name.now c.args.zones.now c.in-Ok.place (sym place))

pub returns-in-Err : goal.returns-in-Err
returns-in-Err c =
    let name_of = λ (zone : CompiledZone). zone.name in
    let place = searched name_of c.args.name.now c.args.zones.now (Err c.in-Err.field-0) c.requires c.in-Err.ensures.bound (c.in-Err.ensures.position (λ (zone : CompiledZone). compared zone.name c.args.name.now) (always_returns_same _ _ _ (λ a r f k. search (rules, of_calls)))) in
    sym (missing-position name_of c.args.name.now c.args.zones.now c.in-Err.field-0 c.requires (sym place))

use Rattle.std.proofs.Common.{sym, ap, option_map, Ok, Err, rules, of_calls}
use Rattle.std.proofs.lemmas.Fn.{always_returns_same}
use Rattle.tz_types.specs.declared.link.Link.{Link}
use Rattle.tz_database.proofs.NameOrder.{searched, compared}
use Rattle.tz_database.proofs.NamesFound.{found-find, missing-find}
use Rattle.tz_lines.proofs.zone_place.link_place.Goals as goal

pub returns-in-Ok : goal.returns-in-Ok
returns-in-Ok c =
    let name_of = λ (link : Link). link.name in
    let place = searched name_of c.args.name.now c.args.links.now (Ok c.in-Ok.place) c.requires c.in-Ok.ensures.bound (c.in-Ok.ensures.position (λ (link : Link). compared link.name c.args.name.now) (always_returns_same _ _ _ (λ a r f k. search (rules, of_calls)))) in
    sym (ap (option_map (λ (link : Link). link.zone)) (found-find name_of c.args.name.now c.args.links.now c.in-Ok.place c.index-links-place.result (sym place)))

pub returns-in-Err : goal.returns-in-Err
returns-in-Err c =
    let name_of = λ (link : Link). link.name in
    let place = searched name_of c.args.name.now c.args.links.now (Err c.in-Err.field-0) c.requires c.in-Err.ensures.bound (c.in-Err.ensures.position (λ (link : Link). compared link.name c.args.name.now) (always_returns_same _ _ _ (λ a r f k. search (rules, of_calls)))) in
    sym (ap (option_map (λ (link : Link). link.zone)) (missing-find name_of c.args.name.now c.args.links.now c.in-Err.field-0 c.requires (sym place)))

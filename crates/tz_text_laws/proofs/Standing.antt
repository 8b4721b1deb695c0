-- A link of a database stands for the zone that its target reaches.
use Rattle.std.proofs.Common.{◌≡◌, ℕ, ⊎_elim, List, [], ◌∷◌, map, position, Option, Some, sym, ◌∙◌, subst}
use Rattle.std.specs.List.{slice_get, Contains}
use Rattle.std.proofs.lemmas.Option.{slice_get-map}
use Rattle.tz_types.specs.declared.link.Link.{Link}
use Rattle.tz_types.specs.declared.zone.Zone.{Zone}
use Rattle.tz_types.specs.declared.source.Source.{Source}
use Rattle.tz_types.specs.declared.database.Db.{Db}
use Rattle.tz_specs.specs.Choice.{◌>>=◌}
use Rattle.tz_specs.specs.Value.{is_exactly}
use Rattle.tz_specs.specs.Written.{written_link}
use Rattle.tz_specs.specs.Contents.{Contents}
use Rattle.tz_specs.specs.Whole.{zone_of_link}
use Rattle.tz_specs.specs.Reads.{Reads}
use Rattle.tz_specs.proofs.AscendingLemmas.{first_or_later, never_in_none}
use Rattle.tz_database.proofs.PlacesOfNames.{name_there}
use Rattle.tz_text_laws.specs.LeadsTo.{LeadsTo}
use Rattle.tz_text_laws.proofs.Choices.{bind_some, map_some}
use Rattle.tz_text_laws.proofs.Reaching.{leads_to}

-- the place of the zone to which a link leads
abbrev place_of : Contents → List Zone → Link → Option ℕ
place_of contents zones link =
    zone_of_link contents (written_link link) >>= λ name. position (λ zone. is_exactly zone.name name) zones

own_place : (contents : Contents) (zones : List Zone) (links : List Link) (link : Link) → map (λ (it : Link). Some it.zone) links ≡ map (place_of contents zones) links → Contains links link → Some link.zone ≡ place_of contents zones link
own_place contents zones [] link same is = absurd (never_in_none link is)
own_place contents zones (first ∷ links) link same is =
    let here : Some first.zone ≡ place_of contents zones first = cc in
    let rest : map (λ (it : Link). Some it.zone) links ≡ map (place_of contents zones) links = cc in
    ⊎_elim (λ (eq : first ≡ link). subst (λ (it : Link). Some it.zone ≡ place_of contents zones it) eq here)
    (λ (later : Contains links link). own_place contents zones links link rest later)
    (first_or_later first link links is)

name_of : Zone → List ℕ
name_of zone = zone.name

pub stands_for : (source : Source) (db : Db) (reads : Reads source db) (link : Link) → Contains db.links link → (zone : Zone) × (slice_get db.zones link.zone ≡ Some zone) × LeadsTo reads.contents.zones reads.contents.links link.target zone.name
unfolding name_of
stands_for source db reads link is =
    let contents = reads.contents in
    let place = own_place contents db.zones db.links link reads.places is in
    let found = bind_some (zone_of_link contents (written_link link)) (λ name. position (λ zone. is_exactly zone.name name) db.zones) link.zone (sym place) in
    let there = sym (slice_get-map name_of db.zones link.zone) ∙ name_there name_of db.zones found.0 link.zone found.2 in
    let zone = map_some name_of (slice_get db.zones link.zone) found.0 there in
    (zone.0, zone.1, subst (LeadsTo contents.zones contents.links link.target) (sym zone.2) (leads_to contents (written_link link) found.0 found.1))

use Rattle.std.proofs.Common.{◌≡◌, ◌∷◌, ◌⊎◌, inl, inr, length, map, ◌∙◌}
use Rattle.std.specs.Option.{is_none, option_to_list}
use Rattle.std.specs.List.{filter_map}
use Rattle.tz_types.specs.declared.cause.Cause.TheVariants as causes
use Rattle.tz_specs.specs.Written.{written_link}
use Rattle.tz_specs.specs.Whole.{fault_where, zone_of_link, missing_target}
use Rattle.tz_database.specs.Parts.{contents_given}
use Rattle.tz_database.specs.Reach.{name_at}
use Rattle.tz_database.specs.LeastFault.{told_with}
use Rattle.tz_database.proofs.MissingTargets.{told_link, later_places, told_all}
use Rattle.tz_database.proofs.missing_target.tell_missing_targets.Goals as goal

pub loop-link-preserved : goal.loop-link-preserved
loop-link-preserved c =
    let zones = c.args.parts.now.zones in
    let contents = contents_given c.args.parts.now in
    let link = c.in-Some.link.now in
    let place = c.in-Some.place.now in
    let links = c.next.new.self.a.rest.now in
    let places = c.next.new.self.b.rest.now in
    let steps = c.in-Some.ensures.steps in
    let are : map (name_at zones) (place ∷ places) ≡ map (zone_of_link contents) (map written_link (link ∷ links)) = rw steps.0 at (rw steps.1 at c.loop-link.invariant.reached) in
    let next : c.tell_where.new.self.least ≡ told_with c.loop-link.told.least (option_to_list (fault_where (is_none (name_at zones place)) link.line causes.LinkTarget)) = rw (c.is_missing.ensures, c.as_slice-zones.ensures) at c.tell_where.ensures in
    let before : told_with c.loop-link.told.least (filter_map (missing_target contents) (map written_link (link ∷ links))) ≡ told_with c.args.told.now.least (filter_map (missing_target contents) (map written_link c.args.parts.now.links)) = rw steps.0 at c.loop-link.invariant.told in
    record {
      reached = later_places zones contents link links place places are;
      told = told_link zones contents link links place places c.loop-link.told.least c.tell_where.new.self.least are next ∙ before;
    }

pub returns : goal.returns
returns c =
    let zones = c.args.parts.now.zones in
    let contents = contents_given c.args.parts.now in
    let links = c.loop-link.link-iterator.a.rest.now in
    let places = c.loop-link.link-iterator.b.rest.now in
    let none : (length links ≡ 0) ⊎ (length places ≡ 0) = elim c.in-None.ensures.steps [ inl h ↦ inl h.1.0 | inr h ↦ inr h.1.0 ] in
    told_all zones contents links places c.loop-link.told.least (told_with c.args.told.now.least (filter_map (missing_target contents) (map written_link c.args.parts.now.links))) c.loop-link.invariant.reached none c.loop-link.invariant.told

-- Links that reach no zone, told one after another by the places of the zones that they reach.
use Rattle.std.proofs.Common.{◌≡◌, ℕ, List, [], ◌∷◌, length, map, ⊎_elim, ◌⊎◌, Option, Some, None, refl, arith}
use Rattle.std.specs.Option.{is_none, option_to_list}
use Rattle.std.specs.List.{filter_map, cons_option}
use Rattle.tz_types.specs.declared.cause.Cause.TheVariants as causes
use Rattle.tz_types.specs.declared.fault.LineFault.{LineFault}
use Rattle.tz_types.specs.declared.link.Link.{Link}
use Rattle.tz_types.specs.declared.zone.Zone.{Zone}
use Rattle.tz_specs.specs.Written.{written_link}
use Rattle.tz_specs.specs.Contents.{Contents}
use Rattle.tz_specs.specs.Whole.{fault_where, zone_of_link, missing_target}
use Rattle.tz_database.specs.Reach.{name_at}
use Rattle.tz_database.specs.LeastFault.{told_with}

told_first : (fault : Option LineFault) (faults : List LineFault) (least : Option LineFault) → told_with (told_with least (option_to_list fault)) faults ≡ told_with least (cons_option fault faults)
told_first None faults least = refl
told_first (Some fault) faults least = refl

module _ (zones : List Zone) (contents : Contents) where
  -- one more link is told
  pub told_link : (link : Link) (links : List Link) (place : Option ℕ) (places : List (Option ℕ)) (least next : Option LineFault) → map (name_at zones) (place ∷ places) ≡ map (zone_of_link contents) (map written_link (link ∷ links)) → next ≡ told_with least (option_to_list (fault_where (is_none (name_at zones place)) link.line causes.LinkTarget)) → told_with next (filter_map (missing_target contents) (map written_link links)) ≡ told_with least (filter_map (missing_target contents) (map written_link (link ∷ links)))
  told_link link links place places least next are e =
      let zone : name_at zones place ≡ zone_of_link contents (written_link link) = cc in
      rw (e, zone) (told_first (missing_target contents (written_link link)) (filter_map (missing_target contents) (map written_link links)) least)

  pub later_places : (link : Link) (links : List Link) (place : Option ℕ) (places : List (Option ℕ)) → map (name_at zones) (place ∷ places) ≡ map (zone_of_link contents) (map written_link (link ∷ links)) → map (name_at zones) places ≡ map (zone_of_link contents) (map written_link links)
  later_places link links place places are = cc

  -- no link is left
  pub told_all : (links : List Link) (places : List (Option ℕ)) (least wanted : Option LineFault) → map (name_at zones) places ≡ map (zone_of_link contents) (map written_link links) → (length links ≡ 0) ⊎ (length places ≡ 0) → told_with least (filter_map (missing_target contents) (map written_link links)) ≡ wanted → least ≡ wanted
  told_all [] places least wanted are none e = e
  told_all (link ∷ links) [] least wanted are none e = cc
  told_all (link ∷ links) (place ∷ places) least wanted are none e = absurd (⊎_elim (λ (none : length (link ∷ links) ≡ 0). omega arith) (λ (none : length (place ∷ places) ≡ 0). omega arith) none)

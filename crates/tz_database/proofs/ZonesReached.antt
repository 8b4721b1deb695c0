-- The zones that links reach, by the places where ways end.
use Rattle.std.proofs.Common.{◌≡◌, ℕ, zero, suc, ◌+◌, Bool, true, false, List, [], ◌∷◌, length, map, Option, Some, None, unwrap_or, refl, sym, ap, ◌∙◌, arith}
use Rattle.std.specs.List.{find, slice_get}
use Rattle.std.proofs.lemmas.List.{length-map}
use Rattle.std.proofs.lemmas.Option.{slice_get-map}
use Rattle.std.proofs.lemmas.Slice.Eq.{bytes_eq-Decides}
use Rattle.tz_types.specs.declared.zone.Zone.{Zone}
use Rattle.tz_types.specs.declared.link.Link.{Link}
use Rattle.tz_specs.specs.Value.{is_exactly}
use Rattle.tz_specs.specs.Written.{written_zone, written_link}
use Rattle.tz_specs.specs.Whole.{is_zone_name, reached, zone_of_link}
use Rattle.tz_database.specs.declared.stop.Stop.{Stop}
use Rattle.tz_database.specs.declared.stop.Stop.TheVariants as stops
use Rattle.tz_database.specs.Reach.{name_at}
use Rattle.tz_database.specs.Stops.{zone_names, link_names, first_stop, known_stop, stop_of, targets_of, next_stop, stop_after, zone_place}

-- the first zone of a name, if there is one
data FirstZone (names : List (List ℕ)) (zones : List Zone) (name : List ℕ) : Type 0 where
  zone_found : (k : ℕ) → ((place : ℕ) (known : Option Stop) → first_stop stops.Zone place name (zone_names zones) known ≡ Some (stops.Zone (place + k))) → name_at zones (Some k) ≡ Some name → is_zone_name (map (written_zone names) zones) name ≡ true → FirstZone names zones name
  zone_missing : ((place : ℕ) (known : Option Stop) → first_stop stops.Zone place name (zone_names zones) known ≡ known) → is_zone_name (map (written_zone names) zones) name ≡ false → FirstZone names zones name

first_zone : (names : List (List ℕ)) (zones : List Zone) (name : List ℕ) → FirstZone names zones name
first_zone names [] name = zone_missing (λ place known. refl) refl
first_zone names (zone ∷ zones) name = by_same (is_exactly zone.name name) refl (first_zone names zones name)
  where
    by_same : (same : Bool) → is_exactly zone.name name ≡ same → FirstZone names zones name → FirstZone names (zone ∷ zones) name
    by_same true e later =
        zone_found 0 (λ place known. (let here : place ≡ place + 0 = omega arith in rw e (ap (λ place. Some (stops.Zone place)) here))) (ap Some ((bytes_eq-Decides zone.name name).0 e)) (rw e refl)
    by_same false e (zone_found k first at named) =
        zone_found (suc k) (λ place known. (let here : suc place + k ≡ place + suc k = omega arith in rw e (first (suc place) known ∙ ap (λ place. Some (stops.Zone place)) here))) at (rw e named)
    by_same false e (zone_missing first named) =
        zone_missing (λ place known. rw e (first (suc place) known)) (rw e named)

-- the first link of a name, if there is one
data FirstLink (links : List Link) (name : List ℕ) : Type 0 where
  link_found : (k : ℕ) (link : Link) → ((place : ℕ) (known : Option Stop) → first_stop stops.Link place name (link_names links) known ≡ Some (stops.Link (place + k))) → slice_get links k ≡ Some link → find (λ link. is_exactly link.name name) (map written_link links) ≡ Some (written_link link) → FirstLink links name
  link_missing : ((place : ℕ) (known : Option Stop) → first_stop stops.Link place name (link_names links) known ≡ known) → find (λ link. is_exactly link.name name) (map written_link links) ≡ None → FirstLink links name

first_link : (links : List Link) (name : List ℕ) → FirstLink links name
first_link [] name = link_missing (λ place known. refl) refl
first_link (link ∷ links) name = by_same (is_exactly link.name name) refl (first_link links name)
  where
    by_same : (same : Bool) → is_exactly link.name name ≡ same → FirstLink links name → FirstLink (link ∷ links) name
    by_same true e later =
        link_found 0 link (λ place known. (let here : place ≡ place + 0 = omega arith in rw e (ap (λ place. Some (stops.Link place)) here))) refl (rw e refl)
    by_same false e (link_found k other first at named) =
        link_found (suc k) other (λ place known. (let here : suc place + k ≡ place + suc k = omega arith in rw e (first (suc place) known ∙ ap (λ place. Some (stops.Link place)) here))) at (rw e named)
    by_same false e (link_missing first named) =
        link_missing (λ place known. rw e (first (suc place) known)) (rw e named)

-- where a name leads: to a zone of that name, or to a link of it and no zone, or nowhere
data Leads (names : List (List ℕ)) (zones : List Zone) (links : List Link) (name : List ℕ) (stop : Stop) : Type 0 where
  to_zone : (place : ℕ) → stop ≡ stops.Zone place → name_at zones (Some place) ≡ Some name → is_zone_name (map (written_zone names) zones) name ≡ true → Leads names zones links name stop
  to_link : (place : ℕ) (link : Link) → stop ≡ stops.Link place → slice_get links place ≡ Some link → is_zone_name (map (written_zone names) zones) name ≡ false → find (λ link. is_exactly link.name name) (map written_link links) ≡ Some (written_link link) → Leads names zones links name stop
  to_nothing : stop ≡ stops.Nowhere → is_zone_name (map (written_zone names) zones) name ≡ false → find (λ link. is_exactly link.name name) (map written_link links) ≡ None → Leads names zones links name stop

leads : (names : List (List ℕ)) (zones : List Zone) (links : List Link) (name : List ℕ) (known : Option Stop) → known ≡ known_stop zones links name → Leads names zones links name (unwrap_or known stops.Nowhere)
leads names zones links name known is = by_first (first_zone names zones name) (first_link links name)
  where
    by_first : FirstZone names zones name → FirstLink links name → Leads names zones links name (unwrap_or known stops.Nowhere)
    by_first (zone_found k first at named) later =
        (let here : known ≡ Some (stops.Zone k) = is ∙ first 0 (first_stop stops.Link 0 name (link_names links) None) ∙ ap (λ place. Some (stops.Zone place)) (omega arith) in
        to_zone k (ap (λ known. unwrap_or known stops.Nowhere) here) at named)
    by_first (zone_missing first named) (link_found k link later at found) =
        (let here : known ≡ Some (stops.Link k) = is ∙ first 0 (first_stop stops.Link 0 name (link_names links) None) ∙ later 0 None ∙ ap (λ place. Some (stops.Link place)) (omega arith) in
        to_link k link (ap (λ known. unwrap_or known stops.Nowhere) here) at named found)
    by_first (zone_missing first named) (link_missing later found) =
        (let here : known ≡ None = is ∙ first 0 (first_stop stops.Link 0 name (link_names links) None) ∙ later 0 None in
        to_nothing (ap (λ known. unwrap_or known stops.Nowhere) here) named found)

-- a zone is the end of a way, and so is nowhere

stays_zone : (targets : List Stop) (steps place : ℕ) → stop_after targets steps (stops.Zone place) ≡ stops.Zone place
unfolding stop_after
stays_zone targets zero place = refl
stays_zone targets (suc steps) place = stays_zone targets steps place

stays_nowhere : (targets : List Stop) (steps : ℕ) → stop_after targets steps stops.Nowhere ≡ stops.Nowhere
unfolding stop_after
stays_nowhere targets zero = refl
stays_nowhere targets (suc steps) = stays_nowhere targets steps

module _ (names : List (List ℕ)) (zones : List Zone) (links : List Link) (known : List ℕ → Option Stop) (are : (name : List ℕ) → known name ≡ known_stop zones links name) where
  target_at : (place : ℕ) (link : Link) → slice_get links place ≡ Some link → next_stop (targets_of known links) (stops.Link place) ≡ stop_of known link.target
  target_at place link at =
      let here : slice_get (targets_of known links) place ≡ Some (stop_of known link.target) = slice_get-map (λ (link : Link). stop_of known link.target) links place ∙ rw at refl in
      rw here refl

  reach_is : (steps : ℕ) (name : List ℕ) → name_at zones (zone_place (stop_after (targets_of known links) steps (stop_of known name))) ≡ reached (map (written_zone names) zones) (map written_link links) steps name
  unfolding stop_after
  reach_is zero name =
      elim (leads names zones links name (known name) (are name)) [
        | to_zone place is at named ↦ rw (is, named) at
        | to_link place link is at named found ↦ rw (is, named) refl
        | to_nothing is named found ↦ rw (is, named) refl
      ]
  reach_is (suc steps) name =
      elim (leads names zones links name (known name) (are name)) [
        | to_zone place is at named ↦ rw (is, named, stays_zone (targets_of known links) steps place) at
        | to_link place link is at named found ↦ rw (is, named, found, target_at place link at) (reach_is steps link.target)
        | to_nothing is named found ↦ rw (is, named, found, stays_nowhere (targets_of known links) steps) refl
      ]

  ends_are : (steps : ℕ) (some : List Link) → map (name_at zones) (map zone_place (map (stop_after (targets_of known links) steps) (targets_of known some))) ≡ map (λ link. reached (map (written_zone names) zones) (map written_link links) steps link.target) (map written_link some)
  ends_are steps [] = refl
  ends_are steps (link ∷ some) = rw (reach_is steps link.target) (rw (ends_are steps some) refl)

  -- the zones that links reach are those at the ends of their ways
  pub zones_are : (targets ends : List Stop) (places : List (Option ℕ)) → targets ≡ targets_of known links → ends ≡ map (stop_after targets (length targets)) targets → places ≡ map zone_place ends → map (name_at zones) places ≡ map (zone_of_link (record { sets = []; zones = map (written_zone names) zones; links = map written_link links; begun = false })) (map written_link links)
  zones_are targets ends places targets_are ends_is places_are =
      let steps : length (targets_of known links) ≡ length (map written_link links) =
      length-map links (λ (link : Link). stop_of known link.target) ∙ sym (length-map links written_link) in
      rw (places_are, ends_is, targets_are, steps) (ends_are (length (map written_link links)) links)

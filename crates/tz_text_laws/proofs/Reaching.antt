-- The zone that is found within as many links as there are is the one that is reached by links of any number.
use Rattle.std.proofs.Common.{◌≡◌, ℕ, zero, suc, ◌<◌, ◌≤◌, true, false, eqb, List, [], ◌∷◌, length, find, Some, refl, sym, ap, ◌∙◌, ⊎_elim, arith, subst}
use Rattle.std.specs.List.{slice_get, list_any, position_or_len, AllByRecursion, IsDistinct}
use Rattle.std.proofs.lemmas.Bool.{cases_Bool}
use Rattle.std.proofs.lemmas.Bool.Decides.{nat_tests}
use Rattle.std.proofs.lemmas.List.Folds.{find_at}
use Rattle.std.proofs.lemmas.Map.Steps.{length-le_from_distinct_below}
use Rattle.std.proofs.lemmas.Option.{slice_get_within}
use Rattle.tz_specs.specs.Value.{is_exactly}
use Rattle.tz_specs.specs.Written.{WrittenZone, WrittenLink}
use Rattle.tz_specs.specs.Contents.{Contents}
use Rattle.tz_specs.specs.Whole.{is_zone_name, reached, zone_of_link}
use Rattle.tz_text_laws.specs.LeadsTo.{AreChain, LeadsTo}
use Rattle.tz_text_laws.proofs.Choices.{bind_some, only_some, some_same}

-- the place of the earliest link of a name
abbrev place_of : List WrittenLink → List ℕ → ℕ
place_of links name = position_or_len (λ (link : WrittenLink). is_exactly link.name name) links

found_at : (links : List WrittenLink) (name : List ℕ) (link : WrittenLink) → find (λ (other : WrittenLink). is_exactly other.name name) links ≡ Some link → slice_get links (place_of links name) ≡ Some link
found_at links name link found = sym (find_at (λ (other : WrittenLink). is_exactly other.name name) links) ∙ found

-- ---- one name leads one way

one_chain : (zones : List WrittenZone) (links : List WrittenLink) (name : List ℕ) (chain other : List WrittenLink) (zone also : List ℕ) → AreChain zones links name chain zone → AreChain zones links name other also → chain ≡ other
one_chain zones links name [] [] zone also first second = refl
one_chain zones links name [] (link ∷ other) zone also first second =
    let bad : true ≡ false = sym first.1 ∙ second.0 in absurd (cc)
one_chain zones links name (link ∷ chain) [] zone also first second =
    let bad : true ≡ false = sym second.1 ∙ first.0 in absurd (cc)
one_chain zones links name (link ∷ chain) (next ∷ other) zone also first second =
    let same : link ≡ next = some_same link next (sym first.1 ∙ second.1) in
    let rest : AreChain zones links link.target other also = subst (λ (it : WrittenLink). AreChain zones links it.target other also) (sym same) second.2 in
    let later = one_chain zones links link.target chain other zone also first.2 rest in
    λ i. same i ∷ later i

-- ---- no link is met twice

-- the places of the links that lead on from a name
abbrev places : List WrittenLink → List ℕ → List WrittenLink → List ℕ
places links name [] = []
places links name (link ∷ chain) = place_of links name ∷ places links link.target chain

-- the links behind a link have other places
apart : (zones : List WrittenZone) (links : List WrittenLink) (name : List ℕ) (link : WrittenLink) (chain : List WrittenLink) (from : List ℕ) (rest : List WrittenLink) (zone : List ℕ) → AreChain zones links name (link ∷ chain) zone → AreChain zones links from rest zone → length rest ≤ length chain → AllByRecursion (λ place. eqb (place_of links name) place ≡ false) (places links from rest)
apart zones links name link chain from [] zone first later short = tt
apart zones links name link chain from (next ∷ rest) zone first later short =
    let here : eqb (place_of links name) (place_of links from) ≡ false =
    ⊎_elim
    (λ (same : eqb (place_of links name) (place_of links from) ≡ true).
    let place : place_of links name ≡ place_of links from = grind (arith, nat_tests, same) in
    let is : link ≡ next = some_same link next (sym (found_at links name link first.1) ∙ ap (slice_get links) place ∙ found_at links from next later.1) in
    let on : AreChain zones links link.target rest zone = subst (λ (it : WrittenLink). AreChain zones links it.target rest zone) (sym is) later.2 in
    let long : length chain ≡ length rest = ap length (one_chain zones links link.target chain rest zone zone first.2 on) in
    absurd (omega (arith, long, short)))
    (λ (other : eqb (place_of links name) (place_of links from) ≡ false). other)
    (cases_Bool (eqb (place_of links name) (place_of links from))) in
    (here, apart zones links name link chain next.target rest zone first later.2 (omega (arith, short)))

distinct : (zones : List WrittenZone) (links : List WrittenLink) (name : List ℕ) (chain : List WrittenLink) (zone : List ℕ) → AreChain zones links name chain zone → IsDistinct eqb (places links name chain)
unfolding IsDistinct
distinct zones links name [] zone are = tt
distinct zones links name (link ∷ chain) zone are =
    (apart zones links name link chain link.target chain zone are are.2 (omega arith), distinct zones links link.target chain zone are.2)

below : (zones : List WrittenZone) (links : List WrittenLink) (name : List ℕ) (chain : List WrittenLink) (zone : List ℕ) → AreChain zones links name chain zone → (place : ℕ) → list_any (eqb place) (places links name chain) ≡ true → place < length links
below zones links name [] zone are place has = absurd (cc)
below zones links name (link ∷ chain) zone are place has =
    let within = slice_get_within links (place_of links name) link (found_at links name link are.1) in
    ⊎_elim
    (λ (here : eqb place (place_of links name) ≡ true).
    let same : place ≡ place_of links name = grind (arith, nat_tests, here) in
    omega (arith, same, within))
    (λ (other : eqb place (place_of links name) ≡ false). below zones links link.target chain zone are.2 place (rw other at has))
    (cases_Bool (eqb place (place_of links name)))

places_long : (links : List WrittenLink) (name : List ℕ) (chain : List WrittenLink) → length (places links name chain) ≡ length chain
places_long links name [] = refl
places_long links name (link ∷ chain) = ap suc (places_long links link.target chain)

-- no way has more links than there are
no_longer : (zones : List WrittenZone) (links : List WrittenLink) (name : List ℕ) (chain : List WrittenLink) (zone : List ℕ) → AreChain zones links name chain zone → length chain ≤ length links
no_longer zones links name chain zone are =
    rw (places_long links name chain) at (length-le_from_distinct_below (places links name chain) (length links) (distinct zones links name chain zone are) (below zones links name chain zone are))

-- ---- both ways

reached_by : (zones : List WrittenZone) (links : List WrittenLink) (steps : ℕ) (name : List ℕ) (chain : List WrittenLink) (zone : List ℕ) → AreChain zones links name chain zone → length chain ≤ steps → reached zones links steps name ≡ Some zone
reached_by zones links zero name [] zone are short = rw (are.1, are.0) refl
reached_by zones links (suc steps) name [] zone are short = rw (are.1, are.0) refl
reached_by zones links zero name (link ∷ chain) zone are short = absurd (omega (arith, short))
reached_by zones links (suc steps) name (link ∷ chain) zone are short =
    rw (are.0, are.1) (reached_by zones links steps link.target chain zone are.2 (omega (arith, short)))

chain_to : (zones : List WrittenZone) (links : List WrittenLink) (steps : ℕ) (name zone : List ℕ) → reached zones links steps name ≡ Some zone → LeadsTo zones links name zone
chain_to zones links zero name zone found =
    let test = only_some (is_zone_name zones name) name zone found in
    ([], (sym test.1, test.0))
chain_to zones links (suc steps) name zone found =
    ⊎_elim
    (λ (here : is_zone_name zones name ≡ true).
    let same : name ≡ zone = some_same name zone (rw here at found) in
    ([], (sym same, here)))
    (λ (other : is_zone_name zones name ≡ false).
    let link = bind_some (find (λ (it : WrittenLink). is_exactly it.name name) links) (λ (it : WrittenLink). reached zones links steps it.target) zone (rw other at found) in
    let later = chain_to zones links steps link.0.target zone link.2 in
    (link.0 ∷ later.0, (other, link.1, later.1)))
    (cases_Bool (is_zone_name zones name))

pub leads_to : (contents : Contents) (link : WrittenLink) (zone : List ℕ) → zone_of_link contents link ≡ Some zone → LeadsTo contents.zones contents.links link.target zone
leads_to contents link zone found =
    chain_to contents.zones contents.links (length contents.links) link.target zone found

pub led_to : (contents : Contents) (link : WrittenLink) (zone : List ℕ) → LeadsTo contents.zones contents.links link.target zone → zone_of_link contents link ≡ Some zone
led_to contents link zone reaches =
    reached_by contents.zones contents.links (length contents.links) link.target reaches.0 zone reaches.1 (no_longer contents.zones contents.links link.target reaches.0 zone reaches.1)

-- Ways through links: so many links further, twice as many, and where they end.
use Rattle.std.proofs.Common.{◌≡◌, ◌≢◌, ℕ, zero, suc, ◌+◌, ◌/◌, ◌%◌, List, [], ◌∷◌, map, Option, Some, None, option_map, unwrap_or, refl, ap, ◌∙◌, arith}
use Rattle.std.specs.List.{slice_get}
use Rattle.std.proofs.lemmas.Option.{slice_get-map}
use Rattle.tz_database.specs.declared.stop.Stop.{Stop}
use Rattle.tz_database.specs.declared.stop.Stop.TheVariants as stops
use Rattle.tz_database.specs.Stops.{next_stop, stop_after}

next_or : (targets : List Stop) (stop : Option Stop) → unwrap_or (option_map (next_stop targets) stop) stops.Nowhere ≡ next_stop targets (unwrap_or stop stops.Nowhere)
next_or targets None = refl
next_or targets (Some stop) = refl

-- one step of a table that takes two at once
next_twice : (targets : List Stop) (stop : Stop) → next_stop (map (next_stop targets) targets) stop ≡ next_stop targets (next_stop targets stop)
next_twice targets (stops.Zone place) = refl
next_twice targets (stops.Link place) =
    ap (λ stop. unwrap_or stop stops.Nowhere) (slice_get-map (next_stop targets) targets place) ∙ next_or targets (slice_get targets place)
next_twice targets stops.Nowhere = refl

after_twice : (targets : List Stop) (steps : ℕ) (stop : Stop) → stop_after (map (next_stop targets) targets) steps stop ≡ stop_after targets (steps + steps) stop
unfolding stop_after
after_twice targets zero stop = refl
after_twice targets (suc steps) stop =
    let double : suc steps + suc steps ≡ suc (suc (steps + steps)) = omega arith in
    rw double (rw (next_twice targets stop) (after_twice targets steps (next_stop targets (next_stop targets stop))))

even_steps : (targets : List Stop) (steps : ℕ) (stop : Stop) → steps % 2 ≢ 1 → stop_after (map (next_stop targets) targets) (steps / 2) stop ≡ stop_after targets steps stop
even_steps targets steps stop even =
    let double : steps / 2 + steps / 2 ≡ steps = omega arith in
    after_twice targets (steps / 2) stop ∙ ap (λ steps. stop_after targets steps stop) double

odd_steps : (targets : List Stop) (steps : ℕ) (stop : Stop) → steps % 2 ≡ 1 → stop_after (map (next_stop targets) targets) (steps / 2) (next_stop targets stop) ≡ stop_after targets steps stop
unfolding stop_after
odd_steps targets steps stop odd =
    let double : suc (steps / 2 + steps / 2) ≡ steps = omega arith in
    after_twice targets (steps / 2) (next_stop targets stop) ∙ ap (λ steps. stop_after targets steps stop) double

-- from each of some stops

even_ends : (ahead ends : List Stop) (left : ℕ) → left % 2 ≢ 1 → map (stop_after (map (next_stop ahead) ahead) (left / 2)) ends ≡ map (stop_after ahead left) ends
even_ends ahead [] left even = refl
even_ends ahead (stop ∷ ends) left even = rw (even_steps ahead left stop even) (rw (even_ends ahead ends left even) refl)

odd_ends : (ahead ends : List Stop) (left : ℕ) → left % 2 ≡ 1 → map (stop_after (map (next_stop ahead) ahead) (left / 2)) (map (next_stop ahead) ends) ≡ map (stop_after ahead left) ends
odd_ends ahead [] left odd = refl
odd_ends ahead (stop ∷ ends) left odd = rw (odd_steps ahead left stop odd) (rw (odd_ends ahead ends left odd) refl)

-- a round, where the steps that are left are even, and where they are odd

pub even_round : (ahead next ends after wanted : List Stop) (left : ℕ) → next ≡ map (next_stop ahead) ahead → after ≡ ends → left % 2 ≢ 1 → map (stop_after ahead left) ends ≡ wanted → map (stop_after next (left / 2)) after ≡ wanted
even_round ahead next ends after wanted left doubled same even upto =
    rw doubled (rw same (even_ends ahead ends left even ∙ upto))

pub odd_round : (ahead next ends after wanted : List Stop) (left : ℕ) → next ≡ map (next_stop ahead) ahead → after ≡ map (next_stop ahead) ends → left % 2 ≡ 1 → map (stop_after ahead left) ends ≡ wanted → map (stop_after next (left / 2)) after ≡ wanted
odd_round ahead next ends after wanted left doubled one odd upto =
    rw doubled (rw one (odd_ends ahead ends left odd ∙ upto))

pub none_left : (ahead ends : List Stop) → map (stop_after ahead 0) ends ≡ ends
unfolding stop_after
none_left ahead [] = refl
none_left ahead (stop ∷ ends) = rw (none_left ahead ends) refl

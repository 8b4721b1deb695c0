-- The rule set that a line follows, by the place of its name.
use Rattle.std.proofs.Common.{◌≡◌, ℕ, ◌<◌, ◌≤◌, Bool, true, false, nat_lt, cond, List, [], length, map, get_or, Option, Some, None, option_map, option_copied, Bor, refl, sym, ap, ◌∙◌, arith}
use Rattle.std.specs.List.{find, position, position_or_len, slice_get, HoldsAt}
use Rattle.std.specs.Option.{MatchOption}
use Rattle.std.proofs.lemmas.Bool.Decides.{nat_tests}
use Rattle.std.proofs.lemmas.List.{get_or-map}
use Rattle.std.proofs.lemmas.List.Folds.{find_at}
use Rattle.std.proofs.lemmas.Option.{slice_get_past, slice_get-get_or}
use Rattle.tz_types.specs.declared.rule_set.RuleSet.{RuleSet}
use Rattle.tz_types.specs.declared.zone_line.LineRules.TheVariants as line_rules
use Rattle.tz_specs.specs.Choice.{◌>>=◌}
use Rattle.tz_specs.specs.Value.{is_exactly}
use Rattle.tz_specs.specs.Until.{Rules}
use Rattle.tz_specs.specs.Written.{written_rules}
use Rattle.tz_specs.specs.Whole.{following_in}
use Rattle.tz_database.specs.SetPlace.{set_place_of}

-- what `get` answers
pub got : {A : Type 0} (xs : List A) (place : ℕ) (r : Option (Bor A)) → MatchOption r (length xs ≤ place) (λ x. (place < length xs) × HoldsAt (λ y. x.now ≡ y) xs place) → option_copied r ≡ slice_get xs place
got {A} xs place None past = sym (slice_get_past xs place past)
got {A} xs place (Some x) h = ap Some (h.1 x.now) ∙ sym (slice_get-get_or xs place x.now h.0)

-- what stands at the first place that passes is the first that passes
at_position : {A : Type 0} (p : A → Bool) (xs : List A) → (position p xs >>= slice_get xs) ≡ find p xs
at_position {A} p xs = by_within (nat_lt (position_or_len p xs) (length xs)) refl
  where
    by_within : (within : Bool) → nat_lt (position_or_len p xs) (length xs) ≡ within → (cond within (Some (position_or_len p xs)) None >>= slice_get xs) ≡ find p xs
    by_within true e = sym (find_at p xs)
    by_within false e =
        (let past : length xs ≤ position_or_len p xs = grind (arith, nat_tests) in
        sym (find_at p xs ∙ slice_get_past xs (position_or_len p xs) past))

-- what a line follows, by the place of its set
pub followed_at : (sets : List RuleSet) (names : List (List ℕ)) (places : List (Option ℕ)) (name : ℕ) (place : Option ℕ) → places ≡ map (set_place_of sets) names → name < length names → get_or places name None ≡ place → option_map Rules (place >>= slice_get sets) ≡ following_in sets (written_rules names (line_rules.Set name))
followed_at sets names places name place are within is =
    let word = get_or names name [] in
    let here : slice_get names name ≡ Some word = slice_get-get_or names name [] within in
    let found : place ≡ set_place_of sets word =
    sym is ∙ ap (λ places. get_or places name None) are ∙ get_or-map (set_place_of sets) names name [] None within in
    let set = at_position (λ (set : RuleSet). is_exactly set.name word) sets in
    rw (here, found) (ap (option_map Rules) set)

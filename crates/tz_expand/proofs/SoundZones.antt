-- What a sound database says of each zone.
use Rattle.std.proofs.Common.{◌≡◌, ℕ, ◌<◌, Bool, true, false, List, length, get_or, IsTrue, Some, ◌∙◌, slice_get, ⊎_elim, arith}
use Rattle.std.specs.List.{list_all}
use Rattle.std.proofs.lemmas.Bool.{cases_Bool}
use Rattle.std.proofs.lemmas.List.Folds.{list_all_at}
use Rattle.std.proofs.lemmas.Option.{get_or_from_slice_get}
use Rattle.tz_types.specs.declared.database.Db.{Db}
use Rattle.tz_types.specs.declared.rule_set.RuleSet.{RuleSet}
use Rattle.tz_types.specs.declared.zone_line.ZoneLine.{ZoneLine}
use Rattle.tz_types.specs.declared.zone.Zone.{Zone}
use Rattle.tz_specs.specs.Expansion.{first_instant, end_of_time, periods_of, periods_from}
use Rattle.tz_specs.specs.Sound.{is_sound, is_sound_zone, leads}
use Rattle.tz_expand.specs.Zone.{are_known}

-- what all elements pass, the one at a place passes
pub passes_at : {X : Type 0} (p : X → Bool) (xs : List X) (i : ℕ) (d : X) → i < length xs → IsTrue (list_all p xs) → IsTrue (p (get_or xs i d))
passes_at p xs i d low all =
    ⊎_elim (λ (e : p (get_or xs i d) ≡ true). e) (λ (e : p (get_or xs i d) ≡ false). let not_all = list_all_at p xs i d low e in cc) (cases_Bool (p (get_or xs i d)))

sound_leads : (db : Db) (zone : Zone) → IsTrue (is_sound_zone db zone) → IsTrue (leads first_instant end_of_time (periods_from db.sets first_instant zone.lines))
unfolding periods_of
sound_leads db zone h = grind arith

sound_known : (db : Db) (zone : Zone) → IsTrue (is_sound_zone db zone) → IsTrue (are_known db.sets zone.lines)
sound_known db zone h = grind arith

zone_is_sound : (db : Db) (i : ℕ) (zone : Zone) → IsTrue (is_sound db) → i < length db.zones → zone ≡ get_or db.zones i zone → IsTrue (is_sound_zone db zone)
zone_is_sound db i zone sound low is =
    let zones : IsTrue (list_all (is_sound_zone db) db.zones) = grind arith in
    let this = passes_at (is_sound_zone db) db.zones i zone low zones in
    rw (← is) at this

-- the lines of a zone of a sound database lead from the beginning of time to its end
pub zone_leads : (db : Db) (i : ℕ) (zone : Zone) → IsTrue (is_sound db) → i < length db.zones → zone ≡ get_or db.zones i zone → IsTrue (leads first_instant end_of_time (periods_from db.sets first_instant zone.lines))
zone_leads db i zone sound low is = sound_leads db zone (zone_is_sound db i zone sound low is)

-- and the rule sets that they follow are there
pub zone_known : (db : Db) (i : ℕ) (zone : Zone) (sets : List RuleSet) (lines : List ZoneLine) → IsTrue (is_sound db) → i < length db.zones → zone ≡ get_or db.zones i zone → sets ≡ db.sets → lines ≡ zone.lines → IsTrue (are_known sets lines)
zone_known db i zone sets lines sound low is sets_are lines_are =
    rw (sets_are, lines_are) (sound_known db zone (zone_is_sound db i zone sound low is))

pub same_zone : (zones : List Zone) (i : ℕ) (zone other : Zone) → zone ≡ get_or zones i zone → slice_get zones i ≡ Some other → zone ≡ other
same_zone zones i zone other is got = is ∙ get_or_from_slice_get zones i other zone got

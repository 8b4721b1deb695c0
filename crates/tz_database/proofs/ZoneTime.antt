-- Lines of zones without faults lead through all of time.
use Rattle.std.proofs.Common.{◌≡◌, ℕ, ◌<◌, Bool, true, false, ◌&&◌, if◌then◌else◌, IsTrue, List, [], ◌∷◌, length, map, Option, Some, None, is_some, option_map, Ordering, Ok, refl, sym, ap, ◌∙◌, arith, ℤ, int_lt, ◌<ℤ◌}
use Rattle.std.proofs.lemmas.Bool.{and_parts, and_from}
use Rattle.std.proofs.lemmas.Bool.Decides.{nat_tests}
use Rattle.std.proofs.lemmas.Cmp.{nat_list_cmp_total}
use Rattle.std.proofs.lemmas.Option.{slice_get-map, slice_get-get_or, slice_get_within, get_or_from_slice_get}
use Rattle.std.specs.Ordering.{int_eq, ordering_reverse}
use Rattle.std.specs.declared.cmp.Ordering.TheVariants.{Less, Equal, Greater}
use Rattle.std.specs.List.{list_all, filter_map, flat_map, last_or, find, slice_get}
use Rattle.std.proofs.lemmas.Int.{ints}
use Rattle.tz_types.specs.Order.{ascends, name_before}
use Rattle.tz_types.specs.declared.cause.Cause.TheVariants as causes
use Rattle.tz_types.specs.declared.fault.LineFault.{LineFault}
use Rattle.tz_types.specs.declared.rule_set.RuleSet.{RuleSet}
use Rattle.tz_types.specs.declared.zone_line.LineRules.{LineRules}
use Rattle.tz_types.specs.declared.zone_line.LineRules.TheVariants as rules
use Rattle.tz_types.specs.declared.zone_line.ZoneLine.{ZoneLine}
use Rattle.tz_types.specs.declared.zone.Zone.{Zone}
use Rattle.tz_types.specs.declared.until.Until.{Until}
use Rattle.tz_types.specs.declared.database.Db.{Db}
use Rattle.tz_specs.specs.Choice.{◌>>=◌}
use Rattle.tz_specs.specs.Causes.{fault_at}
use Rattle.tz_specs.specs.Value.{is_exactly}
use Rattle.tz_specs.specs.Expansion.{first_instant, end_of_time, following_of, finish_of, periods_from, periods_of}
use Rattle.tz_specs.specs.Sound.{leads, is_known, is_sound_zone}
use Rattle.tz_specs.specs.Written.{WrittenUntil, WrittenLine, WrittenZone, set_names, written_rules, written_until, written_line, written_zone}
use Rattle.tz_specs.specs.Whole.{fault_where, missing_continuation, following_in, finish_in, late_lines}
use Rattle.tz_specs.proofs.UntilTimeLemmas.{line_inside_time}
use Rattle.tz_database.specs.Continued.{are_continued}
use Rattle.tz_database.specs.NamePlace.{name_place}
use Rattle.tz_database.proofs.NameOrder.{compared, searched}
use Rattle.tz_database.proofs.NamesFound.{found-find}
use Rattle.tz_database.proofs.Faultless.{none_first, none_second, none_of_first, none_of_rest, no_fault}

-- ---- what stands at a place has that place, where names ascend

equal_itself : (a : List ℕ) → compared a a ≡ Equal
equal_itself a = by_order (compared a a) (nat_list_cmp_total.antisymm a a)
  where
    by_order : (o : Ordering) → o ≡ ordering_reverse o → o ≡ Equal
    by_order Less e = cc
    by_order Equal e = refl
    by_order Greater e = cc

pub own_place : {X : Type 0} (key : X → List ℕ) (xs : List X) (k : ℕ) (x : X) → IsTrue (ascends name_before (map key xs)) → slice_get xs k ≡ Some x → name_place (key x) (map key xs) ≡ Ok k
own_place {X} key xs k x ascend at =
    sym (searched key (key x) xs (Ok k) ascend (slice_get_within xs k x at) (λ d. rw (get_or_from_slice_get xs k x d at) (equal_itself (key x))))

-- ---- what the line of a database follows, by what it says

abbrev name_of : RuleSet → List ℕ
name_of set = set.name

pub there_is : {X : Type 0} (xs : List X) (k : ℕ) → k < length xs → slice_get xs k ≡ None → ⊥
there_is {X} [] k low none = omega arith
there_is {X} (x ∷ xs) k low none = (let at = slice_get-get_or (x ∷ xs) k x low in cc)

follows_known : (sets : List RuleSet) (it : LineRules) → IsTrue (ascends name_before (set_names sets)) → IsTrue (is_known sets it) → following_in sets (written_rules (set_names sets) it) ≡ Some (following_of sets it)
follows_known sets rules.Plain ascend known = refl
follows_known sets (rules.Fixed save daylight) ascend known = refl
follows_known sets (rules.Set place) ascend known =
    by_set (slice_get sets place) (grind (arith, nat_tests)) refl
  where
    by_set : (found : Option RuleSet) → place < length sets → slice_get sets place ≡ found → following_in sets (written_rules (set_names sets) (rules.Set place)) ≡ Some (following_of sets (rules.Set place))
    by_set None low at = absurd (there_is sets place low at)
    by_set (Some set) low at =
        (let named : slice_get (set_names sets) place ≡ Some set.name = slice_get-map name_of sets place ∙ ap (option_map name_of) at in
        let first : find (λ (other : RuleSet). is_exactly other.name set.name) sets ≡ Some set =
        found-find name_of set.name sets place set (own_place name_of sets place set ascend at) ∙ ap (λ (it : RuleSet). Some it) (get_or_from_slice_get sets place set set at) in
        rw (named, at, first) refl)

-- ---- when it ends

-- the end of a line of a database, where it has an UNTIL
ends : (sets : List RuleSet) (line : ZoneLine) → IsTrue (ascends name_before (set_names sets)) → IsTrue (is_known sets line.rules) → IsTrue (is_some line.until) → finish_in sets (written_line (set_names sets) line) ≡ Some (finish_of sets line)
ends sets line ascend known some =
    by_until line.until refl some (follows_known sets line.rules ascend known)
  where
    by_until : (until : Option Until) → line.until ≡ until → IsTrue (is_some until) → following_in sets (written_rules (set_names sets) line.rules) ≡ Some (following_of sets line.rules) → finish_in sets (written_line (set_names sets) line) ≡ Some (finish_of sets line)
    by_until None is some follows = cc
    by_until (Some until) is some follows = rw (is, follows) refl

-- and that lies inside time
ends_inside : (sets : List RuleSet) (line : ZoneLine) → IsTrue (is_some line.until) → finish_of sets line <ℤ end_of_time
ends_inside sets line some = by_until line.until refl some
  where
    by_until : (until : Option Until) → line.until ≡ until → IsTrue (is_some until) → finish_of sets line <ℤ end_of_time
    by_until None is some = cc
    by_until (Some until) is some = (line_inside_time sets line until is).1

-- a line without one ends with time
ends_last : (sets : List RuleSet) (line : ZoneLine) → option_map written_until line.until ≡ None → finish_of sets line ≡ end_of_time
ends_last sets line none = by_until line.until refl none
  where
    by_until : (until : Option Until) → line.until ≡ until → option_map written_until until ≡ None → finish_of sets line ≡ end_of_time
    by_until None is none = rw is refl
    by_until (Some until) is none = cc

-- where no line is late, the first ends after it starts, and none of the others is late
on_time : (sets : List RuleSet) (start finish : ℤ) (line : WrittenLine) (lines : List WrittenLine) → finish_in sets line ≡ Some finish → late_lines sets start (line ∷ lines) ≡ [] → (start <ℤ finish) × (late_lines sets finish lines ≡ [])
on_time sets start finish line lines ends none =
    by_order (int_lt start finish) refl (rw (ends, late_lines) at none)
  where
    by_order : (before : Bool) → int_lt start finish ≡ before → (if before then late_lines sets finish lines else fault_at line.line causes.UntilOrder ∷ late_lines sets finish lines) ≡ [] → (start <ℤ finish) × (late_lines sets finish lines ≡ [])
    by_order true is none = (grind (arith, ints), none)
    by_order false is none = cc

-- ---- the lines of a zone

-- each line but the last has an UNTIL
abbrev pub goes_on : List WrittenLine → Bool
goes_on [] = false
goes_on (line ∷ []) = true
goes_on (line ∷ next ∷ lines) = is_some line.until && goes_on (next ∷ lines)

-- the fault of a last line that wants another
abbrev unfinished : List WrittenLine → Option LineFault
unfinished lines =
    last_or None lines >>= λ line. fault_where (is_some line.until) line.line causes.NoContinuation

no_until : (until : Option WrittenUntil) → is_some until ≡ false → until ≡ None
no_until None e = refl
no_until (Some until) e = cc

has_until : (until : Option Until) → IsTrue (is_some (option_map written_until until)) → IsTrue (is_some until)
has_until None some = cc
has_until (Some until) some = refl

leads_on : (start finish : ℤ) (later : Bool) → start <ℤ finish → IsTrue later → IsTrue (int_eq start start && int_lt start finish && later)
leads_on start finish later before on = grind (arith, ints)

leads_last : (start finish : ℤ) → start <ℤ end_of_time → finish ≡ end_of_time → IsTrue (int_eq start start && int_lt start finish && int_eq finish end_of_time)
leads_last start finish before is = grind (arith, ints)

abbrev known_lines : List RuleSet → List ZoneLine → Bool
known_lines sets lines = list_all (λ (line : ZoneLine). is_known sets line.rules) lines

leads_from : (sets : List RuleSet) (start : ℤ) (lines : List ZoneLine) → IsTrue (ascends name_before (set_names sets)) → IsTrue (known_lines sets lines) → start <ℤ end_of_time → IsTrue (goes_on (map (written_line (set_names sets)) lines)) → unfinished (map (written_line (set_names sets)) lines) ≡ None → late_lines sets start (map (written_line (set_names sets)) lines) ≡ [] → IsTrue (leads start end_of_time (periods_from sets start lines))
leads_from sets start [] ascend known before on finished timely = cc
leads_from sets start (line ∷ []) ascend known before on finished timely =
    leads_last start (finish_of sets line) before (ends_last sets line (no_until (option_map written_until line.until) (no_fault (is_some (option_map written_until line.until)) line.line causes.NoContinuation finished)))
leads_from sets start (line ∷ next ∷ lines) ascend known before on finished timely =
    let names = set_names sets in
    let written = map (written_line names) (next ∷ lines) in
    let both = and_parts (is_some (option_map written_until line.until)) (goes_on written) on in
    let knowns = and_parts (is_known sets line.rules) (known_lines sets (next ∷ lines)) known in
    let some = has_until line.until both.0 in
    let finish = finish_of sets line in
    let after = on_time sets start finish (written_line names line) written (ends sets line ascend knowns.0 some) timely in
    let later = leads_from sets finish (next ∷ lines) ascend knowns.1 (ends_inside sets line some) both.1 finished after.1 in
    leads_on start finish (leads finish end_of_time (periods_from sets finish (next ∷ lines))) after.0 later

-- ---- all zones

zone_sound : (db : Db) (zone : Zone) → IsTrue (known_lines db.sets zone.lines) → IsTrue (goes_on (map (written_line (set_names db.sets)) zone.lines)) → unfinished (map (written_line (set_names db.sets)) zone.lines) ≡ None → late_lines db.sets first_instant (map (written_line (set_names db.sets)) zone.lines) ≡ [] → IsTrue (is_sound_zone db zone)
unfolding periods_of
zone_sound db zone known on finished timely =
    let begins : first_instant <ℤ end_of_time = omega (arith, ints) in
    and_from (known_lines db.sets zone.lines) (leads first_instant end_of_time (periods_from db.sets first_instant zone.lines)) known (leads_from db.sets first_instant zone.lines db.sets_ascend known begins on finished timely)

abbrev pub all_go_on : List WrittenZone → Bool
all_go_on zones = list_all (λ (zone : WrittenZone). goes_on zone.lines) zones

-- zones with known sets, of which no fault is told, are sound
pub zones_sound : (db : Db) (zones : List Zone) → IsTrue (list_all (λ (zone : Zone). known_lines db.sets zone.lines) zones) → IsTrue (all_go_on (map (written_zone (set_names db.sets)) zones)) → filter_map missing_continuation (map (written_zone (set_names db.sets)) zones) ≡ [] → flat_map (λ zone. late_lines db.sets first_instant zone.lines) (map (written_zone (set_names db.sets)) zones) ≡ [] → IsTrue (list_all (is_sound_zone db) zones)
zones_sound db [] known on finished timely = refl
zones_sound db (zone ∷ zones) known on finished timely =
    let here = written_zone (set_names db.sets) zone in
    let rest = map (written_zone (set_names db.sets)) zones in
    let late = flat_map (λ (zone : WrittenZone). late_lines db.sets first_instant zone.lines) rest in
    let knowns = and_parts (known_lines db.sets zone.lines) (list_all (λ (zone : Zone). known_lines db.sets zone.lines) zones) known in
    let ons = and_parts (goes_on here.lines) (all_go_on rest) on in
    and_from (is_sound_zone db zone) (list_all (is_sound_zone db) zones)
    (zone_sound db zone knowns.0 ons.0 (none_of_first (missing_continuation here) (filter_map missing_continuation rest) finished) (none_first (late_lines db.sets first_instant here.lines) late timely))
    (zones_sound db zones knowns.1 ons.1 (none_of_rest (missing_continuation here) (filter_map missing_continuation rest) finished) (none_second (late_lines db.sets first_instant here.lines) late timely))

-- ---- lines go on as they are written

until_some : (until : Option Until) → is_some (option_map written_until until) ≡ is_some until
until_some None = refl
until_some (Some until) = refl

lines_go_on : (names : List (List ℕ)) (lines : List ZoneLine) → goes_on (map (written_line names) lines) ≡ are_continued lines
lines_go_on names [] = refl
lines_go_on names (line ∷ []) = refl
lines_go_on names (line ∷ next ∷ lines) =
    rw (until_some line.until, lines_go_on names (next ∷ lines)) refl

pub zones_go_on : (names : List (List ℕ)) (zones : List Zone) → IsTrue (list_all (λ (zone : Zone). are_continued zone.lines) zones) → IsTrue (all_go_on (map (written_zone names) zones))
zones_go_on names [] continued = refl
zones_go_on names (zone ∷ zones) continued =
    let both = and_parts (are_continued zone.lines) (list_all (λ (zone : Zone). are_continued zone.lines) zones) continued in
    and_from (goes_on (map (written_line names) zone.lines)) (all_go_on (map (written_zone names) zones)) (rw (lines_go_on names zone.lines) both.0) (zones_go_on names zones both.1)

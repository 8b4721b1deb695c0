-- The zone that was begun last, and its last line.
use Rattle.std.proofs.Common.{◌≡◌, ℕ, zero, suc, ◌+◌, ◌-◌, ◌<◌, ◌≤◌, Bool, true, false, nat_le, IsTrue, List, [], ◌∷◌, ◌++◌, length, map, get_or, set, Option, Some, None, is_some, option_map, Result, Ok, Err, refl, sym, ap, ◌∙◌, arith}
use Rattle.std.proofs.lemmas.Bool.{and_parts, and_from}
use Rattle.std.proofs.lemmas.Bool.Decides.{nat_tests}
use Rattle.std.proofs.lemmas.Option.{same_Some, slice_get-get_or}
use Rattle.std.specs.Result.{OnOk, OnErr}
use Rattle.std.specs.List.{last_or, list_all, slice_get}
use Rattle.std.proofs.lemmas.List.{length-map, length-append, map-append}
use Rattle.std.proofs.lemmas.List.Folds.{list_all-append, list_all-map}
use Rattle.tz_types.specs.declared.limit.TheConstants.{MOST_ZONE_LINES}
use Rattle.tz_types.specs.declared.until.Until.{Until}
use Rattle.tz_types.specs.declared.zone_line.ZoneLine.{ZoneLine}
use Rattle.tz_types.specs.declared.zone.Zone.{Zone}
use Rattle.tz_types.specs.declared.link.Link.{Link}
use Rattle.tz_specs.specs.Written.{WrittenZone, written_until, written_line, written_zone, written_link}
use Rattle.tz_specs.specs.Contents.{Contents, last_lines, wants_line, with_line}
use Rattle.tz_database.specs.Continued.{are_continued}
use Rattle.tz_database.proofs.LastLines.{last_at, last_is, until_some}
use Rattle.tz_lines.specs.declared.rule_sets.RuleSets.{RuleSets}
use Rattle.tz_lines.specs.Gathered.{sets_gathered}
use Rattle.tz_lines.specs.LastZone.{names_of_zones, lines_of_zones, with_last_line, HasRoom}

-- the contents of sets and links as they stand, and of zones as they are written
abbrev pub contents_by : Bool → RuleSets → List Link → List WrittenZone → Contents
contents_by begun sets links zones =
    record { sets = sets_gathered sets; zones = zones; links = map written_link links; begun = begun }

last_lines_of : (names : List (List ℕ)) (zones : List Zone) (zone : Zone) → Some zone ≡ slice_get zones (length zones - 1) → last_lines (map (written_zone names) zones) ≡ map (written_line names) zone.lines
last_lines_of names zones zone e = rw (last_is (written_zone names) zones zone e) refl

pub waits_by_line : (names : List (List ℕ)) (zones : List Zone) (zone : Zone) (line : ZoneLine) → Some zone ≡ slice_get zones (length zones - 1) → Some line ≡ slice_get zone.lines (length zone.lines - 1) → is_some line.until ≡ wants_line (last_lines (map (written_zone names) zones))
waits_by_line names zones zone line e h =
    rw (last_lines_of names zones zone e) (rw (last_is (written_line names) zone.lines line h) (until_some line.until))

pub full_by_lines : (names : List (List ℕ)) (zones : List Zone) (zone : Zone) → Some zone ≡ slice_get zones (length zones - 1) → nat_le MOST_ZONE_LINES (length zone.lines) ≡ nat_le MOST_ZONE_LINES (length (last_lines (map (written_zone names) zones)))
full_by_lines names zones zone e =
    rw (last_lines_of names zones zone e) (rw (length-map zone.lines (written_line names)) refl)

-- with one more line, where the last is lent and written back

pub names_set : (zones : List Zone) (place : ℕ) (old new : Zone) → place < length zones → old ≡ get_or zones place old → new.name ≡ old.name → names_of_zones (set zones place new) ≡ names_of_zones zones
names_set [] place old new within is named = absurd (omega arith)
names_set (zone ∷ zones) zero old new within is named =
    ap (λ (name : List ℕ). name ∷ names_of_zones zones) (named ∙ ap (λ (it : Zone). it.name) is)
names_set (zone ∷ zones) (suc place) old new within is named =
    ap (λ (names : List (List ℕ)). zone.name ∷ names) (names_set zones place old new (omega arith) is named)

pub lines_set : (zones : List Zone) (place : ℕ) (old new : Zone) → place < length zones → old ≡ get_or zones place old → new.lines ≡ old.lines → lines_of_zones (set zones place new) ≡ lines_of_zones zones
lines_set [] place old new within is same = absurd (omega arith)
lines_set (zone ∷ zones) zero old new within is same =
    ap (λ (lines : List ZoneLine). lines ∷ lines_of_zones zones) (same ∙ ap (λ (it : Zone). it.lines) is)
lines_set (zone ∷ zones) (suc place) old new within is same =
    ap (λ (others : List (List ZoneLine)). zone.lines ∷ others) (lines_set zones place old new (omega arith) is same)

pub added_line : (zones : List Zone) (line : ZoneLine) (place : ℕ) (old new : Zone) → place + 1 ≡ length zones → old ≡ get_or zones place old → new.lines ≡ old.lines ++ line ∷ [] → lines_of_zones (set zones place new) ≡ with_last_line line (lines_of_zones zones)
added_line [] line place old new last is more = absurd (omega arith)
added_line (zone ∷ []) line place old new last is more =
    let none : place ≡ 0 = omega arith in
    let first : old ≡ zone = rw none at is in
    let lines : new.lines ≡ zone.lines ++ line ∷ [] = more ∙ ap (λ (it : Zone). it.lines ++ line ∷ []) first in
    rw none (ap (λ (it : List ZoneLine). it ∷ []) lines)
added_line (zone ∷ next ∷ zones) line zero old new last is more = absurd (omega arith)
added_line (zone ∷ next ∷ zones) line (suc place) old new last is more =
    ap (λ (others : List (List ZoneLine)). zone.lines ∷ others) (added_line (next ∷ zones) line place old new (omega arith) is more)

-- what a push leaves, whether it found memory or not

pub still_some_line : {A E : Type 0} (told : Result A E) (olds news : List ZoneLine) (line : ZoneLine) → OnOk told (news ≡ olds ++ line ∷ []) → OnErr told (news ≡ olds) → 1 ≤ length olds → 1 ≤ length news
still_some_line (Ok done) olds news line ok err some = rw ok (rw (length-append olds (line ∷ [])) (omega arith))
still_some_line (Err error) olds news line ok err some = rw err some

pub still_few_lines : {A E : Type 0} (told : Result A E) (olds news : List ZoneLine) (line : ZoneLine) → OnOk told (news ≡ olds ++ line ∷ []) → OnErr told (news ≡ olds) → length olds < MOST_ZONE_LINES → length news ≤ MOST_ZONE_LINES
still_few_lines (Ok done) olds news line ok err room = rw ok (rw (length-append olds (line ∷ [])) (omega arith))
still_few_lines (Err error) olds news line ok err room = rw err (omega arith)

-- the room of the last zone
pub room_of_last : (zones : List Zone) (zone : Zone) → 0 < length zones → zone ≡ get_or zones (length zones - 1) zone → HasRoom zones → length zone.lines < MOST_ZONE_LINES
room_of_last zones zone some is room =
    let last : last_or None zones ≡ Some zone = sym (last_at zones) ∙ slice_get-get_or zones (length zones - 1) zone (omega arith) ∙ ap Some (sym is) in
    rw last at room

-- there are as many zones as names
pub as_many : (olds news : List Zone) → names_of_zones news ≡ names_of_zones olds → length news ≡ length olds
as_many olds news named =
    sym (length-map news (λ (it : Zone). it.name)) ∙ ap length named ∙ length-map olds (λ (it : Zone). it.name)

-- a zone is written by its name and its lines

one_more : (names : List (List ℕ)) (line : ZoneLine) (old new : Zone) → new.name ≡ old.name → new.lines ≡ old.lines ++ line ∷ [] → map (written_zone names) (new ∷ []) ≡ with_line (written_line names line) (map (written_zone names) (old ∷ []))
one_more names line old new named more =
    rw (named, more, map-append (written_line names) old.lines (line ∷ [])) refl

as_before : (names : List (List ℕ)) (old new : Zone) → new.name ≡ old.name → new.lines ≡ old.lines → written_zone names new ≡ written_zone names old
as_before names old new named same = rw (named, same) refl

pub written_with_line : (names : List (List ℕ)) (line : ZoneLine) (olds news : List Zone) → names_of_zones news ≡ names_of_zones olds → lines_of_zones news ≡ with_last_line line (lines_of_zones olds) → map (written_zone names) news ≡ with_line (written_line names line) (map (written_zone names) olds)
written_with_line names line [] [] named more = refl
written_with_line names line [] (new ∷ news) named more = cc
written_with_line names line (old ∷ []) [] named more = cc
written_with_line names line (old ∷ []) (new ∷ []) named more =
    let name : new.name ≡ old.name = cc in
    let lines : new.lines ≡ old.lines ++ line ∷ [] = cc in
    one_more names line old new name lines
written_with_line names line (old ∷ []) (new ∷ next ∷ news) named more = cc
written_with_line names line (old ∷ later ∷ olds) [] named more = cc
written_with_line names line (old ∷ later ∷ olds) (new ∷ news) named more =
    let name : new.name ≡ old.name = cc in
    let lines : new.lines ≡ old.lines = cc in
    let names_behind : names_of_zones news ≡ names_of_zones (later ∷ olds) = cc in
    let lines_behind : lines_of_zones news ≡ with_last_line line (lines_of_zones (later ∷ olds)) = cc in
    let head = as_before names old new name lines in
    let tail = written_with_line names line (later ∷ olds) news names_behind lines_behind in
    rw (head, tail) refl

-- what holds of the lines of all zones still does

by_lines : (p : List ZoneLine → Bool) (zones : List Zone) → list_all p (lines_of_zones zones) ≡ list_all (λ (zone : Zone). p zone.lines) zones
by_lines p zones = list_all-map p (λ (zone : Zone). zone.lines) zones

all_kept : (p : List ZoneLine → Bool) (olds news : List Zone) → lines_of_zones news ≡ lines_of_zones olds → IsTrue (list_all (λ (zone : Zone). p zone.lines) olds) → IsTrue (list_all (λ (zone : Zone). p zone.lines) news)
all_kept p olds news same all = sym (by_lines p news) ∙ ap (list_all p) same ∙ by_lines p olds ∙ all

-- also with one more line of the last zone, where it then holds of those

last_with : (p : List ZoneLine → Bool) (line : ZoneLine) (olds : List (List ZoneLine)) → IsTrue (list_all p olds) → ((lines : List ZoneLine) → last_or None olds ≡ Some lines → IsTrue (p lines) → IsTrue (p (lines ++ line ∷ []))) → IsTrue (list_all p (with_last_line line olds))
last_with p line [] all more = refl
last_with p line (lines ∷ []) all more =
    and_from (p (lines ++ line ∷ [])) true (more lines refl (and_parts (p lines) true all).0) refl
last_with p line (lines ∷ next ∷ others) all more =
    let parts = and_parts (p lines) (list_all p (next ∷ others)) all in
    and_from (p lines) (list_all p (with_last_line line (next ∷ others))) parts.0 (last_with p line (next ∷ others) parts.1 more)

all_with : (p : List ZoneLine → Bool) (line : ZoneLine) (olds news : List Zone) → lines_of_zones news ≡ with_last_line line (lines_of_zones olds) → IsTrue (list_all (λ (zone : Zone). p zone.lines) olds) → ((lines : List ZoneLine) → last_or None (lines_of_zones olds) ≡ Some lines → IsTrue (p lines) → IsTrue (p (lines ++ line ∷ []))) → IsTrue (list_all (λ (zone : Zone). p zone.lines) news)
all_with p line olds news is all more =
    sym (by_lines p news) ∙ ap (list_all p) is ∙ last_with p line (lines_of_zones olds) (by_lines p olds ∙ all) more

all_lines_with : (p : ZoneLine → Bool) (line : ZoneLine) (olds news : List Zone) → lines_of_zones news ≡ with_last_line line (lines_of_zones olds) → IsTrue (list_all (λ (zone : Zone). list_all p zone.lines) olds) → IsTrue (p line) → IsTrue (list_all (λ (zone : Zone). list_all p zone.lines) news)
all_lines_with p line olds news is all here =
    all_with (list_all p) line olds news is all (λ lines e h. list_all-append p lines (line ∷ []) ∙ and_from (list_all p lines) (list_all p (line ∷ [])) h (and_from (p line) true here refl))

-- a zone with one more line, which its last line waited for

continued_pushed : (names : List (List ℕ)) (lines : List ZoneLine) (line : ZoneLine) → are_continued lines ≡ true → wants_line (map (written_line names) lines) ≡ true → are_continued (lines ++ line ∷ []) ≡ true
continued_pushed names [] line h waits = cc
continued_pushed names (first ∷ []) line h waits =
    let some : is_some first.until ≡ true = until_some first.until ∙ waits in
    rw some refl
continued_pushed names (first ∷ next ∷ lines) line h waits =
    let parts = and_parts (is_some first.until) (are_continued (next ∷ lines)) h in
    rw parts.0 (continued_pushed names (next ∷ lines) line parts.1 waits)

last_written : (names : List (List ℕ)) (zones : List Zone) (lines : List ZoneLine) → last_or None (lines_of_zones zones) ≡ Some lines → last_lines (map (written_zone names) zones) ≡ map (written_line names) lines
last_written names [] lines e = cc
last_written names (zone ∷ []) lines e = ap (map (written_line names)) (same_Some zone.lines lines e)
last_written names (zone ∷ next ∷ zones) lines e = last_written names (next ∷ zones) lines e

continued_with : (names : List (List ℕ)) (line : ZoneLine) (olds news : List Zone) → lines_of_zones news ≡ with_last_line line (lines_of_zones olds) → IsTrue (list_all (λ (zone : Zone). are_continued zone.lines) olds) → IsTrue (wants_line (last_lines (map (written_zone names) olds))) → IsTrue (list_all (λ (zone : Zone). are_continued zone.lines) news)
continued_with names line olds news is all waits =
    all_with are_continued line olds news is all (λ lines e h. continued_pushed names lines line h (ap wants_line (sym (last_written names olds lines e)) ∙ waits))

-- what holds after a line was added, or wasn't

pub still_named : {A E : Type 0} (told : Result A E) (p : ZoneLine → Bool) (line : ZoneLine) (olds news : List Zone) → OnOk told (lines_of_zones news ≡ with_last_line line (lines_of_zones olds)) → OnErr told (lines_of_zones news ≡ lines_of_zones olds) → IsTrue (list_all (λ (zone : Zone). list_all p zone.lines) olds) → IsTrue (p line) → IsTrue (list_all (λ (zone : Zone). list_all p zone.lines) news)
still_named (Ok done) p line olds news ok err all here = all_lines_with p line olds news ok all here
still_named (Err error) p line olds news ok err all here = all_kept (list_all p) olds news err all

pub still_continued : {A E : Type 0} (told : Result A E) (names : List (List ℕ)) (line : ZoneLine) (olds news : List Zone) → OnOk told (lines_of_zones news ≡ with_last_line line (lines_of_zones olds)) → OnErr told (lines_of_zones news ≡ lines_of_zones olds) → IsTrue (list_all (λ (zone : Zone). are_continued zone.lines) olds) → IsTrue (wants_line (last_lines (map (written_zone names) olds))) → IsTrue (list_all (λ (zone : Zone). are_continued zone.lines) news)
still_continued (Ok done) names line olds news ok err all waits = continued_with names line olds news ok all waits
still_continued (Err error) names line olds news ok err all waits = all_kept are_continued olds news err all

-- a zone that isn't full has room
pub has_room : (names : List (List ℕ)) (zones : List Zone) → nat_le MOST_ZONE_LINES (length (last_lines (map (written_zone names) zones))) ≡ false → HasRoom zones
has_room names [] fits = tt
has_room names (zone ∷ []) fits =
    let count : length (map (written_line names) zone.lines) ≡ length zone.lines = length-map zone.lines (written_line names) in
    room (length zone.lines) (rw count at fits)
  where
    room : (count : ℕ) → nat_le MOST_ZONE_LINES count ≡ false → count < MOST_ZONE_LINES
    room count fits = grind (arith, nat_tests)
has_room names (zone ∷ next ∷ zones) fits = has_room names (next ∷ zones) fits

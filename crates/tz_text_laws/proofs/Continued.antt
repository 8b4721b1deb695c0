-- What files give has zones that go on: each line but the last has an UNTIL, and there are 1 to 255 lines.
use Rattle.std.proofs.Common.{◌≡◌, ℕ, ◌+◌, Bool, true, false, not, ◌&&◌, nat_le, IsTrue, List, [], ◌∷◌, ◌++◌, length, Option, Some, None, is_some, Result, Ok, Err, refl, sym, ◌∙◌, arith, subst, length-append}
use Rattle.std.specs.List.{list_all}
use Rattle.std.proofs.lemmas.Bool.{and_parts, and_from}
use Rattle.std.proofs.lemmas.Bool.Decides.{nat_tests}
use Rattle.std.proofs.lemmas.List.Folds.{list_all-append}
use Rattle.tz_types.specs.declared.limit.TheConstants.{MOST_ZONE_LINES}
use Rattle.tz_types.specs.declared.cause.Cause.{Cause}
use Rattle.tz_types.specs.declared.fault.LineFault.{LineFault}
use Rattle.tz_specs.specs.Line.{lines_of}
use Rattle.tz_specs.specs.Written.{WrittenLine, WrittenZone, Record, RuleRecord, ZoneRecord, Continuation, LinkRecord}
use Rattle.tz_specs.specs.Contents.{Contents, last_lines, wants_line, waits, exceeds_lines, with_line, with_record, no_contents, at_end_of_file, line_says, contents_after, contents_over, contents_of}
use Rattle.tz_database.proofs.ZoneTime.{goes_on}
use Rattle.tz_lines.specs.RecordOrder.{are_before}
use Rattle.tz_lines.proofs.Records.{Follows, follows, still_before}
use Rattle.tz_lines.proofs.GatheredLines.{given_by, after_line, after_all, files_after, after_file, over_all, files_from_none}

-- each line but the last has an UNTIL, and there is a line, and at most 255
abbrev pub is_whole : WrittenZone → Bool
is_whole zone = goes_on zone.lines && nat_le (length zone.lines) MOST_ZONE_LINES

abbrev pub are_whole : List WrittenZone → Bool
are_whole zones = list_all is_whole zones

goes_on_more : (lines : List WrittenLine) (line : WrittenLine) → IsTrue (goes_on lines) → IsTrue (wants_line lines) → IsTrue (goes_on (lines ++ line ∷ []))
goes_on_more [] line on wants = cc
goes_on_more (first ∷ []) line on wants = and_from (is_some first.until) true wants refl
goes_on_more (first ∷ next ∷ lines) line on wants =
    let both = and_parts (is_some first.until) (goes_on (next ∷ lines)) on in
    and_from (is_some first.until) (goes_on ((next ∷ lines) ++ line ∷ [])) both.0 (goes_on_more (next ∷ lines) line both.1 wants)

one_more : (count more : ℕ) → more ≡ count + 1 → nat_le MOST_ZONE_LINES count ≡ false → IsTrue (nat_le more MOST_ZONE_LINES)
one_more count more is room = grind (arith, nat_tests)

whole_more : (zone : WrittenZone) (line : WrittenLine) → IsTrue (is_whole zone) → IsTrue (wants_line zone.lines) → nat_le MOST_ZONE_LINES (length zone.lines) ≡ false → IsTrue (is_whole (record { name = zone.name; lines = zone.lines ++ line ∷ [] }))
whole_more zone line whole wants room =
    let both = and_parts (goes_on zone.lines) (nat_le (length zone.lines) MOST_ZONE_LINES) whole in
    let count = length-append zone.lines (line ∷ []) in
    and_from (goes_on (zone.lines ++ line ∷ [])) (nat_le (length (zone.lines ++ line ∷ [])) MOST_ZONE_LINES) (goes_on_more zone.lines line both.0 wants) (one_more (length zone.lines) (length (zone.lines ++ line ∷ [])) count room)

with_line_whole : (zones : List WrittenZone) (line : WrittenLine) → IsTrue (are_whole zones) → IsTrue (wants_line (last_lines zones)) → nat_le MOST_ZONE_LINES (length (last_lines zones)) ≡ false → IsTrue (are_whole (with_line line zones))
with_line_whole [] line whole wants room = refl
with_line_whole (zone ∷ []) line whole wants room =
    let both = and_parts (is_whole zone) true whole in
    and_from (is_whole (record { name = zone.name; lines = zone.lines ++ line ∷ [] })) true (whole_more zone line both.0 wants room) refl
with_line_whole (zone ∷ next ∷ zones) line whole wants room =
    let both = and_parts (is_whole zone) (are_whole (next ∷ zones)) whole in
    and_from (is_whole zone) (are_whole (with_line line (next ∷ zones))) both.0 (with_line_whole (next ∷ zones) line both.1 wants room)

is_false : (test : Bool) → IsTrue (not test) → test ≡ false
is_false true h = cc
is_false false h = refl

said_whole : (number : ℕ) (contents : Contents) (said : Record) → Follows contents number said → IsTrue (are_whole contents.zones) → IsTrue (are_whole (with_record said contents).zones)
said_whole number contents (RuleRecord name rule) it whole = whole
said_whole number contents (ZoneRecord name line) it whole =
    list_all-append is_whole contents.zones (record { name = name; lines = line ∷ [] } ∷ []) ∙ and_from (are_whole contents.zones) true whole refl
said_whole number contents (Continuation line) it whole =
    let both = and_parts (waits contents) (not (exceeds_lines contents)) it.may in
    let wants = (and_parts contents.begun (wants_line (last_lines contents.zones)) both.0).1 in
    with_line_whole contents.zones line whole wants (is_false (exceeds_lines contents) both.1)
said_whole number contents (LinkRecord link) it whole = whole

-- what holds of the contents before a line
record Holds (number : ℕ) (contents : Contents) : Type 0 where
  whole : IsTrue (are_whole contents.zones)
  before : IsTrue (are_before number contents.sets)

by_line : (contents final : Contents) (number last : ℕ) (line : List ℕ) (lines : List (List ℕ)) (said : Result (Option Record) Cause) → line_says contents number line ≡ said → given_by contents number lines said ≡ Ok final → Holds number contents → ((next : Contents) → contents_after next (number + 1) lines ≡ Ok final → Holds (number + 1) next → Holds last final) → Holds last final
by_line contents final number last line lines (Ok None) e given h next =
    next contents given (record { whole = h.whole; before = still_before number contents.sets h.before })
by_line contents final number last line lines (Ok (Some said)) e given h next =
    let it = follows contents number line said e h.before in
    next (with_record said contents) given (record { whole = said_whole number contents said it h.whole; before = it.before })
by_line contents final number last line lines (Err cause) e given h next = cc

lines_hold : (contents final : Contents) (number : ℕ) (lines : List (List ℕ)) → contents_after contents number lines ≡ Ok final → Holds number contents → Holds (number + length lines) final
lines_hold contents final number [] given h =
    let same : contents ≡ final = cc (after_all contents number) in
    let count : number ≡ number + 0 = omega arith in
    subst (λ it. Holds it final) count (subst (Holds number) same h)
lines_hold contents final number (line ∷ lines) given h =
    let count : number + 1 + length lines ≡ number + length (line ∷ lines) = omega arith in
    by_line contents final number (number + length (line ∷ lines)) line lines (line_says contents number line) refl (sym (after_line contents number line lines) ∙ given) h (λ next given holds. subst (λ it. Holds it final) count (lines_hold next final (number + 1) lines given holds))

by_file : (number : ℕ) (files : List (List ℕ)) (final : Contents) (outcome : Result Contents LineFault) → ((after : Contents) → outcome ≡ Ok after → Holds number after) → ((next : Contents) → contents_over next number files ≡ Ok final → Holds number next → IsTrue (are_whole final.zones)) → files_after number files outcome ≡ Ok final → IsTrue (are_whole final.zones)
by_file number files final (Ok after) holds next given =
    let it = holds after refl in
    next (at_end_of_file after) given (record { whole = it.whole; before = it.before })
by_file number files final (Err fault) holds next given = cc

over_whole : (contents final : Contents) (number : ℕ) (files : List (List ℕ)) → contents_over contents number files ≡ Ok final → Holds number contents → IsTrue (are_whole final.zones)
over_whole contents final number [] given h =
    let same : contents ≡ final = cc (over_all contents number) in
    subst (λ (it : Contents). IsTrue (are_whole it.zones)) same h.whole
over_whole contents final number (file ∷ files) given h =
    by_file (number + length (lines_of file)) files final (contents_after contents number (lines_of file)) (λ after is. lines_hold contents after number (lines_of file) is h) (λ next. over_whole next final (number + length (lines_of file)) files) (sym (after_file contents number file files) ∙ given)

-- the zones that files give
pub zones_whole : (files : List (List ℕ)) (contents : Contents) → contents_of files ≡ Ok contents → IsTrue (are_whole contents.zones)
zones_whole files contents given =
    over_whole no_contents contents 1 files (sym (files_from_none files) ∙ given) (record { whole = refl; before = refl })

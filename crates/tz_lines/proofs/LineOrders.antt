-- The zones of a text begin one after another, and its links stand one after another.
use Rattle.std.proofs.Common.{◌≡◌, ℕ, ◌+◌, true, not, ◌&&◌, nat_lt, IsTrue, List, [], ◌∷◌, ◌++◌, length, map, Option, Some, None, Result, Ok, Err, refl, sym, ap, ◌∙◌, arith, subst}
use Rattle.std.specs.List.{cons_option, filter_map}
use Rattle.std.proofs.lemmas.Bool.{and_parts, and_from}
use Rattle.std.proofs.lemmas.Bool.Decides.{nat_tests}
use Rattle.std.proofs.lemmas.List.{map-append}
use Rattle.tz_types.specs.Order.{ascends, ascends_after}
use Rattle.tz_types.specs.declared.cause.Cause.{Cause}
use Rattle.tz_types.specs.declared.fault.LineFault.{LineFault}
use Rattle.tz_specs.specs.Line.{lines_of}
use Rattle.tz_specs.specs.Written.{WrittenLine, WrittenZone, WrittenLink, Record, RuleRecord, ZoneRecord, Continuation, LinkRecord}
use Rattle.tz_specs.specs.Contents.{Contents, wants_line, last_lines, waits, exceeds_lines, with_line, with_record, no_contents, at_end_of_file, line_says, contents_after, contents_over, contents_of}
use Rattle.tz_specs.specs.Whole.{zone_name}
use Rattle.tz_database.specs.LineOrder.{begin_in_order, link_in_order}
use Rattle.tz_lines.specs.RecordOrder.{are_before}
use Rattle.tz_lines.proofs.Records.{Follows, follows, still_before}
use Rattle.tz_lines.proofs.GatheredLines.{given_by, after_line, after_all, files_after, after_file, over_all, files_from_none}

-- the lines at which zones begin
abbrev begins : List WrittenZone → List ℕ
begins zones = map (λ named. named.1) (filter_map zone_name zones)

-- behind one zone

begins_pushed : (named : Option (List ℕ × ℕ)) (later more : List (List ℕ × ℕ)) (number : ℕ) → map (λ (it : List ℕ × ℕ). it.1) more ≡ map (λ (it : List ℕ × ℕ). it.1) later ++ number ∷ [] → map (λ (it : List ℕ × ℕ). it.1) (cons_option named more) ≡ map (λ (it : List ℕ × ℕ). it.1) (cons_option named later) ++ number ∷ []
begins_pushed None later more number e = e
begins_pushed (Some named) later more number e = ap (λ (numbers : List ℕ). named.1 ∷ numbers) e

begins_same : (named : Option (List ℕ × ℕ)) (later more : List (List ℕ × ℕ)) → map (λ (it : List ℕ × ℕ). it.1) more ≡ map (λ (it : List ℕ × ℕ). it.1) later → map (λ (it : List ℕ × ℕ). it.1) (cons_option named more) ≡ map (λ (it : List ℕ × ℕ). it.1) (cons_option named later)
begins_same None later more e = e
begins_same (Some named) later more e = ap (λ (numbers : List ℕ). named.1 ∷ numbers) e

-- one more zone
zone_begun : (zones : List WrittenZone) (name : List ℕ) (line : WrittenLine) → begins (zones ++ record { name = name; lines = line ∷ [] } ∷ []) ≡ begins zones ++ line.line ∷ []
zone_begun [] name line = refl
zone_begun (zone ∷ zones) name line =
    begins_pushed (zone_name zone) (filter_map zone_name zones) (filter_map zone_name (zones ++ record { name = name; lines = line ∷ [] } ∷ [])) line.line (zone_begun zones name line)

still_named : (name : List ℕ) (lines : List WrittenLine) (line : WrittenLine) → wants_line lines ≡ true → zone_name (record { name = name; lines = lines ++ line ∷ [] }) ≡ zone_name (record { name = name; lines = lines })
still_named name [] line waiting = cc
still_named name (first ∷ lines) line waiting = refl

-- one more line of the last zone
zone_continued : (zones : List WrittenZone) (line : WrittenLine) → wants_line (last_lines zones) ≡ true → begins (with_line line zones) ≡ begins zones
zone_continued [] line waiting = refl
zone_continued (zone ∷ []) line waiting = rw (still_named zone.name zone.lines line waiting) refl
zone_continued (zone ∷ next ∷ zones) line waiting =
    begins_same (zone_name zone) (filter_map zone_name (next ∷ zones)) (filter_map zone_name (with_line line (next ∷ zones))) (zone_continued (next ∷ zones) line waiting)

-- numbers that ascend to a last one

before_after : (low : ℕ) (numbers : List ℕ) (last : ℕ) → ascends_after nat_lt low (numbers ++ last ∷ []) ≡ true → ascends_after nat_lt low numbers ≡ true
before_after low [] last h = refl
before_after low (number ∷ numbers) last h =
    let parts = and_parts (nat_lt low number) (ascends_after nat_lt number (numbers ++ last ∷ [])) h in
    and_from (nat_lt low number) (ascends_after nat_lt number numbers) parts.0 (before_after number numbers last parts.1)

before_last : (numbers : List ℕ) (last : ℕ) → ascends nat_lt (numbers ++ last ∷ []) ≡ true → ascends nat_lt numbers ≡ true
before_last [] last h = refl
before_last (number ∷ numbers) last h = before_after number numbers last h

later_after : (low : ℕ) (numbers : List ℕ) (last : ℕ) → ascends_after nat_lt low (numbers ++ last ∷ []) ≡ true → ascends_after nat_lt low (numbers ++ (last + 1) ∷ []) ≡ true
later_after low [] last h =
    let below = (and_parts (nat_lt low last) true h).0 in
    and_from (nat_lt low (last + 1)) true (grind (arith, nat_tests)) refl
later_after low (number ∷ numbers) last h =
    let parts = and_parts (nat_lt low number) (ascends_after nat_lt number (numbers ++ last ∷ [])) h in
    and_from (nat_lt low number) (ascends_after nat_lt number (numbers ++ (last + 1) ∷ [])) parts.0 (later_after number numbers last parts.1)

later_last : (numbers : List ℕ) (last : ℕ) → ascends nat_lt (numbers ++ last ∷ []) ≡ true → ascends nat_lt (numbers ++ (last + 1) ∷ []) ≡ true
later_last [] last h = refl
later_last (number ∷ numbers) last h = later_after number numbers last h

next_after : (low : ℕ) (numbers : List ℕ) (last : ℕ) → ascends_after nat_lt low (numbers ++ last ∷ []) ≡ true → ascends_after nat_lt low ((numbers ++ last ∷ []) ++ (last + 1) ∷ []) ≡ true
next_after low [] last h =
    let next : nat_lt last (last + 1) ≡ true = grind (arith, nat_tests) in
    and_from (nat_lt low last) (nat_lt last (last + 1) && true) (and_parts (nat_lt low last) true h).0 (and_from (nat_lt last (last + 1)) true next refl)
next_after low (number ∷ numbers) last h =
    let parts = and_parts (nat_lt low number) (ascends_after nat_lt number (numbers ++ last ∷ [])) h in
    and_from (nat_lt low number) (ascends_after nat_lt number ((numbers ++ last ∷ []) ++ (last + 1) ∷ [])) parts.0 (next_after number numbers last parts.1)

next_last : (numbers : List ℕ) (last : ℕ) → ascends nat_lt (numbers ++ last ∷ []) ≡ true → ascends nat_lt ((numbers ++ last ∷ []) ++ (last + 1) ∷ []) ≡ true
next_last [] last h =
    let next : nat_lt last (last + 1) ≡ true = grind (arith, nat_tests) in
    and_from (nat_lt last (last + 1)) true next refl
next_last (number ∷ numbers) last h = next_after number numbers last h

-- the lines at which links stand
abbrev links_at : List WrittenLink → List ℕ
links_at links = map (λ (link : WrittenLink). link.line) links

link_pushed : (links : List WrittenLink) (link : WrittenLink) → links_at (links ++ link ∷ []) ≡ links_at links ++ link.line ∷ []
link_pushed links link = map-append (λ (it : WrittenLink). it.line) links (link ∷ [])

-- all zones begin before a line, one after another, and all links stand before it, one after another
record StandBefore (number : ℕ) (contents : Contents) : Type 0 where
  zones : ascends nat_lt (begins contents.zones ++ number ∷ []) ≡ true
  links : ascends nat_lt (links_at contents.links ++ number ∷ []) ≡ true

-- before the next line too
still_stand : (number : ℕ) (contents : Contents) → StandBefore number contents → StandBefore (number + 1) contents
still_stand number contents h =
    record {
      zones = later_last (begins contents.zones) number h.zones;
      links = later_last (links_at contents.links) number h.links;
    }

said_before : (number : ℕ) (contents : Contents) (said : Record) → Follows contents number said → StandBefore number contents → StandBefore (number + 1) (with_record said contents)
said_before number contents (RuleRecord name rule) follows h =
    record {
      zones = later_last (begins contents.zones) number h.zones;
      links = later_last (links_at contents.links) number h.links;
    }
said_before number contents (ZoneRecord name line) follows h =
    record {
      zones = rw (zone_begun contents.zones name line, follows.stands) (next_last (begins contents.zones) number h.zones);
      links = later_last (links_at contents.links) number h.links;
    }
said_before number contents (Continuation line) follows h =
    let waiting : waits contents ≡ true = (and_parts (waits contents) (not (exceeds_lines contents)) follows.may).0 in
    let wanted = (and_parts contents.begun (wants_line (last_lines contents.zones)) waiting).1 in
    record {
      zones = rw (zone_continued contents.zones line wanted) (later_last (begins contents.zones) number h.zones);
      links = later_last (links_at contents.links) number h.links;
    }
said_before number contents (LinkRecord link) follows h =
    record {
      zones = later_last (begins contents.zones) number h.zones;
      links = rw (link_pushed contents.links link, follows.stands) (next_last (links_at contents.links) number h.links);
    }

-- zones begin and links stand one after another
record InOrder (contents : Contents) : Type 0 where
  zones : ascends nat_lt (begins contents.zones) ≡ true
  links : ascends nat_lt (links_at contents.links) ≡ true

-- all of it before a line: rules, zones and links
record Stand (number : ℕ) (contents : Contents) : Type 0 where
  order : StandBefore number contents
  before : IsTrue (are_before number contents.sets)

by_line : (contents final : Contents) (number last : ℕ) (line : List ℕ) (lines : List (List ℕ)) (said : Result (Option Record) Cause) → line_says contents number line ≡ said → given_by contents number lines said ≡ Ok final → Stand number contents → ((next : Contents) → contents_after next (number + 1) lines ≡ Ok final → Stand (number + 1) next → Stand last final) → Stand last final
by_line contents final number last line lines (Ok None) e given h next =
    next contents given (record { order = still_stand number contents h.order; before = still_before number contents.sets h.before })
by_line contents final number last line lines (Ok (Some said)) e given h next =
    let it = follows contents number line said e h.before in
    next (with_record said contents) given (record { order = said_before number contents said it h.order; before = it.before })
by_line contents final number last line lines (Err cause) e given h next = cc

-- the lines of a file keep the order
file_stands : (contents final : Contents) (number : ℕ) (lines : List (List ℕ)) → contents_after contents number lines ≡ Ok final → Stand number contents → Stand (number + length lines) final
file_stands contents final number [] given h =
    let same : contents ≡ final = cc (after_all contents number) in
    let count : number ≡ number + 0 = omega arith in
    subst (λ it. Stand it final) count (subst (Stand number) same h)
file_stands contents final number (line ∷ lines) given h =
    let count : number + 1 + length lines ≡ number + length (line ∷ lines) = omega arith in
    by_line contents final number (number + length (line ∷ lines)) line lines (line_says contents number line) refl (sym (after_line contents number line lines) ∙ given) h (λ next given stands. subst (λ it. Stand it final) count (file_stands next final (number + 1) lines given stands))

-- the end of a file moves nothing
ended : (number : ℕ) (contents : Contents) → Stand number contents → Stand number (at_end_of_file contents)
ended number contents h =
    record { order = record { zones = h.order.zones; links = h.order.links }; before = h.before }

by_file : (number : ℕ) (files : List (List ℕ)) (final : Contents) (outcome : Result Contents LineFault) → ((after : Contents) → outcome ≡ Ok after → Stand number after) → ((next : Contents) → contents_over next number files ≡ Ok final → Stand number next → InOrder final) → files_after number files outcome ≡ Ok final → InOrder final
by_file number files final (Ok after) stands next given = next (at_end_of_file after) given (ended number after (stands after refl))
by_file number files final (Err fault) stands next given = cc

in_order : (contents final : Contents) (number : ℕ) (files : List (List ℕ)) → contents_over contents number files ≡ Ok final → Stand number contents → InOrder final
in_order contents final number [] given h =
    let same : contents ≡ final = cc (over_all contents number) in
    record {
      zones = rw (← same) (before_last (begins contents.zones) number h.order.zones);
      links = rw (← same) (before_last (links_at contents.links) number h.order.links);
    }
in_order contents final number (file ∷ files) given h =
    by_file (number + length (lines_of file)) files final (contents_after contents number (lines_of file)) (λ after is. file_stands contents after number (lines_of file) is h) (λ next. in_order next final (number + length (lines_of file)) files) (sym (after_file contents number file files) ∙ given)

files_in_order : (files : List (List ℕ)) (contents : Contents) → contents_of files ≡ Ok contents → InOrder contents
files_in_order files contents given =
    in_order no_contents contents 1 files (sym (files_from_none files) ∙ given) (record { order = record { zones = refl; links = refl }; before = refl })

-- of files

pub zones_in_order : (files : List (List ℕ)) (contents : Contents) → contents_of files ≡ Ok contents → IsTrue (begin_in_order contents)
zones_in_order files contents given = (files_in_order files contents given).zones

pub links_in_order : (files : List (List ℕ)) (contents : Contents) → contents_of files ≡ Ok contents → IsTrue (link_in_order contents)
links_in_order files contents given = (files_in_order files contents given).links

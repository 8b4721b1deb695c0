use Rattle.std.proofs.Common.{◌≤◌, length, map, IsTrue, sym, ap, ◌∙◌}
use Rattle.std.proofs.lemmas.Bool.{and_parts}
use Rattle.tz_types.specs.declared.limit.TheConstants.{MOST_ZONES}
use Rattle.tz_types.specs.declared.zone_line.ZoneLine.{ZoneLine}
use Rattle.tz_specs.specs.Written.{WrittenLine, Continuation, written_zone}
use Rattle.tz_specs.specs.Contents.{with_line, with_record, last_lines, wants_line, waits, exceeds_lines}
use Rattle.tz_records.specs.Entry.{written_entry_line}
use Rattle.tz_database.specs.Continued.{is_named_by}
use Rattle.tz_lines.specs.Gathered.{contents_gathered}
use Rattle.tz_lines.proofs.LastZone.{as_many, has_room, still_named, still_continued, written_with_line, contents_by}
use Rattle.tz_lines.proofs.contents.Gathered.continue_zone.Goals as goal

pub continue_last-requires : goal.continue_last-requires
continue_last-requires c =
    let before = c.zone_line.new.self in
    has_room before.names.labels.items before.zones (ap exceeds_lines c.zone_line.ensures.contents ∙ sym c.exceeds_lines.ensures ∙ c.if-exceeds_lines.false)

pub invariant_of-self-clause-few_zones : goal.invariant_of-self-clause-few_zones
invariant_of-self-clause-few_zones c =
    let before = c.zone_line.new.self in
    let few : length before.zones ≤ MOST_ZONES = before.few_zones in
    rw (as_many before.zones c.continue_last.new.zones c.continue_last.ensures.names) few

pub invariant_of-self-clause-continued : goal.invariant_of-self-clause-continued
invariant_of-self-clause-continued c =
    let before = c.zone_line.new.self in
    let waited : IsTrue (waits (contents_gathered before)) = ap waits c.zone_line.ensures.contents ∙ c.requires.waits in
    let wanted = (and_parts before.begun (wants_line (last_lines (contents_gathered before).zones)) waited).1 in
    still_continued c.continue_last.result before.names.labels.items c.in_ok-line.line before.zones c.continue_last.new.zones c.continue_last.ensures.ok c.continue_last.ensures.err before.continued wanted

pub invariant_of-self-clause-named : goal.invariant_of-self-clause-named
invariant_of-self-clause-named c =
    let before = c.zone_line.new.self in
    still_named c.continue_last.result (λ (it : ZoneLine). is_named_by (length before.names.labels.items) it.rules) c.in_ok-line.line before.zones c.continue_last.new.zones c.continue_last.ensures.ok c.continue_last.ensures.err before.named c.in_ok-line.ensures.named

pub returns-clause-contents : goal.returns-clause-contents
returns-clause-contents c =
    let before = c.zone_line.new.self in
    let names = before.names.labels.items in
    ap (contents_by before.begun before.sets before.links) (written_with_line names c.in_ok-line.line before.zones c.continue_last.new.zones c.continue_last.ensures.names c.in_ok-continue_last.ensures.ok ∙ ap (λ (it : WrittenLine). with_line it (map (written_zone names) before.zones)) c.in_ok-line.ensures.line)
    ∙ ap (with_record (Continuation (written_entry_line c.args.entry))) c.zone_line.ensures.contents

use Rattle.tz_records.proofs.ZoneTextLines.{rule_counted, zone_counted, link_counted, continuation_counted}
use Rattle.tz_records.proofs.line.record_entry.Goals as goal

pub returns-in-Rule : goal.returns-in-Rule
returns-in-Rule c =
    λ before. rw c.in-Rule.is (rule_counted before c.args.number c.args.fields.now.first c.rule_entry.result c.rule_entry.ensures)

pub returns-in-Zone : goal.returns-in-Zone
returns-in-Zone c =
    λ before. rw c.in-Zone.is (zone_counted before c.args.number c.args.fields.now.first c.zone_entry.result c.zone_entry.ensures)

pub returns-in-Link : goal.returns-in-Link
returns-in-Link c =
    λ before. rw c.in-Link.is (link_counted before c.args.number c.args.fields.now.first c.link_entry.result c.link_entry.ensures)

pub returns-in-Continuation : goal.returns-in-Continuation
returns-in-Continuation c =
    λ before. rw c.in-Continuation.is (continuation_counted before c.args.number c.args.fields.now.first c.continuation_entry.result c.continuation_entry.ensures)

use Rattle.std.proofs.Common.{◌≡◌, ◌<◌, true, Some, sym, ap, ◌∙◌, arith}
use Rattle.tz_specs.specs.Record.{kind_of_record, has_count}
use Rattle.tz_records.specs.Kind.{kind_told}
use Rattle.tz_records.proofs.ZoneTextLines.{counted_cause, counted_record}
use Rattle.tz_records.proofs.line.said.Goals as goal

pub returns-in-Ok : goal.returns-in-Ok
returns-in-Ok c = λ before all same e.
    let some : 0 < c.args.fields.now.count = omega arith in
    let kind : kind_of_record c.args.waiting all ≡ Some (kind_told c.in-Some.kind) = sym (c.in-Some.ensures all e) in
    let counted : has_count (kind_told c.in-Some.kind) c.args.fields.now.count ≡ true = rw c.count-2.ensures at (sym c.has_count.ensures ∙ c.if-not-has_count.false) in
    let told = c.in-Ok.ensures before in (
      counted_cause before c.args.waiting all c.args.fields.now (kind_told c.in-Some.kind) same e some kind counted ∙ told.0,
      ap Some (counted_record before c.args.waiting c.args.number all c.args.fields.now (kind_told c.in-Some.kind) same e some kind counted ∙ told.1),
    )

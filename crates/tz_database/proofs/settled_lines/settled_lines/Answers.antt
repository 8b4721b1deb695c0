use Rattle.std.proofs.Common.{get_or, IsTrue, ap, ◌∙◌, arith}
use Rattle.std.proofs.lemmas.List.{length-set}
use Rattle.tz_types.specs.declared.zone_line.ZoneLine.{ZoneLine}
use Rattle.tz_specs.specs.Written.{written_line}
use Rattle.tz_specs.specs.Sound.{is_known}
use Rattle.tz_database.specs.Settled.{has_set}
use Rattle.tz_database.proofs.SettledLines.{same_left, left_after, passes_at, settled_known, settled_more}
use Rattle.tz_database.proofs.settled_lines.settled_lines.Goals as goal

pub settle_line-requires : goal.settle_line-requires
settle_line-requires c =
    let line = c.line-item.result in
    let here = same_left c.loop-line.line-items c.args.lines c.loop-line.line-index line c.loop-line.invariant.left in
    rw here (passes_at (λ (line : ZoneLine). has_set c.args.places.now line.rules) c.args.lines c.loop-line.line-index line c.requires (omega arith))

pub loop-line-preserved : goal.loop-line-preserved
loop-line-preserved c =
    let line = c.line-item.result in
    let items = c.loop-line.line-items in
    let i = c.loop-line.line-index in
    let after = c.settle_line.new.line in
    let here = same_left items c.args.lines i line c.loop-line.invariant.left in
    let has : IsTrue (has_set c.args.places.now (get_or c.args.lines i line).rules) = passes_at (λ (line : ZoneLine). has_set c.args.places.now line.rules) c.args.lines i line c.requires (omega arith) in
    record {
      all = length-set items i after ∙ c.loop-line.invariant.all;
      settled = λ sets names are.
          (let same = c.settle_line.ensures.written sets names are ∙ ap (written_line names) here in
          let known : IsTrue (is_known sets after.rules) = rw (c.settle_line.ensures.rules, here, are) (settled_known sets names (get_or c.args.lines i line).rules (rw are at has)) in
          settled_more sets names c.args.lines items i line after (omega arith) (omega arith) (c.loop-line.invariant.settled sets names are) same known);
      left = left_after items c.args.lines i after c.loop-line.invariant.left;
    }

use Rattle.std.proofs.Common.{sym, ap, ◌∙◌}
use Rattle.tz_specs.specs.Line.{lines_of}
use Rattle.tz_specs.specs.Reads.{version_of_text}
use Rattle.tz_text.proofs.LineCuts.{nothing_left}
use Rattle.tz_lines.proofs.Versions.{version_none, version_first}
use Rattle.tz_lines.proofs.version.version_of_text.Goals as goal

pub returns-then-is_empty : goal.returns-then-is_empty
returns-then-is_empty c =
    c.unknown.ensures ∙ sym (ap version_of_text (nothing_left c.args.text.now c.if-is_empty.ensures) ∙ version_none)

pub returns : goal.returns
returns c =
    c.version_of_line.ensures ∙ sym (version_first c.args.text.now c.next_line.result.0.now (lines_of c.next_line.result.1.now) c.next_line.ensures.lines)

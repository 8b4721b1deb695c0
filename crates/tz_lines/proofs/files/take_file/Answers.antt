use Rattle.std.proofs.Common.{ℕ, ◌+◌, length, sym, ap, ◌∙◌}
use Rattle.tz_specs.specs.Line.{lines_of}
use Rattle.tz_specs.specs.Contents.{Contents, contents_over}
use Rattle.tz_lines.specs.Gathered.{contents_gathered}
use Rattle.tz_lines.specs.RecordOrder.{are_before}
use Rattle.tz_lines.proofs.GatheredLines.{after_read, file_refused}
use Rattle.tz_lines.proofs.files.take_file.Goals as goal

pub returns-in-Ok-clause-ok : goal.returns-in-Ok-clause-ok
returns-in-Ok-clause-ok c =
    let text = c.args.text.now in
    let behind = c.args.number + length (lines_of text) in
    λ files. after_read (contents_gathered c.args.gathered.now) (contents_gathered c.take_lines.new.gathered) c.args.number text files c.in-Ok.ensures.ok
    ∙ ap (λ (it : Contents). contents_over it behind files) (sym c.end_file.ensures.contents)
    ∙ ap (λ (it : ℕ). contents_over (contents_gathered c.end_file.new.self) it files) (sym c.in-Ok.ensures.next)

pub returns-in-Ok-clause-before : goal.returns-in-Ok-clause-before
returns-in-Ok-clause-before c =
    ap (λ (it : Contents). are_before c.in-Ok.next it.sets) c.end_file.ensures.contents ∙ c.in-Ok.ensures.before

pub returns-in-Err-clause-err : goal.returns-in-Err-clause-err
returns-in-Err-clause-err c =
    λ files. file_refused c.in-Err.error (contents_gathered c.args.gathered.now) c.args.number c.args.text.now files c.in-Err.ensures.err

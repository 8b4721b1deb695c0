use Rattle.std.proofs.Common.{ap, sym, ◌∙◌, ◌+◌}
use Rattle.std.proofs.lemmas.List.{take_rest}
use Rattle.tz_text.specs.Marks.{parts_round}
use Rattle.tz_text.proofs.Marks.{parts_placed}
use Rattle.tz_records.proofs.format_field.halves.Goals as goal

pub returns-in-Some : goal.returns-in-Some
returns-in-Some c =
    rw (take_rest c.args.bytes.now (c.in-Some.at + 1)) (parts_placed c.args.mark c.args.bytes.now ∙ ap (λ at. parts_round at c.args.mark c.args.bytes.now) (sym c.in-Some.ensures.value))

pub returns-in-None : goal.returns-in-None
returns-in-None c =
    parts_placed c.args.mark c.args.bytes.now ∙ ap (λ at. parts_round at c.args.mark c.args.bytes.now) (sym c.in-None.ensures.value)

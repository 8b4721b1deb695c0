use Rattle.std.proofs.Common.{Some, None, arith}
use Rattle.std.proofs.lemmas.Str.Pattern.{split_parts}
use Rattle.tz_words.proofs.Parts.{one_name, more_names}
use Rattle.tz_words.proofs.text_word.first_name.Goals as goal

pub returns-in-Some-clause-parts : goal.returns-in-Some-clause-parts
returns-in-Some-clause-parts c =
    let parts = split_parts 0x2c c.args.names.now (Some (c.in-Some.name, c.in-Some.later)) c.in-Some.ensures.cases (omega arith) in
    rw parts.0 (more_names c.in-Some.name.now c.in-Some.later.now parts.1)

pub returns-in-None-clause-parts : goal.returns-in-None-clause-parts
returns-in-None-clause-parts c =
    one_name c.args.names.now (split_parts 0x2c c.args.names.now None c.in-None.ensures.cases (omega arith))

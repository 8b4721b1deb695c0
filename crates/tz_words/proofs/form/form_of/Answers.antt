use Rattle.std.proofs.Common.{rules}
use Rattle.tz_words.proofs.form.form_of.Goals as goal

pub returns-in-None-command_of-clause-none : goal.returns-in-None-command_of-clause-none
returns-in-None-command_of-clause-none c = λ none.
    record { other = c.in-None-command_of.ensures.none (search rules); no_batch = c.in-None.ensures.none (search rules) }

use Rattle.tz_version.proofs.Refusals.{exact_leaps, exact_text, told}
use Rattle.tz_version.proofs.version.Version.read.Goals as goal

pub returns-clause-leaps : goal.returns-clause-leaps
returns-clause-leaps c = λ fault some. exact_leaps c.args.sources.now c.args.src c.of_source.result fault (told c.args.sources.now c.args.src c.of_source.result c.of_source.ensures.ok c.of_source.ensures.refused) some

pub returns-clause-text : goal.returns-clause-text
returns-clause-text c = λ fault some. exact_text c.args.sources.now c.args.src c.of_source.result fault (told c.args.sources.now c.args.src c.of_source.result c.of_source.ensures.ok c.of_source.ensures.refused) some

use Rattle.tz_gen.proofs.SizeLemmas.{texts_size, script_size}
use Rattle.tz_gen.proofs.generated.generate.Goals as goal

pub returns-clause-text_sizes : goal.returns-clause-text_sizes
returns-clause-text_sizes c = texts_size c.args.n c.in_ok-texts.texts c.requires.1 c.in_ok-texts.ensures

pub returns-clause-script_size : goal.returns-clause-script_size
returns-clause-script_size c = rw c.in_ok-script.ensures (script_size c.args.n c.requires.1)

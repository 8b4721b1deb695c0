use Rattle.tz_rules.proofs.LettersLemmas.{letters_found, letters_none}
use Rattle.tz_rules.proofs.letters.letters_uncounted.Goals as goal

pub returns-in-Some : goal.returns-in-Some
returns-in-Some g c =
    let are = letters_found c.args.set.now c.in-Some.found.occurrence c.in-Some.ensures in
    cc

pub returns : goal.returns
returns g c =
    let are = letters_none c.args.set.now c.in-None.ensures in
    cc

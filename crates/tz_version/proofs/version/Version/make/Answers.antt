use Rattle.std.proofs.Common.{◌≡◌, Ok, Err, rules}
use Rattle.tz_version.specs.Release.{IsVersionOf}
use Rattle.tz_version.proofs.Refusals.{exact_leaps, exact_text}
use Rattle.tz_version.proofs.version.Version.make.Goals as goal

pub returns-in-Ok-new-clause-leaps : goal.returns-in-Ok-new-clause-leaps
returns-in-Ok-new-clause-leaps c = λ fault some.
    let same : c.from_arc.result ≡ c.in-Ok.version = search rules in
    let is : IsVersionOf c.args.sources.now c.args.src c.from_arc.result = rw same c.in-Ok.ensures.ok in
    exact_leaps c.args.sources.now c.args.src (Ok c.from_arc.result) fault is some

pub returns-in-Ok-new-clause-text : goal.returns-in-Ok-new-clause-text
returns-in-Ok-new-clause-text c = λ fault some.
    let same : c.from_arc.result ≡ c.in-Ok.version = search rules in
    let is : IsVersionOf c.args.sources.now c.args.src c.from_arc.result = rw same c.in-Ok.ensures.ok in
    exact_text c.args.sources.now c.args.src (Ok c.from_arc.result) fault is some

pub returns-clause-leaps : goal.returns-clause-leaps
returns-clause-leaps c = λ fault some.
    exact_leaps c.args.sources.now c.args.src (Err c.in-Err.error) fault c.in-Err.ensures.refused some

pub returns-clause-text : goal.returns-clause-text
returns-clause-text c = λ fault some.
    exact_text c.args.sources.now c.args.src (Err c.in-Err.error) fault c.in-Err.ensures.refused some

use Rattle.std.proofs.Common.{◌<ℤ◌}
use Rattle.std.proofs.lemmas.List.Elements.{All-contains}
use Rattle.tz_specs.specs.Expansion.{Period, periods_from}
use Rattle.tz_specs.proofs.around_laws.lines_follow_one_another.Goals as goal
use Rattle.tz_specs.proofs.ListLemmas.{Contains-from_In}
use Rattle.tz_specs.proofs.AroundLemmas.{lines_chain}

pub returns : goal.returns
returns c = λ sets start lines takes.
    lines_chain sets start lines
    (λ period among. All-contains (λ (p : Period). p.start <ℤ p.finish) (periods_from sets start lines) period takes (Contains-from_In (periods_from sets start lines) period among))

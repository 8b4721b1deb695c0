use Rattle.tz_specs.proofs.clock_laws.lines_end_on_the_clocks_of_their_untils.Goals as goal
use Rattle.tz_specs.proofs.UntilTimeLemmas.{until-universal, until-standard, until-wall_alone, until-wall_fixed, until-wall_under, until-wall_before}

pub returns : goal.returns
returns c = record {
  universal = until-universal;
  standard = until-standard;
  wall_alone = until-wall_alone;
  wall_fixed = until-wall_fixed;
  wall_under = until-wall_under;
  wall_before = until-wall_before;
}

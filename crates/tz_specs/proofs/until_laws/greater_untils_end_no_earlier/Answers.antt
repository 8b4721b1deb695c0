use Rattle.tz_specs.proofs.until_laws.greater_untils_end_no_earlier.Goals as goal
use Rattle.tz_specs.proofs.UntilTimeLemmas.{later-universal, later-standard, later-wall_alone, later-wall_fixed, later-under}

pub returns : goal.returns
returns c = record {
  universal = later-universal;
  standard = later-standard;
  wall_alone = later-wall_alone;
  wall_fixed = later-wall_fixed;
  under = later-under;
}

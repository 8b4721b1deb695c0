use Rattle.tz_expand.proofs.StretchLemmas.{between_members, members_between, between_instants}
use Rattle.tz_expand.proofs.laws.ranges_between_have_an_instant_of_the_stretch.Goals as goal

pub returns : goal.returns
returns c = record {
  members = λ zone from to range ordered. (between_members zone from to range ordered, λ has. members_between zone from to range has.0 has.1);
  instants = between_instants;
}

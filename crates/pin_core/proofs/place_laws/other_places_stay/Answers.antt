use Rattle.pin_core.proofs.Places.{load_stays, pin_stays, take_stays, exchange_stays, claim_stays, miss_stays, push_stays, erase_stays, give_stays, split_stays, join_stays}
use Rattle.pin_core.proofs.place_laws.other_places_stay.Goals as goal

pub returns : goal.returns
returns c = record {
  load = load_stays;
  pin = pin_stays;
  take = take_stays;
  exchange = exchange_stays;
  claim = claim_stays;
  miss = miss_stays;
  push = push_stays;
  erase = erase_stays;
  give = give_stays;
  split = split_stays;
  join = join_stays;
}

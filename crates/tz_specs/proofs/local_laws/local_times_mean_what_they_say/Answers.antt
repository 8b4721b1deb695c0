use Rattle.tz_specs.proofs.local_laws.local_times_mean_what_they_say.Goals as goal
use Rattle.tz_specs.proofs.LocalLemmas.{told_unique, told_ambiguous, told_gap, shown_once_is_unique, shown_twice_is_ambiguous, gap_is_nonexistent}

pub returns : goal.returns
returns c = record {
  unique = λ a b l ranges range covers. (shown_once_is_unique a b ranges l range covers, told_unique ranges l range);
  ambiguous = λ a b l ranges first second covers.
      (shown_twice_is_ambiguous a b ranges l first second covers, told_ambiguous a b ranges l first second covers);
  nonexistent = λ a b l ranges first second covers.
      (gap_is_nonexistent a b ranges l first second covers, told_gap a b ranges l first second covers);
}

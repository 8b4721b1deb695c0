use Rattle.std.proofs.Common.{⊎_elim}
use Rattle.tz_specs.proofs.cover_laws.each_instant_has_one_range.Goals as goal
use Rattle.tz_specs.proofs.CoverLemmas.{range_at_found, range_at_only, holds_once, range_at_outside, range_at-before, range_at-after}

pub returns : goal.returns
returns c = record {
  found = range_at_found;
  alone = range_at_only;
  once = holds_once;
  outside = λ a b t ranges covers. (range_at_outside a b t ranges covers, ⊎_elim (range_at-before a b t ranges covers) (range_at-after a b t ranges covers));
}

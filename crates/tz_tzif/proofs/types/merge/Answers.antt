use Rattle.std.proofs.Common.{rules}
use Rattle.std.proofs.lemmas.Fn.{dedup_same}
use Rattle.tz_tzif.specs.Types.{are_alike, merged}
use Rattle.tz_tzif.proofs.types.merge.Goals as goal

pub returns : goal.returns
unfolding merged
returns c = dedup_same _ are_alike _ (λ x y b f' x' y' k. search rules) _ _ c.dedup_by.ensures.filtered

use Rattle.tz_specs.proofs.around_laws.range_of_a_line_is_found.Goals as goal
use Rattle.tz_specs.proofs.ListLemmas.{In-from_Contains}
use Rattle.tz_specs.proofs.AroundLemmas.{range_at_line, plain_is_range, fixed_is_range}

pub returns : goal.returns
returns c = record {
  found = λ a b t periods period range chain among. range_at_line a b t periods period range chain (In-from_Contains periods period among);
  plain = plain_is_range;
  fixed = fixed_is_range;
}

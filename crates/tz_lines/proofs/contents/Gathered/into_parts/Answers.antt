use Rattle.tz_lines.proofs.contents.Gathered.into_parts.Goals as goal

pub invariant_of-result : goal.invariant_of-result
invariant_of-result c =
    let gathered = c.args.self in
    record {
      sets_ascend = c.into_ordered.ensures.ascend;
      few_sets = c.into_ordered.ensures.few;
      few_zones = gathered.few_zones;
      few_links = gathered.few_links;
      continued = gathered.continued;
      named = rw c.into_labels.ensures gathered.named;
    }

use Rattle.tz_gen.specs.Generated.{lookup_words}
use Rattle.tz_gen.proofs.LineLemmas.{line_put}
use Rattle.tz_gen.proofs.script.put_lookup.Goals as goal

pub returns : goal.returns
unfolding lookup_words
returns c = line_put _ _ _ _ _ _ _ _ _ _ _ _ _ c.in_ok-put_natural.ensures c.in_ok-extend_from_slice.ensures.items c.in_ok-put_natural-2.ensures
    c.in_ok-extend_from_slice-2.ensures.items c.in_ok-put_natural-3.ensures c.in_ok-extend_from_slice-3.ensures.items

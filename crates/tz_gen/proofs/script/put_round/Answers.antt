use Rattle.tz_gen.specs.Generated.{round_lines}
use Rattle.tz_gen.proofs.LineLemmas.{six_put}
use Rattle.tz_gen.proofs.script.put_round.Goals as goal

pub returns : goal.returns
unfolding round_lines
returns c = six_put _ _ _ _ _ _ _ _ _ _ _ _ _ c.in_ok-put_line.ensures c.in_ok-put_numbered.ensures c.in_ok-put_line-2.ensures
    c.in_ok-put_line-3.ensures c.in_ok-put_line-4.ensures c.in_ok-put_lanes.ensures

use Rattle.std.proofs.Common.{◌+◌, arith}
use Rattle.std.specs.List.{flat_map, range_with_len}
use Rattle.tz_gen.specs.Generated.{bytes_of_lines, round_lines}
use Rattle.tz_gen.proofs.LineLemmas.{put_behind, more_blocks}
use Rattle.tz_gen.proofs.script.put_rounds.Goals as goal

pub loop-before-preserved : goal.loop-before-preserved
loop-before-preserved c = put_behind c.args.out.now.items c.loop-before.out.items c.put_round.new.out.items
    (bytes_of_lines (flat_map (round_lines c.args.n) (range_with_len 1 c.loop-before.before))) (bytes_of_lines (round_lines c.args.n (c.loop-before.before + 1))) _ c.loop-before.invariant c.in_ok-put_round.ensures (more_blocks (round_lines c.args.n) 1 c.loop-before.before (c.loop-before.before + 1) (omega arith))

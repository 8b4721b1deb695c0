use Rattle.std.proofs.Common.{◌++◌, map, codes, arith}
use Rattle.std.specs.List.{range_with_len}
use Rattle.tz_gen.specs.Generated.{bytes_of_lines, lookup_words}
use Rattle.tz_gen.proofs.LineLemmas.{put_behind, more_lines}
use Rattle.tz_gen.proofs.script.put_lane.Goals as goal

pub loop-index-preserved : goal.loop-index-preserved
loop-index-preserved c = put_behind c.args.out.now.items c.loop-index.out.items c.put_lookup.new.out.items
    (bytes_of_lines (map (lookup_words c.args.n c.args.round c.args.lane) (range_with_len 0 c.loop-index.index))) (lookup_words c.args.n c.args.round c.args.lane c.loop-index.index ++ codes "\n") _ c.loop-index.invariant c.in_ok-put_lookup.ensures (more_lines (lookup_words c.args.n c.args.round c.args.lane) 0 c.loop-index.index c.loop-index.index (omega arith))

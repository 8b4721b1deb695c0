use Rattle.std.proofs.Common.{◌++◌, map, codes, arith}
use Rattle.std.specs.List.{range_with_len}
use Rattle.tz_gen.specs.Generated.{bytes_of_lines, zone_record}
use Rattle.tz_gen.proofs.LineLemmas.{put_behind, more_lines}
use Rattle.tz_gen.proofs.text.put_zones.Goals as goal

pub loop-place-preserved : goal.loop-place-preserved
loop-place-preserved c = put_behind c.args.out.now.items c.loop-place.out.items c.put_zone.new.out.items
    (bytes_of_lines (map zone_record (range_with_len 0 c.loop-place.place))) (zone_record c.loop-place.place ++ codes "\n") _ c.loop-place.invariant c.in_ok-put_zone.ensures (more_lines zone_record 0 c.loop-place.place c.loop-place.place (omega arith))

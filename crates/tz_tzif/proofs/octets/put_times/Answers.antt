use Rattle.std.proofs.Common.{◌≡◌, ◌++◌, rules}
use Rattle.tz_tzif.specs.File.{time_octets}
use Rattle.tz_tzif.proofs.PieceLemmas.{pieces-more}
use Rattle.tz_tzif.proofs.octets.put_times.Goals as goal

pub loop-range-preserved : goal.loop-range-preserved
loop-range-preserved c =
    let put : c.extend_from_slice.new.self.items ≡ c.loop-range.file.items ++ time_octets c.range-item.result = search rules in
    pieces-more time_octets c.args.file.now.items c.loop-range.file.items c.extend_from_slice.new.self.items c.args.transitions.now c.loop-range.range-index c.range-item.result c.loop-range-test.true c.range-item.is c.loop-range.invariant put

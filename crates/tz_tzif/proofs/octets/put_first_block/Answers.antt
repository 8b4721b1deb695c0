use Rattle.std.proofs.Common.{rules, append_assoc}
use Rattle.tz_tzif.specs.File.{first_block}
use Rattle.tz_tzif.proofs.octets.put_first_block.Goals as goal

pub returns : goal.returns
unfolding first_block
returns c = search (rules, append_assoc)

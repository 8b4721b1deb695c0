use Rattle.tz_windows.proofs.FoundLemmas.{found_offset_near}
use Rattle.tz_windows.proofs.zone_ref.ZoneRef.info.Goals as goal

pub returns-clause-near : goal.returns-clause-near
returns-clause-near g c = found_offset_near c.get.result.now _ c.info_at.result c.info_at.ensures.range

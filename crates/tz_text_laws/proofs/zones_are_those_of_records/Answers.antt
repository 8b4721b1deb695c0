use Rattle.tz_text_laws.proofs.SetsOfRecords.{zones_of_records}
use Rattle.tz_text_laws.proofs.zones_are_those_of_records.Goals as goal

pub returns : goal.returns
returns c = zones_of_records

use Rattle.tz_text_laws.proofs.SetsOfRecords.{rules_of_records, links_of_records}
use Rattle.tz_text_laws.proofs.sets_and_links_are_those_of_records.Goals as goal

pub returns-clause-rules : goal.returns-clause-rules
returns-clause-rules c = rules_of_records

pub returns-clause-links : goal.returns-clause-links
returns-clause-links c = links_of_records

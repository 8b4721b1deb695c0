use Rattle.tz_text_laws.proofs.Existing.{read_or_refused}
use Rattle.tz_text_laws.proofs.each_source_is_read_or_refused.Goals as goal

pub returns : goal.returns
returns c = read_or_refused

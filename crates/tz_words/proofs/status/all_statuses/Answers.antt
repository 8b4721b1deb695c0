use Rattle.tz_words.proofs.Statuses.{every_status}
use Rattle.tz_words.proofs.status.all_statuses.Goals as goal

pub returns : goal.returns
returns c = every_status

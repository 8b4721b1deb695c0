use Rattle.tz_text_laws.proofs.Reaching.{leads_to, led_to}
use Rattle.tz_text_laws.proofs.links_lead_where_their_targets_reach.Goals as goal

pub returns : goal.returns
returns c = λ contents link zone. (leads_to contents link zone, led_to contents link zone)

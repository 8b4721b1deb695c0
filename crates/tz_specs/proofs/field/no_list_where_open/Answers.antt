use Rattle.std.proofs.Common.{[]}
use Rattle.tz_specs.specs.Field.{Between}
use Rattle.tz_specs.proofs.Standing.{leaves_read, unread_opens}
use Rattle.tz_specs.proofs.field.no_list_where_open.Goals as goal

pub returns : goal.returns
returns c = λ line. (λ none. unread_opens line Between [] none, λ opens. leaves_read opens)

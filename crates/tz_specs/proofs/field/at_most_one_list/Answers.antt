use Rattle.std.proofs.Common.{sym, ◌∙◌}
use Rattle.tz_specs.proofs.Standing.{stands_read, some_is}
use Rattle.tz_specs.proofs.field.at_most_one_list.Goals as goal

pub returns : goal.returns
returns c = λ line fields others one other. some_is others fields (sym (stands_read other) ∙ stands_read one)

use Rattle.pin_core.proofs.Allowances.{split_keeps, join_keeps}
use Rattle.pin_core.proofs.reader_laws.splits_and_joins_keep_allowances.Goals as goal

pub returns : goal.returns
returns c = record { split = split_keeps; join = join_keeps }

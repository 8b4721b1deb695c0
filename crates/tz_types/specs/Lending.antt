-- What a list ends as, where one of its elements was lent for change.
use Rattle.std.specs.Prelude.{ℕ, List, Option, slice_set}
use Rattle.std.specs.Borrow.{LendsIf, Fml, RattleType, MutBor}
use Rattle.tz_types.specs.contracts.list.Items.{the_row}

-- Once the borrow ends, the element at the place is as it was left; where none was lent, all are as before.
abbrev pub lends_element : (T : RattleType) → MutBor (List T.Denot) → ℕ → Option (MutBor T.Denot) → Fml
lends_element T items place lent = LendsIf (the_row T) T items lent (slice_set items.now place) items.now

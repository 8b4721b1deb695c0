-- A list as it is opened.
use Rattle.std.specs.Prelude.{◌≡◌, ℕ}
use Rattle.pin_table.specs.Table.{plan}
use Rattle.tz_version.specs.declared.sources.Sources.{Sources}
use Rattle.tz_version.specs.Release.{IsVersionOf}
use Rattle.tz_list.specs.declared.list.TzdbList.{TzdbList}

-- The list has these sources, its first version is that of the first source, and its table was made with so many slots,
-- reader numbers and writes.
pub record IsOpened (sources : Sources) (slots readers writes : ℕ) (list : TzdbList) : Type 0 where
  pub home : list.sources ≡ sources
  pub first : IsVersionOf sources 0 (plan list.table).first
  pub made : plan list.table ≡ record { slots = slots; readers = readers; room = writes; first = (plan list.table).first }

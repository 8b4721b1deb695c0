-- What each version keeps.
use Rattle.std.specs.Prelude.{◌≡◌, List, length, IsTrue}
use Rattle.tz_specs.specs.Sound.{is_sound}
use Rattle.tz_windows.specs.declared.cells.Cells.{Cells}
use Rattle.tz_version.specs.Release.{Release, IsVersionOf}

-- it is the version of its source, whose database is sound, and each zone has its cells
pub record IsKept (version : Release) (cells : List Cells) : Type 0 where
  pub is : IsVersionOf version.sources version.src version
  pub sound : IsTrue (is_sound is.db)
  pub one_each : length cells ≡ length version.zones

-- How many sources come together, and how long their leap text is.
use Rattle.std.specs.Prelude.{ℕ, ◌≤◌, List, length}
use Rattle.tz_types.specs.declared.limit.TheConstants.{MOST_BYTES}
use Rattle.tz_types.specs.declared.source.Source.{Source}
use Rattle.tz_version.specs.declared.sources.TheConstants.{MOST_SOURCES}

-- one to 64 sources, and a leap text of at most 4,194,304 bytes
pub record FitsSources (texts : List Source) (leaps : List ℕ) : Type 0 where
  pub some_text : 1 ≤ length texts
  pub few_texts : length texts ≤ MOST_SOURCES
  pub few_bytes : length leaps ≤ MOST_BYTES

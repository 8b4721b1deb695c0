-- How many files a source has, and how many bytes.
use Rattle.std.specs.Prelude.{ℕ, ◌≤◌, List, length}
use Rattle.std.specs.List.{sum_by}
use Rattle.tz_types.specs.declared.limit.TheConstants.{MOST_FILES, MOST_BYTES}

-- the bytes of all texts
abbrev pub bytes_together : List (List ℕ) → ℕ
bytes_together texts = sum_by length texts

-- one to sixteen files, with at most 4,194,304 bytes together
pub record FitsSource (files : List (List ℕ)) : Type 0 where
  pub some_file : 1 ≤ length files
  pub few_files : length files ≤ MOST_FILES
  pub few_bytes : bytes_together files ≤ MOST_BYTES

-- What files in memory hold, and what they count.
use Rattle.std.specs.Prelude.{ℕ, List, Option, Some, Bool}
use Rattle.tz_io.specs.declared.memory_files.MemoryFiles.{MemoryFiles}
use Rattle.tz_io.specs.Calls.{next_call, fails_at}
use Rattle.tz_io.specs.Entries.{entry_contents, entry_place, entry_count}
use Rattle.tz_io.specs.Files.{FilesState}

-- what they hold, which they tell, and how often a read of each name has failed
abbrev pub files_state : MemoryFiles → FilesState
files_state files =
    record { contents = Some (entry_contents files.list.items); faults = λ name. entry_count files.counts.items files.others (entry_place files.list.items name) }

-- How many reads there were, up to the greatest that 64 bits hold.
abbrev pub files_calls : MemoryFiles → ℕ
files_calls files = files.calls

-- The numbers of the reads that fail.
abbrev pub files_failing : MemoryFiles → List ℕ
files_failing files = files.failing.items

-- Whether the next read is one that fails.
abbrev pub read_fails_next : MemoryFiles → Bool
read_fails_next files = fails_at files.failing.items (next_call files.calls)

-- Where the first file of that name stands.
abbrev pub files_place : MemoryFiles → List ℕ → Option ℕ
files_place files name = entry_place files.list.items name

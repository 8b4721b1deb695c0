-- The content that was read is that of the first entry of the name.
use Rattle.std.proofs.Common.{sym, refl}
use Rattle.tz_io.specs.Entries.{is_entry_named}
use Rattle.tz_io.proofs.First.{found_at}
use Rattle.tz_io.proofs.memory_files.MemoryFilesFiles.read.Goals as goal

pub returns-in_ok-front_of-in-Some-clause-bytes : goal.returns-in_ok-front_of-in-Some-clause-bytes
returns-in_ok-front_of-in-Some-clause-bytes c =
    let first = rw c.deref.ensures.value at c.in-Some.ensures.first in
    let within = rw c.deref.ensures.value at c.in-Some.ensures.within in
    let found = found_at (is_entry_named c.args.name.now) c.args.self.now.list.items c.in-Some.place c.index.result.now (sym first) within c.index.ensures in
    (c.index.result.now.1.items, rw found refl, rw (← c.deref-in-Some.ensures.value) c.in_ok-front_of-in-Some.ensures)

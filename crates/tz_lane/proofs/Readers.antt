-- What stays of a reader.
use Rattle.std.proofs.Common.{◌≡◌}
use Rattle.pin_book.specs.declared.payload.Payload.{Ghosts}
use Rattle.pin_table.specs.declared.reader.Reader.{Reader}
use Rattle.pin_table.specs.Reader.{reader_view}

-- a reader that knows the same numbers has the same number
pub same_number : {P H : Type 0} {meanings : Ghosts P H} (reader later : Reader P H meanings) → (reader_view later).numbers ≡ (reader_view reader).numbers → later.number ≡ reader.number
same_number reader later same =
    let own = reader.reader.1 in
    let later_own = later.reader.1 in cc

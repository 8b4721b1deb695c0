use Rattle.std.proofs.Common.{◌≡◌, ◌++◌, map, take}
use Rattle.row_files.specs.Entries.{names_and_bytes}
use Rattle.row_files.proofs.files.add_texts.Given as goal

abbrev pub invariant-loop-name : goal.invariant-loop-name
invariant-loop-name l =
    names_and_bytes l.list.items ≡ names_and_bytes l.initial.list.items ++ map (λ row. (row.0.now, row.1.now)) (take l.name-index l.texts)

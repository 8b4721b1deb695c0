use Rattle.std.proofs.Common.{◌-◌, ◌<◌, length}
use Rattle.pin_table.specs.declared.reader.TheConstants.{MOST_HANDLES}
use Rattle.pin_table.specs.Reader.{reader_view, seen}
use Rattle.pin_table.specs.Table.{plan}
use Rattle.pin_table.proofs.FrontLemmas.{AfterMisses}
use Rattle.pin_table.proofs.reader.Reader.front.Given as goal

abbrev pub invariant-loop-handle : goal.invariant-loop-handle
invariant-loop-handle g l = AfterMisses l.initial.self l.self × (length (reader_view l.self).entries < MOST_HANDLES)

abbrev pub decreases-loop-handle : goal.decreases-loop-handle
decreases-loop-handle g l = (plan l.initial.self.table.now).room - length (seen l.self)

use Rattle.std.proofs.Common.{ap, sym, ◌∙◌}
use Rattle.pin_table.specs.Handles.{pin_of}
use Rattle.pin_table.specs.Sources.{source_of}
use Rattle.pin_table.proofs.HandleMoves.{source_now}
use Rattle.pin_table.proofs.handle_laws.a_handle_is_of_the_journal_s_version.Goals as goal

pub returns : goal.returns
returns g c plan v handle h some replay = (h.version.0, h.version.1 ∙ source_now plan.slots v.seen (pin_of handle) some replay h.holds.told ∙ ap (source_of v.seen) (sym h.number))

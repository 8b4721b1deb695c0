use Rattle.std.proofs.Common.{ℕ, ap, sym, ◌∙◌, subst}
use Rattle.pin_table.specs.Handles.{pin_of}
use Rattle.pin_table.specs.Sources.{source_of}
use Rattle.pin_table.specs.Table.{plan}
use Rattle.pin_table.proofs.HandleMoves.{source_now}
use Rattle.tz_version.specs.declared.sources.Sources.{Sources}
use Rattle.tz_version.specs.Release.{IsVersionOf}
use Rattle.tz_list.proofs.laws.a_handle_holds_its_source.Goals as goal

pub returns : goal.returns
returns c list v handle h some replay is =
    let place = h.version.1 ∙ source_now (plan list.table).slots v.seen (pin_of handle) some replay h.holds.told ∙ ap (source_of v.seen) (sym h.number) in
    subst (λ (src : ℕ). IsVersionOf list.sources src handle.version) place
    (subst (λ (home : Sources). IsVersionOf home handle.version.src handle.version) (h.version.0 ∙ list.home) is)

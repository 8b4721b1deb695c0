use Rattle.std.proofs.Common.{◌∙◌}
use Rattle.pin_book.specs.Replay.{opening}
use Rattle.pin_book.proofs.KeptLemmas.{same_kept, opening_first, keeps_nothing}
use Rattle.pin_book.proofs.LawLemmas.{kept_last}
use Rattle.pin_book.proofs.replay_laws.slots_keep_what_was_pushed_last.Goals as goal

pub returns : goal.returns
returns c = record {
  last = λ slots n src slot before later write some h is other. kept_last slots n src slot before later write h is other;
  first = λ slots journal some h other. same_kept 0 (opening slots) journal other ∙ opening_first slots some;
  nothing = λ slots slot journal some h. keeps_nothing slots slot journal some h;
}

use Rattle.std.proofs.Common.{◌≡◌, ◌<◌, ◌↔◌, ◌∙◌, ap, sym, subst, true, false, get_or, length}
use Rattle.pin_book.specs.Replay.{front_number, front_slot}
use Rattle.pin_core.specs.Core.{has_number}
use Rattle.pin_table.specs.Position.{slots_of_plan}
use Rattle.pin_table.proofs.NumberLemmas.{has_all}
use Rattle.pin_table.proofs.OpeningLemmas.{first_number, first_slot}
use Rattle.pin_table.proofs.main_seat.Main.first.Goals as goal

pub invariant_of-result : goal.invariant_of-result
invariant_of-result g c = let core = c.requires.core in let slots = slots_of_plan c.args.seat.me.0.plan in record {
  role = ap (λ v. v.role) core;
  carries_none = c.requires.carried;
  long = c.first_numbers.ensures.long;
  numbers = λ number. subst (λ v. (0 < has_number number v) ↔ (get_or c.first_numbers.result number false ≡ true)) (sym core)
      (let all = has_all c.args.readers c.args.writes number in let marked = c.first_numbers.ensures.marks number in ((λ some. marked.1 (all.0 some)), (λ on. all.1 (marked.0 on))));
  allowed = sym (ap (λ v. v.allowance) core);
  position = record {
    w = ap (λ v. length v.seen) (sym core);
    n = sym (ap (λ v. front_number slots v.seen) core ∙ first_number slots);
    slot = sym (ap (λ v. front_slot slots v.seen) core ∙ first_slot slots);
  };
}

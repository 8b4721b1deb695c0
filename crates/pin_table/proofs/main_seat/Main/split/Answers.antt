use Rattle.std.proofs.Common.{◌≡◌, ◌<◌, ◌-◌, ◌↔◌, true, false, set, get_or, ◌∙◌, refl, ap, sym, subst, arith, length, length-set}
use Rattle.pin_core.specs.Core.{times, has_number}
use Rattle.pin_core.specs.Step.{left_over, split_off}
use Rattle.pin_table.specs.Parting.{readers_of_plan}
use Rattle.pin_table.specs.Position.{IsAfter, slots_of_plan}
use Rattle.pin_table.proofs.NumberLemmas.{first_none, first_least, no_numbers, marks_less}
use Rattle.pin_table.proofs.main_seat.Main.split.Goals as goal

pub returns-in_default-clause-none : goal.returns-in_default-clause-none
returns-in_default-clause-none g c = let marked = c.args.self.now.numbers in
    ((λ _. no_numbers c.args.self.now.seat.me.0.core.numbers (λ n some. first_none c.args.self.now.has (sym c.first_true.ensures ∙ c.in_default.is) n ((marked n).0 some))), (λ _. refl))

pub part-seat-requires-clause-mine : goal.part-seat-requires-clause-mine
part-seat-requires-clause-mine g c = let first = first_least c.args.self.now.has c.args.self.now.seat.me.0.core.numbers c.in-Some.place c.args.self.now.numbers (sym c.first_true.ensures ∙ c.in-Some.is) in λ _ _. first.1.among

pub invariant_of-self : goal.invariant_of-self
invariant_of-self g c = let left = c.part-seat.ensures.left in let first = first_least c.args.self.now.has c.args.self.now.seat.me.0.core.numbers c.in-Some.place c.args.self.now.numbers (sym c.first_true.ensures ∙ c.in-Some.is) in
    let core = ap (λ m. m.0.core) left in record {
      role = ap (λ v. v.role) core ∙ c.args.self.now.role;
      carries_none = ap (λ m. length m.1) left ∙ c.args.self.now.carries_none;
      long = length-set c.args.self.now.has c.in-Some.place false ∙ c.args.self.now.long;
      numbers = λ number. subst (λ v. (0 < has_number number v) ↔ (get_or (set c.args.self.now.has c.in-Some.place false) number false ≡ true)) (sym core)
          (marks_less c.args.self.now.has c.args.self.now.seat.me.0.core.numbers c.in-Some.place first.0 c.args.self.now.numbers number);
      allowed = ap (λ n. n - c.args.writes) c.args.self.now.allowed ∙ sym (ap (λ v. v.allowance) core);
      position = subst (λ m. IsAfter (slots_of_plan m.0.plan) m.0.core.seen c.args.self.now.seen) (sym left) c.args.self.now.position;
    }

pub returns-clause-none : goal.returns-clause-none
returns-clause-none g c = let first = first_least c.args.self.now.has c.args.self.now.seat.me.0.core.numbers c.in-Some.place c.args.self.now.numbers (sym c.first_true.ensures ∙ c.in-Some.is) in
    let among = first.1.among in ((λ e. absurd (cc)), (λ empty. absurd (let none = ap (times c.in-Some.place) empty in omega arith)))

pub returns-clause-parted : goal.returns-clause-parted
returns-clause-parted g c = let first = first_least c.args.self.now.has c.args.self.now.seat.me.0.core.numbers c.in-Some.place c.args.self.now.numbers (sym c.first_true.ensures ∙ c.in-Some.is) in
    let readers = ap readers_of_plan c.requires.own.plan_is in record {
      number = c.in-Some.place;
      least = first.1;
      left = ap (λ m. m.0.core) c.part-seat.ensures.left ∙ ap (λ n. left_over n c.in-Some.place c.args.writes c.args.self.now.seat.me.0.core) readers;
      right = ap (λ m. m.0.core) c.part-seat.ensures.right.1 ∙ ap (λ n. split_off n c.in-Some.place c.args.writes c.args.self.now.seat.me.0.core) readers;
    }

use Rattle.std.proofs.Common.{◌≡◌, ◌<◌, ◌+◌, ◌↔◌, ◌∙◌, true, false, set, get_or, ap, sym, subst, arith, length, length-set}
use Rattle.pin_core.specs.Core.{has_number}
use Rattle.pin_table.specs.Position.{IsAfter, slots_of_plan}
use Rattle.pin_table.specs.Table.{plan}
use Rattle.pin_table.proofs.PlaceLemmas.{nothing_carried}
use Rattle.pin_table.proofs.NumberLemmas.{marks_back}
use Rattle.pin_table.proofs.PartingLemmas.{later_position, same_position}
use Rattle.pin_table.proofs.main_seat.Main.join.Goals as goal

pub meet-requires-clause-carried : goal.meet-requires-clause-carried
meet-requires-clause-carried g c = let reader = c.args.reader in
    λ _ _. nothing_carried g.P.Payload.home g.P.Payload.source (plan reader.table.now) reader.number reader.hand.seat.me.0.core reader.hand.seat.me.1 (reader.hand.places (plan reader.table.now) reader.number reader.at.plan_is reader.reader) c.requires.released

pub invariant_of-self : goal.invariant_of-self
invariant_of-self g c =
    let both = c.meet.ensures.both in let core = ap (λ m. m.0.core) both in let old = c.args.self.now in let reader = c.args.reader in record {
      role = ap (λ v. v.role) core ∙ old.role;
      carries_none = ap (λ m. length m.1) both ∙ old.carries_none;
      long = length-set old.has reader.number true ∙ old.long;
      numbers = λ number. let long = old.long in let small = reader.small in subst (λ v. (0 < has_number number v) ↔ (get_or (set old.has reader.number true) number false ≡ true)) (sym core)
          (marks_back old.has old.seat.me.0.core.numbers reader.hand.seat.me.0.core.numbers reader.number reader.reader.1 (omega arith) old.numbers number);
      allowed = (λ i. old.allowed i + reader.allowed i) ∙ sym (ap (λ v. v.allowance) core);
      position = subst (λ m. IsAfter (slots_of_plan m.0.plan) m.0.core.seen reader.seen) (sym both)
          (later_position (slots_of_plan old.seat.me.0.plan) reader.table.now.slots old.seat.me.0.core reader.hand.seat.me.0.core old.seen reader.seen (reader.table.now.made.0 ∙ sym (ap slots_of_plan c.requires.own.plan_is)) old.position reader.position c.if-self-seen.true);
    }

pub invariant_of-self-else-self-seen : goal.invariant_of-self-else-self-seen
invariant_of-self-else-self-seen g c =
    let both = c.meet.ensures.both in let core = ap (λ m. m.0.core) both in let old = c.args.self.now in let reader = c.args.reader in record {
      role = ap (λ v. v.role) core ∙ old.role;
      carries_none = ap (λ m. length m.1) both ∙ old.carries_none;
      long = length-set old.has reader.number true ∙ old.long;
      numbers = λ number. let long = old.long in let small = reader.small in subst (λ v. (0 < has_number number v) ↔ (get_or (set old.has reader.number true) number false ≡ true)) (sym core)
          (marks_back old.has old.seat.me.0.core.numbers reader.hand.seat.me.0.core.numbers reader.number reader.reader.1 (omega arith) old.numbers number);
      allowed = (λ i. old.allowed i + reader.allowed i) ∙ sym (ap (λ v. v.allowance) core);
      position = subst (λ m. IsAfter (slots_of_plan m.0.plan) m.0.core.seen old.seen) (sym both)
          (same_position (slots_of_plan old.seat.me.0.plan) reader.table.now.slots old.seat.me.0.core reader.hand.seat.me.0.core old.seen reader.seen old.position reader.position c.if-self-seen.false);
    }

use Rattle.std.proofs.Common.{◌≡◌, ℕ, ◌<◌, List, length, get_or, take_while, ltb, ap, ◌∙◌, arith}
use Rattle.std.proofs.lemmas.Grind.{common_steps}
use Rattle.pin_schedule.proofs.SlotLemmas.{slot_there, slot_goes}
use Rattle.pin_schedule.proofs.slots.Slots.add.Goals as goal
use Rattle.pin_schedule.proofs.slots.Slots.add.Goals.{else-place-len-via-then-place-len+else-index-slot, else-place-len-via-else-place-len}

pub returns-then-index-slot : goal.returns-then-index-slot
returns-then-index-slot c =
    let is = c.place_of-place.ensures ∙ ap (λ (xs : List ℕ). length (take_while (λ other. ltb other c.args.slot) xs)) c.deref.ensures.value in
    let same : get_or c.self.inside.items.items c.place_of-place.result 0 ≡ c.args.slot = grind (arith, common_steps) in
    let low : c.place_of-place.result < length c.self.inside.items.items = grind (arith, common_steps) in
    rw (← c.self.view_is) (slot_there c.args.slot c.self.inside.items.items c.place_of-place.result is low same)

pub returns : goal.returns
returns c =
    let is = c.place_of-place.ensures ∙ ap (λ (xs : List ℕ). length (take_while (λ other. ltb other c.args.slot) xs)) c.deref.ensures.value in
    let apart : c.place_of-place.result < length c.self.inside.items.items → get_or c.self.inside.items.items c.place_of-place.result 0 ≡ c.args.slot → ⊥ =
    elim c.else-place-len.branch [
      | else-place-len-via-then-place-len+else-index-slot w ↦ λ low same. grind (arith, common_steps)
      | else-place-len-via-else-place-len w ↦ λ low same. omega arith
    ] in
    rw (c.in_ok-insert.ensures.items, ← c.self.view_is) (slot_goes c.args.slot c.self.inside.items.items c.place_of-place.result is apart)

use Rattle.std.proofs.Common.{◌≡◌, ℕ, true, [], ◌∷◌, IsPermutation, take, sym, ap, subst, List, ◌∙◌}
use Rattle.std.proofs.Math.Seq.{take-length}
use Rattle.std.proofs.lemmas.List.Sorted.{IsPermutation-append_comm}
use Rattle.pin_core.specs.declared.entry.Entry.{Entry}
use Rattle.pin_book.specs.declared.write.Write.{Write}
use Rattle.pin_book.specs.Replay.{front_of, state_after, replays}
use Rattle.pin_table.specs.Handles.{pin_of}
use Rattle.pin_table.specs.Reader.{reader_view}
use Rattle.pin_table.specs.Table.{plan}
use Rattle.tz_batch.specs.Answering.{IsToldAs}
use Rattle.tz_lane.proofs.Fronts.{handle_told}
use Rattle.tz_lane.proofs.Kept.{KeepsIn, handle_keeps, one_told}
use Rattle.tz_lane.proofs.Readers.{same_number}
use Rattle.tz_lane.proofs.pins.hold.Goals as goal

pub returns-clause-answer : goal.returns-clause-answer
returns-clause-answer c sources begun =
    let handle = c.in-Ok.handle in
    let v = reader_view c.front.new.self in
    let told = subst (λ (slots : ℕ). IsToldAs (front_of (state_after slots (take handle.position v.seen)).listed) handle.number handle.slot)
    (ap (λ table. (plan table).slots) c.in-Ok.ensures.pinned.more.table)
    (handle_told (plan c.front.new.self.table.now) v handle c.in-Ok.ensures.pinned.made) in
    rw (c.position.ensures, c.number.ensures, c.slot.ensures) told

pub returns-clause-entries : goal.returns-clause-entries
returns-clause-entries c =
    subst (λ (entries : List Entry). IsPermutation entries (pin_of c.in-Ok.handle ∷ (reader_view c.args.reader.now).entries))
    (sym (ap (λ v. v.entries) c.in-Ok.ensures.pinned.view))
    (IsPermutation-append_comm (reader_view c.args.reader.now).entries (pin_of c.in-Ok.handle ∷ []))

pub returns-clause-kept : goal.returns-clause-kept
returns-clause-kept c sources begun =
    let handle = c.in-Ok.handle in
    let v = reader_view c.front.new.self in
    let later = plan c.front.new.self.table.now in
    let pinned = c.in-Ok.ensures.pinned in
    let slots = ap (λ table. (plan table).slots) pinned.more.table in
    let front = plan c.args.reader.now.table.now in
    let all : take c.position.result v.seen ≡ v.seen = ap (λ (w : ℕ). take w v.seen) (c.position.ensures ∙ pinned.position) ∙ take-length v.seen in
    let keeps = handle_keeps later v handle pinned.made (subst (λ (n : ℕ). replays n v.seen ≡ true) (sym slots) pinned.more.replay) in
    let here : KeepsIn (state_after front.slots v.seen) c.slot.result c.number.result =
    subst (λ (slot : ℕ). KeepsIn (state_after front.slots v.seen) slot c.number.result) (sym c.slot.ensures)
    (subst (λ (n : ℕ). KeepsIn (state_after front.slots v.seen) handle.slot n) (sym c.number.ensures)
    (subst (λ (n : ℕ). KeepsIn (state_after n v.seen) handle.slot handle.number) slots keeps)) in
    one_told (state_after front.slots (take c.position.result v.seen)) c.number.result c.slot.result
    (subst (λ (writes : List Write). KeepsIn (state_after front.slots writes) c.slot.result c.number.result) (sym all) here)

pub returns-clause-number : goal.returns-clause-number
returns-clause-number c = same_number c.args.reader.now c.front.new.self (ap (λ v. v.numbers) c.in-Ok.ensures.pinned.view)

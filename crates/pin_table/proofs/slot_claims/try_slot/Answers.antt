use Rattle.std.proofs.Common.{◌≡◌, ◌++◌, ◌∙◌, ap, sym, arith}
use Rattle.pin_book.specs.Replay.{kept_number}
use Rattle.pin_core.specs.Packing.{place, packed_slot}
use Rattle.pin_table.specs.Carried.{slots_of}
use Rattle.pin_table.specs.Runs.{run_slots}
use Rattle.pin_table.proofs.SlotLemmas.{slots_of_run}
use Rattle.pin_table.proofs.slot_claims.try_slot.Goals as goal

pub returns-clause-listed : goal.returns-clause-listed
returns-clause-listed g c =
    let table = c.args.table.now in let book = c.requires.book in
    let same : c.try_claim-found.result ≡ c.pack_slot.result = omega arith in
    let word = same ∙ (c.pack_slot.ensures ∙ ap (λ k. packed_slot record { number = k; count = 0 }) (c.kept_in-kept.ensures ∙ (λ i. kept_number (book.0 i) (book.1 i) c.args.slot))) in
    let claimed = c.try_claim-found.ensures.tried.won word in
    let numbers = ap (λ m. slots_of m.1) claimed.seat ∙ (slots_of_run (place c.args.slot 0) claimed.cells c.args.seat.now.me.1 ∙ ap (λ n. run_slots (place c.args.slot 0) n ++ slots_of c.args.seat.now.me.1) claimed.many) in
    c.take_run.ensures ∙ ((λ i. run_slots (c.first_place.ensures i) (table.made.1 i) ++ c.requires.listed i) ∙ sym numbers)

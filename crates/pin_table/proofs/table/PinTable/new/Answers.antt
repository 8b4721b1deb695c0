use Rattle.std.proofs.Common.{◌∙◌, ap, sym, length, arith, subst}
use Rattle.pin_table.specs.Seat.{plan_of, HasSizes}
use Rattle.pin_table.proofs.OpeningLemmas.{opens_as, length-opening_words, length-opening_cells}
use Rattle.pin_table.proofs.table.PinTable.new.Goals as goal

pub new-requires-2 : goal.new-requires-2
new-requires-2 g c = let slots = c.requires.slots in let readers = c.requires.readers in
    opens_as g.P.Payload.home g.P.Payload.source g.P.Payload.name_of (plan_of record { first = c.of.result; slots = c.args.slots; readers = c.args.readers; room = c.args.writes })
    record { some_slots = slots.0; few_slots = slots.1; some_readers = readers.0; few_readers = readers.1; few_writes = c.requires.writes.1 }
    c.args.first.value c.deref-2.result.now (c.of.ensures ∙ c.deref.ensures) c.deref-2.ensures c.requires.source c.in_ok-book.book c.name.result c.name.ensures c.in_ok-book.ensures
    c.as_slice.result.now (c.as_slice.ensures.value ∙ c.in_ok-words.ensures) c.in_ok-cells.cells.items c.in_ok-cells.ensures

pub invariant_of-table : goal.invariant_of-table
invariant_of-table g c = let ok = c.in-Ok.ensures.ok in let slots = c.requires.slots in let readers = c.requires.readers in
    let least = slots.0 in let most = readers.1 in record {
      words = ok.0 ∙ (ap (λ l. length l) (c.as_slice.ensures.value ∙ c.in_ok-words.ensures) ∙ length-opening_words c.args.slots);
      cells = ok.1 ∙ (ap (λ l. length l) c.in_ok-cells.ensures ∙ length-opening_cells _ _ c.args.slots c.args.readers c.args.first.value c.in_ok-book.book (omega arith) (omega arith));
      made = (ap (λ k. k.slots) (sym ok.5), ap (λ k. k.readers) (sym ok.5));
      sizes = subst (λ k. HasSizes (plan_of k)) (sym ok.5) record { some_slots = slots.0; few_slots = slots.1; some_readers = readers.0; few_readers = readers.1; few_writes = c.requires.writes.1 };
    }

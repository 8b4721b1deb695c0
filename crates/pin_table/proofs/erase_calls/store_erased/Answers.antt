use Rattle.std.proofs.Common.{◌∙◌, ap, arith}
use Rattle.pin_book.specs.Book.{Chronicle}
use Rattle.pin_table.proofs.WriteLemmas.{front_fits}
use Rattle.pin_table.proofs.erase_calls.store_erased.Goals as goal

pub store_erase-requires-clause-small : goal.store_erase-requires-clause-small
store_erase-requires-clause-small g c =
    let sizes = c.args.table.now.sizes in let least = sizes.some_slots in let most = sizes.few_slots in let writes = sizes.few_writes in let book = c.erase-gone.new.self in let is = c.erase-gone.ensures.write in
    let slots = ap (λ (b : Chronicle). b.slots) is ∙ ap (λ (b : Chronicle). b.slots) c.requires.writes.is in
    let room = ap (λ (b : Chronicle). b.room) is ∙ ap (λ (b : Chronicle). b.room) c.requires.writes.is in
    λ _ _. front_fits book.slots book.room book.journal c.front_in.result c.front_in.ensures (omega arith) (omega arith) c.erase-gone.ensures.book.replay c.erase-gone.ensures.book.within (omega arith)

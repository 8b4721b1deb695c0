use Rattle.std.proofs.Common.{◌≡◌, ◌≢◌, ◌+◌, ◌∙◌, ◌<◌, ap, sym, subst, arith, length, drop}
use Rattle.std.proofs.lemmas.Bool.{false≢true}
use Rattle.pin_book.specs.declared.write.Change.TheVariants.{Push}
use Rattle.pin_book.specs.Replay.{front_number}
use Rattle.pin_core.specs.Step.{stored, claiming}
use Rattle.pin_table.specs.Table.{plan}
use Rattle.pin_table.specs.Turns.{payload_name, front_name, finding, PushesVersion}
use Rattle.pin_table.proofs.PushLemmas.{front_knows, claimed_run, pushed_seat}
use Rattle.pin_table.proofs.WriteLemmas.{front_fits}
use Rattle.pin_table.proofs.push_calls.push_by_book.Goals as goal

pub returns-then-is_front_name-clause-refused : goal.returns-then-is_front_name-clause-refused
returns-then-is_front_name-clause-refused g c =
    let how = plan c.args.table.now in let sizes = c.args.table.now.sizes in let least = sizes.some_slots in let v = c.args.seat.now.me.0.core in let front = c.front_in-front.result in
    let knows = front_knows g.P.Payload.home g.P.Payload.name_of how c.args.number v c.args.book.now front (omega arith) c.requires.writes c.front_in-front.ensures in
    let called = c.name.ensures ∙ ap (λ p. g.P.Payload.name_of (g.P.Payload.home p) (g.P.Payload.source p)) c.version.ensures in
    record { same = sym called ∙ (c.is_front_name.ensures.0 c.if-is_front_name.true ∙ knows.2); is_w = knows.0; is_n = knows.1; view = Rattle.std.proofs.Common.refl }

pub returns-then-allowance-eq0-clause-refused : goal.returns-then-allowance-eq0-clause-refused
returns-then-allowance-eq0-clause-refused g c =
    let how = plan c.args.table.now in let sizes = c.args.table.now.sizes in let least = sizes.some_slots in let v = c.args.seat.now.me.0.core in let front = c.front_in-front.result in
    let knows = front_knows g.P.Payload.home g.P.Payload.name_of how c.args.number v c.args.book.now front (omega arith) c.requires.writes c.front_in-front.ensures in
    let called = c.name.ensures ∙ ap (λ p. g.P.Payload.name_of (g.P.Payload.home p) (g.P.Payload.source p)) c.version.ensures in
    let other : payload_name g.P.Payload.home g.P.Payload.source g.P.Payload.name_of c.args.copies.version ≢ front_name g.P.Payload.home g.P.Payload.source g.P.Payload.name_of how v.seen = λ same. false≢true (sym c.if-is_front_name.false ∙ c.is_front_name.ensures.1 (called ∙ (same ∙ sym knows.2))) in
    record { other = other; no_write = sym c.requires.allowance ∙ c.if-allowance-eq0.true; is_w = knows.0; view = Rattle.std.proofs.Common.refl }

pub overflow_add-next : goal.overflow_add-next
overflow_add-next g c =
    let sizes = c.args.table.now.sizes in let least = sizes.some_slots in let how = plan c.args.table.now in let v = c.args.seat.now.me.0.core in let writes = c.requires.writes in let few = sizes.few_writes in let fits = writes.fits in
    let after = subst (λ b. Rattle.pin_table.specs.Position.IsAfter b.slots b.journal c.front_in-front.result) writes.is c.front_in-front.ensures in
    let small = front_fits how.slots how.room v.seen c.front_in-front.result after (omega arith) sizes.few_slots writes.replay (omega arith) sizes.few_writes in let low = small.0 in omega arith

pub returns-in_default-clause-refused : goal.returns-in_default-clause-refused
returns-in_default-clause-refused g c =
    let how = plan c.args.table.now in let sizes = c.args.table.now.sizes in let least = sizes.some_slots in let v = c.args.seat.now.me.0.core in let front = c.front_in-front.result in
    let knows = front_knows g.P.Payload.home g.P.Payload.name_of how c.args.number v c.args.book.now front (omega arith) c.requires.writes c.front_in-front.ensures in
    let called = c.name.ensures ∙ ap (λ p. g.P.Payload.name_of (g.P.Payload.home p) (g.P.Payload.source p)) c.version.ensures in
    let other : payload_name g.P.Payload.home g.P.Payload.source g.P.Payload.name_of c.args.copies.version ≢ front_name g.P.Payload.home g.P.Payload.source g.P.Payload.name_of how v.seen = λ same. false≢true (sym c.if-is_front_name.false ∙ c.is_front_name.ensures.1 (called ∙ (same ∙ sym knows.2))) in
    let allowance = c.requires.allowance in let some_write = c.if-allowance-eq0.false in let full = c.in_default.ensures.full in
    record { other = other; some_write = omega arith; pinned = full.pinned; is_w = knows.0; view = ap (λ m. m.0.core) full.seat }

pub push_into-requires-clause-run : goal.push_into-requires-clause-run
push_into-requires-clause-run g c = λ _ _. claimed_run (plan c.args.table.now) c.in-Some.slot c.args.seat.now.me c.claim_least.new.seat.me c.requires.apart c.in-Some.ensures.claimed

pub returns-clause-seat : goal.returns-clause-seat
returns-clause-seat g c = pushed_seat (plan c.args.table.now) c.in-Some.slot _ c.args.seat.now.me c.claim_least.new.seat.me c.push_into.new.seat.me c.in-Some.ensures.claimed c.push_into.ensures.stored

pub returns-clause-pushed : goal.returns-clause-pushed
returns-clause-pushed g c =
    let how = plan c.args.table.now in let sizes = c.args.table.now.sizes in let least = sizes.some_slots in let v = c.args.seat.now.me.0.core in let front = c.front_in-front.result in
    let knows = front_knows g.P.Payload.home g.P.Payload.name_of how c.args.number v c.args.book.now front (omega arith) c.requires.writes c.front_in-front.ensures in
    let called = c.name.ensures ∙ ap (λ p. g.P.Payload.name_of (g.P.Payload.home p) (g.P.Payload.source p)) c.version.ensures in
    let other : payload_name g.P.Payload.home g.P.Payload.source g.P.Payload.name_of c.args.copies.version ≢ front_name g.P.Payload.home g.P.Payload.source g.P.Payload.name_of how v.seen = λ same. false≢true (sym c.if-is_front_name.false ∙ c.is_front_name.ensures.1 (called ∙ (same ∙ sym knows.2))) in
    let allowance = c.requires.allowance in let some_write = c.if-allowance-eq0.false in let claim = c.in-Some.ensures.claimed in let slot = c.in-Some.slot in
    let core = ap (λ m. m.0.core) claim.seat in let answer = c.push_into.ensures.pushed in
    let n = ap (λ p. p.n) answer ∙ ap (λ u. front_number how.slots u.seen + 1) core in let at = ap (λ p. p.slot) answer in record {
      other = other;
      some_write = omega arith;
      pinned = subst (Rattle.pin_table.specs.Turns.FoundPinned how.slots how.readers v) (sym at) claim.pinned;
      inside = subst (λ k. k < how.slots) (sym at) claim.inside;
      unlisted = ap (Rattle.pin_book.specs.Replay.is_taken how.slots v.seen) at ∙ claim.unlisted;
      free = ap (λ k. Rattle.pin_core.specs.Core.held_at k v) at ∙ claim.free;
      is_w = ap (λ p. p.w) answer ∙ ap (λ u. length u.seen + 1) core;
      is_n = n;
      view = ap (λ m. m.0.core) c.push_into.ensures.stored ∙ (λ i. stored record { by = c.args.number; seq = length (core i).own + 1; change = Push c.push_into.result.n (g.P.Payload.source c.args.copies.version) (sym at i) }
          ((core ∙ ap (λ k. claiming k (finding how.slots k v)) (sym at)) i));
    }

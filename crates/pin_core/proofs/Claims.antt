-- A claim that finds no pin, and one that finds some, keep states lawful.
use Rattle.std.proofs.Common.{◌≤◌, ◌≡◌, ◌≢◌, ℕ, ◌+◌, ◌<◌, List, [], ◌∷◌, length, set, get_or, sym, refl, ap, ◌∙◌, subst, ⊎_elim, arith, true, false, ◌==◌, eq-eqb, ne_eqb, Some}
use Rattle.std.specs.Prelude.{nat_lt}
use mathlib.Core.Option.{some}
use lib.ListN.{get_elem?}
use Rattle.std.specs.List.{All}
use Rattle.std.proofs.lemmas.Bool.{cond_both, cases_eq, eqb-true, eqb-false}
use Rattle.std.proofs.lemmas.List.{length-set}
use Rattle.std.proofs.lemmas.List.Elements.{All-nil, All-cons, All-head, All-tail}
use Rattle.pin_core.specs.declared.entry.Entry.{Entry}
use Rattle.pin_core.specs.declared.entry.SlotWord.{SlotWord}
use Rattle.pin_book.specs.declared.write.Write.{Write}
use Rattle.pin_core.specs.declared.view.View.{View}
use Rattle.pin_core.specs.declared.view.Role.TheVariants as roles
use Rattle.pin_book.specs.Replay.{front_number, is_taken}
use Rattle.pin_core.specs.Core.{CoreState, number_at, count_at, total, one_if, pins_at, claims, has_claimed, has_turn, allowance_of}
use Rattle.pin_core.specs.Lawful.{Lawful, WasFront, WasFrontOnce, KeepsHandles}
use Rattle.pin_core.specs.Step.{HasReader, MayClaim, claiming, claim_slot, with_number, found_pinned, miss_slot, claim}
use Rattle.pin_core.proofs.Sums.{total_kept, total-set, total_none, total_some}
use Rattle.pin_core.proofs.Words.{count_here, count_else, number_here, number_else}
use Rattle.pin_core.proofs.Seats.{each_set, is_live, idle, owners_kept, spent_kept}
use Rattle.pin_core.proofs.Loads.{seen_within}

-- where no entry is at the slot, each entry is elsewhere
elsewhere : (slot : ℕ) (entries : List Entry) → total (λ (e : Entry). one_if (e.slot == slot)) entries ≡ 0 → All (λ (e : Entry). e.slot ≢ slot) entries
elsewhere slot [] none = All-nil (λ (e : Entry). e.slot ≢ slot)
elsewhere slot (e ∷ es) none = All-cons (λ (e : Entry). e.slot ≢ slot) e es (λ same. let one = ap one_if (eq-eqb e.slot slot same) in omega arith) (elsewhere slot es (omega arith))

pub claims_free : (s : CoreState) (id number : ℕ) (v : View) (slot : ℕ) → Lawful s → HasReader s id number v → MayClaim s slot v → count_at s.words slot ≡ 0 → Lawful (claim_slot s id v slot)
claims_free s id number v slot h has may free =
    let here = has.here in let live = is_live number v has.reader in let w : View = claiming slot v in
    let turn = h.turn.each id v here live in let writes = h.owners.each id v here live in let places = h.places id v here live in
    let next : ℕ = front_number s.slots s.journal + 1 in let new : SlotWord = record { number = next; count = 0 } in let words : List SlotWord = set s.words slot new in
    let wide = h.follows.wide in let inside = may.inside in let within : slot < length s.words = omega arith in
    let others : (j : ℕ) (u : View) → j ≢ id → get_elem? s.views j ≡ some u → u.turn ≢ true = λ j u other there. idle s.slots s.journal _ s.turn s.views h.turn id j v u here may.turn other there in
    let unpinned : total (pins_at slot) s.views ≡ 0 = sym (h.pins slot inside) ∙ free in
    let kept : (j : ℕ) (u : View) → get_elem? s.views j ≡ some u → KeepsHandles s.slots s.journal (number_at s.words) u → KeepsHandles s.slots s.journal (number_at words) u =
    λ j u there handles k d low held. let apart = elsewhere slot u.entries (total_none (pins_at slot) s.views j u unpinned there) k d low in
    number_else s.words slot new (get_or u.entries k d).slot apart ∙ handles k d low held in
    let mine : (j : ℕ) → Some slot ≡ Some j → j ≡ slot = λ j e. cc in
    record {
      pins = λ j low. let same = total_kept (pins_at j) s.views id v w here refl in let before = h.pins j low in
          ⊎_elim (λ (e : j ≡ slot). let now = count_here s.words slot new within in let here = ap (count_at words) e in let old = ap (count_at s.words) e in omega arith)
          (λ (n : j ≢ slot). let now = count_else s.words slot new j n in omega arith) (cases_eq j slot);
      spent = spent_kept s.views id w live h.spent;
      handles = each_set (KeepsHandles s.slots s.journal (number_at words)) s.views id w (kept id v here (h.handles id v here live)) (λ j u _ there lives. kept j u there (h.handles j u there lives));
      follows = record {
        some_slot = h.follows.some_slot;
        replay = h.follows.replay;
        front = h.follows.front;
        wide = length-set s.words slot new ∙ wide;
        kept = λ j low none. let sum = total-set (has_claimed j) s.views id v w here in let before = ap (claims j) may.free in
            let apart : j ≢ slot = λ e. (let one = ap one_if (eq-eqb slot j (sym e)) in omega arith) in
            number_else s.words slot new j apart ∙ h.follows.kept j low (omega arith);
      };
      turn = record {
        one = total_kept has_turn s.views id v w here refl ∙ h.turn.one;
        each = each_set _ s.views id w record {
          holder = turn.holder;
          current = turn.current;
          claims = λ j is. may.turn;
          inside = λ j is. subst (λ k. k < s.slots) (sym (mine j is)) inside;
          unlisted = λ j is. subst (λ k. is_taken s.slots s.journal k ≡ false) (sym (mine j is)) may.unlisted;
          coming = λ j is. ap (number_at words) (mine j is) ∙ number_here s.words slot new within;
        } (λ j u other there lives. let f = h.turn.each j u there lives in record {
          holder = f.holder;
          current = f.current;
          claims = f.claims;
          inside = f.inside;
          unlisted = f.unlisted;
          coming = λ k is. absurd (others j u other there (f.claims k is));
        });
      };
      owners = owners_kept s.readers s.journal s.views id v w h.owners here refl refl record {
        reader = writes.reader;
        main = λ main. (let reader = has.reader.0 in absurd (cc));
        inside = writes.inside;
        seen = writes.seen;
        own = writes.own;
        told = writes.told;
        only = writes.only;
      };
      places = each_set _ s.views id w record {
        same = places.same;
        above = places.above;
        entries = places.entries;
        pinned = places.pinned;
      } (λ j u _ there. h.places j u there);
      room = (let sum = total_kept allowance_of s.views id v w here refl in let room = h.room in omega arith);
      few = each_set _ s.views id w (h.few id v here live) (λ j u _ there. h.few j u there);
    }

-- what holds of the number and of each of a list holds of each of the list with the number
All-with_number : (P : ℕ → Type 0) (number : ℕ) (numbers : List ℕ) → P number → All P numbers → All P (with_number number numbers)
All-with_number P number [] new all = All-cons P number [] new (All-nil P)
All-with_number P number (n ∷ ns) new all =
    let later = All-with_number P number ns new (All-tail P n ns all) in
    cond_both (nat_lt number n) (number ∷ n ∷ ns) _ (All P) (λ _. All-cons P number (n ∷ ns) new all)
    (λ _. cond_both (number == n) (n ∷ ns) (n ∷ with_number number ns) (All P) (λ _. all) (λ _. All-cons P n (with_number number ns) (All-head P n ns all) later))

entry_there : (slot : ℕ) (entries : List Entry) → 0 < total (λ (e : Entry). one_if (e.slot == slot)) entries → (P : Entry → Type 0) → All P entries → (e : Entry) × (e.slot ≡ slot) × P e
entry_there slot [] more P all = absurd (omega arith)
entry_there slot (e ∷ es) more P all =
    ⊎_elim (λ (is : e.slot ≡ slot). (e, is, All-head P e es all))
    (λ (no : e.slot ≢ slot). let zero = ap one_if (ne_eqb e.slot slot no) in entry_there slot es (omega arith) P (All-tail P e es all)) (cases_eq e.slot slot)

-- the slot of an entry was the front's once
was_once : (slots : ℕ) (journal : List Write) (floor seen more slot : ℕ) (e : Entry) → WasFront slots journal floor seen e → e.slot ≡ slot → seen ≤ more → WasFrontOnce slots journal floor more slot
was_once slots journal floor seen more slot e was is within = let told = was.told in (e.position, was.late, omega arith, sym is ∙ was.front)

pub claims_pinned : (s : CoreState) (id number : ℕ) (v : View) (slot : ℕ) → Lawful s → HasReader s id number v → MayClaim s slot v → 0 < count_at s.words slot → Lawful (miss_slot s id v slot)
claims_pinned s id number v slot h has may some_pin =
    let here = has.here in let live = is_live number v has.reader in let w : View = found_pinned slot v in
    let turn = h.turn.each id v here live in let writes = h.owners.each id v here live in let places = h.places id v here live in
    let counted = h.pins slot may.inside in
    let seat = total_some (pins_at slot) s.views (omega arith) in
    let lives : seat.1.role ≢ roles.Spent = λ spent. let none = ap (pins_at slot) (h.spent seat.0 seat.1 seat.2 spent) in let more = seat.3 in omega arith in
    let theirs = h.places seat.0 seat.1 seat.2 lives in
    let told = seen_within s.journal seat.1.seen (h.owners.each seat.0 seat.1 seat.2 lives).seen in
    let found = entry_there slot seat.1.entries seat.3 (WasFront s.slots s.journal s.floor (length seat.1.seen)) theirs.entries in
    let whole = ap (λ (l : List Write). length l) (turn.current may.turn) in
    let once = was_once s.slots s.journal s.floor (length seat.1.seen) (length v.seen) slot found.0 found.2 found.1 (omega arith) in
    record {
      pins = λ slot inside. h.pins slot inside ∙ sym (total_kept (pins_at slot) s.views id v w here refl);
      spent = spent_kept s.views id w live h.spent;
      handles = each_set _ s.views id w (h.handles id v here live) (λ j u _ there. h.handles j u there);
      follows = record {
        some_slot = h.follows.some_slot;
        replay = h.follows.replay;
        front = h.follows.front;
        wide = h.follows.wide;
        kept = λ slot inside none. h.follows.kept slot inside (sym (total_kept (has_claimed slot) s.views id v w here refl) ∙ none);
      };
      turn = record {
        one = total_kept has_turn s.views id v w here refl ∙ h.turn.one;
        each = each_set _ s.views id w record {
          holder = turn.holder;
          current = turn.current;
          claims = turn.claims;
          inside = turn.inside;
          unlisted = turn.unlisted;
          coming = turn.coming;
        } (λ j u _ there. h.turn.each j u there);
      };
      owners = owners_kept s.readers s.journal s.views id v w h.owners here refl refl record {
        reader = writes.reader;
        main = λ main. (let reader = has.reader.0 in absurd (cc));
        inside = writes.inside;
        seen = writes.seen;
        own = writes.own;
        told = writes.told;
        only = writes.only;
      };
      places = each_set _ s.views id w record {
        same = places.same;
        above = places.above;
        entries = places.entries;
        pinned = All-with_number (WasFrontOnce s.slots s.journal s.floor (length v.seen)) slot v.pinned once places.pinned;
      } (λ j u _ there. h.places j u there);
      room = (let sum = total_kept allowance_of s.views id v w here refl in let room = h.room in omega arith);
      few = each_set _ s.views id w (h.few id v here live) (λ j u _ there. h.few j u there);
    }

pub claims_keep : (s : CoreState) (id number : ℕ) (v : View) (slot : ℕ) → Lawful s → HasReader s id number v → MayClaim s slot v → Lawful (claim s id v slot)
claims_keep s id number v slot h has may =
    cond_both (count_at s.words slot == 0) (claim_slot s id v slot) (miss_slot s id v slot) Lawful (λ is. claims_free s id number v slot h has may (eqb-true (count_at s.words slot) 0 is))
    (λ no. let more = eqb-false (count_at s.words slot) 0 no in claims_pinned s id number v slot h has may (omega arith))

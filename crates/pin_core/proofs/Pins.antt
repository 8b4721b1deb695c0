-- A pin that is added, and one that is taken off, keep states lawful.
use Rattle.std.proofs.Common.{◌≡◌, ◌≢◌, ℕ, suc, ◌+◌, ◌-◌, ◌<◌, List, [], ◌∷◌, length, take, drop, set, get_or, sym, refl, ap, ◌∙◌, subst, ⊎_elim, arith, Bool, true, false, not, ◌==◌, eq-eqb, ne_eqb}
use Rattle.std.specs.List.{remove, All}
use Rattle.std.proofs.lemmas.Bool.{cases_eq, eqb-true}
use Rattle.std.proofs.lemmas.Option.{slice_get_within, get_or_from_slice_get}
use Rattle.std.proofs.lemmas.List.{length-set, length_push}
use Rattle.std.proofs.lemmas.List.Edits.{length-remove}
use Rattle.std.proofs.lemmas.List.Elements.{All-push, All-append, All-take, All-drop}
use Rattle.pin_core.specs.declared.entry.Entry.{Entry}
use Rattle.pin_core.specs.declared.entry.SlotWord.{SlotWord}
use Rattle.pin_book.specs.declared.write.Write.{Write}
use Rattle.pin_core.specs.declared.view.View.{View}
use Rattle.pin_book.specs.Replay.{front_number, front_slot}
use Rattle.pin_core.specs.Core.{CoreState, number_at, count_at, total, one_if, pins_at, has_claimed, has_turn, allowance_of}
use Rattle.pin_core.specs.Lawful.{Lawful, KeepsEntry, WasFront, HasOneTurn, KeepsHandles}
use Rattle.pin_core.specs.Step.{HasReader, MayPin, MayTake, new_entry, pinned, with_count, add_pin, unpinned, take_pin}
use Rattle.pin_core.proofs.Sums.{total_kept, total-set, total-append, total-remove, term_le}
use Rattle.pin_book.proofs.Journals.{front_slot_inside, replays_take}
use Rattle.pin_core.proofs.Words.{numbers_kept, count_here, count_else}
use Rattle.pin_core.proofs.Seats.{each_set, is_live, owners_kept, spent_kept}

-- each entry is held or a stray
held_or_stray : (entries : List Entry) → total (λ (e : Entry). one_if e.held) entries + total (λ (e : Entry). one_if (not e.held)) entries ≡ length entries
held_or_stray [] = refl
held_or_stray (e ∷ es) = one_of e.held (total (λ (e : Entry). one_if e.held) es) (total (λ (e : Entry). one_if (not e.held)) es) (length es) (held_or_stray es)
  where
    one_of : (b : Bool) (m n k : ℕ) → m + n ≡ k → (one_if b + m) + (one_if (not b) + n) ≡ suc k
    one_of true m n k is = omega arith
    one_of false m n k is = omega arith

All-remove : {X : Type 0} (P : X → Type 0) (xs : List X) (i : ℕ) → All P xs → All P (remove xs i)
All-remove P xs i all = All-append P (take i xs) (drop (suc i) xs) (All-take P i xs all) (All-drop P (suc i) xs all)

pub pins : (s : CoreState) (id number : ℕ) (v : View) → Lawful s → HasReader s id number v → MayPin v → Lawful (add_pin s id v)
pins s id number v h has may =
    let here = has.here in let live = is_live number v has.reader in
    let turn = h.turn.each id v here live in let writes = h.owners.each id v here live in let places = h.places id v here live in
    let slot : ℕ = front_slot s.slots v.seen in let count : ℕ = count_at s.words slot + 1 in
    let new : Entry = new_entry s.slots (number_at s.words slot) v in
    let w : View = pinned s.slots (number_at s.words slot) v in
    let words : List SlotWord = with_count s.words slot count in
    let shown : number_at s.words ≡ number_at words = sym (numbers_kept s.words slot count) in
    let journal_is : take (length v.seen) s.journal ≡ v.seen = writes.seen in
    let replays = h.follows.replay in let some = h.follows.some_slot in let wide = h.follows.wide in
    let inside : slot < s.slots = subst (λ (j : List Write). front_slot s.slots j < s.slots) journal_is (front_slot_inside s.slots (take (length v.seen) s.journal) some (replays_take s.slots s.journal (length v.seen) replays)) in
    let within : slot < length s.words = omega arith in
    let pins_after : (j : ℕ) → pins_at j w ≡ pins_at j v + one_if (slot == j) = λ j. omega (arith, total-append (λ (e : Entry). one_if (e.slot == j)) v.entries (new ∷ [])) in
    record {
      pins = λ j low. let sum = total-set (pins_at j) s.views id v w here in let before = h.pins j low in let more = pins_after j in
          ⊎_elim (λ (e : j ≡ slot). let one = ap one_if (eq-eqb slot j (sym e)) in let now = count_here s.words slot record { number = number_at s.words slot; count = count } within in
          let same = ap (count_at words) e in let old = ap (count_at s.words) e in omega arith)
          (λ (n : j ≢ slot). let zero = ap one_if (ne_eqb slot j (λ e. n (sym e))) in let now = count_else s.words slot record { number = number_at s.words slot; count = count } j n in omega arith) (cases_eq j slot);
      spent = spent_kept s.views id w live h.spent;
      handles = each_set (KeepsHandles s.slots s.journal (number_at words)) s.views id w
          (subst (λ f. KeepsHandles s.slots s.journal f w) shown (All-push (KeepsEntry s.slots s.journal (number_at s.words)) v.entries new (h.handles id v here live)
          (λ held. eqb-true (number_at s.words slot) (front_number s.slots v.seen) held ∙ ap (front_number s.slots) (sym journal_is))))
          (λ j u _ there lives. subst (λ f. KeepsHandles s.slots s.journal f u) shown (h.handles j u there lives));
      follows = record {
        some_slot = some;
        replay = replays;
        front = h.follows.front;
        wide = length-set s.words slot record { number = number_at s.words slot; count = count } ∙ wide;
        kept = λ j low none. ap (λ f. f j) (sym shown) ∙ h.follows.kept j low (sym (total_kept (has_claimed j) s.views id v w here refl) ∙ none);
      };
      turn = subst (λ f. HasOneTurn s.slots s.journal f s.turn (set s.views id w)) shown record {
        one = total_kept has_turn s.views id v w here refl ∙ h.turn.one;
        each = each_set _ s.views id w record {
          holder = turn.holder;
          current = turn.current;
          claims = turn.claims;
          inside = turn.inside;
          unlisted = turn.unlisted;
          coming = turn.coming;
        } (λ j u _ there. h.turn.each j u there);
      };
      owners = owners_kept s.readers s.journal s.views id v w h.owners here refl refl record {
        reader = writes.reader;
        main = λ is. (let reader = has.reader.0 in absurd (cc));
        inside = writes.inside;
        seen = writes.seen;
        own = writes.own;
        told = writes.told;
        only = writes.only;
      };
      places = each_set _ s.views id w record {
        same = places.same;
        above = places.above;
        entries = All-push (WasFront s.slots s.journal s.floor (length v.seen)) v.entries new places.entries
            record { front = ap (front_slot s.slots) (sym journal_is); late = places.above; told = omega arith };
        pinned = places.pinned;
      } (λ j u _ there. h.places j u there);
      room = (let sum = total_kept allowance_of s.views id v w here refl in let room = h.room in omega arith);
      few = each_set _ s.views id w
          (let room = may.room in let settled = may.settled in let long = length_push v.entries new in let both = held_or_stray v.entries in
          let one = ap (λ (ns : List ℕ). length ns) has.reader.1 in omega arith)
          (λ j u _ there. h.few j u there);
    }

pub unpins : (s : CoreState) (id number : ℕ) (v : View) (at : ℕ) (e : Entry) → Lawful s → HasReader s id number v → MayTake at e v → Lawful (take_pin s id v at e)
unpins s id number v at e h has may =
    let here = has.here in let live = is_live number v has.reader in
    let turn = h.turn.each id v here live in let writes = h.owners.each id v here live in let places = h.places id v here live in
    let slot : ℕ = e.slot in let count : ℕ = count_at s.words slot - 1 in
    let w : View = unpinned at v in
    let words : List SlotWord = with_count s.words slot count in
    let shown : number_at s.words ≡ number_at words = sym (numbers_kept s.words slot count) in
    let replays = h.follows.replay in let some = h.follows.some_slot in let wide = h.follows.wide in
    let among : at < length v.entries = slice_get_within v.entries at e may.there in
    let is : get_or v.entries at e ≡ e = get_or_from_slice_get v.entries at e e may.there in
    let was : WasFront s.slots s.journal s.floor (length v.seen) e = subst (WasFront s.slots s.journal s.floor (length v.seen)) is (places.entries at e among) in
    let inside : slot < s.slots = subst (λ k. k < s.slots) (sym was.front) (front_slot_inside s.slots (take e.position s.journal) some (replays_take s.slots s.journal e.position replays)) in
    let within : slot < length s.words = omega arith in
    let pins_before : (j : ℕ) → pins_at j w + one_if (slot == j) ≡ pins_at j v = λ j. let one = ap (λ (x : Entry). one_if (x.slot == j)) is in
    let sum = total-remove (λ (x : Entry). one_if (x.slot == j)) v.entries at e among in omega arith in
    record {
      pins = λ j low. let sum = total-set (pins_at j) s.views id v w here in let before = h.pins j low in let less = pins_before j in
          let part = term_le (pins_at j) s.views id v here in
          ⊎_elim (λ (c : j ≡ slot). let one = ap one_if (eq-eqb slot j (sym c)) in let now = count_here s.words slot record { number = number_at s.words slot; count = count } within in
          let same = ap (count_at words) c in let old = ap (count_at s.words) c in omega arith)
          (λ (n : j ≢ slot). let zero = ap one_if (ne_eqb slot j (λ c. n (sym c))) in let now = count_else s.words slot record { number = number_at s.words slot; count = count } j n in omega arith) (cases_eq j slot);
      spent = spent_kept s.views id w live h.spent;
      handles = each_set (KeepsHandles s.slots s.journal (number_at words)) s.views id w
          (subst (λ f. KeepsHandles s.slots s.journal f w) shown (All-remove (KeepsEntry s.slots s.journal (number_at s.words)) v.entries at (h.handles id v here live)))
          (λ j u _ there lives. subst (λ f. KeepsHandles s.slots s.journal f u) shown (h.handles j u there lives));
      follows = record {
        some_slot = some;
        replay = replays;
        front = h.follows.front;
        wide = length-set s.words slot record { number = number_at s.words slot; count = count } ∙ wide;
        kept = λ j low none. ap (λ f. f j) (sym shown) ∙ h.follows.kept j low (sym (total_kept (has_claimed j) s.views id v w here refl) ∙ none);
      };
      turn = subst (λ f. HasOneTurn s.slots s.journal f s.turn (set s.views id w)) shown record {
        one = total_kept has_turn s.views id v w here refl ∙ h.turn.one;
        each = each_set _ s.views id w record {
          holder = turn.holder;
          current = turn.current;
          claims = turn.claims;
          inside = turn.inside;
          unlisted = turn.unlisted;
          coming = turn.coming;
        } (λ j u _ there. h.turn.each j u there);
      };
      owners = owners_kept s.readers s.journal s.views id v w h.owners here refl refl record {
        reader = writes.reader;
        main = λ main. (let reader = has.reader.0 in absurd (cc));
        inside = writes.inside;
        seen = writes.seen;
        own = writes.own;
        told = writes.told;
        only = writes.only;
      };
      places = each_set _ s.views id w record {
        same = places.same;
        above = places.above;
        entries = All-remove (WasFront s.slots s.journal s.floor (length v.seen)) v.entries at places.entries;
        pinned = places.pinned;
      } (λ j u _ there. h.places j u there);
      room = (let sum = total_kept allowance_of s.views id v w here refl in let room = h.room in omega arith);
      few = each_set _ s.views id w (let few = h.few id v here live in let less = length-remove v.entries at among in omega arith) (λ j u _ there. h.few j u there);
    }

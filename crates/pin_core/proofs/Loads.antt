-- A load of the front word keeps states lawful.
use Rattle.std.proofs.Common.{◌≡◌, ℕ, ◌≤◌, List, length, take, sym, refl, ap, ◌∙◌, arith, All}
use Rattle.std.proofs.lemmas.List.{take_all, length-take}
use Rattle.std.proofs.lemmas.List.Elements.{All-weaker}
use Rattle.pin_book.specs.declared.write.Write.{Write}
use Rattle.pin_core.specs.declared.view.View.{View}
use Rattle.pin_core.specs.Core.{CoreState, pins_at, has_turn, has_claimed, allowance_of}
use Rattle.pin_core.specs.Lawful.{Lawful, WasFront, WasFrontOnce}
use Rattle.pin_core.specs.Step.{HasReader, loaded, load_front}
use Rattle.pin_core.proofs.Sums.{total_kept}
use Rattle.pin_core.proofs.Seats.{each_set, is_live, owners_kept, spent_kept}

-- a seen journal is no longer than the journal
pub seen_within : (journal seen : List Write) → take (length seen) journal ≡ seen → length seen ≤ length journal
seen_within journal seen is = let long = ap (λ (xs : List Write). length xs) is in omega (arith, length-take (length seen) journal)

-- a slot that was the front's once was so within all that is seen later
pub once_later : (slots : ℕ) (journal : List Write) (floor seen more : ℕ) (found : List ℕ) → seen ≤ more → All (WasFrontOnce slots journal floor seen) found → All (WasFrontOnce slots journal floor more) found
once_later slots journal floor seen more found longer all =
    All-weaker (WasFrontOnce slots journal floor seen) (WasFrontOnce slots journal floor more) (λ slot was. (was.0, was.1, (let told = was.2 in omega arith), was.3)) found all

pub loads : (s : CoreState) (id number : ℕ) (v : View) → Lawful s → HasReader s id number v → Lawful (load_front s id v)
loads s id number v h has =
    let here = has.here in let live = is_live number v has.reader in let w = loaded s.journal v in
    let turn = h.turn.each id v here live in let writes = h.owners.each id v here live in let places = h.places id v here live in
    let within = seen_within s.journal v.seen writes.seen in
    record {
      pins = λ slot inside. h.pins slot inside ∙ sym (total_kept (pins_at slot) s.views id v w here refl);
      spent = spent_kept s.views id w live h.spent;
      handles = each_set _ s.views id w (h.handles id v here live) (λ j u _ there. h.handles j u there);
      follows = record {
        some_slot = h.follows.some_slot;
        replay = h.follows.replay;
        front = h.follows.front;
        wide = h.follows.wide;
        kept = λ slot inside none. h.follows.kept slot inside (sym (total_kept (has_claimed slot) s.views id v w here refl) ∙ none);
      };
      turn = record {
        one = total_kept has_turn s.views id v w here refl ∙ h.turn.one;
        each = each_set _ s.views id w record {
          holder = turn.holder;
          current = λ _. refl;
          claims = turn.claims;
          inside = turn.inside;
          unlisted = turn.unlisted;
          coming = turn.coming;
        } (λ j u _ there. h.turn.each j u there);
      };
      owners = owners_kept s.readers s.journal s.views id v w h.owners here refl refl record {
        reader = writes.reader;
        main = writes.main;
        inside = writes.inside;
        seen = take_all (length s.journal) s.journal (omega arith);
        own = writes.own;
        told = λ r mine. refl;
        only = writes.only;
      };
      places = each_set _ s.views id w record {
        same = places.same;
        above = (let above = places.above in omega arith);
        entries = All-weaker (WasFront s.slots s.journal s.floor (length v.seen)) (WasFront s.slots s.journal s.floor (length s.journal)) (λ e f. record { front = f.front; late = f.late; told = (let told = f.told in omega arith) }) v.entries places.entries;
        pinned = once_later s.slots s.journal s.floor (length v.seen) (length s.journal) v.pinned within places.pinned;
      } (λ j u _ there. h.places j u there);
      room = (let sum = total_kept allowance_of s.views id v w here refl in let room = h.room in omega arith);
      few = each_set _ s.views id w (h.few id v here live) (λ j u _ there. h.few j u there);
    }

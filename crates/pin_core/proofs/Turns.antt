-- The turn that is taken, found taken, and given back, keeps states lawful.
use Rattle.std.proofs.Common.{◌≡◌, ◌≢◌, ℕ, length, sym, refl, ap, ◌∙◌, arith, true, false, Option, Some, None}
use Rattle.std.specs.Prelude.{is_some}
use mathlib.Core.Option.{some}
use lib.ListN.{get_elem?}
use Rattle.std.proofs.lemmas.Bool.{cond_both}
use Rattle.std.proofs.lemmas.List.{take_all}
use Rattle.std.proofs.lemmas.List.Elements.{All-nil, All-weaker}
use Rattle.pin_core.specs.declared.view.View.{View}
use Rattle.pin_core.specs.Core.{CoreState, total, one_if, pins_at, has_claimed, has_turn, allowance_of}
use Rattle.pin_core.specs.Lawful.{Lawful, WasFront, WasFrontOnce}
use Rattle.pin_core.specs.Step.{HasReader, MayTakeTurn, MayGive, got_turn, was_refused, take_turn, miss_turn, exchange_turn, gave_turn, give_turn}
use Rattle.pin_core.proofs.Sums.{total_kept, total-set, total_none, one_if-le}
use Rattle.pin_core.proofs.Seats.{each_set, is_live, idle, owners_kept, spent_kept}
use Rattle.pin_core.proofs.Loads.{seen_within}

-- a turn word that names nobody names somebody, if anything does
none_is : (turn : Option ℕ) → is_some turn ≡ false → turn ≡ None
none_is None is = refl
none_is (Some number) is = cc

pub takes : (s : CoreState) (id number : ℕ) (v : View) → Lawful s → HasReader s id number v → MayTakeTurn v → s.turn ≡ None → Lawful (take_turn s id number v)
takes s id number v h has may free =
    let here = has.here in let live = is_live number v has.reader in let w : View = got_turn s.journal v in
    let turn = h.turn.each id v here live in let writes = h.owners.each id v here live in let places = h.places id v here live in
    let within = seen_within s.journal v.seen writes.seen in
    let nobody : total has_turn s.views ≡ 0 = h.turn.one ∙ ap (λ (t : Option ℕ). one_if (is_some t)) free in
    let others : (j : ℕ) (u : View) → get_elem? s.views j ≡ some u → u.turn ≢ true = λ j u there theirs. let none = total_none has_turn s.views j u nobody there in let one = ap one_if theirs in omega arith in
    record {
      pins = λ slot inside. h.pins slot inside ∙ sym (total_kept (pins_at slot) s.views id v w here refl);
      spent = spent_kept s.views id w live h.spent;
      handles = each_set _ s.views id w (h.handles id v here live) (λ j u _ there. h.handles j u there);
      follows = record {
        some_slot = h.follows.some_slot;
        replay = h.follows.replay;
        front = h.follows.front;
        wide = h.follows.wide;
        kept = λ slot inside none. h.follows.kept slot inside (sym (total_kept (has_claimed slot) s.views id v w here refl) ∙ none);
      };
      turn = record {
        one = (let sum = total-set has_turn s.views id v w here in let idle = ap one_if may.idle in omega arith);
        each = each_set _ s.views id w record {
          holder = λ _. (number, has.reader.0, has.reader.1, refl);
          current = λ _. refl;
          claims = λ slot is. refl;
          inside = turn.inside;
          unlisted = turn.unlisted;
          coming = turn.coming;
        } (λ j u _ there lives. let f = h.turn.each j u there lives in record {
          holder = λ theirs. absurd (others j u there theirs);
          current = f.current;
          claims = f.claims;
          inside = f.inside;
          unlisted = f.unlisted;
          coming = f.coming;
        });
      };
      owners = owners_kept s.readers s.journal s.views id v w h.owners here refl refl record {
        reader = writes.reader;
        main = λ main. (let reader = has.reader.0 in absurd (cc));
        inside = writes.inside;
        seen = take_all (length s.journal) s.journal (omega arith);
        own = writes.own;
        told = λ r mine. refl;
        only = writes.only;
      };
      places = each_set _ s.views id w record {
        same = places.same;
        above = (let above = places.above in omega arith);
        entries = All-weaker (WasFront s.slots s.journal s.floor (length v.seen)) (WasFront s.slots s.journal s.floor (length s.journal)) (λ e f. record { front = f.front; late = f.late; told = (let told = f.told in omega arith) }) v.entries places.entries;
        pinned = All-nil (WasFrontOnce s.slots s.journal s.floor (length s.journal));
      } (λ j u _ there. h.places j u there);
      room = (let sum = total_kept allowance_of s.views id v w here refl in let room = h.room in omega arith);
      few = each_set _ s.views id w (h.few id v here live) (λ j u _ there. h.few j u there);
    }

pub misses : (s : CoreState) (id number : ℕ) (v : View) → Lawful s → HasReader s id number v → Lawful (miss_turn s id v)
misses s id number v h has =
    let here = has.here in let live = is_live number v has.reader in let w : View = was_refused s.turn v in
    let turn = h.turn.each id v here live in let writes = h.owners.each id v here live in let places = h.places id v here live in
    record {
      pins = λ slot inside. h.pins slot inside ∙ sym (total_kept (pins_at slot) s.views id v w here refl);
      spent = spent_kept s.views id w live h.spent;
      handles = each_set _ s.views id w (h.handles id v here live) (λ j u _ there. h.handles j u there);
      follows = record {
        some_slot = h.follows.some_slot;
        replay = h.follows.replay;
        front = h.follows.front;
        wide = h.follows.wide;
        kept = λ slot inside none. h.follows.kept slot inside (sym (total_kept (has_claimed slot) s.views id v w here refl) ∙ none);
      };
      turn = record {
        one = total_kept has_turn s.views id v w here refl ∙ h.turn.one;
        each = each_set _ s.views id w record {
          holder = turn.holder;
          current = turn.current;
          claims = turn.claims;
          inside = turn.inside;
          unlisted = turn.unlisted;
          coming = turn.coming;
        } (λ j u _ there. h.turn.each j u there);
      };
      owners = owners_kept s.readers s.journal s.views id v w h.owners here refl refl record {
        reader = writes.reader;
        main = writes.main;
        inside = writes.inside;
        seen = writes.seen;
        own = writes.own;
        told = writes.told;
        only = writes.only;
      };
      places = each_set _ s.views id w record {
        same = places.same;
        above = places.above;
        entries = places.entries;
        pinned = places.pinned;
      } (λ j u _ there. h.places j u there);
      room = (let sum = total_kept allowance_of s.views id v w here refl in let room = h.room in omega arith);
      few = each_set _ s.views id w (h.few id v here live) (λ j u _ there. h.few j u there);
    }

pub exchanges : (s : CoreState) (id number : ℕ) (v : View) → Lawful s → HasReader s id number v → MayTakeTurn v → Lawful (exchange_turn s id number v)
exchanges s id number v h has may =
    cond_both (is_some s.turn) (miss_turn s id v) (take_turn s id number v) Lawful (λ _. misses s id number v h has) (λ is. takes s id number v h has may (none_is s.turn is))

pub gives_back : (s : CoreState) (id number : ℕ) (v : View) → Lawful s → HasReader s id number v → MayGive v → Lawful (give_turn s id v)
gives_back s id number v h has may =
    let here = has.here in let live = is_live number v has.reader in let w : View = gave_turn v in
    let turn = h.turn.each id v here live in let writes = h.owners.each id v here live in let places = h.places id v here live in
    let published = may.published in
    let others : (j : ℕ) (u : View) → j ≢ id → get_elem? s.views j ≡ some u → u.turn ≢ true = λ j u other there. idle s.slots s.journal _ s.turn s.views h.turn id j v u here may.turn other there in
    record {
      pins = λ slot inside. h.pins slot inside ∙ sym (total_kept (pins_at slot) s.views id v w here refl);
      spent = spent_kept s.views id w live h.spent;
      handles = each_set _ s.views id w (h.handles id v here live) (λ j u _ there. h.handles j u there);
      follows = record {
        some_slot = h.follows.some_slot;
        replay = h.follows.replay;
        front = h.follows.front;
        wide = h.follows.wide;
        kept = λ slot inside none. h.follows.kept slot inside (sym (total_kept (has_claimed slot) s.views id v w here refl) ∙ none);
      };
      turn = record {
        one = (let sum = total-set has_turn s.views id v w here in let one = h.turn.one in let mine = ap one_if may.turn in let most = one_if-le (is_some s.turn) in omega arith);
        each = each_set _ s.views id w record {
          holder = λ is. absurd (cc);
          current = λ is. absurd (cc);
          claims = λ slot is. absurd (cc);
          inside = turn.inside;
          unlisted = turn.unlisted;
          coming = turn.coming;
        } (λ j u other there lives. let f = h.turn.each j u there lives in record {
          holder = λ theirs. absurd (others j u other there theirs);
          current = f.current;
          claims = f.claims;
          inside = f.inside;
          unlisted = f.unlisted;
          coming = f.coming;
        });
      };
      owners = owners_kept s.readers s.journal s.views id v w h.owners here refl refl record {
        reader = writes.reader;
        main = λ main. (let reader = has.reader.0 in absurd (cc));
        inside = writes.inside;
        seen = writes.seen;
        own = writes.own;
        told = writes.told;
        only = writes.only;
      };
      places = each_set _ s.views id w record {
        same = places.same;
        above = places.above;
        entries = places.entries;
        pinned = places.pinned;
      } (λ j u _ there. h.places j u there);
      room = (let sum = total_kept allowance_of s.views id v w here refl in let room = h.room in omega arith);
      few = each_set _ s.views id w (h.few id v here live) (λ j u _ there. h.few j u there);
    }

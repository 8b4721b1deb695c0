-- How a reader gets the front: by a load, by pins that miss, and by one that holds.
use Rattle.std.proofs.Common.{◌≡◌, ℕ, zero, suc, ◌+◌, ◌≤◌, ◌<◌, List, [], ◌∷◌, ◌++◌, length, take, get_or, sym, refl, ap, ◌∙◌, subst, ⊎_elim, arith, Bool, true, false, not, eq-eqb, ◌==◌, ◌&&◌, Some, None}
use Rattle.std.specs.Prelude.{position, slice_get}
use Rattle.std.proofs.lemmas.Bool.{and_parts, eqb-true, cases_Bool}
use Rattle.std.proofs.lemmas.List.Quantifiers.{position-Some}
use Rattle.std.specs.List.{Contains, position_or_len}
use Rattle.std.proofs.lemmas.List.Elements.{Contains-push_cases, Contains-get_or}
use Rattle.pin_book.specs.declared.payload.Payload.{Ghosts}
use Rattle.pin_book.specs.declared.write.Write.{Write}
use Rattle.pin_book.specs.Replay.{replays}
use Rattle.pin_core.specs.declared.entry.Entry.{Entry}
use Rattle.pin_core.specs.declared.view.View.{View}
use Rattle.pin_core.specs.Core.{total, one_if}
use Rattle.pin_core.specs.Step.{MayPin}
use Rattle.pin_table.specs.declared.position.Position.{Position}
use Rattle.pin_table.specs.declared.reader.Reader.{Reader}
use Rattle.pin_table.specs.Handles.{Handle, HoldsFront, AreAllHeld, pin_of}
use Rattle.pin_table.specs.Pins.{PinsFront, PinsAtOnce, Misses, with_handle}
use Rattle.pin_table.specs.Reader.{reader_view, seen, SeesMore, Looks}
use Rattle.pin_table.specs.Table.{plan}
use Rattle.pin_table.proofs.CarriedLemmas.{not_none}
use Rattle.pin_table.proofs.ExchangeLemmas.{among_one_more, head_among, tail_among}
use Rattle.pin_table.proofs.PlaceLemmas.{take_seen, no_shorter}
use Rattle.pin_table.proofs.HandPins.{all_counted, same_entry}

-- where all pins hold fronts, none is a stray
no_strays : (es : List Entry) → ((e : Entry) → Contains es e → e.held ≡ true) → total (λ (e : Entry). one_if (not e.held)) es ≡ 0
no_strays [] held = refl
no_strays (e ∷ es) held = let none = ap (λ b. one_if (not b)) (held e (head_among e es)) in let more = no_strays es (λ x among. held x (tail_among e es x among)) in omega arith

-- a reader with fewer than eight handles may pin
pub may_pin : (slots : ℕ) (v : View) → AreAllHeld slots v → length v.entries + 1 ≤ 8 → MayPin v
may_pin slots v held few = let all : (e : Entry) → Contains v.entries e → e.held ≡ true = λ e among. (held e among).held in record {
  room = (let many = all_counted v.entries all in omega arith);
  settled = no_strays v.entries all;
}

-- one pin more that holds a front
pub held_with : (slots : ℕ) (journal : List Write) (entries : List Entry) (e : Entry) → ((x : Entry) → Contains entries x → HoldsFront slots journal x) → HoldsFront slots journal e → (x : Entry) → Contains (entries ++ e ∷ []) x → HoldsFront slots journal x
held_with slots journal entries e held holds x among = ⊎_elim (λ old. held x old) (λ new. subst (HoldsFront slots journal) new holds) (Contains-push_cases entries e x among)

module _ {P H : Type 0} {meanings : Ghosts P H} where
  -- what a reader has seen more of the journal is the same for one that has seen the same
  pub sees_same : (old first reader : Reader P H meanings) → SeesMore old first → seen reader ≡ seen first → reader.table.now ≡ first.table.now → SeesMore old reader
  sees_same old first reader h same table = record {
    grows = ap (take (length (seen old))) same ∙ h.grows;
    replay = subst (λ s. replays (plan old.table.now).slots s ≡ true) (sym same) h.replay;
    within = subst (λ s. length s ≤ (plan old.table.now).room) (sym same) h.within;
    table = table ∙ h.table;
  }

  -- the reader has missed some number of times, and has seen more each time
  pub record AfterMisses (reader reader' : Reader P H meanings) : Type 0 where
    pub misses : ℕ
    pub table : reader'.table.now ≡ reader.table.now
    pub grows : take (length (seen reader)) (seen reader') ≡ seen reader
    pub few : length (seen reader) + misses ≤ length (seen reader')
    pub replay : replays (plan reader.table.now).slots (seen reader') ≡ true
    pub within : length (seen reader') ≤ (plan reader.table.now).room
    pub view : reader_view reader' ≡ record (reader_view reader) { seen = seen reader'; loads = (reader_view reader).loads + misses; pins = (reader_view reader).pins + misses }

  pub no_miss_yet : (old reader : Reader P H meanings) (position : Position) → Looks old reader position → AfterMisses reader reader
  no_miss_yet old reader position h = record {
    misses = 0;
    table = refl;
    grows = Rattle.std.proofs.lemmas.List.take_all (length (seen reader)) (seen reader) (omega arith);
    few = (omega arith);
    replay = subst (λ t. replays (plan t).slots (seen reader) ≡ true) (sym h.more.table) h.more.replay;
    within = subst (λ t. length (seen reader) ≤ (plan t).room) (sym h.more.table) h.more.within;
    view = plus_none (reader_view reader).loads (reader_view reader).pins (omega arith) (omega arith);
  }
    where
      plus_none : (a b : ℕ) → a ≡ (reader_view reader).loads + 0 → b ≡ (reader_view reader).pins + 0 → record (reader_view reader) { loads = a; pins = b } ≡ record (reader_view reader) { loads = (reader_view reader).loads + 0; pins = (reader_view reader).pins + 0 }
      plus_none a b la lb = λ i. record (reader_view reader) { loads = la i; pins = lb i }

  pub missed_again : (first reader reader' : Reader P H meanings) → AfterMisses first reader → Misses reader reader' → AfterMisses first reader'
  missed_again first reader reader' h m = let longer = no_shorter (seen first) (seen reader) h.grows in record {
    misses = h.misses + 1;
    table = m.more.table ∙ h.table;
    grows = take_seen (length (seen first)) (seen reader) (seen reader') longer m.more.grows ∙ h.grows;
    few = (let few = h.few in let later = m.later in omega arith);
    replay = subst (λ t. replays (plan t).slots (seen reader') ≡ true) h.table m.more.replay;
    within = subst (λ t. length (seen reader') ≤ (plan t).room) h.table m.more.within;
    view = m.view ∙ ap (λ (v : View). record v { seen = seen reader'; loads = v.loads + 1; pins = v.pins + 1 }) h.view
        ∙ one_more ((reader_view first).loads + h.misses + 1) ((reader_view first).pins + h.misses + 1) (omega arith) (omega arith);
  }
    where
      one_more : (a b : ℕ) → a ≡ (reader_view first).loads + (h.misses + 1) → b ≡ (reader_view first).pins + (h.misses + 1)
          → record (reader_view first) { seen = seen reader'; loads = a; pins = b } ≡ record (reader_view first) { seen = seen reader'; loads = (reader_view first).loads + (h.misses + 1); pins = (reader_view first).pins + (h.misses + 1) }
      one_more a b la lb = λ i. record (reader_view first) { seen = seen reader'; loads = la i; pins = lb i }

  module _ (home : P → H) (source : P → ℕ) where
    pub pinned_at_last : (old first reader reader' : Reader P H meanings) (position : Position) (handle : Handle P) → Looks old first position → AfterMisses first reader → PinsAtOnce home source reader reader' handle → PinsFront home source old reader' handle
    pinned_at_last old first reader reader' position handle l h p =
        let now : seen reader' ≡ seen reader = ap (λ (v : View). v.seen) p.view in let longer = no_shorter (seen old) (seen first) l.more.grows in record {
          misses = h.misses;
          more = record {
            grows = ap (take (length (seen old))) now ∙ take_seen (length (seen old)) (seen first) (seen reader) longer h.grows ∙ l.more.grows;
            replay = subst (λ s. replays (plan old.table.now).slots s ≡ true) (sym now) (subst (λ t. replays (plan t).slots (seen reader) ≡ true) l.more.table h.replay);
            within = subst (λ s. length s ≤ (plan old.table.now).room) (sym now) (subst (λ t. length (seen reader) ≤ (plan t).room) l.more.table h.within);
            table = p.table ∙ h.table ∙ l.more.table;
          };
          few = (let few = h.few in let same = ap (λ (s : List Write). length s) now in omega arith);
          view = p.view ∙ ap (λ (v : View). record v { entries = v.entries ++ pin_of handle ∷ []; pins = v.pins + 1 }) (h.view ∙ ap (λ (v : View). record v { seen = seen reader; loads = v.loads + h.misses; pins = v.pins + h.misses }) l.view)
              ∙ one_handle (seen reader) ((reader_view old).loads + 1 + h.misses) (sym now) (omega arith);
          position = p.position ∙ sym (ap (λ (s : List Write). length s) now);
          made = p.made;
        }
      where
        one_handle : (s : List Write) (a : ℕ) → s ≡ seen reader' → a ≡ (reader_view old).loads + h.misses + 1
            → record (reader_view old) { seen = s; entries = (reader_view old).entries ++ pin_of handle ∷ []; loads = a; pins = (reader_view old).pins + h.misses + 1 } ≡ with_handle (seen reader') h.misses handle (reader_view old)
        one_handle s a same more = λ i. record (reader_view old) { seen = same i; entries = (reader_view old).entries ++ pin_of handle ∷ []; loads = more i; pins = (reader_view old).pins + h.misses + 1 }

-- ---- a handle's pin among the reader's ----

-- the test by which it is found
abbrev pub stands_at : ℕ → ℕ → Entry → Bool
stands_at slot w e = (e.slot == slot) && (e.position == w)

-- the first pin that passes it is the handle's
pub found_at : (slots : ℕ) (journal : List Write) (es : List Entry) (slot w place : ℕ) → ((x : Entry) → Contains es x → HoldsFront slots journal x) → position (stands_at slot w) es ≡ Some place
    → slice_get es place ≡ Some record { slot = slot; position = w; held = true }
found_at slots journal es slot w place held found =
    let at = position-Some (stands_at slot w) es place (record { slot = slot; position = w; held = true }) found in
    let there = Contains-get_or es place (record { slot = slot; position = w; held = true }) at.0 in let passes = and_parts _ _ at.1 in
    slice_get_at es place (record { slot = slot; position = w; held = true }) at.0
    ∙ ap Some (same_entry _ slot w true (sym (eqb-true _ slot passes.0)) (sym (eqb-true _ w passes.1)) (held _ there).held)
  where
    slice_get_at : (xs : List Entry) (k : ℕ) (d : Entry) → k < length xs → slice_get xs k ≡ Some (get_or xs k d)
    slice_get_at [] k d low = absurd (omega arith)
    slice_get_at (x ∷ xs) zero d low = refl
    slice_get_at (x ∷ xs) (suc k) d low = slice_get_at xs k d (omega arith)

-- some pin passes it
pub not_missing : (es : List Entry) (slot w : ℕ) → Contains es record { slot = slot; position = w; held = true } → position (stands_at slot w) es ≡ None → ⊥
not_missing es slot w among missing = not_none (stands_at slot w) es (before_end es among) missing
  where
    passes : stands_at slot w record { slot = slot; position = w; held = true } ≡ true
    passes = rw (eq-eqb slot slot refl, eq-eqb w w refl) refl

    before_end : (xs : List Entry) → Contains xs record { slot = slot; position = w; held = true } → position_or_len (stands_at slot w) xs < length xs
    before_end [] here = absurd (let low = here.1 in omega arith)
    before_end (x ∷ xs) here = ⊎_elim
        (λ (yes : stands_at slot w x ≡ true). rw yes (omega arith))
        (λ (else : stands_at slot w x ≡ false). ⊎_elim
        (λ is. absurd (let both = sym else ∙ ap (stands_at slot w) is ∙ passes in cc))
        (λ later. let more = before_end xs later in rw else (omega arith))
        (among_one_more x xs record { slot = slot; position = w; held = true } here))
        (cases_Bool (stands_at slot w x))

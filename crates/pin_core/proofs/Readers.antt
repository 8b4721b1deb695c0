-- What a lawful state promises each reader.
use Rattle.std.proofs.Common.{◌≡◌, ◌≢◌, ◌⊎◌, ℕ, zero, suc, ◌+◌, ◌≤◌, ◌<◌, List, [], ◌∷◌, length, take, get_or, sym, refl, ap, ◌∙◌, subst, ⊎_elim, arith, true, false, ◌==◌, ◌&&◌, eq-eqb, ne_eqb, Option, Some, None}
use Rattle.std.specs.Prelude.{is_some, slice_get}
use mathlib.Core.Option.{some}
use lib.ListN.{get_elem?}
use Rattle.std.specs.List.{Contains}
use Rattle.std.proofs.lemmas.Bool.{cases_eq, cases_lt, cases_order, cases_Bool, cond-true, cond-false, eqb-true, and_parts, both_ways, false_from_ne_true}
use Rattle.std.proofs.lemmas.List.{take_all, take-take}
use Rattle.std.proofs.lemmas.List.Elements.{All-contains}
use Rattle.pin_core.specs.declared.entry.Entry.{Entry}
use Rattle.pin_book.specs.declared.write.Write.{Write}
use Rattle.pin_core.specs.declared.view.View.{View}
use Rattle.pin_core.specs.declared.view.Role.TheVariants as roles
use Rattle.pin_book.specs.Sequence.{writes_by, counts_from, AreCounted}
use Rattle.pin_book.specs.Replay.{front_number, front_slot, kept_number, is_taken}
use Rattle.pin_core.specs.Core.{CoreState, number_at, count_at, total, one_if, pins_at, claims, has_claimed, has_turn, allowance_of}
use Rattle.pin_core.specs.Lawful.{Lawful, KeepsEntry, WasFront, entry_number}
use Rattle.pin_core.specs.Step.{HasReader, claim, claim_slot, miss_slot}
use Rattle.pin_core.proofs.Sums.{total_some, total_none, term_le}
use Rattle.pin_book.proofs.Journals.{replays_take, front_slot_inside, front_kept, front_taken, kept_le, kept_rises}
use Rattle.pin_core.proofs.Seats.{is_live, idle}
use Rattle.pin_core.proofs.Loads.{seen_within}
use Rattle.pin_core.proofs.Stores.{has_own, own_number, all_pass}

-- ---- claims ----

pub claims_is : (slot : ℕ) (claimed : Option ℕ) → 0 < claims slot claimed → claimed ≡ Some slot
claims_is slot None more = absurd (omega arith)
claims_is slot (Some other) more = ⊎_elim (λ (is : other ≡ slot). ap (λ n. Some n) is) (λ (no : other ≢ slot). let zero = ap one_if (ne_eqb other slot no) in absurd (omega arith)) (cases_eq other slot)

-- a seat that has claimed a slot isn't spent
pub claimer_lives : (s : CoreState) → Lawful s → (id slot : ℕ) (u : View) → get_elem? s.views id ≡ some u → u.claimed ≡ Some slot → u.role ≢ roles.Spent
claimer_lives s h id slot u at claimed is = let same = ap (λ (x : View). x.claimed) (h.spent id u at is) in absurd (cc)

-- a slot that no seat has claimed
pub unclaimed : (s : CoreState) → Lawful s → (slot : ℕ) → ((id : ℕ) (u : View) → get_elem? s.views id ≡ some u → u.role ≢ roles.Spent → u.claimed ≢ Some slot) → total (has_claimed slot) s.views ≡ 0
unclaimed s h slot none = by_count (total (has_claimed slot) s.views) refl
  where
    by_count : (n : ℕ) → total (has_claimed slot) s.views ≡ n → total (has_claimed slot) s.views ≡ 0
    by_count zero is = is
    by_count (suc n) is = let seat = total_some (has_claimed slot) s.views (omega arith) in let claimed = claims_is slot seat.1.claimed seat.3 in
        absurd (none seat.0 seat.1 seat.2 (claimer_lives s h seat.0 slot seat.1 seat.2 claimed) claimed)

-- ---- handles ----

module _ (s : CoreState) (h : Lawful s) (id number : ℕ) (v : View) (has : HasReader s id number v) (e : Entry) (among : Contains v.entries e) where
  was : WasFront s.slots s.journal s.floor (length v.seen) e
  was = All-contains (WasFront s.slots s.journal s.floor (length v.seen)) v.entries e (h.places id v has.here (is_live number v has.reader)).entries among

  within : length v.seen ≤ length s.journal
  within = seen_within s.journal v.seen (h.owners.each id v has.here (is_live number v has.reader)).seen

  inside : e.slot < s.slots
  inside = subst (λ k. k < s.slots) (sym was.front) (front_slot_inside s.slots (take e.position s.journal) h.follows.some_slot (replays_take s.slots s.journal e.position h.follows.replay))

  -- the slot's word counts the pin
  pub counted : 0 < count_at s.words e.slot
  counted = let count = h.pins e.slot inside in let part = term_le (pins_at e.slot) s.views id v has.here in
      let mine = entry_counts v.entries among in omega arith
    where
      counts_from_place : (k : ℕ) (es : List Entry) → k < length es → get_or es k e ≡ e → 0 < total (λ (x : Entry). one_if (x.slot == e.slot)) es
      counts_from_place k [] low is = absurd (omega arith)
      counts_from_place zero (x ∷ xs) low is = let one = ap one_if (eq-eqb x.slot e.slot (ap (λ (y : Entry). y.slot) is)) in omega arith
      counts_from_place (suc k) (x ∷ xs) low is = let rest = counts_from_place k xs (omega arith) is in omega arith

      entry_counts : (es : List Entry) → Contains es e → 0 < total (λ (x : Entry). one_if (x.slot == e.slot)) es
      entry_counts es c = counts_from_place c.0 es c.1 c.2

  module _ (held : e.held ≡ true) where
    kept : number_at s.words e.slot ≡ entry_number s.slots s.journal e
    kept = All-contains (KeepsEntry s.slots s.journal (number_at s.words)) v.entries e (h.handles id v has.here (is_live number v has.reader)) among held

    -- the number of the slot at the handle's position
    at_position : kept_number s.slots (take e.position s.journal) e.slot ≡ entry_number s.slots s.journal e
    at_position = ap (kept_number s.slots (take e.position s.journal)) was.front ∙ front_kept s.slots (take e.position s.journal) h.follows.some_slot (replays_take s.slots s.journal e.position h.follows.replay)

    old : entry_number s.slots s.journal e ≤ front_number s.slots s.journal
    old = let rises = kept_rises s.slots s.journal e.position e.slot h.follows.some_slot h.follows.replay in let most = kept_le s.slots s.journal e.slot h.follows.some_slot h.follows.replay in let here = at_position in omega arith

    -- nobody has claimed the slot
    pub not_claimed : (other : ℕ) (u : View) → get_elem? s.views other ≡ some u → u.claimed ≢ Some e.slot
    not_claimed other u at claimed = let f = h.turn.each other u at (claimer_lives s h other e.slot u at claimed) in
        let coming = f.coming e.slot claimed in let shown = kept in let low = old in omega arith

    kept_now : kept_number s.slots s.journal e.slot ≡ entry_number s.slots s.journal e
    kept_now = sym (h.follows.kept e.slot inside (unclaimed s h e.slot (λ other u at _. not_claimed other u at))) ∙ kept

    -- the slot keeps the number after each position from the handle's on
    pub keeps : (w : ℕ) → e.position ≤ w → w ≤ length s.journal → kept_number s.slots (take w s.journal) e.slot ≡ entry_number s.slots s.journal e
    keeps w late early =
        let up = kept_rises s.slots (take w s.journal) e.position e.slot h.follows.some_slot (replays_take s.slots s.journal w h.follows.replay) in
        let before = ap (λ (l : List Write). kept_number s.slots l e.slot) (take-take e.position w s.journal late) ∙ at_position in
        let most = kept_rises s.slots s.journal w e.slot h.follows.some_slot h.follows.replay in let now = kept_now in omega arith

    -- the same in the reader's own journal
    seen_is : (w : ℕ) → w ≤ length v.seen → take w v.seen ≡ take w s.journal
    seen_is w low = ap (take w) (sym (h.owners.each id v has.here (is_live number v has.reader)).seen) ∙ take-take w (length v.seen) s.journal low

    pub shown : number_at s.words e.slot ≡ front_number s.slots (take e.position v.seen)
    shown = kept ∙ ap (front_number s.slots) (sym (seen_is e.position was.told))

    pub told : (w : ℕ) → e.position ≤ w → w ≤ length v.seen → kept_number s.slots (take w v.seen) e.slot ≡ front_number s.slots (take e.position v.seen)
    told w late low = ap (λ (l : List Write). kept_number s.slots l e.slot) (seen_is w low) ∙ keeps w late (let most = within in omega arith) ∙ ap (front_number s.slots) (sym (seen_is e.position was.told))

  -- whoever claims the slot finds it pinned
  pub claim_misses : (other : ℕ) (u : View) → claim s other u e.slot ≡ miss_slot s other u e.slot
  claim_misses other u = cond-false (count_at s.words e.slot == 0) (claim_slot s other u e.slot) (miss_slot s other u e.slot) (ne_eqb (count_at s.words e.slot) 0 (λ none. let some_pin = counted in omega arith))

-- ---- the turn ----

pub one_holder : (s : CoreState) (id other : ℕ) (v u : View) → Lawful s → get_elem? s.views id ≡ some v → get_elem? s.views other ≡ some u → v.turn ≡ true → u.turn ≡ true → id ≡ other
one_holder s id other v u h here there mine theirs = ⊎_elim (λ (is : id ≡ other). is) (λ (no : id ≢ other). absurd (idle s.slots s.journal _ s.turn s.views h.turn id other v u here mine (λ e. no (sym e)) there theirs)) (cases_eq id other)

pub named : (s : CoreState) (id number : ℕ) (v : View) → Lawful s → HasReader s id number v → v.turn ≡ true → s.turn ≡ Some number
named s id number v h has mine = let f = (h.turn.each id v has.here (is_live number v has.reader)).holder mine in
    let both : number ∷ [] ≡ f.0 ∷ [] = sym has.reader.1 ∙ f.2 in let same : number ≡ f.0 = cc in f.3 ∙ ap (λ n. Some n) (sym same)

pub nobody : (s : CoreState) (id : ℕ) (v : View) → Lawful s → get_elem? s.views id ≡ some v → s.turn ≡ None → v.turn ≡ false
nobody s id v h here free = false_from_ne_true v.turn (λ mine. let none : total has_turn s.views ≡ 0 = h.turn.one ∙ ap (λ (t : Option ℕ). one_if (is_some t)) free in
    let zero = total_none has_turn s.views id v none here in let one = ap one_if mine in omega arith)

-- ---- seen journals ----

pub part_of_journal : (s : CoreState) (id : ℕ) (v : View) → Lawful s → get_elem? s.views id ≡ some v → v.role ≢ roles.Spent → (length v.seen ≤ length s.journal) × (take (length v.seen) s.journal ≡ v.seen)
part_of_journal s id v h here live = let seen = (h.owners.each id v here live).seen in (seen_within s.journal v.seen seen, seen)

pub part_of_longer : (s : CoreState) (id other : ℕ) (v u : View) → Lawful s → get_elem? s.views id ≡ some v → get_elem? s.views other ≡ some u → v.role ≢ roles.Spent → u.role ≢ roles.Spent → length v.seen ≤ length u.seen → take (length v.seen) u.seen ≡ v.seen
part_of_longer s id other v u h here there live lives le =
    ap (take (length v.seen)) (sym (h.owners.each other u there lives).seen) ∙ take-take (length v.seen) (length u.seen) s.journal le ∙ (h.owners.each id v here live).seen

-- ---- each write once ----

-- the count that a write bears is one more than how many of its number come before it
seq_at : (number before : ℕ) (journal : List Write) (place : ℕ) (x : Write) → counts_from before (writes_by number journal) ≡ true → slice_get journal place ≡ Some x → x.by ≡ number → x.seq ≡ before + length (writes_by number (take place journal)) + 1
seq_at number before [] place x counted there by = absurd (cc)
seq_at number before (y ∷ ys) zero x counted there by =
    let same : y ≡ x = cc in
    let here : (y.by == number) ≡ true = eq-eqb y.by number (ap (λ (w : Write). w.by) same ∙ by) in
    let both : ((y.seq == before + 1) && counts_from (before + 1) (writes_by number ys)) ≡ true = ap (counts_from before) (sym (cond-true (y.by == number) (y ∷ writes_by number ys) (writes_by number ys) here)) ∙ counted in
    let first = eqb-true y.seq (before + 1) (and_parts (y.seq == before + 1) (counts_from (before + 1) (writes_by number ys)) both).0 in let seq = ap (λ (w : Write). w.seq) same in omega arith
seq_at number before (y ∷ ys) (suc place) x counted there by = ⊎_elim
    (λ (here : (y.by == number) ≡ true).
    let both : ((y.seq == before + 1) && counts_from (before + 1) (writes_by number ys)) ≡ true = ap (counts_from before) (sym (cond-true (y.by == number) (y ∷ writes_by number ys) (writes_by number ys) here)) ∙ counted in
    let rest = seq_at number (before + 1) ys place x (and_parts (y.seq == before + 1) (counts_from (before + 1) (writes_by number ys)) both).1 there by in
    let long = ap (λ (l : List Write). length l) (cond-true (y.by == number) (y ∷ writes_by number (take place ys)) (writes_by number (take place ys)) here) in omega arith)
    (λ (else : (y.by == number) ≡ false).
    let rest = seq_at number before ys place x (ap (counts_from before) (sym (cond-false (y.by == number) (y ∷ writes_by number ys) (writes_by number ys) else)) ∙ counted) there by in
    let long = ap (λ (l : List Write). length l) (cond-false (y.by == number) (y ∷ writes_by number (take place ys)) (writes_by number (take place ys)) else) in omega arith) (cases_Bool (y.by == number))

-- a write of the number between two places counts
pub more_by : (number : ℕ) (journal : List Write) (place later : ℕ) (x : Write) → place < later → slice_get journal place ≡ Some x → x.by ≡ number → length (writes_by number (take place journal)) + 1 ≤ length (writes_by number (take later journal))
more_by number [] place later x less there by = absurd (cc)
more_by number (y ∷ ys) place zero x less there by = absurd (omega arith)
more_by number (y ∷ ys) zero (suc later) x less there by =
    let same : y ≡ x = cc in
    let here : (y.by == number) ≡ true = eq-eqb y.by number (ap (λ (w : Write). w.by) same ∙ by) in
    let long = ap (λ (l : List Write). length l) (cond-true (y.by == number) (y ∷ writes_by number (take later ys)) (writes_by number (take later ys)) here) in omega arith
more_by number (y ∷ ys) (suc place) (suc later) x less there by =
    let rest = more_by number ys place later x (omega arith) there by in ⊎_elim
    (λ (here : (y.by == number) ≡ true).
    let one = ap (λ (l : List Write). length l) (cond-true (y.by == number) (y ∷ writes_by number (take place ys)) (writes_by number (take place ys)) here) in
    let two = ap (λ (l : List Write). length l) (cond-true (y.by == number) (y ∷ writes_by number (take later ys)) (writes_by number (take later ys)) here) in omega arith)
    (λ (else : (y.by == number) ≡ false).
    let one = ap (λ (l : List Write). length l) (cond-false (y.by == number) (y ∷ writes_by number (take place ys)) (writes_by number (take place ys)) else) in
    let two = ap (λ (l : List Write). length l) (cond-false (y.by == number) (y ∷ writes_by number (take later ys)) (writes_by number (take later ys)) else) in omega arith) (cases_Bool (y.by == number))

later_counts_more : (journal : List Write) → AreCounted journal → (place later : ℕ) (x y : Write) → place < later → slice_get journal place ≡ Some x → slice_get journal later ≡ Some y → x.by ≡ y.by → x.seq < y.seq
later_counts_more journal counted place later x y less here there by =
    let first = seq_at y.by 0 journal place x (counted y.by) here by in let second = seq_at y.by 0 journal later y (counted y.by) there refl in
    let more = more_by y.by journal place later x less here by in omega arith

pub once : (s : CoreState) (place other : ℕ) (write same : Write) → Lawful s → slice_get s.journal place ≡ Some write → slice_get s.journal other ≡ Some same → write.by ≡ same.by → write.seq ≡ same.seq → place ≡ other
once s place other write same h here there by seq =
    ⊎_elim (λ (is : place ≡ other). is)
    (λ (no : (place < other) ⊎ (other < place)). ⊎_elim
    (λ (less : place < other). let more = later_counts_more s.journal h.owners.counted place other write same less here there by in absurd (omega arith))
    (λ (less : other < place). let more = later_counts_more s.journal h.owners.counted other place same write less there here (sym by) in absurd (omega arith)) no)
    (cases_order place other)

pub own_writes : (s : CoreState) (id number : ℕ) (v : View) → Lawful s → HasReader s id number v → (writes_by number s.journal ≡ v.own) × (writes_by number v.seen ≡ v.own)
own_writes s id number v h has =
    let f = h.owners.each id v has.here (is_live number v has.reader) in let mine = has_own number v has.reader.1 in
    let own : writes_by number v.own ≡ v.own = all_pass (λ (x : Write). x.by == number) v.own (λ k d low. eq-eqb (get_or v.own k d).by number (sym (own_number number (get_or v.own k d).by v has.reader.1 (f.only k d low)))) in
    (sym (f.own number mine) ∙ own, f.told number mine ∙ sym (f.own number mine) ∙ own)

-- ---- strays and room ----

pub stray_tells : (s : CoreState) (id number : ℕ) (v : View) → Lawful s → HasReader s id number v → number_at s.words (front_slot s.slots v.seen) ≢ front_number s.slots v.seen → length v.seen < length s.journal
stray_tells s id number v h has differs =
    let seen = (h.owners.each id v has.here (is_live number v has.reader)).seen in
    ⊎_elim (λ (less : length v.seen < length s.journal). less)
    (λ (all : length s.journal ≤ length v.seen).
    let is : v.seen ≡ s.journal = sym seen ∙ take_all (length v.seen) s.journal all in
    let slot : ℕ = front_slot s.slots s.journal in
    let free : total (has_claimed slot) s.views ≡ 0 = unclaimed s h slot (λ other u at lives claimed. both_ways (is_taken s.slots s.journal slot) ((h.turn.each other u at lives).unlisted slot claimed) (front_taken s.slots s.journal h.follows.some_slot h.follows.replay)) in
    let same : number_at s.words slot ≡ front_number s.slots s.journal = h.follows.kept slot (front_slot_inside s.slots s.journal h.follows.some_slot h.follows.replay) free ∙ front_kept s.slots s.journal h.follows.some_slot h.follows.replay in
    absurd (differs (ap (λ (l : List Write). number_at s.words (front_slot s.slots l)) is ∙ same ∙ ap (front_number s.slots) (sym is))))
    (cases_lt (length v.seen) (length s.journal))

pub room_for : (s : CoreState) (id : ℕ) (v : View) → Lawful s → get_elem? s.views id ≡ some v → length s.journal + v.allowance ≤ s.room
room_for s id v h here = let part = term_le allowance_of s.views id v here in let room = h.room in omega arith

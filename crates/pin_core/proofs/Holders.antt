-- Who has the turn, and what a main that has all numbers knows.
use Rattle.std.proofs.Common.{◌≡◌, ◌≢◌, ◌⊎◌, ℕ, ◌+◌, ◌≤◌, ◌<◌, List, [], ◌∷◌, length, take, sym, refl, ap, ◌∙◌, subst, ⊎_elim, arith, true, false, Option, Some, None, get_or, ◌==◌}
use Rattle.std.specs.Prelude.{is_some, slice_get}
use mathlib.Core.Option.{some, some-injective}
use lib.ListN.{get_elem?}
use Rattle.std.proofs.lemmas.Bool.{cases_eq, cases_lt, cond-true}
use Rattle.std.proofs.lemmas.Option.{same_Some, slice_get-get_or}
use Rattle.std.proofs.lemmas.List.{take_all, take-take}
use Rattle.std.proofs.lemmas.List.Elements.{All-head, All-contains}
use Rattle.std.specs.List.{All, Contains}
use Rattle.pin_book.specs.declared.write.Write.{Write}
use Rattle.pin_book.specs.Replay.{front_slot}
use Rattle.pin_book.specs.Sequence.{writes_by}
use Rattle.pin_core.specs.declared.view.View.{View}
use Rattle.pin_core.specs.declared.view.Role.TheVariants as roles
use Rattle.pin_core.specs.Core.{CoreState, total, one_if, times, has_number, number_count, has_turn, with_view}
use Rattle.pin_core.specs.Lawful.{Lawful, WasFrontOnce}
use Rattle.pin_core.specs.Step.{HasReader, was_refused, take_turn, miss_turn, exchange_turn}
use Rattle.pin_core.proofs.Sums.{total_some, total_alone, terms_le, one_if-le, one_if-true}
use Rattle.pin_core.proofs.Seats.{is_live}
use Rattle.pin_core.proofs.Stores.{has_own}
use Rattle.pin_core.proofs.Readers.{more_by}

-- ---- the holder of the turn ----

-- the turn word names a reader that is out and has the turn
pub holder_out : (s : CoreState) (holder : ℕ) → Lawful s → s.turn ≡ Some holder → (id : ℕ) × (u : View) × HasReader s id holder u × (u.turn ≡ true) × (holder < s.readers)
holder_out s holder h taken =
    let one : total has_turn s.views ≡ 1 = h.turn.one ∙ ap (λ (t : Option ℕ). one_if (is_some t)) taken in
    let seat = total_some has_turn s.views (omega arith) in
    let mine : seat.1.turn ≡ true = one_if-true seat.1.turn (let most = one_if-le seat.1.turn in let more = seat.3 in omega arith) in
    let lives : seat.1.role ≢ roles.Spent = λ spent. (let none = ap has_turn (h.spent seat.0 seat.1 seat.2 spent) in let more = seat.3 in absurd (omega arith)) in
    let f = (h.turn.each seat.0 seat.1 seat.2 lives).holder mine in
    let same : f.0 ≡ holder = same_Some f.0 holder (sym f.3 ∙ taken) in
    let numbers : seat.1.numbers ≡ holder ∷ [] = f.2 ∙ ap (λ n. n ∷ []) same in
    let inside = All-head (λ n. n < s.readers) holder [] (subst (All (λ n. n < s.readers)) numbers (h.owners.each seat.0 seat.1 seat.2 lives).inside) in
    (seat.0, seat.1, record { here = seat.2; reader = (f.1, numbers) }, mine, inside)

-- a reader without the turn isn't the one that the turn word names
pub holder_other : (s : CoreState) (id number holder : ℕ) (v : View) → Lawful s → HasReader s id number v → v.turn ≡ false → s.turn ≡ Some holder → holder ≢ number
holder_other s id number holder v h has idle taken same =
    let out = holder_out s holder h taken in let u : View = out.1 in
    let mine = has_own number v has.reader.1 in let theirs = has_own number u (out.2.reader.1 ∙ ap (λ n. n ∷ []) same) in
    let inside : number < s.readers = subst (λ n. n < s.readers) same out.4 in
    let one = h.owners.numbers number inside in ⊎_elim
    (λ (is : out.0 ≡ id). let seat : u ≡ v = some-injective u v (sym out.2.here ∙ ap (get_elem? s.views) is ∙ has.here) in
    let both = ap (λ (x : View). x.turn) seat in let has_it = out.3 in absurd (cc))
    (λ (no : out.0 ≢ id). let sum = terms_le (has_number number) s.views id out.0 v u no has.here out.2.here in absurd (omega arith)) (cases_eq out.0 id)

-- with one reader nobody else has the turn
pub alone_free : (s : CoreState) (id number : ℕ) (v : View) → Lawful s → s.readers ≡ 1 → HasReader s id number v → v.turn ≡ false → s.turn ≡ None
alone_free s id number v h one has idle = by_turn s.turn refl
  where
    mine : number < s.readers
    mine = All-head (λ n. n < s.readers) number [] (subst (All (λ n. n < s.readers)) has.reader.1 (h.owners.each id v has.here (is_live number v has.reader)).inside)

    by_turn : (turn : Option ℕ) → s.turn ≡ turn → s.turn ≡ None
    by_turn None is = is
    by_turn (Some holder) is = let other = holder_other s id number holder v h has idle is in let low = (holder_out s holder h is).4 in absurd (other (let inside = mine in omega arith))

-- ---- a main that has all numbers ----

module _ (s : CoreState) (id : ℕ) (v : View) (h : Lawful s) (here : get_elem? s.views id ≡ some v) (main : v.role ≡ roles.Main) (all : length v.numbers ≡ s.readers) where
  live : v.role ≢ roles.Spent
  live spent = absurd (cc)

  -- each number is the main's
  pub has_each : (number : ℕ) → number < s.readers → has_number number v ≡ 1
  has_each number inside = sym (total_alone (has_number number) s.views id v here (λ other u apart there. (
      let whole = h.owners.whole in let both = terms_le number_count s.views id other v u apart here there in let few = times_le number u.numbers in omega arith))) ∙ h.owners.numbers number inside
    where
      times_le : (n : ℕ) (ns : List ℕ) → times n ns ≤ length ns
      times_le n [] = omega arith
      times_le n (m ∷ ms) = let rest = times_le n ms in let one = one_if-le (m == n) in omega arith

  -- its own writes are all of the journal's
  pub own_all : (number : ℕ) → number < s.readers → writes_by number v.own ≡ writes_by number s.journal
  own_all number inside = (h.owners.each id v here live).own number (has_each number inside)

  -- and it has seen all of the journal
  pub seen_all : v.seen ≡ s.journal
  seen_all = let f = h.owners.each id v here live in ⊎_elim
      (λ (less : length v.seen < length s.journal).
      let d : Write = get_or s.journal (length v.seen) (first s.journal less) in
      let there = slice_get-get_or s.journal (length v.seen) (first s.journal less) less in
      let inside = h.owners.writers (length v.seen) (first s.journal less) less in
      let more = more_by d.by s.journal (length v.seen) (length s.journal) d less there refl in
      let told = ap (λ (l : List Write). length l) (ap (writes_by d.by) f.seen ∙ f.told d.by (has_each d.by inside)) in
      let whole = ap (λ (l : List Write). length (writes_by d.by l)) (take_all (length s.journal) s.journal (omega arith)) in absurd (omega arith))
      (λ (most : length s.journal ≤ length v.seen). sym f.seen ∙ take_all (length v.seen) s.journal most) (cases_lt (length v.seen) (length s.journal))
    where
      first : (l : List Write) → length v.seen < length l → Write
      first [] less = absurd (omega arith)
      first (x ∷ xs) less = x

-- ---- slots found pinned ----

pub found_once : (s : CoreState) (id : ℕ) (v : View) (slot : ℕ) → Lawful s → get_elem? s.views id ≡ some v → v.role ≢ roles.Spent → Contains v.pinned slot → WasFrontOnce s.slots v.seen v.floor (length v.seen) slot
found_once s id v slot h here live among =
    let places = h.places id v here live in let seen = (h.owners.each id v here live).seen in
    let was = All-contains (WasFrontOnce s.slots s.journal s.floor (length v.seen)) v.pinned slot places.pinned among in
    (was.0, (let same = places.same in let late = was.1 in omega arith), was.2, was.3 ∙ ap (front_slot s.slots) (sym (take-take was.0 (length v.seen) s.journal was.2) ∙ ap (take was.0) seen))

-- ---- a try that finds the turn taken ----

pub told_refused : (s : CoreState) (id number holder : ℕ) (v : View) → s.turn ≡ Some holder → exchange_turn s id number v ≡ with_view s id (record v { refused = v.refused + 1; holder = Some holder })
told_refused s id number holder v taken =
    cond-true (is_some s.turn) (miss_turn s id v) (take_turn s id number v) (ap is_some taken) ∙ ap (λ (t : Option ℕ). with_view s id (was_refused t v)) taken

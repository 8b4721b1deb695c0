-- Words of lawful states are small, and what is packed can be read back.
use Rattle.std.proofs.Common.{◌≡◌, ℕ, zero, suc, ◌+◌, ◌*◌, ◌/◌, ◌%◌, ◌^◌, ◌≤◌, ◌<◌, List, [], ◌∷◌, length, refl, ap, arith, true, ◌==◌, Option, Some, None, ◌↔◌}
use mathlib.Core.Option.{some}
use lib.ListN.{get_elem?}
use Rattle.std.proofs.lemmas.List.{length-append}
use Rattle.pin_book.specs.declared.limits.TheConstants.{READER_NUMBERS}
use Rattle.pin_core.specs.declared.entry.Entry.{Entry}
use Rattle.pin_core.specs.declared.view.View.{View}
use Rattle.pin_core.specs.declared.view.Role.{Role}
use Rattle.pin_core.specs.declared.view.Role.TheVariants as roles
use Rattle.pin_book.specs.declared.write.Write.{Write}
use Rattle.pin_book.specs.declared.write.Change.{Change}
use Rattle.pin_book.specs.declared.write.Change.TheVariants.{Push, Erase}
use Rattle.pin_book.specs.Replay.{replays, front_number}
use Rattle.pin_book.specs.Pushes.{pushed_by, pushes}
use Rattle.pin_core.specs.Core.{CoreState, Front, number_at, count_at, total, one_if, pins_at, has_claimed, number_count}
use Rattle.pin_core.specs.Lawful.{Lawful}
use Rattle.pin_core.specs.Packing.{packed_slot, packed_front, packed_turn, place, book_place}
use Rattle.pin_core.proofs.Sums.{total_some, one_if-le}
use Rattle.pin_book.proofs.ReplayLemmas.{replay_orderly}
use Rattle.pin_book.proofs.Journals.{kept_le, front_slot_inside}
use Rattle.pin_core.proofs.Readers.{claims_is, claimer_lives}
use Rattle.pin_core.proofs.Holders.{holder_out}

-- no more versions are pushed than there are writes
pushes_le : (journal : List Write) → length (pushes journal) ≤ length journal
pushes_le [] = omega arith
pushes_le (write ∷ later) = let rest = pushes_le later in let one = at_most_one write.change in let long = length-append (pushed_by write.change) (pushes later) in omega arith
  where
    at_most_one : (c : Change) → length (pushed_by c) ≤ 1
    at_most_one (Push n src slot) = omega arith
    at_most_one (Erase after gone) = omega arith

front_le : (slots : ℕ) (journal : List Write) → 0 < slots → replays slots journal ≡ true → front_number slots journal ≤ length journal + 1
unfolding front_number
front_le slots journal some_slot is = let front = (replay_orderly slots journal some_slot is).front in let few = pushes_le journal in omega arith

pub number_small : (s : CoreState) (slot : ℕ) → Lawful s → slot < s.slots → number_at s.words slot ≤ s.room + 2
number_small s slot h low =
    let front = front_le s.slots s.journal h.follows.some_slot h.follows.replay in let room = h.room in by_claims (total (has_claimed slot) s.views) refl (omega arith)
  where
    by_claims : (n : ℕ) → total (has_claimed slot) s.views ≡ n → front_number s.slots s.journal ≤ s.room + 1 → number_at s.words slot ≤ s.room + 2
    by_claims zero is front = let kept = h.follows.kept slot low is in let most = kept_le s.slots s.journal slot h.follows.some_slot h.follows.replay in omega arith
    by_claims (suc n) is front = let seat = total_some (has_claimed slot) s.views (omega arith) in let claimed = claims_is slot seat.1.claimed seat.3 in
        let coming = (h.turn.each seat.0 seat.1 seat.2 (claimer_lives s h seat.0 slot seat.1 seat.2 claimed)).coming slot claimed in omega arith

pins_le : (slot : ℕ) (entries : List Entry) → total (λ (e : Entry). one_if (e.slot == slot)) entries ≤ length entries
pins_le slot [] = omega arith
pins_le slot (e ∷ es) = let rest = pins_le slot es in let one = one_if-le (e.slot == slot) in omega arith

total_le : (f g : View → ℕ) (views : List View) → ((id : ℕ) (v : View) → get_elem? views id ≡ some v → f v ≤ 8 * g v) → total f views ≤ 8 * total g views
total_le f g [] all = omega arith
total_le f g (v ∷ vs) all = let here = all 0 v refl in let rest = total_le f g vs (λ id u at. all (suc id) u at) in omega arith

pub count_small : (s : CoreState) (slot : ℕ) → Lawful s → slot < s.slots → count_at s.words slot ≤ 8 * s.readers
count_small s slot h low =
    let counts = h.pins slot low in let whole = h.owners.whole in
    let most = total_le (pins_at slot) number_count s.views (λ id v at. let some_pins = pins_le slot v.entries in let few = by_role id v at v.role refl in omega arith) in omega arith
  where
    by_role : (id : ℕ) (v : View) → get_elem? s.views id ≡ some v → (role : Role) → v.role ≡ role → length v.entries ≤ 8 * length v.numbers
    by_role id v at roles.Main is = h.few id v at (λ spent. absurd (cc))
    by_role id v at roles.Reader is = h.few id v at (λ spent. absurd (cc))
    by_role id v at roles.Spent is = let none = ap (λ (x : View). length x.entries) (h.spent id v at is) in omega arith

pub front_small : (s : CoreState) → Lawful s → (s.front.w ≤ s.room) × (s.front.n ≤ s.room + 1) × (s.front.slot < s.slots)
front_small s h =
    let w = ap (λ (f : Front). f.w) h.follows.front in let n = ap (λ (f : Front). f.n) h.follows.front in let slot = ap (λ (f : Front). f.slot) h.follows.front in
    let front = front_le s.slots s.journal h.follows.some_slot h.follows.replay in let inside = front_slot_inside s.slots s.journal h.follows.some_slot h.follows.replay in let room = h.room in
    (omega arith, omega arith, omega arith)

pub slot_back : (number count : ℕ) → number < 2 ^ 26 → count < 2 ^ 32 → (packed_slot record { number = number; count = count } < 2 ^ 64) × (packed_slot record { number = number; count = count } / 2 ^ 32 ≡ number)
    × (packed_slot record { number = number; count = count } % 2 ^ 32 ≡ count)
slot_back number count low few = (omega arith, omega arith, omega arith)

pub front_back : (w n slot : ℕ) → w < 2 ^ 26 → n < 2 ^ 26 → slot < 2 ^ 6 → (packed_front record { w = w; n = n; slot = slot } < 2 ^ 64) × (packed_front record { w = w; n = n; slot = slot } / 2 ^ 32 ≡ w)
    × (packed_front record { w = w; n = n; slot = slot } / 2 ^ 6 % 2 ^ 26 ≡ n) × (packed_front record { w = w; n = n; slot = slot } % 2 ^ 6 ≡ slot)
front_back w n slot low lower lowest = (omega arith, omega arith, omega arith, omega arith)

pub turn_small : (s : CoreState) → Lawful s → packed_turn s.turn ≤ s.readers
turn_small s h = by_turn s.turn refl
  where
    by_turn : (turn : Option ℕ) → s.turn ≡ turn → packed_turn turn ≤ s.readers
    by_turn None is = omega arith
    by_turn (Some holder) is = let inside = (holder_out s holder h is).4 in omega arith

pub turn_alone : (turn other : Option ℕ) → packed_turn turn ≡ packed_turn other → turn ≡ other
turn_alone None None same = refl
turn_alone None (Some other) same = absurd (omega arith)
turn_alone (Some number) None same = absurd (omega arith)
turn_alone (Some number) (Some other) same = let is : number ≡ other = omega arith in ap (λ n. Some n) is

pub turn_nobody : (turn : Option ℕ) → (packed_turn turn ≡ 0) ↔ (turn ≡ None)
turn_nobody turn = ((λ zero. turn_alone turn None zero), (λ none. ap packed_turn none))

pub apart : (slot other reader another : ℕ) → reader < READER_NUMBERS → another < READER_NUMBERS → place slot reader ≡ place other another → (slot ≡ other) × (reader ≡ another)
apart slot other reader another low lower same = (omega arith, omega arith)

pub before_book : (slots slot reader : ℕ) → slot < slots → reader < READER_NUMBERS → place slot reader < book_place slots
before_book slots slot reader low lower = omega arith

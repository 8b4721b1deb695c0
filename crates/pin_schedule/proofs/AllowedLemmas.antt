-- What is at hand tells whether an event is allowed.
use Rattle.std.proofs.Common.{◌≡◌, ◌≢◌, ◌↔◌, ℕ, zero, suc, ◌+◌, ◌<◌, ◌&&◌, Bool, List, [], ◌∷◌, length, sym, refl, ap, ◌∙◌, ⊎_elim, arith, not, ltb, true, false, Option, Some, None}
use Rattle.std.specs.Prelude.{is_some, is_none}
use Rattle.std.specs.List.{list_all}
use mathlib.Core.Option.{some, some-injective, some-ne-none}
use lib.ListN.{get_elem?}
use Rattle.std.proofs.lemmas.Bool.{cases_eq, both_ways, and_parts, and_from, not-true, not_from_false, eqb-true, eq-eqb, ltb-true, lt-ltb, false_from_ne_true}
use Rattle.std.proofs.lemmas.Option.{slice_get-get_or}
use Rattle.pin_core.specs.declared.entry.Entry.{Entry}
use Rattle.pin_core.specs.declared.view.View.{View}
use Rattle.pin_core.specs.declared.view.Role.TheVariants as roles
use Rattle.pin_book.specs.Replay.{ListState, state_after, is_listed, is_slot_listed, greatest_below, allowed, front_number, is_taken}
use Rattle.pin_core.specs.Core.{CoreState, number_at, one_if, total, has_number, has_turn}
use Rattle.pin_core.specs.Lawful.{KnowsTurn}
use Rattle.pin_core.specs.Step.{HasReader, MayPin, MayTakeTurn, MayClaim, MayStore, MayGive}
use Rattle.pin_core.proofs.Sums.{total_some, one_if-le, one_if-true, terms_le}
use Rattle.pin_core.proofs.Seats.{is_live}
use Rattle.pin_core.proofs.Stores.{has_own}
use Rattle.pin_core.proofs.Readers.{named}
use Rattle.pin_book.proofs.ReplayLemmas.{erase_asks, replay_orderly}
use Rattle.pin_book.proofs.BookLemmas.{asked_push, asked_erase}
use Rattle.pin_schedule.specs.declared.core_reader.CoreReader.{CoreReader}
use Rattle.pin_schedule.specs.declared.event.Event.{Event}
use Rattle.pin_schedule.specs.declared.event.Kind.{Kind}
use Rattle.pin_schedule.specs.declared.event.Kind.TheVariants.{LoadFront, AddPin, TakePin, TakeTurn, Claim, StorePush, StoreErase, StoreTurn}
use Rattle.pin_schedule.specs.Pin.{taken_place, has_place}
use Rattle.pin_schedule.specs.Answer.{view_of, reader_of, claimed_by}
use Rattle.pin_schedule.specs.Schedule.{IsAllowed, MayTakeAt, next_write, push_of, erase_of, MayPush, MayMake}
use Rattle.pin_schedule.specs.Progress.{Progress, reader_at, greatest_under, is_placed, is_numbered, is_turn_of, passes, progress_of, IsPlayed, Stands}
use Rattle.pin_schedule.proofs.ListedLemmas.{slot_placed, number_placed, greatest_placed}
use Rattle.pin_schedule.proofs.ViewLemmas.{reader_told, readers_long}
use Rattle.pin_schedule.proofs.StepLemmas.{taken_there, claimed_mine}

-- ---- options ----

turn_of : (number : ℕ) (turn : Option ℕ) → is_turn_of number turn ≡ true → turn ≡ Some number
turn_of number None is = absurd (cc)
turn_of number (Some holder) is = ap (λ n. Some n) (eqb-true holder number is)

of_turn : (number : ℕ) (turn : Option ℕ) → turn ≡ Some number → is_turn_of number turn ≡ true
of_turn number turn is = ap (is_turn_of number) is ∙ eq-eqb number number refl

is_nothing : (o : Option ℕ) → is_none o ≡ true → o ≡ None
is_nothing None is = refl
is_nothing (Some n) is = absurd (cc)

-- ---- pins ----

-- where each pin is held there is no stray, and the other way round
no_stray : (entries : List Entry) → list_all (λ (e : Entry). e.held) entries ≡ true → total (λ (e : Entry). one_if (not e.held)) entries ≡ 0
no_stray [] all = refl
no_stray (e ∷ es) all =
    let parts = and_parts e.held (list_all (λ (x : Entry). x.held) es) all in
    let here = ap (λ b. one_if (not b)) parts.0 in let rest = no_stray es parts.1 in omega arith

stray_free : (entries : List Entry) → total (λ (e : Entry). one_if (not e.held)) entries ≡ 0 → list_all (λ (e : Entry). e.held) entries ≡ true
stray_free [] none = refl
stray_free (e ∷ es) none =
    and_from e.held (list_all (λ (x : Entry). x.held) es) (held e.held (omega arith)) (stray_free es (omega arith))
  where
    held : (b : Bool) → one_if (not b) ≡ 0 → b ≡ true
    held true is = refl
    held false is = absurd (omega arith)

-- each pin is held or a stray
both_counts : (entries : List Entry) → total (λ (e : Entry). one_if e.held) entries + total (λ (e : Entry). one_if (not e.held)) entries ≡ length entries
both_counts [] = refl
both_counts (e ∷ es) = let rest = both_counts es in let here = one e.held in omega arith
  where
    one : (b : Bool) → one_if b + one_if (not b) ≡ 1
    one true = refl
    one false = refl

module _ (made room : ℕ) (s : CoreState) (played : IsPlayed made room s) (reader : ℕ) (inside : reader < s.readers) where
  abbrev v : View
  v = view_of s reader

  abbrev p : Progress
  p = progress_of room s

  has : HasReader s (suc reader) reader v
  has = played.out reader inside

  told : reader_at p reader ≡ reader_of v
  told = reader_told made room s played reader inside

  seat : KnowsTurn s.slots s.journal (number_at s.words) s.turn v
  seat = played.lawful.turn.each (suc reader) v has.here (is_live reader v has.reader)

  abbrev state : ListState
  state = state_after s.slots s.journal

  -- ---- the turn ----

  -- the reader that the turn word names has the turn
  holds : is_turn_of reader s.turn ≡ true → v.turn ≡ true
  holds is =
      let lawful = played.lawful in
      let turn : s.turn ≡ Some reader = turn_of reader s.turn is in
      let sum : total has_turn s.views ≡ 1 = lawful.turn.one ∙ ap (λ (t : Option ℕ). one_if (is_some t)) turn in
      let holder = total_some has_turn s.views (omega arith) in
      let u : View = holder.1 in
      let most = one_if-le u.turn in
      let more = holder.3 in
      let theirs : u.turn ≡ true = one_if-true u.turn (omega arith) in
      let live : u.role ≢ roles.Spent = λ is_spent. (let nothing = ap (λ (x : View). x.turn) (lawful.spent holder.0 u holder.2 is_spent) in absurd (both_ways u.turn nothing theirs)) in
      let knows = (lawful.turn.each holder.0 u holder.2 live).holder theirs in
      let both : Some reader ≡ Some knows.0 = sym turn ∙ knows.3 in
      let same : reader ≡ knows.0 = cc in
      let one = has_own reader u (knows.2 ∙ ap (λ n. n ∷ []) (sym same)) in
      let mine = has_own reader v has.reader.1 in
      let all = lawful.owners.numbers reader inside in
      let place : suc reader ≡ holder.0 = ⊎_elim (λ (e : holder.0 ≡ suc reader). sym e)
      (λ (apart : holder.0 ≢ suc reader). let two = terms_le (has_number reader) s.views (suc reader) holder.0 v u apart has.here holder.2 in absurd (omega arith)) (cases_eq holder.0 (suc reader)) in
      ap (λ (x : View). x.turn) (some-injective v u (sym has.here ∙ ap (get_elem? s.views) place ∙ holder.2)) ∙ theirs

  held_back : v.turn ≡ true → is_turn_of reader s.turn ≡ true
  held_back mine = of_turn reader s.turn (named s (suc reader) reader v played.lawful has mine)

  claimed_is : v.turn ≡ true → claimed_by s s.turn ≡ v.claimed
  claimed_is mine = claimed_mine made room s played reader inside mine

  -- ---- each kind ----

  may_pin : (has_place (reader_at p reader).entries ≡ true) ↔ MayPin v
  may_pin =
      let same : has_place (reader_at p reader).entries ≡ has_place v.entries = ap (λ (r : CoreReader). has_place r.entries) told in
      let counts = both_counts v.entries in (
        (λ is. let parts = and_parts (ltb (length v.entries) 8) (list_all (λ (e : Entry). e.held) v.entries) (sym same ∙ is) in
            let few = ltb-true (length v.entries) 8 parts.0 in
            let settled = no_stray v.entries parts.1 in
            record { room = omega arith; settled = settled }),
        (λ may. let few = may.room in let settled = may.settled in
            same ∙ and_from (ltb (length v.entries) 8) (list_all (λ (e : Entry). e.held) v.entries) (lt-ltb (length v.entries) 8 (omega arith)) (stray_free v.entries settled)),
      )

  take_at_place : (slot : ℕ) (place : Option ℕ) → taken_place slot v.entries ≡ place → is_some place ≡ true → MayTakeAt v place
  take_at_place slot None is has_some = absurd (cc)
  take_at_place slot (Some place) is has_some =
      record { there = slice_get-get_or v.entries place record { slot = 0; position = 0; held = false } (taken_there slot place v.entries is).0 }

  some_place : (place : Option ℕ) → MayTakeAt v place → is_some place ≡ true
  some_place None may = absurd may
  some_place (Some place) may = refl

  may_take : (slot : ℕ) → ((ltb slot (length s.words) && is_some (taken_place slot (reader_at p reader).entries)) ≡ true) ↔ ((slot < s.slots) × MayTakeAt v (taken_place slot v.entries))
  may_take slot =
      let wide = played.lawful.follows.wide in
      let same : is_some (taken_place slot (reader_at p reader).entries) ≡ is_some (taken_place slot v.entries) = ap (λ (r : CoreReader). is_some (taken_place slot r.entries)) told in (
        (λ is. let parts = and_parts (ltb slot (length s.words)) (is_some (taken_place slot (reader_at p reader).entries)) is in
            let low = ltb-true slot (length s.words) parts.0 in
            (omega arith, take_at_place slot (taken_place slot v.entries) refl (sym same ∙ parts.1))),
        (λ may. and_from (ltb slot (length s.words)) (is_some (taken_place slot (reader_at p reader).entries)) (lt-ltb slot (length s.words) (let low = may.0 in omega arith)) (same ∙ some_place (taken_place slot v.entries) may.1)),
      )

  may_take_turn : (not (is_turn_of reader s.turn) ≡ true) ↔ MayTakeTurn v
  may_take_turn = (
    (λ is. record { idle = false_from_ne_true v.turn (λ mine. both_ways (is_turn_of reader s.turn) (not-true (is_turn_of reader s.turn) is) (held_back mine)) }),
    (λ may. not_from_false (is_turn_of reader s.turn) (false_from_ne_true (is_turn_of reader s.turn) (λ is. both_ways v.turn may.idle (holds is)))),
  )

  may_claim : (slot : ℕ) → ((is_turn_of reader s.turn && is_none (claimed_by s s.turn) && (ltb slot (length s.words) && not (is_placed slot p.listed))) ≡ true) ↔ MayClaim s slot v
  unfolding is_taken
  may_claim slot =
      let wide = played.lawful.follows.wide in
      let free = ltb slot (length s.words) && not (is_placed slot p.listed) in
      let same : is_placed slot p.listed ≡ is_slot_listed slot state.listed = slot_placed slot state.listed in (
        (λ is. let outer = and_parts (is_turn_of reader s.turn && is_none (claimed_by s s.turn)) free is in
            let inner = and_parts (is_turn_of reader s.turn) (is_none (claimed_by s s.turn)) outer.0 in
            let parts = and_parts (ltb slot (length s.words)) (not (is_placed slot p.listed)) outer.1 in
            let low = ltb-true slot (length s.words) parts.0 in
            record {
              turn = holds inner.0;
              free = sym (claimed_is (holds inner.0)) ∙ is_nothing (claimed_by s s.turn) inner.1;
              inside = omega arith;
              unlisted = sym same ∙ not-true (is_placed slot p.listed) parts.1;
            }),
        (λ may. let low = may.inside in
            and_from (is_turn_of reader s.turn && is_none (claimed_by s s.turn)) free
            (and_from (is_turn_of reader s.turn) (is_none (claimed_by s s.turn)) (held_back may.turn) (ap is_none (claimed_is may.turn ∙ may.free)))
            (and_from (ltb slot (length s.words)) (not (is_placed slot p.listed)) (lt-ltb slot (length s.words) (omega arith)) (not_from_false (is_placed slot p.listed) (same ∙ may.unlisted)))),
      )

  -- the holder may push into its claimed slot
  push_fits : (src slot : ℕ) → v.turn ≡ true → v.claimed ≡ Some slot → 0 < v.allowance → MayStore s reader (next_write reader v (push_of s src slot)) v
  unfolding is_taken front_number
  push_fits src slot mine claimed more =
      let orderly = replay_orderly s.slots s.journal played.lawful.follows.some_slot played.lawful.follows.replay in
      let low = seat.inside slot claimed in
      let wide = orderly.wide in
      record {
        turn = mine;
        allowance = more;
        allows = asked_push state (front_number s.slots s.journal + 1) src slot record { next = refl; inside = omega arith; unlisted = seat.unlisted slot claimed };
        by = refl;
        seq = refl;
        claimed = claimed;
      }

  push_into_claimed : (src : ℕ) (claimed : Option ℕ) → v.claimed ≡ claimed → v.turn ≡ true → is_some claimed ≡ true → 0 < v.allowance → MayPush s reader v src claimed
  push_into_claimed src None is mine has_some more = absurd (cc)
  push_into_claimed src (Some slot) is mine has_some more = push_fits src slot mine is more

  record Pushes (claimed : Option ℕ) : Type 0 where
    pub turn : v.turn ≡ true
    pub slot : is_some claimed ≡ true
    pub allowance : 0 < v.allowance

  pushes_so : (src : ℕ) (claimed : Option ℕ) → MayPush s reader v src claimed → Pushes claimed
  pushes_so src None may = absurd may
  pushes_so src (Some slot) may = record { turn = may.turn; slot = refl; allowance = may.allowance }

  less : (reader_at p reader).allowance ≡ v.allowance
  less = ap (λ (r : CoreReader). r.allowance) told

  may_push : (src : ℕ) → ((is_turn_of reader s.turn && is_some (claimed_by s s.turn) && ltb 0 (reader_at p reader).allowance) ≡ true) ↔ MayPush s reader v src v.claimed
  may_push src = (
    (λ is. let outer = and_parts (is_turn_of reader s.turn && is_some (claimed_by s s.turn)) (ltb 0 (reader_at p reader).allowance) is in
        let inner = and_parts (is_turn_of reader s.turn) (is_some (claimed_by s s.turn)) outer.0 in
        let more = ltb-true 0 (reader_at p reader).allowance outer.1 in
        push_into_claimed src v.claimed refl (holds inner.0) (ap is_some (sym (claimed_is (holds inner.0))) ∙ inner.1) (omega (arith, less))),
    (λ may. let so = pushes_so src v.claimed may in let more = so.allowance in
        and_from (is_turn_of reader s.turn && is_some (claimed_by s s.turn)) (ltb 0 (reader_at p reader).allowance)
        (and_from (is_turn_of reader s.turn) (is_some (claimed_by s s.turn)) (held_back so.turn) (ap is_some (claimed_is so.turn) ∙ so.slot))
        (lt-ltb 0 (reader_at p reader).allowance (omega (arith, less)))),
  )

  may_erase : (after : ℕ) → ((is_turn_of reader s.turn && is_none (claimed_by s s.turn) && ltb 0 (reader_at p reader).allowance && (is_numbered after p.listed && ltb 0 (greatest_under after p.listed))) ≡ true)
      ↔ ((v.claimed ≡ None) × MayStore s reader (next_write reader v (erase_of s after)) v)
  may_erase after =
      let behind = is_numbered after p.listed && ltb 0 (greatest_under after p.listed) in
      let listed : is_numbered after p.listed ≡ is_listed after state.listed = number_placed after state.listed in
      let gone : greatest_under after p.listed ≡ greatest_below after state.listed = greatest_placed after state.listed in (
        (λ is. let first = and_parts (is_turn_of reader s.turn && is_none (claimed_by s s.turn) && ltb 0 (reader_at p reader).allowance) behind is in
            let outer = and_parts (is_turn_of reader s.turn && is_none (claimed_by s s.turn)) (ltb 0 (reader_at p reader).allowance) first.0 in
            let inner = and_parts (is_turn_of reader s.turn) (is_none (claimed_by s s.turn)) outer.0 in
            let parts = and_parts (is_numbered after p.listed) (ltb 0 (greatest_under after p.listed)) first.1 in
            let more = ltb-true 0 (reader_at p reader).allowance outer.1 in
            let some_number = ltb-true 0 (greatest_under after p.listed) parts.1 in (
              sym (claimed_is (holds inner.0)) ∙ is_nothing (claimed_by s s.turn) inner.1,
              record {
                turn = holds inner.0;
                allowance = omega (arith, less);
                allows = asked_erase state after (greatest_below after state.listed) record { listed = sym listed ∙ parts.0; some = omega (arith, gone); next = refl };
                by = refl;
                seq = refl;
                claimed = tt;
              },
            )),
        (λ may. let store = may.1 in let more = store.allowance in
            let asks = erase_asks state after (greatest_below after state.listed) store.allows in
            let some_number = asks.some in
            and_from (is_turn_of reader s.turn && is_none (claimed_by s s.turn) && ltb 0 (reader_at p reader).allowance) behind
            (and_from (is_turn_of reader s.turn && is_none (claimed_by s s.turn)) (ltb 0 (reader_at p reader).allowance)
            (and_from (is_turn_of reader s.turn) (is_none (claimed_by s s.turn)) (held_back store.turn) (ap is_none (claimed_is store.turn ∙ may.0)))
            (lt-ltb 0 (reader_at p reader).allowance (omega (arith, less))))
            (and_from (is_numbered after p.listed) (ltb 0 (greatest_under after p.listed)) (listed ∙ asks.listed) (lt-ltb 0 (greatest_under after p.listed) (omega (arith, gone))))),
      )

  may_give : ((is_turn_of reader s.turn && is_none (claimed_by s s.turn)) ≡ true) ↔ MayGive v
  may_give = (
    (λ is. let inner = and_parts (is_turn_of reader s.turn) (is_none (claimed_by s s.turn)) is in
        record { turn = holds inner.0; published = sym (claimed_is (holds inner.0)) ∙ is_nothing (claimed_by s s.turn) inner.1 }),
    (λ may. and_from (is_turn_of reader s.turn) (is_none (claimed_by s s.turn)) (held_back may.turn) (ap is_none (claimed_is may.turn ∙ may.published))),
  )

  -- ---- any kind ----

  pub may_make : (kind : Kind) → (passes p reader kind ≡ true) ↔ MayMake s reader v kind
  may_make LoadFront = ((λ is. tt), (λ may. refl))
  may_make AddPin = may_pin
  may_make (TakePin slot) = may_take slot
  may_make TakeTurn = may_take_turn
  may_make (Claim slot) = may_claim slot
  may_make (StorePush src) = may_push src
  may_make (StoreErase after) = may_erase after
  may_make StoreTurn = may_give

-- ---- an event ----

pub allowed_told : (made room : ℕ) (s : CoreState) (q : Progress) (event : Event) → Stands made room s q → event.reader < length q.core.readers → (passes q event.reader event.kind ≡ true) ↔ IsAllowed s event
allowed_told made room s q event stands low =
    let played = stands.played in
    let long : length q.core.readers ≡ s.readers = ap (λ (x : Progress). length x.core.readers) stands.told ∙ readers_long made room s played in
    let inside : event.reader < s.readers = omega arith in
    let same : passes q event.reader event.kind ≡ passes (progress_of room s) event.reader event.kind = ap (λ (x : Progress). passes x event.reader event.kind) stands.told in
    let may = may_make made room s played event.reader inside event.kind in (
      (λ is. record { reader = played.out event.reader inside; step = may.0 (sym same ∙ is) }),
      (λ allowed. same ∙ may.1 allowed.step),
    )

elem_within : (views : List View) (i : ℕ) (x : View) → get_elem? views i ≡ some x → i < length views
elem_within [] i x at = absurd (some-ne-none x (sym at))
elem_within (y ∷ ys) zero x at = omega arith
elem_within (y ∷ ys) (suc i) x at = let rest = elem_within ys i x at in omega arith

-- the reader of an event that is allowed is there
pub reader_within : (made room : ℕ) (s : CoreState) (q : Progress) (event : Event) → Stands made room s q → IsAllowed s event → event.reader < length q.core.readers
reader_within made room s q event stands allowed =
    let played = stands.played in
    let long : length q.core.readers ≡ s.readers = ap (λ (x : Progress). length x.core.readers) stands.told ∙ readers_long made room s played in
    let low = elem_within s.views (suc event.reader) (view_of s event.reader) allowed.reader.here in
    omega (arith, played.seats)

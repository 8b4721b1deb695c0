-- What a step may ask of what is kept at hand, and what it leaves of it.
use Rattle.std.proofs.Common.{◌≡◌, ◌≢◌, ℕ, zero, suc, ◌+◌, ◌-◌, ◌^◌, ◌≤◌, ◌<◌, List, [], ◌∷◌, ◌++◌, length, map, set, take, sym, refl, ap, ◌∙◌, subst, ⊎_elim, arith, true, false, Option, Some, None}
use Rattle.std.specs.Prelude.{is_some, IsSome, Result, OnOk, Ok, Err}
use Rattle.std.specs.List.{remove}
use Rattle.std.proofs.lemmas.Bool.{cases_Bool, cases_eq}
use Rattle.std.proofs.lemmas.List.{length-map}
use Rattle.std.proofs.lemmas.List.Elements.{Contains-get_or}
use Rattle.pin_core.specs.declared.view.View.{View}
use Rattle.pin_book.specs.declared.write.Write.{Write}
use Rattle.pin_book.specs.declared.write.Change.TheVariants.{Push, Erase}
use Rattle.pin_book.specs.Replay.{ListState, state_after, after_write, greatest_below, replays, front_slot}
use Rattle.pin_core.specs.Core.{CoreState, Front, count_at}
use Rattle.pin_core.specs.Step.{HasReader, MayStore, with_number}
use Rattle.pin_book.proofs.LawLemmas.{some_listed}
use Rattle.pin_core.proofs.Seats.{is_live}
use Rattle.pin_core.proofs.Loads.{seen_within}
use Rattle.pin_book.proofs.Journals.{replays_take, replays_push, front_slot_inside}
use Rattle.pin_book.proofs.ReplayLemmas.{state_after_push}
use Rattle.pin_core.proofs.Packing.{count_small, front_small}
use Rattle.pin_core.proofs.Readers.{counted}
use Rattle.pin_schedule.specs.declared.core_reader.CoreReader.{CoreReader}
use Rattle.pin_schedule.specs.declared.event.Event.{Event}
use Rattle.pin_schedule.specs.declared.event.Kind.{Kind}
use Rattle.pin_schedule.specs.declared.event.Kind.TheVariants.{LoadFront, AddPin, TakePin, TakeTurn, Claim, StorePush, StoreErase, StoreTurn}
use Rattle.pin_schedule.specs.declared.row.Row.{Row}
use Rattle.pin_schedule.specs.declared.limits.TheConstants.{MOST_EVENTS}
use Rattle.pin_schedule.specs.Pin.{taken_place}
use Rattle.pin_schedule.specs.Answer.{view_of, reader_of, claimed_by}
use Rattle.pin_schedule.specs.Schedule.{entry_at, MayTakeAt, next_write, push_of, erase_of, MayPush, push_into, MayMake, IsAllowed, after_kind, after_event}
use Rattle.pin_schedule.specs.Progress.{Progress, reader_at, front_at, newest, word_at, counting, greatest_under, without, written, with_reader, with_pin, with_word, with_turn, with_claimed, with_write, HasReach, listed_row, seen_front, progress_of, IsPlayed, Stands, CanMake}
use Rattle.pin_schedule.proofs.ListedLemmas.{greatest_placed, without_placed}
use Rattle.pin_schedule.proofs.ViewLemmas.{newest_told, readers_long, fronts_long, reader_told, front_told}
use Rattle.pin_schedule.proofs.StepLemmas.{taken_there, claimed_mine, loads_played, loads_told, pins_played, pins_told, takes_played, takes_told, misses_played, misses_told, gets_played, gets_told, claims_played, claims_told, finds_played, finds_told, stores_played, pushes_told, erases_told, gives_played, gives_told}
use Rattle.pin_schedule.proofs.AllowedLemmas.{reader_within}

-- the same answer with another fact
pub still_ok : {T E : Type 0} (r : Result T E) (P Q : Type 0) → (P → Q) → OnOk r P → OnOk r Q
still_ok (Ok x) P Q f is = f is
still_ok (Err e) P Q f is = tt

-- ---- what is asked ----

module _ (made room : ℕ) (s : CoreState) (played : IsPlayed made room s) (reader : ℕ) (inside : reader < s.readers) where
  abbrev v : View
  v = view_of s reader

  abbrev p : Progress
  p = progress_of room s

  has : HasReader s (suc reader) reader v
  has = played.out reader inside

  told : reader_at p reader ≡ reader_of v
  told = reader_told made room s played reader inside

  front : front_at p reader ≡ seen_front s.slots v
  front = front_told made room s played reader inside

  some_row : 0 < length p.listed
  some_row = let rows = length-map (state_after s.slots s.journal).listed listed_row in let some_edition = some_listed s.slots s.journal played.lawful.follows.some_slot played.lawful.follows.replay in omega arith

  seen : take (length v.seen) s.journal ≡ v.seen
  seen = (played.lawful.owners.each (suc reader) v has.here (is_live reader v has.reader)).seen

  reach_of : made < MOST_EVENTS → HasReach p reader
  reach_of few =
      let amounts = played.amounts reader inside in
      let journal = seen_within s.journal v.seen seen in
      let small = front_small s played.lawful in
      let space = played.lawful.room in
      let first = ap (λ (f : Front). f.n) played.lawful.follows.front in
      let newer = ap (λ (f : Row). f.n) (newest_told made room s played) in
      let writes = played.writes in
      let same_seen = ap (λ (r : CoreReader). r.seen) told in
      let same_loads = ap (λ (r : CoreReader). r.loads) told in
      let same_pins = ap (λ (r : CoreReader). r.pins) told in
      let same_taken = ap (λ (r : CoreReader). r.taken) told in
      let same_refused = ap (λ (r : CoreReader). r.refused) told in
      record {
        inside = omega (arith, readers_long made room s played);
        front = omega (arith, fronts_long made room s played);
        listed = some_row;
        journal = omega arith;
        newest = omega arith;
        seen = omega arith;
        loads = omega (arith, amounts.loads);
        pins = omega (arith, amounts.pins);
        taken = omega (arith, amounts.taken);
        refused = omega (arith, amounts.refused);
      }

  seen_inside : front_slot s.slots v.seen < s.slots
  seen_inside = front_slot_inside s.slots v.seen played.lawful.follows.some_slot (ap (replays s.slots) (sym seen) ∙ replays_take s.slots s.journal (length v.seen) played.lawful.follows.replay)

  pin_inside : (front_at p reader).slot < length p.core.words
  pin_inside = let slot = ap (λ (f : Row). f.slot) front in let low = seen_inside in let wide = played.lawful.follows.wide in omega arith

  pin_counts : (word_at p (front_at p reader).slot).count + 1 < 2 ^ 32
  pin_counts =
      let same : (word_at p (front_at p reader).slot).count ≡ count_at s.words (front_slot s.slots v.seen) = ap (λ (f : Row). (word_at p f.slot).count) front in
      let small = count_small s (front_slot s.slots v.seen) played.lawful seen_inside in
      let readers = played.readers in
      omega arith

  counted_at : (slot : ℕ) (place : Option ℕ) → taken_place slot v.entries ≡ place → MayTakeAt v place → 0 < count_at s.words slot
  counted_at slot None is may = absurd may
  counted_at slot (Some place) is may =
      let there = taken_there slot place v.entries is in
      let e = entry_at v.entries place in
      let some_pin = counted s played.lawful (suc reader) reader v has e (Contains-get_or v.entries place record { slot = 0; position = 0; held = false } there.0) in
      subst (λ n. 0 < count_at s.words n) there.1 some_pin

  -- something is left after an erase
  rows_left : (after : ℕ) → MayStore s reader (next_write reader v (erase_of s after)) v → 0 < length (without (greatest_under after p.listed) p.listed)
  rows_left after may =
      let es = (state_after s.slots s.journal).listed in
      let write = next_write reader v (erase_of s after) in
      let longer = some_listed s.slots (s.journal ++ write ∷ []) played.lawful.follows.some_slot (replays_push s.slots s.journal write played.lawful.follows.replay may.allows) in
      let same : length (state_after s.slots (s.journal ++ write ∷ [])).listed ≡ length (after_write (state_after s.slots s.journal) write).listed = ap (λ (state : ListState). length state.listed) (state_after_push s.slots s.journal write) in
      let rows : length (without (greatest_under after p.listed) p.listed) ≡ length (map listed_row (after_write (state_after s.slots s.journal) write).listed) =
      ap (λ n. length (without n p.listed)) (greatest_placed after es) ∙ ap (λ (l : List Row). length l) (without_placed (greatest_below after es) es) in
      let long = length-map (after_write (state_after s.slots s.journal) write).listed listed_row in
      omega arith

  -- a claimed slot, and room for a write
  claimed_some : (src : ℕ) (claimed : Option ℕ) → v.claimed ≡ claimed → MayPush s reader v src claimed → IsSome (claimed_by s s.turn)
  claimed_some src None is may = absurd may
  claimed_some src (Some slot) is may = ap is_some (claimed_mine made room s played reader inside may.turn ∙ is)

  push_allowance : (src : ℕ) (claimed : Option ℕ) → MayPush s reader v src claimed → 0 < (reader_at p reader).allowance
  push_allowance src None may = absurd may
  push_allowance src (Some slot) may = let same = ap (λ (r : CoreReader). r.allowance) told in let more = may.allowance in omega arith

  store_allowance : (write : Write) → MayStore s reader write v → 0 < (reader_at p reader).allowance
  store_allowance write may = let same = ap (λ (r : CoreReader). r.allowance) told in let more = may.allowance in omega arith

  small_allowance : (reader_at p reader).allowance ≤ room
  small_allowance = let same = ap (λ (r : CoreReader). r.allowance) told in let amounts = played.amounts reader inside in omega (arith, amounts.writes)

-- the same, at what is kept at hand of the state
module _ (q : Progress) (event : Event) (can : CanMake q event) where
  abbrev s' : CoreState
  s' = can.state

  told' : q ≡ progress_of can.room s'
  told' = can.stands.told

  within : event.reader < s'.readers
  within =
      let low = reader_within can.made can.room s' q event can.stands can.allowed in
      let long : length q.core.readers ≡ s'.readers = ap (λ (x : Progress). length x.core.readers) told' ∙ readers_long can.made can.room s' can.stands.played in
      omega arith

  step_of : (kind : Kind) → event.kind ≡ kind → MayMake s' event.reader (view_of s' event.reader) kind
  step_of kind is = subst (λ k. MayMake s' event.reader (view_of s' event.reader) k) is can.allowed.step

  pub has_reach : HasReach q event.reader
  has_reach = subst (λ (x : Progress). HasReach x event.reader) (sym told') (reach_of can.made can.room s' can.stands.played event.reader within can.few)

  pub has_inside : (front_at q event.reader).slot < length q.core.words
  has_inside = subst (λ (x : Progress). (front_at x event.reader).slot < length x.core.words) (sym told') (pin_inside can.made can.room s' can.stands.played event.reader within)

  pub has_count : (word_at q (front_at q event.reader).slot).count + 1 < 2 ^ 32
  has_count = subst (λ (x : Progress). (word_at x (front_at x event.reader).slot).count + 1 < 2 ^ 32) (sym told') (pin_counts can.made can.room s' can.stands.played event.reader within)

  pub has_pin : (slot : ℕ) → event.kind ≡ TakePin slot → 0 < (word_at q slot).count
  has_pin slot is = subst (λ (x : Progress). 0 < (word_at x slot).count) (sym told')
      (counted_at can.made can.room s' can.stands.played event.reader within slot (taken_place slot (view_of s' event.reader).entries) refl (step_of (TakePin slot) is).1)

  pub has_left : (after : ℕ) → event.kind ≡ StoreErase after → 0 < length (without (greatest_under after q.listed) q.listed)
  has_left after is = subst (λ (x : Progress). 0 < length (without (greatest_under after x.listed) x.listed)) (sym told')
      (rows_left can.made can.room s' can.stands.played event.reader within after (step_of (StoreErase after) is).1)

  pub has_claimed : (src : ℕ) → event.kind ≡ StorePush src → IsSome q.core.claimed
  has_claimed src is = subst (λ (x : Progress). IsSome x.core.claimed) (sym told')
      (claimed_some can.made can.room s' can.stands.played event.reader within src (view_of s' event.reader).claimed refl (step_of (StorePush src) is))

  pub has_push : (src : ℕ) → event.kind ≡ StorePush src → 0 < (reader_at q event.reader).allowance
  has_push src is = subst (λ (x : Progress). 0 < (reader_at x event.reader).allowance) (sym told')
      (push_allowance can.made can.room s' can.stands.played event.reader within src (view_of s' event.reader).claimed (step_of (StorePush src) is))

  pub has_erase : (after : ℕ) → event.kind ≡ StoreErase after → 0 < (reader_at q event.reader).allowance
  has_erase after is = subst (λ (x : Progress). 0 < (reader_at x event.reader).allowance) (sym told')
      (store_allowance can.made can.room s' can.stands.played event.reader within (next_write event.reader (view_of s' event.reader) (erase_of s' after)) (step_of (StoreErase after) is).1)

  pub has_room : (reader_at q event.reader).allowance ≤ q.room
  has_room = subst (λ (x : Progress). (reader_at x event.reader).allowance ≤ x.room) (sym told')
      (small_allowance can.made can.room s' can.stands.played event.reader within)

-- ---- what is left ----

module _ (made room : ℕ) (s : CoreState) (q : Progress) (event : Event) (stands : Stands made room s q) (allowed : IsAllowed s event) (next : Progress) where
  abbrev r : ℕ
  r = event.reader

  abbrev u : View
  u = view_of s event.reader

  played : IsPlayed made room s
  played = stands.played

  here : event.reader < s.readers
  here =
      let low = reader_within made room s q event stands allowed in
      let long : length q.core.readers ≡ s.readers = ap (λ (x : Progress). length x.core.readers) stands.told ∙ readers_long made room s played in
      omega arith

  may : (kind : Kind) → event.kind ≡ kind → MayMake s r u kind
  may kind is = subst (λ k. MayMake s r u k) is allowed.step

  finish : (kind : Kind) → event.kind ≡ kind → IsPlayed (made + 1) room (after_kind s r u kind) → next ≡ progress_of room (after_kind s r u kind) → Stands (made + 1) room (after_event s event) next
  finish kind is then told = subst (λ k. Stands (made + 1) room (after_kind s r u k) next) (sym is) record { played = then; told = told }

  pub makes_load : event.kind ≡ LoadFront → next ≡ record (with_reader q r (record (reader_at q r) { seen = length q.core.journal; loads = (reader_at q r).loads + 1 })) { fronts = set q.fronts r (newest q) } → Stands (made + 1) room (after_event s event) next
  makes_load is e = finish LoadFront is (loads_played made room s played r here)
      (e ∙ ap (λ (x : Progress). record (with_reader x r (record (reader_at x r) { seen = length x.core.journal; loads = (reader_at x r).loads + 1 })) { fronts = set x.fronts r (newest x) }) stands.told ∙ loads_told made room s played r here)

  pub makes_pin : event.kind ≡ AddPin → next ≡ with_word (with_reader q r (with_pin (front_at q r) (word_at q (front_at q r).slot) (reader_at q r))) (front_at q r).slot (counting (word_at q (front_at q r).slot) ((word_at q (front_at q r).slot).count + 1)) → Stands (made + 1) room (after_event s event) next
  makes_pin is e = finish AddPin is (pins_played made room s played r here (may AddPin is))
      (e ∙ ap (λ (x : Progress). with_word (with_reader x r (with_pin (front_at x r) (word_at x (front_at x r).slot) (reader_at x r))) (front_at x r).slot (counting (word_at x (front_at x r).slot) ((word_at x (front_at x r).slot).count + 1))) stands.told ∙ pins_told made room s played r here)

  some_taken : (slot : ℕ) (place : Option ℕ) → taken_place slot u.entries ≡ place → MayTakeAt u place → (at : ℕ) × (taken_place slot u.entries ≡ Some at)
  some_taken slot None is mine = absurd mine
  some_taken slot (Some at) is mine = (at, is)

  pub makes_take : (slot : ℕ) → event.kind ≡ TakePin slot → ((place : ℕ) → taken_place slot (reader_at q r).entries ≡ Some place → next ≡ with_word (with_reader q r (record (reader_at q r) { entries = remove (reader_at q r).entries place })) slot (counting (word_at q slot) ((word_at q slot).count - 1)))
      → Stands (made + 1) room (after_event s event) next
  makes_take slot is e =
      let step = may (TakePin slot) is in
      let taken = some_taken slot (taken_place slot u.entries) refl step.1 in
      let same : taken_place slot (reader_at q r).entries ≡ Some taken.0 =
      ap (λ (x : Progress). taken_place slot (reader_at x r).entries) stands.told ∙ ap (λ (x : CoreReader). taken_place slot x.entries) (reader_told made room s played r here) ∙ taken.1 in
      finish (TakePin slot) is (takes_played made room s played r here slot taken.0 taken.1)
      (e taken.0 same ∙ ap (λ (x : Progress). with_word (with_reader x r (record (reader_at x r) { entries = remove (reader_at x r).entries taken.0 })) slot (counting (word_at x slot) ((word_at x slot).count - 1))) stands.told ∙ takes_told made room s played r here slot taken.0 taken.1)

  none_there : (o : Option ℕ) → is_some o ≡ false → o ≡ None
  none_there None is = refl
  none_there (Some n) is = absurd (cc)

  pub makes_exchange : event.kind ≡ TakeTurn
      → (IsSome q.core.turn → next ≡ with_reader q r (record (reader_at q r) { refused = (reader_at q r).refused + 1 }))
      → (q.core.turn ≡ None → next ≡ with_turn (record (with_reader q r (record (reader_at q r) { seen = length q.core.journal; pinned = []; taken = (reader_at q r).taken + 1 })) { fronts = set q.fronts r (newest q) }) (Some r))
      → Stands (made + 1) room (after_event s event) next
  makes_exchange is taken free =
      let turn : q.core.turn ≡ s.turn = ap (λ (x : Progress). x.core.turn) stands.told in
      ⊎_elim
      (λ (held : is_some s.turn ≡ true). finish TakeTurn is (misses_played made room s played r here held)
      (taken (ap is_some turn ∙ held) ∙ ap (λ (x : Progress). with_reader x r (record (reader_at x r) { refused = (reader_at x r).refused + 1 })) stands.told ∙ misses_told made room s played r here held))
      (λ (nobody : is_some s.turn ≡ false). let none = none_there s.turn nobody in
      finish TakeTurn is (gets_played made room s played r here none (may TakeTurn is))
      (free (turn ∙ none) ∙ ap (λ (x : Progress). with_turn (record (with_reader x r (record (reader_at x r) { seen = length x.core.journal; pinned = []; taken = (reader_at x r).taken + 1 })) { fronts = set x.fronts r (newest x) }) (Some r)) stands.told ∙ gets_told made room s played r here none))
      (cases_Bool (is_some s.turn))

  pub makes_claim : {T E : Type 0} (result : Result T E) (slot : ℕ) → event.kind ≡ Claim slot
      → ((word_at q slot).count ≡ 0 → OnOk result (next ≡ with_claimed (with_word q slot record { number = (newest q).n + 1; count = 0 }) (Some slot)))
      → (0 < (word_at q slot).count → OnOk result (next ≡ with_reader q r (record (reader_at q r) { pinned = with_number slot (reader_at q r).pinned })))
      → OnOk result (Stands (made + 1) room (after_event s event) next)
  makes_claim result slot is free pinned =
      let count : (word_at q slot).count ≡ count_at s.words slot = ap (λ (x : Progress). (word_at x slot).count) stands.told in
      let mine = may (Claim slot) is in
      ⊎_elim
      (λ (none : count_at s.words slot ≡ 0). still_ok result _ _
      (λ (e : next ≡ with_claimed (with_word q slot record { number = (newest q).n + 1; count = 0 }) (Some slot)). finish (Claim slot) is (claims_played made room s played r here slot mine none)
      (e ∙ ap (λ (x : Progress). with_claimed (with_word x slot record { number = (newest x).n + 1; count = 0 }) (Some slot)) stands.told ∙ claims_told made room s played r here slot mine none))
      (free (count ∙ none)))
      (λ (apart : count_at s.words slot ≢ 0). let more : 0 < count_at s.words slot = positive (count_at s.words slot) apart in
      still_ok result _ _
      (λ (e : next ≡ with_reader q r (record (reader_at q r) { pinned = with_number slot (reader_at q r).pinned })). finish (Claim slot) is (finds_played made room s played r here slot mine more)
      (e ∙ ap (λ (x : Progress). with_reader x r (record (reader_at x r) { pinned = with_number slot (reader_at x r).pinned })) stands.told ∙ finds_told made room s played r here slot mine more))
      (pinned (omega arith)))
      (cases_eq (count_at s.words slot) 0)
    where
      positive : (n : ℕ) → n ≢ 0 → 0 < n
      positive zero apart = absurd (apart refl)
      positive (suc n) apart = omega arith

  push_to : {T E : Type 0} (result : Result T E) (src : ℕ) (claimed : Option ℕ) → u.claimed ≡ claimed → MayPush s r u src claimed
      → ((slot : ℕ) → q.core.claimed ≡ Some slot → OnOk result (next ≡ with_claimed (with_write q r (written q r r (Push ((newest q).n + 1) src slot)) (record { n = (newest q).n + 1; slot = slot } ∷ q.listed)) None))
      → OnOk result (IsPlayed (made + 1) room (push_into s r u src claimed) × (next ≡ progress_of room (push_into s r u src claimed)))
  push_to result src None is mine ends = absurd mine
  push_to result src (Some slot) is mine ends =
      let same : q.core.claimed ≡ Some slot = ap (λ (x : Progress). x.core.claimed) stands.told ∙ claimed_mine made room s played r here mine.turn ∙ is in
      still_ok result _ _
      (λ (e : next ≡ with_claimed (with_write q r (written q r r (Push ((newest q).n + 1) src slot)) (record { n = (newest q).n + 1; slot = slot } ∷ q.listed)) None). (
        stores_played made room s played r here (next_write r u (push_of s src slot)) mine,
        e ∙ ap (λ (x : Progress). with_claimed (with_write x r (written x r r (Push ((newest x).n + 1) src slot)) (record { n = (newest x).n + 1; slot = slot } ∷ x.listed)) None) stands.told ∙ pushes_told made room s played r here src slot mine,
      ))
      (ends slot same)

  pub makes_push : {T E : Type 0} (result : Result T E) (src : ℕ) → event.kind ≡ StorePush src
      → ((slot : ℕ) → q.core.claimed ≡ Some slot → OnOk result (next ≡ with_claimed (with_write q r (written q r r (Push ((newest q).n + 1) src slot)) (record { n = (newest q).n + 1; slot = slot } ∷ q.listed)) None))
      → OnOk result (Stands (made + 1) room (after_event s event) next)
  makes_push result src is ends = still_ok result _ _
      (λ (both : IsPlayed (made + 1) room (push_into s r u src u.claimed) × (next ≡ progress_of room (push_into s r u src u.claimed))). finish (StorePush src) is both.0 both.1)
      (push_to result src u.claimed refl (may (StorePush src) is) ends)

  pub makes_erase : {T E : Type 0} (result : Result T E) (after : ℕ) → event.kind ≡ StoreErase after
      → OnOk result (next ≡ with_write q r (written q r r (Erase after (greatest_under after q.listed))) (without (greatest_under after q.listed) q.listed))
      → OnOk result (Stands (made + 1) room (after_event s event) next)
  makes_erase result after is ends =
      let mine = may (StoreErase after) is in
      still_ok result _ _
      (λ (e : next ≡ with_write q r (written q r r (Erase after (greatest_under after q.listed))) (without (greatest_under after q.listed) q.listed)). finish (StoreErase after) is (stores_played made room s played r here (next_write r u (erase_of s after)) mine.1)
      (e ∙ ap (λ (x : Progress). with_write x r (written x r r (Erase after (greatest_under after x.listed))) (without (greatest_under after x.listed) x.listed)) stands.told ∙ erases_told made room s played r here after mine.0 mine.1))
      ends

  pub makes_give : event.kind ≡ StoreTurn → next ≡ with_turn q None → Stands (made + 1) room (after_event s event) next
  makes_give is e =
      let mine = may StoreTurn is in
      finish StoreTurn is (gives_played made room s played r here mine)
      (e ∙ ap (λ (x : Progress). with_turn x None) stands.told ∙ gives_told made room s played r here mine)

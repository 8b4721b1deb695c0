-- Each step, as it changes what is kept at hand of a state.
use Rattle.std.proofs.Common.{◌≡◌, ℕ, suc, ◌+◌, ◌-◌, ◌<◌, ◌==◌, List, [], ◌∷◌, ◌++◌, length, map, set, get_or, sym, refl, ap, ◌∙◌, subst, ⊎_elim, inl, inr, ◌⊎◌, arith, not, true, false, Option, Some, None}
use Rattle.std.specs.Prelude.{is_some, position, nat_le, ◌||◌}
use Rattle.std.specs.List.{remove, list_all}
use Rattle.std.specs.Option.{option_or}
use Rattle.std.proofs.lemmas.Bool.{both_ways, cond-true, cond-false, eqb-true, and_parts, eq-eqb, ne_eqb}
use Rattle.std.proofs.lemmas.List.{length-append}
use Rattle.std.proofs.lemmas.List.Quantifiers.{position-Some}
use Rattle.std.proofs.lemmas.Option.{slice_get-get_or}
use Rattle.pin_core.specs.declared.entry.Entry.{Entry}
use Rattle.pin_core.specs.declared.entry.SlotWord.{SlotWord}
use Rattle.pin_book.specs.declared.write.Write.{Write}
use Rattle.pin_book.specs.declared.write.Change.{Change}
use Rattle.pin_book.specs.declared.write.Change.TheVariants.{Push, Erase}
use Rattle.pin_core.specs.declared.view.View.{View}
use Rattle.pin_book.specs.Replay.{ListState, state_after, after_write, greatest_below, front_number, front_slot}
use Rattle.pin_core.specs.Core.{CoreState, number_at, count_at}
use Rattle.pin_core.specs.Lawful.{KnowsTurn}
use Rattle.pin_core.specs.Step.{HasReader, MayPin, MayTake, MayTakeTurn, MayClaim, MayStore, MayGive, loaded, pinned, unpinned, got_turn, was_refused, claiming, found_pinned, stored, claimed_after, gave_turn, with_number, front_after, load_front, add_pin, take_pin, take_turn, miss_turn, exchange_turn, claim_slot, miss_slot, claim, store_front, give_turn}
use Rattle.pin_core.proofs.Loads.{loads}
use Rattle.pin_core.proofs.Seats.{is_live}
use Rattle.pin_core.proofs.Pins.{pins, unpins}
use Rattle.pin_core.proofs.Turns.{takes, misses, gives_back}
use Rattle.pin_core.proofs.Claims.{claims_free, claims_pinned}
use Rattle.pin_core.proofs.Stores.{stores}
use Rattle.pin_core.proofs.Readers.{named, nobody}
use Rattle.pin_book.proofs.ReplayLemmas.{state_after_push}
use Rattle.pin_schedule.specs.declared.core_reader.CoreReader.{CoreReader}
use Rattle.pin_schedule.specs.declared.row.Row.{Row}
use Rattle.pin_schedule.specs.Pin.{is_stray_at, is_held_at, is_oldest_at, taken_place}
use Rattle.pin_schedule.specs.Answer.{seat_of, view_of, reader_of, claimed_by}
use Rattle.pin_schedule.specs.Schedule.{entry_at, take_at, next_write, push_of, erase_of}
use Rattle.pin_schedule.specs.Progress.{Progress, reader_at, front_at, newest, word_at, counting, greatest_under, without, written, with_reader, with_pin, with_word, with_turn, with_claimed, with_write, listed_row, seen_front, progress_of, Amounts, IsPlayed}
use Rattle.pin_schedule.proofs.ListedLemmas.{greatest_placed, without_placed}
use Rattle.pin_schedule.proofs.ViewLemmas.{newest_placed, newest_told, reader_told, front_told, readers_kept, fronts_kept, changed_told, claimed_here, claimed_kept, changed_played}

-- ---- which pin is taken off ----

one_of : (a b : Option ℕ) (place : ℕ) → option_or a b ≡ Some place → (a ≡ Some place) ⊎ (b ≡ Some place)
one_of None b place is = inr is
one_of (Some other) b place is = inl is

-- it is there, and at the slot
pub taken_there : (slot place : ℕ) (entries : List Entry) → taken_place slot entries ≡ Some place → (place < length entries) × ((entry_at entries place).slot ≡ slot)
taken_there slot place entries is = ⊎_elim
    (λ (stray : position (is_stray_at slot) entries ≡ Some place). let at = position-Some (is_stray_at slot) entries place nothing stray in
    (at.0, eqb-true (entry_at entries place).slot slot (and_parts ((entry_at entries place).slot == slot) (not (entry_at entries place).held) at.1).0))
    (λ (oldest : position (is_oldest_at slot entries) entries ≡ Some place). let at = position-Some (is_oldest_at slot entries) entries place nothing oldest in
    let held = and_parts (is_held_at slot (entry_at entries place)) (list_all (λ (other : Entry). not (is_held_at slot other) || nat_le (entry_at entries place).position other.position) entries) at.1 in
    (at.0, eqb-true (entry_at entries place).slot slot (and_parts ((entry_at entries place).slot == slot) (entry_at entries place).held held.0).0))
    (one_of (position (is_stray_at slot) entries) (position (is_oldest_at slot entries) entries) place is)
  where
    nothing : Entry
    nothing = record { slot = 0; position = 0; held = false }

none_of : (o : Option ℕ) → ((slot : ℕ) → o ≡ Some slot → ⊥) → o ≡ None
none_of None never = refl
none_of (Some slot) never = absurd (never slot refl)

front_placed : (slots : ℕ) (journal : List Write) → get_or (map listed_row (state_after slots journal).listed) 0 record { n = 0; slot = 0 } ≡ record { n = front_number slots journal; slot = front_slot slots journal }
unfolding front_number front_slot
front_placed slots journal = newest_placed (state_after slots journal).listed

module _ (made room : ℕ) (s : CoreState) (played : IsPlayed made room s) (reader : ℕ) (inside : reader < s.readers) where
  abbrev v : View
  v = view_of s reader

  abbrev p : Progress
  p = progress_of room s

  has : HasReader s (suc reader) reader v
  has = played.out reader inside

  amounts : Amounts made room v
  amounts = played.amounts reader inside

  -- what is told of the reader, and its front, are those of what it knows
  told : reader_at p reader ≡ reader_of v
  told = reader_told made room s played reader inside

  front : front_at p reader ≡ seen_front s.slots v
  front = front_told made room s played reader inside

  same_readers : p.core.readers ≡ set p.core.readers reader (reader_of v)
  same_readers = readers_kept made room s played reader inside

  same_fronts : p.fronts ≡ set p.fronts reader (seen_front s.slots v)
  same_fronts = fronts_kept made room s played reader inside

  -- what is at hand
  abbrev now : List SlotWord → Option ℕ → List Write → Option ℕ → List CoreReader → List Row → List Row → Progress
  now words turn journal claimed readers fronts listed = record {
    room = room;
    core = record { journal = journal; words = words; turn = turn; claimed = claimed; readers = readers };
    fronts = fronts;
    listed = listed;
  }

  -- the seat of the reader
  seat : KnowsTurn s.slots s.journal (number_at s.words) s.turn v
  seat = played.lawful.turn.each (suc reader) v has.here (is_live reader v has.reader)

  -- the turn's holder has the claimed slot
  pub claimed_mine : v.turn ≡ true → claimed_by s s.turn ≡ v.claimed
  claimed_mine mine = ap (claimed_by s) (named s (suc reader) reader v played.lawful has mine)

  -- ---- a load ----

  pub loads_played : IsPlayed (made + 1) room (load_front s (seat_of reader) v)
  loads_played = changed_played made room s played reader inside s.front s.words s.turn s.journal (loaded s.journal v) (loads s (suc reader) reader v played.lawful has) has.reader record {
    loads = omega (arith, amounts.loads);
    pins = omega (arith, amounts.pins);
    taken = omega (arith, amounts.taken);
    refused = omega (arith, amounts.refused);
    writes = amounts.writes;
  }

  pub loads_told : record (with_reader p reader (record (reader_at p reader) { seen = length p.core.journal; loads = (reader_at p reader).loads + 1 })) { fronts = set p.fronts reader (newest p) }
      ≡ progress_of room (load_front s (seat_of reader) v)
  loads_told =
      let newer = newest_told made room s played in
      let claimed = claimed_kept made room s played reader inside s.front s.words s.turn s.journal (loaded s.journal v) refl in
      let start : now s.words s.turn s.journal (claimed_by s s.turn) (set p.core.readers reader (record (reader_at p reader) { seen = length s.journal; loads = (reader_at p reader).loads + 1 })) (set p.fronts reader (newest p)) p.listed
      ≡ now s.words s.turn s.journal (claimed_by (load_front s (seat_of reader) v) s.turn) (set p.core.readers reader (reader_of (loaded s.journal v))) (set p.fronts reader (seen_front s.slots (loaded s.journal v))) p.listed =
      λ i. now s.words s.turn s.journal (claimed i) (set p.core.readers reader (record (told i) { seen = length s.journal; loads = (told i).loads + 1 })) (set p.fronts reader (newer i)) p.listed in
      start ∙ sym (changed_told made room s played reader inside s.front s.words s.turn s.journal (loaded s.journal v))

  -- ---- a pin ----

  pub pins_played : MayPin v → IsPlayed (made + 1) room (add_pin s (seat_of reader) v)
  pins_played may =
      let slot = front_slot s.slots v.seen in
      let words = set s.words slot record { number = number_at s.words slot; count = count_at s.words slot + 1 } in
      changed_played made room s played reader inside s.front words s.turn s.journal (pinned s.slots (number_at s.words slot) v) (pins s (suc reader) reader v played.lawful has may) has.reader record {
        loads = omega (arith, amounts.loads);
        pins = omega (arith, amounts.pins);
        taken = omega (arith, amounts.taken);
        refused = omega (arith, amounts.refused);
        writes = amounts.writes;
      }

  abbrev pinned_at : Row → CoreReader → Option ℕ → List Row → Progress
  pinned_at f r claimed fronts =
      let word = word_at p f.slot in now (set s.words f.slot (counting word (word.count + 1))) s.turn s.journal claimed (set p.core.readers reader (with_pin f word r)) fronts p.listed

  pub pins_told : with_word (with_reader p reader (with_pin (front_at p reader) (word_at p (front_at p reader).slot) (reader_at p reader))) (front_at p reader).slot (counting (word_at p (front_at p reader).slot) ((word_at p (front_at p reader).slot).count + 1))
      ≡ progress_of room (add_pin s (seat_of reader) v)
  pins_told =
      let slot = front_slot s.slots v.seen in
      let words = set s.words slot record { number = number_at s.words slot; count = count_at s.words slot + 1 } in
      let w = pinned s.slots (number_at s.words slot) v in
      let claimed = claimed_kept made room s played reader inside s.front words s.turn s.journal w refl in
      let start : pinned_at (front_at p reader) (reader_at p reader) (claimed_by s s.turn) p.fronts
      ≡ pinned_at (seen_front s.slots v) (reader_of v) (claimed_by (add_pin s (seat_of reader) v) s.turn) (set p.fronts reader (seen_front s.slots v)) =
      λ i. pinned_at (front i) (told i) (claimed i) (same_fronts i) in
      start ∙ sym (changed_told made room s played reader inside s.front words s.turn s.journal w)

  -- ---- a pin taken off ----

  module _ (slot place : ℕ) (is : taken_place slot v.entries ≡ Some place) where
    abbrev e : Entry
    e = entry_at v.entries place

    there : MayTake place e v
    there = record { there = slice_get-get_or v.entries place record { slot = 0; position = 0; held = false } (taken_there slot place v.entries is).0 }

    at : slot ≡ e.slot
    at = sym (taken_there slot place v.entries is).1

    abbrev fewer : List SlotWord
    fewer = set s.words e.slot record { number = number_at s.words e.slot; count = count_at s.words e.slot - 1 }

    pub takes_played : IsPlayed (made + 1) room (take_at s (seat_of reader) v (taken_place slot v.entries))
    takes_played = subst (λ o. IsPlayed (made + 1) room (take_at s (suc reader) v o)) (sym is) (changed_played made room s played reader inside s.front fewer s.turn s.journal (unpinned place v) (unpins s (suc reader) reader v place e played.lawful has there) has.reader record {
      loads = omega (arith, amounts.loads);
      pins = omega (arith, amounts.pins);
      taken = omega (arith, amounts.taken);
      refused = omega (arith, amounts.refused);
      writes = amounts.writes;
    })

    pub takes_told : with_word (with_reader p reader (record (reader_at p reader) { entries = remove (reader_at p reader).entries place })) slot (counting (word_at p slot) ((word_at p slot).count - 1))
        ≡ progress_of room (take_at s (seat_of reader) v (taken_place slot v.entries))
    takes_told =
        let claimed = claimed_kept made room s played reader inside s.front fewer s.turn s.journal (unpinned place v) refl in
        let start : now (set s.words slot (counting (word_at p slot) ((word_at p slot).count - 1))) s.turn s.journal (claimed_by s s.turn) (set p.core.readers reader (record (reader_at p reader) { entries = remove (reader_at p reader).entries place })) p.fronts p.listed
        ≡ now fewer s.turn s.journal (claimed_by (take_pin s (seat_of reader) v place e) s.turn) (set p.core.readers reader (reader_of (unpinned place v))) (set p.fronts reader (seen_front s.slots v)) p.listed =
        λ i. now (set s.words (at i) (counting (word_at p (at i)) ((word_at p (at i)).count - 1))) s.turn s.journal (claimed i) (set p.core.readers reader (record (told i) { entries = remove (told i).entries place })) (same_fronts i) p.listed in
        start ∙ sym (changed_told made room s played reader inside s.front fewer s.turn s.journal (unpinned place v)) ∙ ap (λ o. progress_of room (take_at s (suc reader) v o)) (sym is)

  -- ---- the turn word ----

  pub misses_played : is_some s.turn ≡ true → IsPlayed (made + 1) room (exchange_turn s (seat_of reader) reader v)
  misses_played some_holder = subst (λ t. IsPlayed (made + 1) room t) (sym (cond-true (is_some s.turn) (miss_turn s (suc reader) v) (take_turn s (suc reader) reader v) some_holder))
      (changed_played made room s played reader inside s.front s.words s.turn s.journal (was_refused s.turn v) (misses s (suc reader) reader v played.lawful has) has.reader record {
        loads = omega (arith, amounts.loads);
        pins = omega (arith, amounts.pins);
        taken = omega (arith, amounts.taken);
        refused = omega (arith, amounts.refused);
        writes = amounts.writes;
      })

  pub misses_told : is_some s.turn ≡ true → with_reader p reader (record (reader_at p reader) { refused = (reader_at p reader).refused + 1 })
      ≡ progress_of room (exchange_turn s (seat_of reader) reader v)
  misses_told some_holder =
      let claimed = claimed_kept made room s played reader inside s.front s.words s.turn s.journal (was_refused s.turn v) refl in
      let start : now s.words s.turn s.journal (claimed_by s s.turn) (set p.core.readers reader (record (reader_at p reader) { refused = (reader_at p reader).refused + 1 })) p.fronts p.listed
      ≡ now s.words s.turn s.journal (claimed_by (miss_turn s (suc reader) v) s.turn) (set p.core.readers reader (reader_of (was_refused s.turn v))) (set p.fronts reader (seen_front s.slots v)) p.listed =
      λ i. now s.words s.turn s.journal (claimed i) (set p.core.readers reader (record (told i) { refused = (told i).refused + 1 })) (same_fronts i) p.listed in
      start ∙ sym (changed_told made room s played reader inside s.front s.words s.turn s.journal (was_refused s.turn v))
      ∙ ap (progress_of room) (sym (cond-true (is_some s.turn) (miss_turn s (suc reader) v) (take_turn s (suc reader) reader v) some_holder))

  module _ (free : s.turn ≡ None) where
    no_holder : is_some s.turn ≡ false
    no_holder = ap is_some free

    unclaimed : v.claimed ≡ None
    unclaimed = none_of v.claimed (λ slot is. both_ways v.turn (nobody s (suc reader) v played.lawful has.here free) (seat.claims slot is))

    pub gets_played : MayTakeTurn v → IsPlayed (made + 1) room (exchange_turn s (seat_of reader) reader v)
    gets_played may = subst (λ t. IsPlayed (made + 1) room t) (sym (cond-false (is_some s.turn) (miss_turn s (suc reader) v) (take_turn s (suc reader) reader v) no_holder))
        (changed_played made room s played reader inside s.front s.words (Some reader) s.journal (got_turn s.journal v) (takes s (suc reader) reader v played.lawful has may free) has.reader record {
          loads = omega (arith, amounts.loads);
          pins = omega (arith, amounts.pins);
          taken = omega (arith, amounts.taken);
          refused = omega (arith, amounts.refused);
          writes = amounts.writes;
        })

    pub gets_told : with_turn (record (with_reader p reader (record (reader_at p reader) { seen = length p.core.journal; pinned = []; taken = (reader_at p reader).taken + 1 })) { fronts = set p.fronts reader (newest p) }) (Some reader)
        ≡ progress_of room (exchange_turn s (seat_of reader) reader v)
    gets_told =
        let newer = newest_told made room s played in
        let w = got_turn s.journal v in
        let claimed : claimed_by s s.turn ≡ claimed_by (take_turn s (seat_of reader) reader v) (Some reader) =
        ap (claimed_by s) free ∙ sym unclaimed ∙ sym (claimed_here made room s played reader inside s.front s.words (Some reader) s.journal w) in
        let start : now s.words (Some reader) s.journal (claimed_by s s.turn) (set p.core.readers reader (record (reader_at p reader) { seen = length s.journal; pinned = []; taken = (reader_at p reader).taken + 1 })) (set p.fronts reader (newest p)) p.listed
        ≡ now s.words (Some reader) s.journal (claimed_by (take_turn s (seat_of reader) reader v) (Some reader)) (set p.core.readers reader (reader_of w)) (set p.fronts reader (seen_front s.slots w)) p.listed =
        λ i. now s.words (Some reader) s.journal (claimed i) (set p.core.readers reader (record (told i) { seen = length s.journal; pinned = []; taken = (told i).taken + 1 })) (set p.fronts reader (newer i)) p.listed in
        start ∙ sym (changed_told made room s played reader inside s.front s.words (Some reader) s.journal w)
        ∙ ap (progress_of room) (sym (cond-false (is_some s.turn) (miss_turn s (suc reader) v) (take_turn s (suc reader) reader v) no_holder))

  -- ---- a claim ----

  module _ (slot : ℕ) (may : MayClaim s slot v) where
    mine : s.turn ≡ Some reader
    mine = named s (suc reader) reader v played.lawful has may.turn

    module _ (none : count_at s.words slot ≡ 0) where
      zero_count : (count_at s.words slot == 0) ≡ true
      zero_count = eq-eqb (count_at s.words slot) 0 none

      abbrev coming : List SlotWord
      coming = set s.words slot record { number = front_number s.slots s.journal + 1; count = 0 }

      pub claims_played : IsPlayed (made + 1) room (claim s (seat_of reader) v slot)
      claims_played = subst (λ t. IsPlayed (made + 1) room t) (sym (cond-true (count_at s.words slot == 0) (claim_slot s (suc reader) v slot) (miss_slot s (suc reader) v slot) zero_count))
          (changed_played made room s played reader inside s.front coming s.turn s.journal (claiming slot v) (claims_free s (suc reader) reader v slot played.lawful has may none) has.reader record {
            loads = omega (arith, amounts.loads);
            pins = omega (arith, amounts.pins);
            taken = omega (arith, amounts.taken);
            refused = omega (arith, amounts.refused);
            writes = amounts.writes;
          })

      pub claims_told : with_claimed (with_word p slot record { number = (newest p).n + 1; count = 0 }) (Some slot) ≡ progress_of room (claim s (seat_of reader) v slot)
      claims_told =
          let newer = newest_told made room s played in
          let w = claiming slot v in
          let claimed : Some slot ≡ claimed_by (claim_slot s (seat_of reader) v slot) s.turn =
          sym (ap (claimed_by (claim_slot s (seat_of reader) v slot)) mine ∙ claimed_here made room s played reader inside s.front coming s.turn s.journal w) in
          let start : now (set s.words slot record { number = (newest p).n + 1; count = 0 }) s.turn s.journal (Some slot) p.core.readers p.fronts p.listed
          ≡ now coming s.turn s.journal (claimed_by (claim_slot s (seat_of reader) v slot) s.turn) (set p.core.readers reader (reader_of w)) (set p.fronts reader (seen_front s.slots v)) p.listed =
          λ i. now (set s.words slot record { number = (newer i).n + 1; count = 0 }) s.turn s.journal (claimed i) (same_readers i) (same_fronts i) p.listed in
          start ∙ sym (changed_told made room s played reader inside s.front coming s.turn s.journal w)
          ∙ ap (progress_of room) (sym (cond-true (count_at s.words slot == 0) (claim_slot s (suc reader) v slot) (miss_slot s (suc reader) v slot) zero_count))

    module _ (some_pin : 0 < count_at s.words slot) where
      some_count : (count_at s.words slot == 0) ≡ false
      some_count = ne_eqb (count_at s.words slot) 0 (λ e. omega arith)

      pub finds_played : IsPlayed (made + 1) room (claim s (seat_of reader) v slot)
      finds_played = subst (λ t. IsPlayed (made + 1) room t) (sym (cond-false (count_at s.words slot == 0) (claim_slot s (suc reader) v slot) (miss_slot s (suc reader) v slot) some_count))
          (changed_played made room s played reader inside s.front s.words s.turn s.journal (found_pinned slot v) (claims_pinned s (suc reader) reader v slot played.lawful has may some_pin) has.reader record {
            loads = omega (arith, amounts.loads);
            pins = omega (arith, amounts.pins);
            taken = omega (arith, amounts.taken);
            refused = omega (arith, amounts.refused);
            writes = amounts.writes;
          })

      pub finds_told : with_reader p reader (record (reader_at p reader) { pinned = with_number slot (reader_at p reader).pinned }) ≡ progress_of room (claim s (seat_of reader) v slot)
      finds_told =
          let w = found_pinned slot v in
          let claimed = claimed_kept made room s played reader inside s.front s.words s.turn s.journal w refl in
          let start : now s.words s.turn s.journal (claimed_by s s.turn) (set p.core.readers reader (record (reader_at p reader) { pinned = with_number slot (reader_at p reader).pinned })) p.fronts p.listed
          ≡ now s.words s.turn s.journal (claimed_by (miss_slot s (seat_of reader) v slot) s.turn) (set p.core.readers reader (reader_of w)) (set p.fronts reader (seen_front s.slots v)) p.listed =
          λ i. now s.words s.turn s.journal (claimed i) (set p.core.readers reader (record (told i) { pinned = with_number slot (told i).pinned })) (same_fronts i) p.listed in
          start ∙ sym (changed_told made room s played reader inside s.front s.words s.turn s.journal w)
          ∙ ap (progress_of room) (sym (cond-false (count_at s.words slot == 0) (claim_slot s (suc reader) v slot) (miss_slot s (suc reader) v slot) some_count))

  -- ---- a store ----

  module _ (write : Write) (may : MayStore s reader write v) where
    abbrev longer : List Write
    longer = s.journal ++ write ∷ []

    pub stores_played : IsPlayed (made + 1) room (store_front s (seat_of reader) v write)
    stores_played = changed_played made room s played reader inside (front_after s.slots longer) s.words s.turn longer (stored write v) (stores s (suc reader) reader v write played.lawful has may) has.reader record {
      loads = omega (arith, amounts.loads);
      pins = omega (arith, amounts.pins);
      taken = omega (arith, amounts.taken);
      refused = omega (arith, amounts.refused);
      writes = (let long = length-append v.own (write ∷ []) in let more = may.allowance in omega (arith, amounts.writes));
    }

    stored_reader : record (reader_at p reader) { seen = (reader_at p reader).seen + 1; allowance = (reader_at p reader).allowance - 1 } ≡ reader_of (stored write v)
    stored_reader = (λ i. record (told i) { seen = (told i).seen + 1; allowance = (told i).allowance - 1 })
        ∙ (λ i. record (reader_of v) { seen = sym (length-append v.seen (write ∷ [])) i; allowance = v.allowance - 1 })

    stored_front : get_or (map listed_row (state_after s.slots longer).listed) 0 record { n = 0; slot = 0 } ≡ seen_front s.slots (stored write v)
    stored_front = front_placed s.slots longer ∙ ap (λ (seen : List Write). record { n = front_number s.slots (seen ++ write ∷ []); slot = front_slot s.slots (seen ++ write ∷ []) }) (sym (seat.current may.turn))

    -- where the write and what is listed after it are those of the core
    pub stores_told : (own : Write) (listed : List Row) (claimed : Option ℕ) → own ≡ write → listed ≡ map listed_row (after_write (state_after s.slots s.journal) write).listed → claimed ≡ claimed_after v.claimed write.change
        → record (with_write p reader own listed) { core = record (with_write p reader own listed).core { claimed = claimed } } ≡ progress_of room (store_front s (seat_of reader) v write)
    stores_told own listed claimed is lists claims =
        let all : listed ≡ map listed_row (state_after s.slots longer).listed = lists ∙ ap (λ (state : ListState). map listed_row state.listed) (sym (state_after_push s.slots s.journal write)) in
        let first : get_or listed 0 record { n = 0; slot = 0 } ≡ seen_front s.slots (stored write v) = ap (λ (rows : List Row). get_or rows 0 record { n = 0; slot = 0 }) all ∙ stored_front in
        let taken : claimed ≡ claimed_by (store_front s (seat_of reader) v write) s.turn =
        claims ∙ sym (ap (claimed_by (store_front s (seat_of reader) v write)) (named s (suc reader) reader v played.lawful has may.turn) ∙ claimed_here made room s played reader inside (front_after s.slots longer) s.words s.turn longer (stored write v)) in
        let start : now s.words s.turn (s.journal ++ own ∷ []) claimed (set p.core.readers reader (record (reader_at p reader) { seen = (reader_at p reader).seen + 1; allowance = (reader_at p reader).allowance - 1 })) (set p.fronts reader (get_or listed 0 record { n = 0; slot = 0 })) listed
        ≡ now s.words s.turn longer (claimed_by (store_front s (seat_of reader) v write) s.turn) (set p.core.readers reader (reader_of (stored write v))) (set p.fronts reader (seen_front s.slots (stored write v))) (map listed_row (state_after s.slots longer).listed) =
        λ i. now s.words s.turn (s.journal ++ is i ∷ []) (taken i) (set p.core.readers reader (stored_reader i)) (set p.fronts reader (first i)) (all i) in
        start ∙ sym (changed_told made room s played reader inside (front_after s.slots longer) s.words s.turn longer (stored write v))

  -- the write that is made next, as it is told at hand
  next_written : (change next : Change) → change ≡ next → written p reader reader change ≡ next_write reader v next
  next_written change next is =
      let count : room - (reader_at p reader).allowance + 1 ≡ length v.own + 1 = (let less = ap (λ (r : CoreReader). r.allowance) told in omega (arith, amounts.writes)) in
      λ i. record { by = reader; seq = count i; change = is i }

  pub pushes_told : (src slot : ℕ) → MayStore s reader (next_write reader v (push_of s src slot)) v
      → with_claimed (with_write p reader (written p reader reader (Push ((newest p).n + 1) src slot)) (record { n = (newest p).n + 1; slot = slot } ∷ p.listed)) None
      ≡ progress_of room (store_front s (seat_of reader) v (next_write reader v (push_of s src slot)))
  pushes_told src slot may =
      let newer = newest_told made room s played in
      stores_told (next_write reader v (push_of s src slot)) may (written p reader reader (Push ((newest p).n + 1) src slot)) (record { n = (newest p).n + 1; slot = slot } ∷ p.listed) None
      (next_written (Push ((newest p).n + 1) src slot) (push_of s src slot) (ap (λ (f : Row). Push (f.n + 1) src slot) newer))
      (ap (λ (f : Row). record { n = f.n + 1; slot = slot } ∷ p.listed) newer) refl

  pub erases_told : (after : ℕ) → v.claimed ≡ None → MayStore s reader (next_write reader v (erase_of s after)) v
      → with_write p reader (written p reader reader (Erase after (greatest_under after p.listed))) (without (greatest_under after p.listed) p.listed)
      ≡ progress_of room (store_front s (seat_of reader) v (next_write reader v (erase_of s after)))
  erases_told after nothing may =
      let gone = greatest_placed after (state_after s.slots s.journal).listed in
      stores_told (next_write reader v (erase_of s after)) may (written p reader reader (Erase after (greatest_under after p.listed))) (without (greatest_under after p.listed) p.listed) p.core.claimed
      (next_written (Erase after (greatest_under after p.listed)) (erase_of s after) (ap (Erase after) gone))
      (ap (λ n. without n p.listed) gone ∙ without_placed (greatest_below after (state_after s.slots s.journal).listed) (state_after s.slots s.journal).listed)
      (claimed_mine may.turn)

  -- ---- the turn given back ----

  pub gives_played : MayGive v → IsPlayed (made + 1) room (give_turn s (seat_of reader) v)
  gives_played may = changed_played made room s played reader inside s.front s.words None s.journal (gave_turn v) (gives_back s (suc reader) reader v played.lawful has may) has.reader record {
    loads = omega (arith, amounts.loads);
    pins = omega (arith, amounts.pins);
    taken = omega (arith, amounts.taken);
    refused = omega (arith, amounts.refused);
    writes = amounts.writes;
  }

  pub gives_told : MayGive v → with_turn p None ≡ progress_of room (give_turn s (seat_of reader) v)
  gives_told may =
      let unclaimed : claimed_by s s.turn ≡ None = claimed_mine may.turn ∙ may.published in
      let start : now s.words None s.journal (claimed_by s s.turn) p.core.readers p.fronts p.listed
      ≡ now s.words None s.journal None (set p.core.readers reader (reader_of v)) (set p.fronts reader (seen_front s.slots v)) p.listed =
      λ i. now s.words None s.journal (unclaimed i) (same_readers i) (same_fronts i) p.listed in
      start ∙ sym (changed_told made room s played reader inside s.front s.words None s.journal (gave_turn v))

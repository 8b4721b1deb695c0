-- A try to claim a slot keeps the rule, and tells whether the slot was found pinned.
use Rattle.std.proofs.Common.{◌≡◌, ◌≢◌, ◌⊎◌, ℕ, ◌+◌, ◌<◌, ◌≤◌, List, [], ◌∷◌, length, set, Bool, true, false, ◌&&◌, if◌then◌else◌, refl, sym, ap, ◌∙◌, subst, ⊎_elim, inl, inr, arith, ◌==◌, eq-eqb, ne_eqb, Some}
use Rattle.std.specs.Prelude.{slice_index, nat_lt}
use Rattle.std.specs.List.{All, Contains}
use Rattle.std.proofs.lemmas.List.Elements.{All-head}
use Rattle.std.proofs.lemmas.Bool.{cases_eq, cases_lt, cond-true, cond-false, cond_both, eqb-true}
use lib.Seq.{set-get_or}
use prog.Atomic.{either}
use mathlib.Core.Option as maybe
use mathlib.Core.Option.{some, some-injective}
use lib.ListN.{get_elem?}
use Rattle.atomic_table.specs.Table.{State, Me, keeps, homes_after, Allows}
use Rattle.pin_book.specs.declared.limits.TheConstants.{READER_NUMBERS}
use Rattle.pin_book.specs.Replay.{front_number, kept_number, is_taken}
use Rattle.pin_core.specs.declared.view.View.{View}
use Rattle.pin_core.specs.declared.entry.Entry.{Entry}
use Rattle.pin_core.specs.declared.view.Role.{Role}
use Rattle.pin_core.specs.declared.view.Role.TheVariants as roles
use Rattle.pin_core.specs.Core.{CoreState, IsReader, number_at, count_at, total, one_if, pins_at, held_at, has_number}
use Rattle.pin_core.specs.Lawful.{Lawful, WasFrontOnce}
use Rattle.pin_core.proofs.Sums.{total_some, total_none, terms_le, one_if-le}
use Rattle.pin_core.proofs.Seats.{is_live}
use Rattle.pin_core.proofs.Stores.{has_own}
use Rattle.pin_core.proofs.Claims.{claims_keep}
use Rattle.pin_core.proofs.Holders.{found_once}
use Rattle.pin_core.specs.Step.{HasReader, MayClaim, with_number, claiming, found_pinned, claim, claim_slot, miss_slot}
use Rattle.pin_core.specs.Run.{Moves, claims_slot}
use Rattle.pin_core.specs.Packing.{packed_slot, place, book_place}
use Rattle.pin_core.proofs.Places.{claim_number, claimed_home}
use Rattle.pin_core.proofs.AtHome.{claim_home, miss_home}
use Rattle.pin_table.specs.declared.cell.Cell.{Cell}
use Rattle.pin_table.specs.declared.sitting.Plan.{Plan}
use Rattle.pin_table.specs.declared.sitting.Sitting.{Sitting}
use Rattle.pin_table.specs.Layout.{slot_word}
use Rattle.pin_table.specs.Seat.{knowing}
use Rattle.pin_table.specs.Runs.{takes_run}
use Rattle.pin_table.specs.Places.{IsPlaceAt, StandsAtHome}
use Rattle.pin_table.specs.Rule.{KeepsList}
use Rattle.pin_table.specs.Plays.{ForReader, MayClaimSlot, SlotTried, unpinned_word, claimed_word}
use Rattle.pin_table.proofs.RunLemmas.{carried_taken, taken_else, taken_length, taken_valid, gathered}
use Rattle.pin_table.proofs.StepLemmas.{same_words, slot_written, Known, known, after_step, Steps, lives, set_at, for_step}
use Rattle.pin_table.proofs.ExchangeLemmas.{head_among, tail_among}

-- the places of one slot stand apart from those of another
pub run_apart : (slot at reader count : ℕ) → at ≢ slot → reader < READER_NUMBERS → count ≤ READER_NUMBERS → (place at reader < place slot 0) ⊎ (place slot 0 + count ≤ place at reader)
run_apart slot at reader count other low few = ⊎_elim (λ (less : at < slot). inl (omega arith)) (λ (more : slot ≤ at). inr (let beyond : slot < at = omega arith in omega arith)) (cases_lt at slot)

-- handles are pins
held_among : (slot : ℕ) (entries : List Entry) → total (λ (e : Entry). one_if ((e.slot == slot) && e.held)) entries ≤ total (λ (e : Entry). one_if (e.slot == slot)) entries
held_among slot [] = omega arith
held_among slot (e ∷ es) = let later = held_among slot es in let here = less (e.slot == slot) e.held in omega arith
  where
    less : (a b : Bool) → one_if (a && b) ≤ one_if a
    less true b = one_if-le b
    less false b = omega arith

-- a number that is put into a list is in it
among_with : (number : ℕ) (numbers : List ℕ) → Contains (with_number number numbers) number
among_with number [] = head_among number []
among_with number (n ∷ ns) = cond_both (nat_lt number n) (number ∷ n ∷ ns) (if number == n then n ∷ ns else n ∷ with_number number ns) (λ l. Contains l number)
    (λ _. head_among number (n ∷ ns))
    (λ _. cond_both (number == n) (n ∷ ns) (n ∷ with_number number ns) (λ l. Contains l number)
    (λ is. subst (λ k. Contains (k ∷ ns) number) (eqb-true number n is) (head_among number ns))
    (λ _. tail_among n (with_number number ns) number (among_with number ns)))

-- in a table of one reader each pin is that reader's
only_pins : (s : CoreState) (id number slot : ℕ) (v : View) → Lawful s → HasReader s id number v → s.readers ≡ 1 → 0 < total (pins_at slot) s.views → 0 < pins_at slot v
only_pins s id number slot v h has one some_pin = let seat = total_some (pins_at slot) s.views some_pin in
    ⊎_elim (λ (is : seat.0 ≡ id). let same : seat.1 ≡ v = some-injective seat.1 v (sym seat.2 ∙ ap (get_elem? s.views) is ∙ has.here) in subst (λ u. 0 < pins_at slot u) same seat.3)
    (λ (no : seat.0 ≢ id). absurd (by_role seat.0 seat.1 no seat.2 seat.3 seat.1.role refl)) (cases_eq seat.0 id)
  where
    by_role : (other : ℕ) (u : View) → other ≢ id → get_elem? s.views other ≡ some u → 0 < pins_at slot u → (role : Role) → u.role ≡ role → ⊥
    by_role other u apart at more roles.Spent is = let none = ap (pins_at slot) (h.spent other u at is) in omega arith
    by_role other u apart at more roles.Main is = let none = ap (λ (es : List Entry). total (λ (e : Entry). one_if (e.slot == slot)) es) ((h.owners.each other u at (λ spent. absurd (cc))).main is).0 in omega arith
    by_role other u apart at more roles.Reader is =
        let knows = h.owners.each other u at (λ spent. absurd (cc)) in let theirs = knows.reader is in
        let there : theirs.0 < s.readers = All-head (λ n. n < s.readers) theirs.0 [] (subst (All (λ n. n < s.readers)) theirs.1 knows.inside) in
        let mine : number < s.readers = All-head (λ n. n < s.readers) number [] (subst (All (λ n. n < s.readers)) has.reader.1 (h.owners.each id v has.here (is_live number v has.reader)).inside) in
        let same : theirs.0 ≡ number = omega arith in
        let both = terms_le (has_number number) s.views id other v u apart has.here at in let all = h.owners.numbers number mine in
        let first = has_own number v has.reader.1 in let second = has_own number u (theirs.1 ∙ ap (λ n. n ∷ []) same) in omega arith

module _ {P H : Type 0} (home : P → H) (source : P → ℕ) (name_of : H → ℕ → List ℕ) (plan : Plan P) (s : State (Cell P H) (Sitting P)) (h : KeepsList home source name_of plan s)
    (id number : ℕ) (m : Me (Cell P H) (Sitting P)) (seated : get_elem? s.views id ≡ some m.0) (reader : IsReader number m.0.core) (slot : ℕ) (may : MayClaimSlot plan.slots slot m.0.core) where
  abbrev core : CoreState
  core = h.core

  abbrev v : View
  v = m.0.core

  k : Known plan core id number v
  k = known home source name_of plan s h id number m.0 seated reader

  -- who has the turn has seen the whole journal
  current : v.seen ≡ core.journal
  current = (k.lawful.turn.each id v k.has.here (lives plan core id number v k)).current may.turn

  inside : slot < core.slots
  inside = let slots = k.slots in let low = may.inside in omega arith

  allowed_claim : MayClaim core slot v
  allowed_claim = record { turn = may.turn; free = may.free; inside = inside; unlisted = (λ i. is_taken (k.slots i) (sym current i) slot) ∙ may.unlisted }

  abbrev word : ℕ
  word = slice_index s.words (slot_word slot)

  abbrev old : ℕ
  old = unpinned_word plan.slots v.seen slot

  abbrev new : ℕ
  new = claimed_word plan.slots v.seen

  word_is : word ≡ packed_slot record { number = number_at core.words slot; count = count_at core.words slot }
  word_is = h.words.slots slot inside

  shows_kept : number_at core.words slot ≡ kept_number plan.slots v.seen slot
  shows_kept = claim_number core id number slot v k.lawful k.has allowed_claim ∙ (λ i. kept_number (k.slots i) (sym current i) slot)

  new_is : new ≡ packed_slot record { number = front_number core.slots core.journal + 1; count = 0 }
  new_is = λ i. packed_slot record { number = front_number (sym k.slots i) (current i) + 1; count = 0 }

  -- ---- no pin was found ----

  module _ (won : word ≡ old) where
    unpinned : count_at core.words slot ≡ 0
    unpinned = let is = word_is in let same = shows_kept in omega arith

    move_is : claim core id v slot ≡ claim_slot core id v slot
    move_is = cond-true (count_at core.words slot == 0) (claim_slot core id v slot) (miss_slot core id v slot) (eq-eqb (count_at core.words slot) 0 unpinned)

    abbrev t : CoreState
    t = claim_slot core id v slot

    abbrev w : Sitting P
    w = knowing (claiming slot v) m.0

    run : (cells : List (Cell P H)) × (length cells ≡ core.readers) × ((i : ℕ) (x : Cell P H) → get_elem? cells i ≡ some x → get_elem? s.homes (place slot 0 + i) ≡ some (some x))
    run = gathered s.homes (place slot 0) core.readers (λ i low. let p = h.homes.places slot i inside low (claimed_home core id number slot i v k.lawful k.has allowed_claim unpinned) in
        let to : place slot i ≡ place slot 0 + i = omega arith in (p.cell, subst (λ n. get_elem? s.homes n ≡ some (some p.cell)) to p.here))

    abbrev cells : List (Cell P H)
    cells = run.0

    abbrev homes' : List (maybe.Option (Cell P H))
    homes' = homes_after s.homes m.1 (takes_run (place slot 0) cells)

    few_cells : length cells ≤ READER_NUMBERS
    few_cells = let few = h.sizes in let numbers = few.few_readers in let readers = k.readers in let many = run.1 in omega arith

    claimed : StandsAtHome home source name_of plan homes' t
    claimed = record {
      deep = taken_length s.homes m.1 (place slot 0) cells ∙ h.homes.deep;
      places = claim_home (λ at r n. (r < core.readers) × IsPlaceAt home source s.homes (home plan.first) core.journal (place at r) n)
          (λ at r n. IsPlaceAt home source homes' (home plan.first) core.journal (place at r) n) core id number slot v k.has allowed_claim
          (λ at r n other there. let few = h.sizes in let numbers = few.few_readers in let readers = k.readers in let mine = there.0 in let old = there.1 in record {
            cell = old.cell;
            here = taken_else s.homes m.1 (place slot 0) cells (place at r) (run_apart slot at r (length cells) other (omega arith) few_cells) ∙ old.here;
            stocked = old.stocked;
          })
          (λ at r low mine none. (mine, h.homes.places at r low mine none));
      book = λ free. taken_else s.homes m.1 (place slot 0) cells (book_place plan.slots) (inr (let few = few_cells in let low = may.inside in omega arith)) ∙ h.homes.book free;
    }

    claimed_rule : KeepsList home source name_of plan record { words = set s.words (slot_word slot) (either (word == old) new word); homes = homes'; views = set s.views id w }
    claimed_rule = subst (λ n. KeepsList home source name_of plan record { words = set s.words (slot_word slot) n; homes = homes'; views = set s.views id w }) (sym (ap (λ b. either b new word) (eq-eqb word old won)))
        (after_step home source name_of plan s h id w t (set s.words (slot_word slot) new) homes' (subst (Moves core) move_is (claims_slot id number v slot k.has allowed_claim)) refl
        (slot_written s.words core t slot new record { number = front_number core.slots core.journal + 1; count = 0 } h.words inside k.lawful.follows.wide new_is refl refl refl refl) claimed)

    -- so the reader has none there
    no_handle : held_at slot v ≡ 0
    no_handle = let none : total (pins_at slot) core.views ≡ 0 = sym (k.lawful.pins slot inside) ∙ unpinned in let mine = total_none (pins_at slot) core.views id v none k.has.here in
        let most = held_among slot v.entries in omega arith

  -- ---- some pin was found ----

  module _ (lost : word ≢ old) where
    pinned : count_at core.words slot ≢ 0
    pinned none = lost (let is = word_is in let same = shows_kept in omega arith)

    move_else : claim core id v slot ≡ miss_slot core id v slot
    move_else = cond-false (count_at core.words slot == 0) (claim_slot core id v slot) (miss_slot core id v slot) (ne_eqb (count_at core.words slot) 0 pinned)

    once : WasFrontOnce plan.slots v.seen v.floor (length v.seen) slot
    once = subst (λ n. WasFrontOnce n v.seen v.floor (length v.seen) slot) k.slots
        (found_once (miss_slot core id v slot) id (found_pinned slot v) slot (subst Lawful move_else (claims_keep core id number v slot k.lawful k.has allowed_claim)) (set_at core.views id v (found_pinned slot v) k.has.here)
        (lives plan core id number v k) (among_with slot v.pinned))

    alone : plan.readers ≡ 1 → 0 < pins_at slot v
    alone one = only_pins core id number slot v k.lawful k.has (k.readers ∙ one) (let counted = k.lawful.pins slot inside in let some_pin = pinned in omega arith)

    abbrev w' : Sitting P
    w' = knowing (found_pinned slot v) m.0

    missed_rule : KeepsList home source name_of plan record { words = set s.words (slot_word slot) (either (word == old) new word); homes = s.homes; views = set s.views id w' }
    missed_rule = subst (λ ws. KeepsList home source name_of plan record { words = ws; homes = s.homes; views = set s.views id w' })
        (sym (ap (λ b. set s.words (slot_word slot) (either b new word)) (ne_eqb word old lost) ∙ set-get_or s.words (slot_word slot) 0))
        (after_step home source name_of plan s h id w' (miss_slot core id v slot) s.words s.homes (subst (Moves core) move_else (claims_slot id number v slot k.has allowed_claim)) refl
        (same_words s.words core (miss_slot core id v slot) h.words refl refl refl refl) record {
          deep = h.homes.deep;
          places = miss_home (λ at r n. IsPlaceAt home source s.homes (home plan.first) core.journal (place at r) n) core id number slot v k.has h.homes.places;
          book = h.homes.book;
        })

  pub claims_at : Steps (KeepsList home source name_of plan) s id m (slot_word slot) (λ n. either (n == old) new n) (λ n m'. SlotTried plan slot m n m')
  claims_at = ⊎_elim
      (λ (won : word ≡ old). (
        w won,
        takes_run (place slot 0) (cells won),
        taken_valid s.homes m.1 (place slot 0) (cells won) (run won).2,
        claimed_rule won,
        record {
          won = λ _. record {
            cells = cells won;
            many = (run won).1 ∙ k.readers;
            seat = ap (λ (c : List (ℕ × Cell P H)). (w won, c)) (carried_taken m.1 (place slot 0) (cells won));
            free = no_handle won;
          };
          lost = λ lost. absurd (lost won);
        },
      ))
      (λ (lost : word ≢ old). (w' lost, keeps, tt, missed_rule lost, record { won = λ won. absurd (lost won); lost = λ _. record { seat = refl; once = once lost; alone = alone lost } }))
      (cases_eq word old)

module _ {P H : Type 0} (home : P → H) (source : P → ℕ) (name_of : H → ℕ → List ℕ) where
  pub claims : (plan : Plan P) (slots id number slot : ℕ) (m : Me (Cell P H) (Sitting P)) → m.0.plan ≡ Some plan → IsReader number m.0.core → MayClaimSlot plan.slots slot m.0.core
      → Allows (KeepsList home source name_of plan) slots id m (slot_word slot) (λ n. either (n == unpinned_word plan.slots m.0.core.seen slot) (claimed_word plan.slots m.0.core.seen) n)
      (λ n m'. ForReader m.0 (λ p r. SlotTried p slot m n m'))
  claims plan slots id number slot m of_plan reader may s h deep at fits =
      for_step (KeepsList home source name_of plan) s id (slot_word slot) m (λ n. either (n == unpinned_word plan.slots m.0.core.seen slot) (claimed_word plan.slots m.0.core.seen) n)
      (λ p r n m'. SlotTried p slot m n m') plan plan number of_plan reader refl (claims_at home source name_of plan s h id number m at reader slot may)

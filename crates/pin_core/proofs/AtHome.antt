-- What is at home stays at home from step to step, but for the places and the book that the step takes.
use Rattle.std.proofs.Common.{◌≡◌, ◌≢◌, ℕ, ◌+◌, ◌-◌, ◌≤◌, ◌<◌, List, ◌∷◌, [], ◌++◌, length, set, sym, refl, ap, ◌∙◌, subst, ⊎_elim, arith, true, false, cond, ◌==◌, ◌&&◌, Option, Some, None}
use Rattle.std.specs.Prelude.{is_some}
use mathlib.Core.Option.{some}
use lib.ListN.{get_elem?}
use Rattle.std.proofs.lemmas.Bool.{cases_eq, cases_Bool, cond-true, cond-false, cond_both}
use Rattle.pin_book.specs.declared.write.Write.{Write}
use Rattle.pin_book.specs.declared.write.Change.TheVariants.{Push, Erase}
use Rattle.pin_book.specs.Replay.{front_slot}
use Rattle.pin_core.specs.declared.entry.Entry.{Entry}
use Rattle.pin_core.specs.declared.view.View.{View}
use Rattle.pin_core.specs.Core.{CoreState, number_at, count_at, total, one_if, times, held_at, has_number, has_claimed}
use Rattle.pin_core.specs.Lawful.{Lawful, away, PlacesAtHome, BookAtHome}
use Rattle.pin_core.specs.Step.{HasReader, new_entry, pinned, claiming, got_turn, was_refused, MayTake, MayClaim, MayStore, MayGive, MaySplit, MayJoin, load_front, add_pin, take_pin, take_turn, miss_turn, exchange_turn, claim_slot, miss_slot, store_front, give_turn, split, join}
use Rattle.pin_core.proofs.Places.{load_stays, take_stays, exchange_stays, claim_stays, miss_stays, push_stays, erase_stays, give_stays, split_stays, join_stays, claims_self}
use Rattle.pin_core.proofs.Sums.{total-set, total-append, term_le}
use Rattle.pin_core.proofs.Seats.{is_live}
use Rattle.pin_core.proofs.Readers.{named}
use Rattle.pin_core.proofs.Words.{numbers_kept, number_else}

-- what is at home before a step is so after it, where no place comes home by it and the numbers of words stay
carried : (A B : ℕ → ℕ → ℕ → Type 0) (s t : CoreState) → PlacesAtHome A s → ((slot reader : ℕ) → slot < s.slots → reader < s.readers → total (away slot reader) t.views ≡ 0
    → (total (away slot reader) s.views ≡ 0) × (number_at t.words slot ≡ number_at s.words slot) × ((number : ℕ) → A slot reader number → B slot reader number))
    → (slot reader : ℕ) → slot < s.slots → reader < s.readers → total (away slot reader) t.views ≡ 0 → B slot reader (number_at t.words slot)
carried A B s t homes back slot reader inside out none =
    let was = back slot reader inside out none in was.2 (number_at t.words slot) (subst (A slot reader) (sym was.1) (homes slot reader inside out was.0))

module _ (A : ℕ → ℕ → ℕ → Type 0) (s : CoreState) where
  -- ---- steps that move no place ----

  pub load_home : (id number : ℕ) (v : View) → HasReader s id number v → PlacesAtHome A s → PlacesAtHome A (load_front s id v)
  load_home id number v has homes = carried A A s (load_front s id v) homes (λ slot reader _ _ none. (sym (load_stays s id number slot reader v has) ∙ none, refl, λ n at. at))

  pub exchange_home : (id number : ℕ) (v : View) → HasReader s id number v → PlacesAtHome A s → PlacesAtHome A (exchange_turn s id number v)
  exchange_home id number v has homes =
      cond_both (is_some s.turn) (miss_turn s id v) (take_turn s id number v) (λ t. ((slot reader : ℕ) → total (away slot reader) t.views ≡ total (away slot reader) s.views) → PlacesAtHome A t)
      (λ _ same. carried A A s (miss_turn s id v) homes (λ slot reader _ _ none. (sym (same slot reader) ∙ none, refl, λ n at. at)))
      (λ _ same. carried A A s (take_turn s id number v) homes (λ slot reader _ _ none. (sym (same slot reader) ∙ none, refl, λ n at. at)))
      (λ slot reader. exchange_stays s id number slot reader v has)

  pub miss_home : (id number slot : ℕ) (v : View) → HasReader s id number v → PlacesAtHome A s → PlacesAtHome A (miss_slot s id v slot)
  miss_home id number taken v has homes = carried A A s (miss_slot s id v taken) homes (λ slot reader _ _ none. (sym (miss_stays s id number slot reader taken v has) ∙ none, refl, λ n at. at))

  pub give_home : (id number : ℕ) (v : View) → HasReader s id number v → PlacesAtHome A s → PlacesAtHome A (give_turn s id v)
  give_home id number v has homes = carried A A s (give_turn s id v) homes (λ slot reader _ _ none. (sym (give_stays s id number slot reader v has) ∙ none, refl, λ n at. at))

  pub split_home : (id number writes : ℕ) (v : View) → Lawful s → get_elem? s.views id ≡ some v → MaySplit number writes v → PlacesAtHome A s → PlacesAtHome A (split s id v number writes)
  split_home id number writes v h here may homes = carried A A s (split s id v number writes) homes (λ slot reader _ _ none. (sym (split_stays s id number writes slot reader v h here may) ∙ none, refl, λ n at. at))

  pub join_home : (id other : ℕ) (v w : View) → Lawful s → get_elem? s.views id ≡ some v → get_elem? s.views other ≡ some w → MayJoin v w → PlacesAtHome A s → PlacesAtHome A (join s id v other w)
  join_home id other v w h here there may homes = carried A A s (join s id v other w) homes (λ slot reader _ _ none. (sym (join_stays s id other slot reader v w h here there may) ∙ none, refl, λ n at. at))

module _ (A B : ℕ → ℕ → ℕ → Type 0) (s : CoreState) where
  pub erase_home : (id number after gone : ℕ) (v : View) (write : Write) → HasReader s id number v → write.change ≡ Erase after gone
      → ((slot reader n : ℕ) → A slot reader n → B slot reader n) → PlacesAtHome A s → PlacesAtHome B (store_front s id v write)
  erase_home id number after gone v write has erase over homes = carried A B s (store_front s id v write) homes (λ slot reader _ _ none. (sym (erase_stays s id number slot reader after gone v write has erase) ∙ none, refl, over slot reader))

  -- ---- steps that take places, or put them back ----

  -- one entry more keeps no less away
  away_grows : (slot reader : ℕ) (v : View) (e : Entry) → away slot reader v ≤ away slot reader (record v { entries = v.entries ++ e ∷ [] })
  away_grows slot reader v e =
      let more = total-append (λ (x : Entry). one_if ((x.slot == slot) && x.held)) v.entries (e ∷ []) in
      cond_both (has_number reader v == 0) 0 (held_at slot v) (λ m. (n : ℕ) → n ≡ cond (has_number reader v == 0) 0 (held_at slot (record v { entries = v.entries ++ e ∷ [] })) → has_claimed slot v + m ≤ has_claimed slot v + n)
      (λ _ n _. omega arith)
      (λ owns n is. let rest = is ∙ cond-false (has_number reader v == 0) 0 (held_at slot (record v { entries = v.entries ++ e ∷ [] })) owns in omega arith)
      (cond (has_number reader v == 0) 0 (held_at slot (record v { entries = v.entries ++ e ∷ [] }))) refl

  pub pin_home : (id number : ℕ) (v : View) → HasReader s id number v
      → ((slot reader n : ℕ) → total (away slot reader) (add_pin s id v).views ≡ 0 → A slot reader n → B slot reader n) → PlacesAtHome A s → PlacesAtHome B (add_pin s id v)
  pin_home id number v has over homes = carried A B s (add_pin s id v) homes (λ slot reader _ _ none. (
    (let at : ℕ = front_slot s.slots v.seen in let e : Entry = new_entry s.slots (number_at s.words at) v in
        let sum = total-set (away slot reader) s.views id v (pinned s.slots (number_at s.words at) v) has.here in let more = away_grows slot reader v e in omega arith),
    ap (λ f. f slot) (numbers_kept s.words (front_slot s.slots v.seen) (count_at s.words (front_slot s.slots v.seen) + 1)),
    (λ n. over slot reader n none),
  ))

  pub take_home : (id number at : ℕ) (v : View) (e : Entry) → HasReader s id number v → MayTake at e v
      → ((slot reader n : ℕ) → total (away slot reader) s.views ≡ 0 → A slot reader n → B slot reader n)
      → (total (away e.slot number) (take_pin s id v at e).views ≡ 0 → B e.slot number (number_at s.words e.slot))
      → PlacesAtHome A s → PlacesAtHome B (take_pin s id v at e)
  take_home id number at v e has may over back homes slot reader inside out none =
      let same : number_at (take_pin s id v at e).words slot ≡ number_at s.words slot = ap (λ f. f slot) (numbers_kept s.words e.slot (count_at s.words e.slot - 1)) in
      let kept : (slot ≡ e.slot → reader ≢ number) → B slot reader (number_at (take_pin s id v at e).words slot) = λ other.
      (let was = sym (take_stays s id number slot reader at v e has may other) ∙ none in over slot reader (number_at (take_pin s id v at e).words slot) was (subst (A slot reader) (sym same) (homes slot reader inside out was))) in
      ⊎_elim
      (λ (here : slot ≡ e.slot). ⊎_elim
      (λ (mine : reader ≡ number). subst (B slot reader) (sym same) (subst (λ r. B slot r (number_at s.words slot)) (sym mine)
      (subst (λ k. total (away k number) (take_pin s id v at e).views ≡ 0 → B k number (number_at s.words k)) (sym here) back (subst (λ r. total (away slot r) (take_pin s id v at e).views ≡ 0) mine none))))
      (λ (theirs : reader ≢ number). kept (λ _. theirs)) (cases_eq reader number))
      (λ (else : slot ≢ e.slot). kept (λ is. absurd (else is))) (cases_eq slot e.slot)

  pub claim_home : (id number taken : ℕ) (v : View) → HasReader s id number v → MayClaim s taken v
      → ((slot reader n : ℕ) → slot ≢ taken → A slot reader n → B slot reader n) → PlacesAtHome A s → PlacesAtHome B (claim_slot s id v taken)
  claim_home id number taken v has may over homes = carried A B s (claim_slot s id v taken) homes (λ slot reader _ _ none.
      (let other : slot ≢ taken = λ is. (let w : View = claiming taken v in let sum = total-set (away slot reader) s.views id v w has.here in let term = term_le (away slot reader) s.views id v has.here in
      let mine : has_claimed slot w ≡ 1 = claims_self slot w.claimed (ap (λ n. Some n) (sym is)) in absurd (omega arith)) in
      (sym (claim_stays s id number slot reader taken v has may other) ∙ none, number_else s.words taken _ slot other, λ n. over slot reader n other)))

  pub push_home : (id number n src into : ℕ) (v : View) (write : Write) → HasReader s id number v → MayStore s number write v → write.change ≡ Push n src into
      → ((slot reader m : ℕ) → slot ≢ into → A slot reader m → B slot reader m) → ((reader : ℕ) → reader < s.readers → B into reader (number_at s.words into))
      → PlacesAtHome A s → PlacesAtHome B (store_front s id v write)
  push_home id number n src into v write has may push over new homes slot reader inside out none = ⊎_elim
      (λ (here : slot ≡ into). subst (λ k. B k reader (number_at s.words k)) (sym here) (new reader out))
      (λ (other : slot ≢ into). over slot reader (number_at s.words slot) other (homes slot reader inside out (sym (push_stays s id number slot reader n src into v write has may push other) ∙ none))) (cases_eq slot into)

-- ---- the book ----

pub exchange_book : (B : List Write → Type 0) (s : CoreState) (id number : ℕ) (v : View) → BookAtHome B (exchange_turn s id number v)
exchange_book B s id number v = by_turn s.turn refl
  where
    by_turn : (turn : Option ℕ) → s.turn ≡ turn → BookAtHome B (exchange_turn s id number v)
    by_turn None is = subst (BookAtHome B) (sym (cond-false (is_some s.turn) (miss_turn s id v) (take_turn s id number v) (ap is_some is))) (λ free. absurd (cc))
    by_turn (Some other) is = subst (BookAtHome B) (sym (cond-true (is_some s.turn) (miss_turn s id v) (take_turn s id number v) (ap is_some is))) (λ free. (let same = sym is ∙ free in absurd (cc)))

pub store_book : (B : List Write → Type 0) (s : CoreState) (id number : ℕ) (v : View) (write : Write) → Lawful s → HasReader s id number v → MayStore s number write v → BookAtHome B (store_front s id v write)
store_book B s id number v write h has may free = let taken = sym (named s id number v h has may.turn) ∙ free in absurd (cc)

pub give_book : (B : List Write → Type 0) (s : CoreState) (id number : ℕ) (v : View) → Lawful s → HasReader s id number v → v.turn ≡ true → B v.seen → BookAtHome B (give_turn s id v)
give_book B s id number v h has mine home _ = subst B ((h.turn.each id v has.here (is_live number v has.reader)).current mine) home

-- What each state has that a journal replays to.
use Rattle.std.proofs.Common.{◌≡◌, ℕ, ◌+◌, ◌<◌, ◌≤◌, true, false, not, ◌&&◌, eqb, ltb, List, [], ◌∷◌, ◌++◌, length, length-append, map, filter, fold, get_or, set, replicate, refl, sym, ap, ◌∙◌, ⊎_elim, arith, length-set, get_or-set_other, get_or-set_same, slice_index}
use Rattle.std.proofs.lemmas.Bool.{and_parts, and_from, not-true, cond-true, cases_eq, cases_lt, not_from_false, eqb-true, ne_eqb, ltb-true}
use Rattle.std.proofs.lemmas.List.{length-replicate, get_or-replicate, get_or_past}
use Rattle.std.proofs.lemmas.List.Sums.{fold_push}
use Rattle.pin_book.specs.declared.write.Change.{Change}
use Rattle.pin_book.specs.declared.write.Change.TheVariants.{Push, Erase}
use Rattle.pin_book.specs.declared.write.Write.{Write}
use Rattle.pin_book.specs.Replay.{Edition, ListState, opening, front_of, is_listed, is_slot_listed, greatest_below, allowed, after_change, after_write, state_after, replays_from, replays}
use Rattle.pin_book.specs.Pushes.{pushed_by, pushes}
use Rattle.pin_book.proofs.ListLemmas.{Stands, stands_wider, stands_set, stands_filter, listed_below, greatest_less}

-- what a push asks
pub record PushAsks (state : ListState) (n slot : ℕ) : Type 0 where
  pub next : n ≡ (front_of state.listed).n + 1
  pub inside : slot < length state.kept
  pub unlisted : is_slot_listed slot state.listed ≡ false

pub push_asks : (state : ListState) (n src slot : ℕ) → allowed state (Push n src slot) ≡ true → PushAsks state n slot
push_asks state n src slot h =
    let outer = and_parts (eqb n ((front_of state.listed).n + 1) && ltb slot (length state.kept)) (not (is_slot_listed slot state.listed)) h in
    let inner = and_parts (eqb n ((front_of state.listed).n + 1)) (ltb slot (length state.kept)) outer.0 in
    record { next = eqb-true n ((front_of state.listed).n + 1) inner.0; inside = ltb-true slot (length state.kept) inner.1; unlisted = not-true (is_slot_listed slot state.listed) outer.1 }

-- what an erase asks
pub record EraseAsks (state : ListState) (after gone : ℕ) : Type 0 where
  pub listed : is_listed after state.listed ≡ true
  pub some : 0 < gone
  pub next : gone ≡ greatest_below after state.listed

pub erase_asks : (state : ListState) (after gone : ℕ) → allowed state (Erase after gone) ≡ true → EraseAsks state after gone
erase_asks state after gone h =
    let outer = and_parts (is_listed after state.listed && ltb 0 gone) (eqb gone (greatest_below after state.listed)) h in
    let inner = and_parts (is_listed after state.listed) (ltb 0 gone) outer.0 in
    record { listed = inner.0; some = ltb-true 0 gone inner.1; next = eqb-true gone (greatest_below after state.listed) outer.1 }

-- a state in order, after so many pushes
pub record Orderly (slots pushed : ℕ) (state : ListState) : Type 0 where
  pub wide : length state.kept ≡ slots
  pub front : (front_of state.listed).n ≡ pushed + 1
  pub stands : Stands (pushed + 2) state.kept state.listed
  pub bounded : (slot : ℕ) → get_or state.kept slot 0 ≤ pushed + 1
  pub apart : (slot other : ℕ) → 0 < get_or state.kept slot 0 → get_or state.kept slot 0 ≡ get_or state.kept other 0 → slot ≡ other

pub zeros_below : (slots slot : ℕ) → slice_index (replicate slots 0) slot ≡ 0
zeros_below slots slot =
    ⊎_elim (λ (lt : slot < slots). get_or-replicate {A = ℕ} slots slot 0 0 lt)
    (λ (le : slots ≤ slot). get_or_past {X = ℕ} (replicate slots 0) slot 0 (rw (length-replicate {A = ℕ} slots 0) le))
    (cases_lt slot slots)

-- before any write only the first slot keeps something
only_first : (slots slot : ℕ) → 0 < slice_index (set (replicate slots 0) 0 1) slot → slot ≡ 0
only_first slots slot positive =
    let zeros : List ℕ = replicate slots 0 in
    ⊎_elim (λ (same : slot ≡ 0). same)
    (λ (other : slot ≡ 0 → ⊥). absurd (omega (arith, positive, get_or-set_other zeros 0 slot 1 0 other, zeros_below slots slot)))
    (cases_eq slot 0)

pub opening_orderly : (slots : ℕ) → 0 < slots → Orderly slots 0 (opening slots)
opening_orderly slots some =
    let zeros : List ℕ = replicate slots 0 in
    let long : length zeros ≡ slots = length-replicate {A = ℕ} slots 0 in
    let wide : length (set zeros 0 1) ≡ slots = length-set zeros 0 1 ∙ long in
    let within : 0 < length zeros = rw long some in
    let first : slice_index (set zeros 0 1) 0 ≡ 1 = get_or-set_same zeros 0 1 0 within in
    let inside : 0 < length (set zeros 0 1) = rw wide some in
    record {
      wide = wide;
      front = refl;
      stands = (omega arith, omega arith, inside, first, tt);
      bounded = λ slot. ⊎_elim (λ (same : slot ≡ 0). rw same (omega (arith, first)))
          (λ (apart : slot ≡ 0 → ⊥). omega (arith, get_or-set_other zeros 0 slot 1 0 apart, zeros_below slots slot))
          (cases_eq slot 0);
      apart = λ slot other some same. (let at_zero : (k : ℕ) → 0 < slice_index (set zeros 0 1) k → k ≡ 0 = λ k positive. only_first slots k positive in at_zero slot some ∙ sym (at_zero other (rw (← same) some)));
    }

-- a new number is kept by one slot
pushed_apart : (pushed n slot : ℕ) (kept : List ℕ) → ((k : ℕ) → get_or kept k 0 ≤ pushed + 1) → ((i j : ℕ) → 0 < get_or kept i 0 → get_or kept i 0 ≡ get_or kept j 0 → i ≡ j) → pushed + 1 < n → slot < length kept → (i j : ℕ) → 0 < get_or (set kept slot n) i 0 → get_or (set kept slot n) i 0 ≡ get_or (set kept slot n) j 0 → i ≡ j
pushed_apart pushed n slot kept bounded apart high inside i j positive same =
    let here : get_or (set kept slot n) slot 0 ≡ n = get_or-set_same kept slot n 0 inside in
    ⊎_elim
    (λ (at : i ≡ slot).
    ⊎_elim (λ (also : j ≡ slot). at ∙ sym also)
    (λ (other : j ≡ slot → ⊥). absurd (let at_i : get_or (set kept slot n) i 0 ≡ n = rw at here in omega (arith, at_i, same, get_or-set_other kept slot j n 0 other, bounded j, high)))
    (cases_eq j slot))
    (λ (off : i ≡ slot → ⊥).
    ⊎_elim
    (λ (also : j ≡ slot). absurd (let at_j : get_or (set kept slot n) j 0 ≡ n = rw also here in omega (arith, at_j, same, get_or-set_other kept slot i n 0 off, bounded i, high)))
    (λ (other : j ≡ slot → ⊥).
    let old_i = get_or-set_other kept slot i n 0 off in
    let old_j = get_or-set_other kept slot j n 0 other in
    apart i j (omega (arith, positive, old_i)) (sym old_i ∙ (same ∙ old_j)))
    (cases_eq j slot))
    (cases_eq i slot)

pub push_orderly : (slots pushed n src slot : ℕ) (state : ListState) → Orderly slots pushed state → PushAsks state n slot → Orderly slots (pushed + 1) (after_change state (Push n src slot))
push_orderly slots pushed n src slot state orderly asks =
    let number : n ≡ pushed + 2 = omega (arith, asks.next, orderly.front) in
    let here : get_or (set state.kept slot n) slot 0 ≡ n = get_or-set_same state.kept slot n 0 asks.inside in
    let rest : Stands (pushed + 2) (set state.kept slot n) state.listed =
    stands_set (pushed + 2) slot n state.kept state.listed asks.unlisted orderly.stands in
    record {
      wide = length-set state.kept slot n ∙ orderly.wide;
      front = omega (arith, number);
      stands = (omega (arith, number), omega (arith, number), rw (length-set state.kept slot n) asks.inside, here, stands_wider (pushed + 2) n (set state.kept slot n) state.listed (omega (arith, number)) rest);
      bounded = λ other. ⊎_elim (λ (same : other ≡ slot). rw same (omega (arith, here, number)))
          (λ (apart : other ≡ slot → ⊥). omega (arith, get_or-set_other state.kept slot other n 0 apart, orderly.bounded other))
          (cases_eq other slot);
      apart = pushed_apart pushed n slot state.kept orderly.bounded orderly.apart (omega (arith, number)) asks.inside;
    }

-- the front stays where an older one is taken off
pub front_stays : (bound after gone : ℕ) (kept : List ℕ) (es : List Edition) → Stands bound kept es → is_listed after es ≡ true → gone < after → front_of (filter (λ edition. not (eqb edition.n gone)) es) ≡ front_of es
front_stays bound after gone kept [] stands listed less = refl
front_stays bound after gone kept (e ∷ es) stands listed less =
    let top : Stands (e.n + 1) kept (e ∷ es) = (stands.0, omega arith, stands.2, stands.3, stands.4) in
    let low = listed_below (e.n + 1) after kept (e ∷ es) top listed in
    let other : eqb e.n gone ≡ false = ne_eqb e.n gone (λ same. omega (arith, same, low.1, less)) in
    ap front_of (cond-true (not (eqb e.n gone)) (e ∷ filter (λ edition. not (eqb edition.n gone)) es) (filter (λ edition. not (eqb edition.n gone)) es) (not_from_false (eqb e.n gone) other))

-- the number that goes lies below the one before it
pub gone_less : (slots pushed after gone : ℕ) (state : ListState) → Orderly slots pushed state → EraseAsks state after gone → gone < after
gone_less slots pushed after gone state orderly asks =
    let low = listed_below (pushed + 2) after state.kept state.listed orderly.stands asks.listed in
    let less = greatest_less after (map (λ edition. edition.n) state.listed) low.0 in
    omega (arith, asks.next, less)

pub erase_orderly : (slots pushed after gone : ℕ) (state : ListState) → Orderly slots pushed state → EraseAsks state after gone → Orderly slots pushed (after_change state (Erase after gone))
erase_orderly slots pushed after gone state orderly asks =
    let less : gone < after = gone_less slots pushed after gone state orderly asks in
    record {
      wide = orderly.wide;
      front = ap (λ (e : Edition). e.n) (front_stays (pushed + 2) after gone state.kept state.listed orderly.stands asks.listed less) ∙ orderly.front;
      stands = stands_filter (λ edition. not (eqb edition.n gone)) (pushed + 2) state.kept state.listed orderly.stands;
      bounded = orderly.bounded;
      apart = orderly.apart;
    }

-- an allowed change leaves a state in order
pub change_orderly : (slots pushed : ℕ) (state : ListState) (change : Change) → Orderly slots pushed state → allowed state change ≡ true → Orderly slots (pushed + length (pushed_by change)) (after_change state change)
change_orderly slots pushed state (Push n src slot) orderly h =
    push_orderly slots pushed n src slot state orderly (push_asks state n src slot h)
change_orderly slots pushed state (Erase after gone) orderly h =
    let same : pushed + 0 ≡ pushed = omega arith in
    rw same (erase_orderly slots pushed after gone state orderly (erase_asks state after gone h))

-- and so do all that replay
pub writes_orderly : (slots pushed : ℕ) (state : ListState) (journal : List Write) → Orderly slots pushed state → replays_from state journal ≡ true → Orderly slots (pushed + length (pushes journal)) (fold after_write state journal)
writes_orderly slots pushed state [] orderly h = let same : pushed + 0 ≡ pushed = omega arith in rw same orderly
writes_orderly slots pushed state (write ∷ later) orderly h =
    let parts = and_parts (allowed state write.change) (replays_from (after_write state write) later) h in
    let next = change_orderly slots pushed state write.change orderly parts.0 in
    let all = writes_orderly slots (pushed + length (pushed_by write.change)) (after_write state write) later next parts.1 in
    let count : pushed + length (pushes (write ∷ later)) ≡ pushed + length (pushed_by write.change) + length (pushes later) =
    omega (arith, length-append (pushed_by write.change) (pushes later)) in
    rw count all

pub replay_orderly : (slots : ℕ) (journal : List Write) → 0 < slots → replays slots journal ≡ true → Orderly slots (length (pushes journal)) (state_after slots journal)
replay_orderly slots journal some h =
    let all = writes_orderly slots 0 (opening slots) journal (opening_orderly slots some) h in
    let count : 0 + length (pushes journal) ≡ length (pushes journal) = omega arith in
    rw count at all

-- one more write
pub replays_push : (state : ListState) (journal : List Write) (write : Write) → replays_from state journal ≡ true → allowed (fold after_write state journal) write.change ≡ true → replays_from state (journal ++ write ∷ []) ≡ true
replays_push state [] write h ok = and_from (allowed state write.change) true ok refl
replays_push state (first ∷ later) write h ok =
    let parts = and_parts (allowed state first.change) (replays_from (after_write state first) later) h in
    and_from (allowed state first.change) (replays_from (after_write state first) (later ++ write ∷ [])) parts.0
    (replays_push (after_write state first) later write parts.1 ok)

-- the front of a journal that replays does too, and the rest replays after it
pub replays_parts : (state : ListState) (xs ys : List Write) → replays_from state (xs ++ ys) ≡ true → (replays_from state xs ≡ true) × (replays_from (fold after_write state xs) ys ≡ true)
replays_parts state [] ys h = (refl, h)
replays_parts state (first ∷ xs) ys h =
    let parts = and_parts (allowed state first.change) (replays_from (after_write state first) (xs ++ ys)) h in
    let rest = replays_parts (after_write state first) xs ys parts.1 in
    (and_from (allowed state first.change) (replays_from (after_write state first) xs) parts.0 rest.0, rest.1)

pub state_after_push : (slots : ℕ) (journal : List Write) (write : Write) → state_after slots (journal ++ write ∷ []) ≡ after_write (state_after slots journal) write
state_after_push slots journal write = fold_push after_write (opening slots) journal write

-- What a journal that replays says of fronts, of slots and of the numbers that they keep.
use Rattle.std.proofs.Common.{◌≡◌, ◌≢◌, ℕ, ◌+◌, ◌≤◌, ◌<◌, List, [], ◌∷◌, ◌++◌, set, take, drop, length, get_or, sym, refl, ap, ◌∙◌, subst, ⊎_elim, arith, Bool, true, false, not, ◌==◌, eq-eqb}
use Rattle.std.specs.Prelude.{slice_index}
use Rattle.std.specs.List.{fold, filter, list_any}
use Rattle.std.proofs.lemmas.Bool.{and_parts, or_parts, or_left, or_from, cases_eq, cond_both}
use Rattle.std.proofs.lemmas.List.{take-append-drop, get_or-set_same, get_or-set_other}
use Rattle.std.proofs.lemmas.List.Sums.{fold-append}
use Rattle.pin_book.specs.declared.write.Write.{Write}
use Rattle.pin_book.specs.declared.write.Change.{Change}
use Rattle.pin_book.specs.declared.write.Change.TheVariants.{Push, Erase}
use Rattle.pin_book.specs.Replay.{Edition, ListState, opening, front_of, is_slot_listed, allowed, after_change, after_write, state_after, replays_from, replays, front_number, front_slot, kept_number, is_taken}
use Rattle.pin_book.specs.Pushes.{pushed_by, pushes}
use Rattle.pin_book.proofs.ListLemmas.{Stands}
use Rattle.pin_book.proofs.ReplayLemmas.{Orderly, push_asks, erase_asks, front_stays, gone_less, change_orderly, opening_orderly, writes_orderly, replay_orderly, replays_parts, state_after_push}
use Rattle.pin_book.proofs.ReplayLemmas as replay_lemmas

-- ---- what each front part of the journal says ----

parts : (slots : ℕ) (journal : List Write) (w : ℕ) → replays slots journal ≡ true → (replays slots (take w journal) ≡ true) × (replays_from (state_after slots (take w journal)) (drop w journal) ≡ true)
parts slots journal w is = replays_parts (opening slots) (take w journal) (drop w journal) (ap (replays_from (opening slots)) (take-append-drop w journal) ∙ is)

pub replays_take : (slots : ℕ) (journal : List Write) (w : ℕ) → replays slots journal ≡ true → replays slots (take w journal) ≡ true
replays_take slots journal w is = (parts slots journal w is).0

pub replays_push : (slots : ℕ) (journal : List Write) (write : Write) → replays slots journal ≡ true → allowed (state_after slots journal) write.change ≡ true → replays slots (journal ++ write ∷ []) ≡ true
replays_push slots journal write is allows = replay_lemmas.replays_push (opening slots) journal write is allows

-- the front stands in one of the slots, which keeps its number and is listed
record StandsFirst (slots : ℕ) (state : ListState) : Type 0 where
  pub inside : (front_of state.listed).slot < slots
  pub kept : get_or state.kept (front_of state.listed).slot 0 ≡ (front_of state.listed).n
  pub taken : is_slot_listed (front_of state.listed).slot state.listed ≡ true

stands_first : (slots pushed : ℕ) (state : ListState) → Orderly slots pushed state → StandsFirst slots state
stands_first slots pushed state orderly = first state.listed orderly.front orderly.stands
  where
    first : (es : List Edition) → (front_of es).n ≡ pushed + 1 → Stands (pushed + 2) state.kept es → StandsFirst slots record { listed = es; kept = state.kept }
    first [] none stands = absurd (omega arith)
    first (e ∷ es) is stands = record {
      inside = (let wide = orderly.wide in let low = stands.2 in omega arith);
      kept = stands.3;
      taken = or_left (e.slot == e.slot) (is_slot_listed e.slot es) (eq-eqb e.slot e.slot refl);
    }

pub front_slot_inside : (slots : ℕ) (journal : List Write) → 0 < slots → replays slots journal ≡ true → front_slot slots journal < slots
unfolding front_slot
front_slot_inside slots journal some is = (stands_first slots _ (state_after slots journal) (replay_orderly slots journal some is)).inside

-- the front's slot keeps the front's number
pub front_kept : (slots : ℕ) (journal : List Write) → 0 < slots → replays slots journal ≡ true → kept_number slots journal (front_slot slots journal) ≡ front_number slots journal
unfolding front_slot front_number kept_number
front_kept slots journal some is = (stands_first slots _ (state_after slots journal) (replay_orderly slots journal some is)).kept

-- the front's slot is listed
pub front_taken : (slots : ℕ) (journal : List Write) → 0 < slots → replays slots journal ≡ true → is_taken slots journal (front_slot slots journal) ≡ true
unfolding front_slot is_taken
front_taken slots journal some is = (stands_first slots _ (state_after slots journal) (replay_orderly slots journal some is)).taken

-- no slot keeps a number above the front's
pub kept_le : (slots : ℕ) (journal : List Write) (slot : ℕ) → 0 < slots → replays slots journal ≡ true → kept_number slots journal slot ≤ front_number slots journal
unfolding front_number kept_number
kept_le slots journal slot some is = let orderly = replay_orderly slots journal some is in let front = orderly.front in let low = orderly.bounded slot in omega arith

-- ---- one write more ----

-- what a push leaves
pub record Pushed (slots : ℕ) (journal : List Write) (write : Write) (n slot : ℕ) : Type 0 where
  pub next : n ≡ front_number slots journal + 1
  pub inside : slot < slots
  pub number : front_number slots (journal ++ write ∷ []) ≡ n
  pub place : front_slot slots (journal ++ write ∷ []) ≡ slot
  pub kept : kept_number slots (journal ++ write ∷ []) slot ≡ n
  pub others : (other : ℕ) → other ≢ slot → kept_number slots (journal ++ write ∷ []) other ≡ kept_number slots journal other

pub pushed : (slots : ℕ) (journal : List Write) (write : Write) (n src slot : ℕ) → 0 < slots → replays slots journal ≡ true → allowed (state_after slots journal) write.change ≡ true
    → write.change ≡ Push n src slot → Pushed slots journal write n slot
unfolding front_number front_slot kept_number
pushed slots journal write n src slot some is allows change =
    let st : ListState = state_after slots journal in let orderly = replay_orderly slots journal some is in let wide = orderly.wide in
    let asks = push_asks st n src slot (subst (λ c. allowed st c ≡ true) change allows) in let inside = asks.inside in
    let state : state_after slots (journal ++ write ∷ []) ≡ after_change st (Push n src slot) = state_after_push slots journal write ∙ ap (after_change st) change in
    record {
      next = asks.next;
      inside = omega arith;
      number = ap (λ (x : ListState). (front_of x.listed).n) state;
      place = ap (λ (x : ListState). (front_of x.listed).slot) state;
      kept = ap (λ (x : ListState). slice_index x.kept slot) state ∙ get_or-set_same st.kept slot n 0 inside;
      others = λ other ne. ap (λ (x : ListState). slice_index x.kept other) state ∙ get_or-set_other st.kept slot other n 0 ne;
    }

any-filter : (p q : Edition → Bool) (listed : List Edition) → list_any q listed ≡ false → list_any q (filter p listed) ≡ false
any-filter p q [] none = none
any-filter p q (e ∷ es) none = let both = or_parts (q e) (list_any q es) none in let later = any-filter p q es both.1 in
    cond_both (p e) (e ∷ filter p es) (filter p es) (λ (l : List Edition). list_any q l ≡ false) (λ _. or_from (q e) (list_any q (filter p es)) both.0 later) (λ _. later)

-- what an erase leaves
pub record Erased (slots : ℕ) (journal : List Write) (write : Write) : Type 0 where
  pub number : front_number slots (journal ++ write ∷ []) ≡ front_number slots journal
  pub place : front_slot slots (journal ++ write ∷ []) ≡ front_slot slots journal
  pub kept : (slot : ℕ) → kept_number slots (journal ++ write ∷ []) slot ≡ kept_number slots journal slot
  pub free : (slot : ℕ) → is_taken slots journal slot ≡ false → is_taken slots (journal ++ write ∷ []) slot ≡ false

pub erased : (slots : ℕ) (journal : List Write) (write : Write) (after gone : ℕ) → 0 < slots → replays slots journal ≡ true → allowed (state_after slots journal) write.change ≡ true
    → write.change ≡ Erase after gone → Erased slots journal write
unfolding front_number front_slot kept_number is_taken
erased slots journal write after gone some is allows change =
    let st : ListState = state_after slots journal in let pushed_count : ℕ = length (pushes journal) in let orderly = replay_orderly slots journal some is in
    let asks = erase_asks st after gone (subst (λ c. allowed st c ≡ true) change allows) in
    let state : state_after slots (journal ++ write ∷ []) ≡ after_change st (Erase after gone) = state_after_push slots journal write ∙ ap (after_change st) change in
    let front = front_stays (pushed_count + 2) after gone st.kept st.listed orderly.stands asks.listed (gone_less slots pushed_count after gone st orderly asks) in
    record {
      number = ap (λ (x : ListState). (front_of x.listed).n) state ∙ ap (λ (e : Edition). e.n) front;
      place = ap (λ (x : ListState). (front_of x.listed).slot) state ∙ ap (λ (e : Edition). e.slot) front;
      kept = λ slot. ap (λ (x : ListState). slice_index x.kept slot) state;
      free = λ slot none. ap (λ (x : ListState). is_slot_listed slot x.listed) state ∙ any-filter (λ (e : Edition). not (e.n == gone)) (λ (e : Edition). e.slot == slot) st.listed none;
    }

-- ---- what a slot keeps only rises ----

rises_change : (slots pushed : ℕ) (st : ListState) (c : Change) (slot : ℕ) → Orderly slots pushed st → allowed st c ≡ true → get_or st.kept slot 0 ≤ get_or (after_change st c).kept slot 0
rises_change slots pushed st (Push n src into) slot orderly is =
    let asks = push_asks st n src into is in let next = asks.next in let inside = asks.inside in let front = orderly.front in
    ⊎_elim (λ (here : slot ≡ into). let low = orderly.bounded into in let new = get_or-set_same st.kept into n 0 inside in
    subst (λ k. get_or st.kept k 0 ≤ get_or (set st.kept into n) k 0) (sym here) (omega arith))
    (λ (else : slot ≢ into). let same = get_or-set_other st.kept into slot n 0 else in omega arith) (cases_eq slot into)
rises_change slots pushed st (Erase after gone) slot orderly is = omega arith

rises_from : (slots pushed : ℕ) (st : ListState) (journal : List Write) (slot : ℕ) → Orderly slots pushed st → replays_from st journal ≡ true → get_or st.kept slot 0 ≤ get_or (fold after_write st journal).kept slot 0
rises_from slots pushed st [] slot orderly is = omega arith
rises_from slots pushed st (w ∷ ws) slot orderly is =
    let both = and_parts (allowed st w.change) (replays_from (after_write st w) ws) is in
    let first = rises_change slots pushed st w.change slot orderly both.0 in
    let later = rises_from slots (pushed + length (pushed_by w.change)) (after_write st w) ws slot (change_orderly slots pushed st w.change orderly both.0) both.1 in omega arith

pub kept_rises : (slots : ℕ) (journal : List Write) (w slot : ℕ) → 0 < slots → replays slots journal ≡ true → kept_number slots (take w journal) slot ≤ kept_number slots journal slot
unfolding kept_number
kept_rises slots journal w slot some is =
    let st : ListState = state_after slots (take w journal) in let both = parts slots journal w is in
    let rises = rises_from slots (length (pushes (take w journal))) st (drop w journal) slot (replay_orderly slots (take w journal) some both.0) both.1 in
    let same : fold after_write st (drop w journal) ≡ state_after slots journal = sym (fold-append after_write (opening slots) (take w journal) (drop w journal)) ∙ ap (fold after_write (opening slots)) (take-append-drop w journal) in
    subst (λ (x : ListState). get_or st.kept slot 0 ≤ get_or x.kept slot 0) same rises

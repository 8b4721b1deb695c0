-- How many slots a full list has.
use Rattle.std.proofs.Common.{◌≡◌, ℕ, zero, suc, ◌+◌, ◌-◌, ◌≤◌, ◌<◌, ◌==◌, ◌⊎◌, true, false, not, List, [], ◌∷◌, ◌++◌, length, map, fold, take, drop, Contains, IsTrue, refl, sym, ap, subst, ◌∙◌, inl, inr, ⊎_elim, length-append, arith}
use Rattle.std.specs.List.{filter}
use Rattle.std.proofs.lemmas.Bool.{or_cases, eqb-true, cond_both}
use Rattle.std.proofs.lemmas.List.{length-map}
use Rattle.std.proofs.Math.Seq.{take-add}
use Rattle.std.proofs.lemmas.List.Elements.{All-contains, All-contains_itself, All-filter, Contains-append_left, Contains-append_right}
use Rattle.std.proofs.lemmas.List.Sums.{fold-append}
use Rattle.tz_script.specs.declared.operation.Operation.{Operation}
use Rattle.pin_book.specs.declared.write.Change.{Change}
use Rattle.pin_book.specs.declared.write.Change.TheVariants.{Push, Erase}
use Rattle.pin_book.specs.declared.write.Write.{Write}
use Rattle.pin_book.specs.Replay.{Edition, ListState, front_of, is_slot_listed, after_write, state_after, replays}
use Rattle.pin_book.specs.Pushes.{pushed_by, pushes}
use Rattle.pin_book.proofs.LawLemmas.{some_listed}
use Rattle.pin_book.proofs.Journals.{replays_take}
use Rattle.tz_batch.specs.Batch.{Answered}
use Rattle.tz_batch.specs.Laws.{writes_between}
use Rattle.tz_batch.specs.PassedOver.{IsHeldSlot, MayBeHeld, IsFull}
use Rattle.tz_batch.specs.Round.{Round, list_at}
use Rattle.tz_batch.proofs.Fronts.{front_is_listed, pushed_later}

-- ---- as many as there are ----

-- the elements other than a number
abbrev others : ℕ → List ℕ → List ℕ
others n xs = filter (λ x. not (x == n)) xs

few_others : (n : ℕ) (xs : List ℕ) → length (others n xs) ≤ length xs
few_others n [] = omega arith
few_others n (x ∷ xs) =
    let rest = few_others n xs in
    cond_both (not (x == n)) (x ∷ others n xs) (others n xs) (λ (kept : List ℕ). length kept ≤ suc (length xs)) (λ yes. omega (arith, rest)) (λ no. omega (arith, rest))

-- there are fewer where the number is among them
fewer_others : (n : ℕ) (xs : List ℕ) → Contains xs n → length (others n xs) < length xs
fewer_others n [] (k, low, at) = absurd (omega (arith, low))
fewer_others n (x ∷ xs) (zero, low, at) =
    let rest = few_others n xs in
    cond_both (not (x == n)) (x ∷ others n xs) (others n xs) (λ (kept : List ℕ). length kept < suc (length xs))
    (λ yes. absurd (differs x n yes at)) (λ no. omega (arith, rest))
  where
    differs : (x n : ℕ) → not (x == n) ≡ true → x ≡ n → ⊥
    differs x n other same = grind arith
fewer_others n (x ∷ xs) (suc k, low, at) =
    let rest = fewer_others n xs (k, omega (arith, low), at) in
    cond_both (not (x == n)) (x ∷ others n xs) (others n xs) (λ (kept : List ℕ). length kept < suc (length xs)) (λ yes. omega (arith, rest)) (λ no. omega (arith, rest))

-- another number stays
stays : (n m : ℕ) (xs : List ℕ) → m < n → Contains xs m → Contains (others n xs) m
stays n m [] less (k, low, at) = absurd (omega (arith, low))
stays n m (x ∷ xs) less (zero, low, at) =
    cond_both (not (x == n)) (x ∷ others n xs) (others n xs) (λ (kept : List ℕ). Contains kept m) (λ yes. (0, omega arith, at)) (λ no. absurd (differs x n m no at less))
  where
    differs : (x n m : ℕ) → not (x == n) ≡ false → x ≡ m → m < n → ⊥
    differs x n m equal same less = grind arith
stays n m (x ∷ xs) less (suc k, low, at) =
    let rest = stays n m xs less (k, omega (arith, low), at) in
    cond_both (not (x == n)) (x ∷ others n xs) (others n xs) (λ (kept : List ℕ). Contains kept m) (λ yes. (suc rest.0, omega (arith, rest.1), rest.2)) (λ no. rest)

-- a list with all numbers below one has as many elements at least
pub covers : (n : ℕ) (xs : List ℕ) → ((k : ℕ) → k < n → Contains xs k) → n ≤ length xs
covers zero xs all = omega arith
covers (suc n) xs all =
    let rest = covers n (others n xs) (λ k low. stays n k xs low (all k (omega (arith, low)))) in
    omega (arith, rest, fewer_others n xs (all n (omega arith)))

-- ---- where versions come from ----

-- what is listed after writes was listed before, or is pushed
came_from : (state : ListState) (xs : List Write) (e : Edition) → Contains (fold after_write state xs).listed e → Contains state.listed e ⊎ Contains (pushes xs) e
came_from state [] e has = inl has
came_from state (write ∷ xs) e has =
    ⊎_elim
    (λ (now : Contains (after_write state write).listed e).
    ⊎_elim (λ (old : Contains state.listed e). inl old) (λ (new : Contains (pushed_by write.change) e). inr (Contains-append_left (pushed_by write.change) (pushes xs) e new)) (one_change state write.change e now))
    (λ (later : Contains (pushes xs) e). inr (Contains-append_right (pushed_by write.change) (pushes xs) e later))
    (came_from (after_write state write) xs e has)
  where
    one_change : (state : ListState) (change : Change) (e : Edition) → Contains (after_write state (record { by = 0; seq = 0; change = change })).listed e → Contains state.listed e ⊎ Contains (pushed_by change) e
    one_change state (Push n src slot) e has = Contains-append_cases_turned (record { n = n; src = src; slot = slot }) state.listed e has
      where
        Contains-append_cases_turned : (new : Edition) (es : List Edition) (e : Edition) → Contains (new ∷ es) e → Contains es e ⊎ Contains (new ∷ []) e
        Contains-append_cases_turned new es e (zero, low, at) = inr (0, omega arith, at)
        Contains-append_cases_turned new es e (suc k, low, at) = inl (k, omega (arith, low), at)
    one_change state (Erase after gone) e has =
        inl (All-contains (Contains state.listed) (filter (λ (it : Edition). not (it.n == gone)) state.listed) e (All-filter (λ (it : Edition). not (it.n == gone)) (Contains state.listed) state.listed (All-contains_itself state.listed)) has)

-- the writes up to a position are those up to an earlier one, and those between
up_to : (s v : ℕ) (journal : List Write) → s ≤ v → take v journal ≡ take s journal ++ take (v - s) (drop s journal)
up_to s v journal low =
    let parts : v ≡ s + (v - s) = omega (arith, low) in
    ap (λ n. take n journal) parts ∙ take-add s (v - s) journal

-- fewer writes of a list are its first ones
first_of : (j k : ℕ) (xs : List Write) → j ≤ k → take j (take k xs) ≡ take j xs
first_of zero k xs low = refl
first_of (suc j) zero xs low = absurd (omega (arith, low))
first_of (suc j) (suc k) [] low = refl
first_of (suc j) (suc k) (x ∷ xs) low = ap (λ (ys : List Write). x ∷ ys) (first_of j k xs (omega (arith, low)))

-- ---- full lists ----

-- a slot that is listed has a version there
pub listed_there : (slot : ℕ) (es : List Edition) → is_slot_listed slot es ≡ true → (e : Edition) × Contains es e × (e.slot ≡ slot)
listed_there slot [] listed = cc
listed_there slot (e ∷ es) listed =
    ⊎_elim
    (λ (here : (e.slot == slot) ≡ true). (e, (0, omega arith, refl), eqb-true e.slot slot here))
    (λ (later : is_slot_listed slot es ≡ true). let rest = listed_there slot es later in (rest.0, (suc rest.1.0, omega (arith, rest.1.1), rest.1.2), rest.2))
    (or_cases (e.slot == slot) (is_slot_listed slot es) listed)

-- the slot of an element is among the slots
pub slot_there : (es : List Edition) (e : Edition) → Contains es e → Contains (map (λ (it : Edition). it.slot) es) e.slot
slot_there [] e (k, low, at) = absurd (omega (arith, low))
slot_there (x ∷ es) e (zero, low, at) = (0, omega arith, ap (λ (it : Edition). it.slot) at)
slot_there (x ∷ es) e (suc k, low, at) = let rest = slot_there es e (k, omega (arith, low), at) in (suc rest.0, omega (arith, rest.1), rest.2)

module _ (round : Round) (before : List Answered) (operation : Operation) (w : ℕ) (replay : replays round.slots round.journal ≡ true) (several : round.lanes ≡ 1 → ⊥) (low : round.start ≤ w) where
  -- the versions that were listed as the round began, and those pushed since
  known : List Edition
  known = (list_at round round.start).listed ++ pushes (writes_between round.start w round.journal)

  -- what is listed at a position of the round is one of them
  is_known : (v : ℕ) (e : Edition) → round.start ≤ v → v ≤ w → Contains (list_at round v).listed e → Contains known e
  unfolding known
  is_known v e from to has =
      let P : List Write → Type 0 = λ xs. Contains (state_after round.slots xs).listed e in
      let split : take v round.journal ≡ take round.start round.journal ++ writes_between round.start v round.journal = up_to round.start v round.journal from in
      let Q : ListState → Type 0 = λ state. Contains state.listed e in
      let there = subst Q (fold-append after_write _ (take round.start round.journal) (writes_between round.start v round.journal)) (subst P split has) in
      ⊎_elim
      (λ (old : Contains (list_at round round.start).listed e). Contains-append_left (list_at round round.start).listed (pushes (writes_between round.start w round.journal)) e old)
      (λ (new : Contains (pushes (writes_between round.start v round.journal)) e).
      let R : List Write → Type 0 = λ xs. Contains (pushes xs) e in
      let first = first_of (v - round.start) (w - round.start) (drop round.start round.journal) (omega (arith, from, to)) in
      Contains-append_right (list_at round round.start).listed (pushes (writes_between round.start w round.journal)) e
      (pushed_later (writes_between round.start w round.journal) (v - round.start) e (subst R (sym first) new)))
      (came_from (list_at round round.start) (writes_between round.start v round.journal) e there)

  -- so is what a slot that is passed over has
  slot_known : (slot : ℕ) → slot < round.slots → IsTrue (is_slot_listed slot (list_at round w).listed) ⊎ MayBeHeld round (IsHeldSlot round before operation) w slot → Contains (map (λ (it : Edition). it.slot) known) slot
  slot_known slot inside passed =
      ⊎_elim
      (λ (listed : IsTrue (is_slot_listed slot (list_at round w).listed)).
      let there = listed_there slot (list_at round w).listed listed in
      subst (λ (k : ℕ). Contains (map (λ (it : Edition). it.slot) known) k) there.2 (slot_there known there.0 (is_known w there.0 low (omega arith) there.1)))
      (λ (may : MayBeHeld round (IsHeldSlot round before operation) w slot).
      let front = may.1 several in
      let v = front.0 in
      let some = some_listed round.slots (take v round.journal) (omega (arith, inside)) (replays_take round.slots round.journal v replay) in
      let has = front_is_listed (list_at round v).listed some in
      subst (λ (k : ℕ). Contains (map (λ (it : Edition). it.slot) known) k) front.3 (slot_there known (front_of (list_at round v).listed) (is_known v (front_of (list_at round v).listed) front.1 front.2 has)))
      passed

  -- a full list has no more slots than there are
  pub full_is_small : IsFull round (IsHeldSlot round before operation) w → round.slots ≤ length (list_at round round.start).listed + length (pushes (writes_between round.start w round.journal))
  unfolding known
  full_is_small full =
      omega (arith, covers round.slots (map (λ (it : Edition). it.slot) known) (λ slot inside. slot_known slot inside (full slot inside)), length-map known (λ (it : Edition). it.slot), length-append (list_at round round.start).listed (pushes (writes_between round.start w round.journal)))

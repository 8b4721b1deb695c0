-- What the laws of journals that replay rest on.
use Rattle.std.proofs.Common.{◌≡◌, ℕ, zero, suc, ◌+◌, ◌<◌, ◌≤◌, ◌⊎◌, ◌↔◌, max, Bool, true, false, not, ◌||◌, eqb, ltb, List, [], ◌∷◌, ◌++◌, length, map, filter, fold, get_or, slice_index, Contains, Some, refl, sym, ap, ◌∙◌, ⊎_elim, inl, inr, subst, arith}
use Rattle.std.specs.Prelude.{slice_get}
use Rattle.std.proofs.lemmas.Bool.{and_parts, or_parts, or_cases, or_left, or_right, not-true, not_from_false, cond_both, cond-true, cond-false, eqb-true, eqb-false, eq-eqb, ne_eqb, ltb-false, cases_Bool, cases_lt}
use Rattle.std.proofs.lemmas.Option.{same_Some, slice_get_within, slice_get-get_or}
use Rattle.std.proofs.lemmas.List.Elements.{All-contains, All-filter, All-contains_itself, filter_passes}
use Rattle.std.proofs.lemmas.List.Sums.{fold-append}
use Rattle.pin_book.specs.declared.write.Change.{Change}
use Rattle.pin_book.specs.declared.write.Change.TheVariants.{Push, Erase}
use Rattle.pin_book.specs.declared.write.Write.{Write}
use Rattle.pin_book.specs.Replay.{Edition, ListState, opening, front_of, is_listed, is_slot_listed, greatest_number, greatest_below, allowed, after_change, after_write, state_after, replays_from, replays}
use Rattle.pin_book.specs.Pushes.{pushed_by, pushes, erases, is_erased}
use Rattle.pin_book.proofs.ListLemmas.{Stands, listed_below}
use Rattle.pin_book.proofs.ReplayLemmas.{Orderly, EraseAsks, push_asks, erase_asks, change_orderly, replay_orderly, opening_orderly, replays_parts, gone_less}
use Rattle.pin_book.proofs.KeptLemmas.{same_kept, kept_here}

-- ---- elements
contains_later : {X : Type 0} (y x : X) (xs : List X) → Contains xs x → Contains (y ∷ xs) x
contains_later y x xs has = (suc has.0, omega (arith, has.1), has.2)

contains_cases : {X : Type 0} (y x : X) (xs : List X) → Contains (y ∷ xs) x → (y ≡ x) ⊎ Contains xs x
contains_cases y x xs has = at has.0 has.1 has.2
  where
    at : (k : ℕ) → k < length (y ∷ xs) → get_or (y ∷ xs) k x ≡ x → (y ≡ x) ⊎ Contains xs x
    at zero low is = inl is
    at (suc k) low is = inr (k, omega (arith, low), is)

contains_none : {X : Type 0} (x : X) → Contains [] x → ⊥
contains_none x has = omega (arith, has.1)

contains_filter : {X : Type 0} (p : X → Bool) (x : X) (xs : List X) → p x ≡ true → Contains xs x → Contains (filter p xs) x
contains_filter p x [] passes has = has
contains_filter p x (y ∷ ys) passes has =
    ⊎_elim
    (λ (same : y ≡ x).
    let t : p y ≡ true = ap p same ∙ passes in
    let here : Contains (y ∷ filter p ys) x = (0, omega arith, same) in
    rw (cond-true (p y) (y ∷ filter p ys) (filter p ys) t) here)
    (λ (later : Contains ys x).
    let rest = contains_filter p x ys passes later in
    cond_both (p y) (y ∷ filter p ys) (filter p ys) (λ zs. Contains zs x) (λ t. contains_later y x (filter p ys) rest) (λ f. rest))
    (contains_cases y x ys has)

filter_contains : {X : Type 0} (p : X → Bool) (x : X) (xs : List X) → Contains (filter p xs) x → Contains xs x × (p x ≡ true)
filter_contains p x xs has =
    (All-contains (λ y. Contains xs y) (filter p xs) x (All-filter p (λ y. Contains xs y) xs (All-contains_itself xs)) has, All-contains (λ y. p y ≡ true) (filter p xs) x (filter_passes p xs) has)

at_get : {X : Type 0} (xs : List X) (k : ℕ) (x d : X) → slice_get xs k ≡ Some x → (k < length xs) × (get_or xs k d ≡ x)
at_get xs k x d there =
    let within = slice_get_within xs k x there in
    (within, same_Some (get_or xs k d) x (sym (slice_get-get_or xs k d within) ∙ there))

-- ---- what stands in the list
pub record StandsAt (bound : ℕ) (kept : List ℕ) (e : Edition) : Type 0 where
  pub positive : 0 < e.n
  pub below : e.n < bound
  pub inside : e.slot < length kept
  pub keeps : get_or kept e.slot 0 ≡ e.n

stands_at : (bound k : ℕ) (kept : List ℕ) (es : List Edition) (d : Edition) → Stands bound kept es → k < length es → StandsAt bound kept (get_or es k d)
stands_at bound k kept [] d stands within = absurd (omega arith)
stands_at bound zero kept (e ∷ es) d stands within =
    record { positive = stands.0; below = stands.1; inside = stands.2; keeps = stands.3 }
stands_at bound (suc k) kept (e ∷ es) d stands within =
    let later = stands_at e.n k kept es d stands.4 (omega arith) in
    record { positive = later.positive; below = omega (arith, later.below, stands.1); inside = later.inside; keeps = later.keeps }

pub stands_for : (bound : ℕ) (kept : List ℕ) (es : List Edition) (e : Edition) → Stands bound kept es → Contains es e → StandsAt bound kept e
stands_for bound kept es e stands has =
    subst (λ x. StandsAt bound kept x) has.2 (stands_at bound has.0 kept es e stands has.1)

falls_at : (bound newer older : ℕ) (kept : List ℕ) (es : List Edition) (d : Edition) → Stands bound kept es → newer < older → older < length es → (get_or es older d).n < (get_or es newer d).n
falls_at bound newer older kept [] d stands before within = absurd (omega arith)
falls_at bound newer zero kept (e ∷ es) d stands before within = absurd (omega arith)
falls_at bound zero (suc older) kept (e ∷ es) d stands before within =
    (stands_at e.n older kept es d stands.4 (omega arith)).below
falls_at bound (suc newer) (suc older) kept (e ∷ es) d stands before within =
    falls_at e.n newer older kept es d stands.4 (omega arith) (omega arith)

pub numbers_fall : (slots newer older : ℕ) (journal : List Write) (edition other : Edition) → 0 < slots → replays slots journal ≡ true → newer < older → slice_get (state_after slots journal).listed newer ≡ Some edition → slice_get (state_after slots journal).listed older ≡ Some other → other.n < edition.n
numbers_fall slots newer older journal edition other some h before here there =
    let orderly = replay_orderly slots journal some h in
    let es : List Edition = (state_after slots journal).listed in
    let at_newer = at_get es newer edition edition here in
    let at_older = at_get es older other edition there in
    let less = falls_at (length (pushes journal) + 2) newer older (state_after slots journal).kept es edition orderly.stands before at_older.0 in
    omega (arith, less, ap (λ (e : Edition). e.n) at_newer.1, ap (λ (e : Edition). e.n) at_older.1)

pub some_listed : (slots : ℕ) (journal : List Write) → 0 < slots → replays slots journal ≡ true → 0 < length (state_after slots journal).listed
some_listed slots journal some h =
    nonempty (state_after slots journal).listed (replay_orderly slots journal some h).front
  where
    nonempty : (es : List Edition) → (front_of es).n ≡ length (pushes journal) + 1 → 0 < length es
    nonempty [] front = absurd (omega arith)
    nonempty (e ∷ es) front = omega arith

-- ---- numbers of pushes
numbered_onto : (slots pushed k : ℕ) (state : ListState) (change : Change) (rest : List Edition) (d : Edition) → Orderly slots pushed state → allowed state change ≡ true → ((j : ℕ) → j < length rest → (get_or rest j d).n ≡ pushed + length (pushed_by change) + 2 + j) → k < length (pushed_by change ++ rest) → (get_or (pushed_by change ++ rest) k d).n ≡ pushed + 2 + k
numbered_onto slots pushed zero state (Push n src slot) rest d orderly h later within =
    omega (arith, (push_asks state n src slot h).next, orderly.front)
numbered_onto slots pushed (suc k) state (Push n src slot) rest d orderly h later within =
    omega (arith, later k (omega (arith, within)))
numbered_onto slots pushed k state (Erase after gone) rest d orderly h later within =
    omega (arith, later k within)

pub pushes_numbered : (slots pushed k : ℕ) (state : ListState) (journal : List Write) (d : Edition) → Orderly slots pushed state → replays_from state journal ≡ true → k < length (pushes journal) → (get_or (pushes journal) k d).n ≡ pushed + 2 + k
pushes_numbered slots pushed k state [] d orderly h within = absurd (omega arith)
pushes_numbered slots pushed k state (write ∷ later) d orderly h within =
    let parts = and_parts (allowed state write.change) (replays_from (after_write state write) later) h in
    let next = change_orderly slots pushed state write.change orderly parts.0 in
    numbered_onto slots pushed k state write.change (pushes later) d orderly parts.0
    (λ j low. pushes_numbered slots (pushed + length (pushed_by write.change)) j (after_write state write) later d next parts.1 low) within

pub numbers_in_order : (slots place : ℕ) (journal : List Write) (edition : Edition) → 0 < slots → replays slots journal ≡ true → slice_get (pushes journal) place ≡ Some edition → edition.n ≡ place + 2
numbers_in_order slots place journal edition some h there =
    let at = at_get (pushes journal) place edition edition there in
    let number = pushes_numbered slots 0 place (opening slots) journal edition (opening_orderly slots some) h at.0 in
    omega (arith, number, ap (λ (e : Edition). e.n) at.1)

-- ---- what is listed was pushed, and wasn't erased
later_high : (slots pushed : ℕ) (state : ListState) (journal : List Write) (e : Edition) → Orderly slots pushed state → replays_from state journal ≡ true → Contains (pushes journal) e → pushed + 2 ≤ e.n
later_high slots pushed state journal e orderly h has =
    let number = pushes_numbered slots pushed has.0 state journal e orderly h has.1 in
    omega (arith, number, ap (λ (x : Edition). x.n) has.2)

abbrev Holds : ListState → List Write → Edition → Type 0
Holds state journal e = (Contains state.listed e ⊎ Contains (pushes journal) e) × (is_erased e.n journal ≡ false)

onto : (slots pushed : ℕ) (state : ListState) (change : Change) (later : List Write) (e : Edition) → Orderly slots pushed state → allowed state change ≡ true → replays_from (after_change state change) later ≡ true → Holds (after_change state change) later e ↔ ((Contains state.listed e ⊎ Contains (pushed_by change ++ pushes later) e) × ((erases e.n change || is_erased e.n later) ≡ false))
onto slots pushed state (Push n src slot) later e orderly h rest =
    let first : Edition = record { n = n; src = src; slot = slot } in (
      (λ held. (
        ⊎_elim
            (λ (listed : Contains (first ∷ state.listed) e).
            ⊎_elim (λ (same : first ≡ e). let here : Contains (first ∷ pushes later) e = (0, omega arith, same) in inr here) (λ (old : Contains state.listed e). inl old) (contains_cases first e state.listed listed))
            (λ (pushed_later : Contains (pushes later) e). inr (contains_later first e (pushes later) pushed_later))
            held.0,
        held.1,
      )),
      (λ told. (
        ⊎_elim
            (λ (old : Contains state.listed e). inl (contains_later first e state.listed old))
            (λ (all : Contains (first ∷ pushes later) e).
            ⊎_elim (λ (same : first ≡ e). let here : Contains (first ∷ state.listed) e = (0, omega arith, same) in inl here) (λ (pushed_later : Contains (pushes later) e). inr pushed_later) (contains_cases first e (pushes later) all))
            told.0,
        told.1,
      )),
    )
onto slots pushed state (Erase after gone) later e orderly h rest =
    let p : Edition → Bool = λ edition. not (eqb edition.n gone) in
    let asks = erase_asks state after gone h in
    let less = gone_less slots pushed after gone state orderly asks in
    let low = listed_below (pushed + 2) after state.kept state.listed orderly.stands asks.listed in
    let next = change_orderly slots pushed state (Erase after gone) orderly h in
    let apart : eqb e.n gone ≡ false → eqb gone e.n ≡ false = λ f. ne_eqb gone e.n (λ same. eqb-false e.n gone f (sym same)) in (
      (λ held. (⊎_elim (λ (left : Contains (filter p state.listed) e). let both = filter_contains p e state.listed left in (inl both.0, or_none (eqb gone e.n) (is_erased e.n later) (apart (not-true (eqb e.n gone) both.1)) held.1))
          (λ (pushed_later : Contains (pushes later) e). let high = later_high slots (pushed + 0) (after_change state (Erase after gone)) later e next rest pushed_later in (inr pushed_later, or_none (eqb gone e.n) (is_erased e.n later) (ne_eqb gone e.n (λ same. omega (arith, same, high, less, low.1))) held.1)) held.0)),
      (λ told. let parts = or_parts (eqb gone e.n) (is_erased e.n later) told.1 in
          let other : eqb e.n gone ≡ false = ne_eqb e.n gone (λ same. eqb-false gone e.n parts.0 (sym same)) in
          (⊎_elim (λ (old : Contains state.listed e). inl (contains_filter p e state.listed (not_from_false (eqb e.n gone) other) old)) (λ (pushed_later : Contains (pushes later) e). inr pushed_later) told.0, parts.1)),
    )
  where
    or_none : (a b : Bool) → a ≡ false → b ≡ false → (a || b) ≡ false
    or_none a b f g = grind arith

pub listed_holds : (slots pushed : ℕ) (state : ListState) (journal : List Write) (e : Edition) → Orderly slots pushed state → replays_from state journal ≡ true → Contains (fold after_write state journal).listed e ↔ Holds state journal e
listed_holds slots pushed state [] e orderly h =
    ((λ has. (inl has, refl)), (λ held. ⊎_elim (λ (has : Contains state.listed e). has) (λ (none : Contains [] e). absurd (contains_none e none)) held.0))
listed_holds slots pushed state (write ∷ later) e orderly h =
    let parts = and_parts (allowed state write.change) (replays_from (after_write state write) later) h in
    let next = change_orderly slots pushed state write.change orderly parts.0 in
    let rest = listed_holds slots (pushed + length (pushed_by write.change)) (after_write state write) later e next parts.1 in
    let step = onto slots pushed state write.change later e orderly parts.0 parts.1 in
    ((λ has. step.0 (rest.0 has)), (λ told. rest.1 (step.1 told)))

pub listed_told : (slots : ℕ) (journal : List Write) (e : Edition) → 0 < slots → replays slots journal ≡ true → Contains (state_after slots journal).listed e ↔ (((e ≡ record { n = 1; src = 0; slot = 0 }) ⊎ Contains (pushes journal) e) × (is_erased e.n journal ≡ false))
listed_told slots journal e some h =
    let first : Edition = record { n = 1; src = 0; slot = 0 } in
    let holds = listed_holds slots 0 (opening slots) journal e (opening_orderly slots some) h in (
      (λ has. let held = holds.0 has in
          (⊎_elim (λ (old : Contains (first ∷ []) e). ⊎_elim (λ (same : first ≡ e). inl (sym same)) (λ (none : Contains [] e). absurd (contains_none e none)) (contains_cases first e [] old)) (λ (later : Contains (pushes journal) e). inr later) held.0, held.1)),
      (λ told. holds.1 (⊎_elim (λ (same : e ≡ first). let here : Contains (first ∷ []) e = (0, omega arith, sym same) in inl here) (λ (later : Contains (pushes journal) e). inr later) told.0, told.1)),
    )

-- ---- erases
pub erase_low : (slots after gone : ℕ) (journal : List Write) → 0 < slots → replays slots journal ≡ true → allowed (state_after slots journal) (Erase after gone) ≡ true → (gone < after) × (after ≤ (front_of (state_after slots journal).listed).n)
erase_low slots after gone journal some h ok =
    let orderly = replay_orderly slots journal some h in
    let asks = erase_asks (state_after slots journal) after gone ok in
    let less = gone_less slots (length (pushes journal)) after gone (state_after slots journal) orderly asks in
    let low = listed_below (length (pushes journal) + 2) after (state_after slots journal).kept (state_after slots journal).listed orderly.stands asks.listed in
    (less, omega (arith, low.1, orderly.front))

greatest_listed : (number : ℕ) (es : List Edition) → 0 < greatest_below number es → is_listed (greatest_below number es) es ≡ true
greatest_listed number es some = found number es (greatest_below number es) refl some
  where
    found : (top : ℕ) (xs : List Edition) (g : ℕ) → greatest_below top xs ≡ g → 0 < g → is_listed g xs ≡ true
    found top [] g is positive = absurd (omega arith)
    found top (e ∷ xs) g is positive =
        ⊎_elim
        (λ (t : ltb e.n top ≡ true).
        let split : greatest_below top (e ∷ xs) ≡ max e.n (greatest_below top xs) =
        ap greatest_number (cond-true (ltb e.n top) (e.n ∷ filter (λ other. ltb other top) (map (λ edition. edition.n) xs)) (filter (λ other. ltb other top) (map (λ edition. edition.n) xs)) t) in
        ⊎_elim
        (λ (lt : e.n < greatest_below top xs). or_right (eqb e.n g) (is_listed g xs) (found top xs g (omega (arith, split, is, lt)) positive))
        (λ (le : greatest_below top xs ≤ e.n). or_left (eqb e.n g) (is_listed g xs) (eq-eqb e.n g (omega (arith, split, is, le))))
        (cases_lt e.n (greatest_below top xs)))
        (λ (f : ltb e.n top ≡ false).
        let split : greatest_below top (e ∷ xs) ≡ greatest_below top xs =
        ap greatest_number (cond-false (ltb e.n top) (e.n ∷ filter (λ other. ltb other top) (map (λ edition. edition.n) xs)) (filter (λ other. ltb other top) (map (λ edition. edition.n) xs)) f) in
        or_right (eqb e.n g) (is_listed g xs) (found top xs g (sym split ∙ is) positive))
        (cases_Bool (ltb e.n top))

pub gone_is_listed : (state : ListState) (after gone : ℕ) → EraseAsks state after gone → is_listed gone state.listed ≡ true
gone_is_listed state after gone asks =
    subst (λ g. is_listed g state.listed ≡ true) (sym asks.next) (greatest_listed after state.listed (omega (arith, asks.some, asks.next)))

-- no listed number below is greater
greatest_above : (top : ℕ) (e : Edition) (es : List Edition) → Contains es e → e.n < top → e.n ≤ greatest_below top es
greatest_above top e [] has low = absurd (contains_none e has)
greatest_above top e (x ∷ xs) has low =
    ⊎_elim
    (λ (t : ltb x.n top ≡ true).
    let split : greatest_below top (x ∷ xs) ≡ max x.n (greatest_below top xs) =
    ap greatest_number (cond-true (ltb x.n top) (x.n ∷ filter (λ other. ltb other top) (map (λ edition. edition.n) xs)) (filter (λ other. ltb other top) (map (λ edition. edition.n) xs)) t) in
    ⊎_elim (λ (same : x ≡ e). omega (arith, split, ap (λ (y : Edition). y.n) same))
    (λ (later : Contains xs e). omega (arith, split, greatest_above top e xs later low))
    (contains_cases x e xs has))
    (λ (f : ltb x.n top ≡ false).
    let split : greatest_below top (x ∷ xs) ≡ greatest_below top xs =
    ap greatest_number (cond-false (ltb x.n top) (x.n ∷ filter (λ other. ltb other top) (map (λ edition. edition.n) xs)) (filter (λ other. ltb other top) (map (λ edition. edition.n) xs)) f) in
    ⊎_elim (λ (same : x ≡ e). absurd (omega (arith, ltb-false x.n top f, ap (λ (y : Edition). y.n) same, low)))
    (λ (later : Contains xs e). omega (arith, split, greatest_above top e xs later low))
    (contains_cases x e xs has))
    (cases_Bool (ltb x.n top))

pub nothing_between : (state : ListState) (after gone : ℕ) (e : Edition) → EraseAsks state after gone → Contains state.listed e → e.n < after → e.n ≤ gone
nothing_between state after gone e asks has low =
    omega (arith, asks.next, greatest_above after e state.listed has low)

-- ---- slots
pub kept_last : (slots n src slot : ℕ) (before later : List Write) (write : Write) → replays slots (before ++ write ∷ later) ≡ true → write.change ≡ Push n src slot → is_slot_listed slot (pushes later) ≡ false → slice_index (state_after slots (before ++ write ∷ later)).kept slot ≡ n
kept_last slots n src slot before later write h is other =
    let parts = replays_parts (opening slots) before (write ∷ later) h in
    let state = state_after slots before in
    let ok = (and_parts (allowed state write.change) (replays_from (after_write state write) later) parts.1).0 in
    let pushed : allowed state (Push n src slot) ≡ true = subst (λ c. allowed state c ≡ true) is ok in
    let split : state_after slots (before ++ write ∷ later) ≡ fold after_write (after_write state write) later =
    fold-append after_write (opening slots) before (write ∷ later) in
    let last : after_write state write ≡ after_change state (Push n src slot) = ap (λ (c : Change). after_change state c) is in
    ap (λ (s : ListState). slice_index s.kept slot) split
    ∙ (same_kept slot (after_write state write) later other
    ∙ (ap (λ (s : ListState). slice_index s.kept slot) last ∙ kept_here state n src slot pushed))

-- a slot is listed exactly where the number that it keeps is
slot_number : (bound slot : ℕ) (kept : List ℕ) (es : List Edition) → Stands bound kept es → is_slot_listed slot es ≡ true → is_listed (get_or kept slot 0) es ≡ true
slot_number bound slot kept [] stands h = h
slot_number bound slot kept (e ∷ es) stands h =
    ⊎_elim
    (λ (t : eqb e.slot slot ≡ true).
    let same = eqb-true e.slot slot t in
    let here : get_or kept slot 0 ≡ e.n = subst (λ k. get_or kept k 0 ≡ e.n) same stands.3 in
    or_left (eqb e.n (get_or kept slot 0)) (is_listed (get_or kept slot 0) es) (eq-eqb e.n (get_or kept slot 0) (sym here)))
    (λ (later : is_slot_listed slot es ≡ true). or_right (eqb e.n (get_or kept slot 0)) (is_listed (get_or kept slot 0) es) (slot_number e.n slot kept es stands.4 later))
    (or_cases (eqb e.slot slot) (is_slot_listed slot es) h)

number_slot : (bound slot : ℕ) (kept : List ℕ) (es : List Edition) → ((i j : ℕ) → 0 < get_or kept i 0 → get_or kept i 0 ≡ get_or kept j 0 → i ≡ j) → Stands bound kept es → is_listed (get_or kept slot 0) es ≡ true → is_slot_listed slot es ≡ true
number_slot bound slot kept [] apart stands h = h
number_slot bound slot kept (e ∷ es) apart stands h =
    ⊎_elim
    (λ (t : eqb e.n (get_or kept slot 0) ≡ true).
    let same = eqb-true e.n (get_or kept slot 0) t in
    or_left (eqb e.slot slot) (is_slot_listed slot es) (eq-eqb e.slot slot (apart e.slot slot (omega (arith, stands.3, stands.0)) (stands.3 ∙ same))))
    (λ (later : is_listed (get_or kept slot 0) es ≡ true). or_right (eqb e.slot slot) (is_slot_listed slot es) (number_slot e.n slot kept es apart stands.4 later))
    (or_cases (eqb e.n (get_or kept slot 0)) (is_listed (get_or kept slot 0) es) h)

pub slot_by_number : (slots slot : ℕ) (journal : List Write) → 0 < slots → replays slots journal ≡ true → (is_slot_listed slot (state_after slots journal).listed ≡ true) ↔ (is_listed (slice_index (state_after slots journal).kept slot) (state_after slots journal).listed ≡ true)
slot_by_number slots slot journal some h =
    let orderly = replay_orderly slots journal some h in
    let state = state_after slots journal in
    (slot_number (length (pushes journal) + 2) slot state.kept state.listed orderly.stands, number_slot (length (pushes journal) + 2) slot state.kept state.listed orderly.apart orderly.stands)

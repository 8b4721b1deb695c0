-- How great the numbers of a run's journal are.
use Rattle.std.proofs.Common.{◌≡◌, ℕ, zero, suc, ◌+◌, ◌-◌, ◌*◌, ◌≤◌, ◌<◌, ◌^◌, ◌==◌, nat_lt, nat_le, not, Bool, true, false, cond, ◌⊎◌, inl, inr, ⊎_elim, length-append, List, [], ◌∷◌, ◌++◌, length, map, append_assoc, get_or, take, filter_map, Contains, Option, Some, None, refl, sym, ◌∙◌, ap, subst, arith}
use Rattle.std.specs.List.{All, list_all, cons_option}
use Rattle.std.proofs.lemmas.Bool.{cond_both, and_parts, eqb-true, eq-eqb, ltb-true, leb-true, not-true, leb-false}
use Rattle.std.proofs.lemmas.List.{length-map, length-take}
use Rattle.std.proofs.lemmas.List.Elements.{All-nil, All-cons, All-head, All-tail, All-contains, All-contains_itself}
use Rattle.std.proofs.lemmas.List.Sums.{count_by-le-length}
use Rattle.tz_script.specs.Keeping.{is_there, KeepsSources}
use Rattle.tz_script.specs.declared.limit.TheConstants.{MOST_LANES, MOST_OPERATIONS}
use Rattle.tz_script.specs.declared.operation.Op.{Op}
use Rattle.tz_script.specs.declared.operation.Op.TheVariants as ops
use Rattle.tz_script.specs.declared.operation.Operation.{Operation}
use Rattle.tz_script.specs.declared.script.Script.{Script}
use Rattle.tz_version.specs.declared.sources.Sources.{Sources}
use Rattle.pin_book.specs.declared.write.Change.{Change}
use Rattle.pin_book.specs.declared.write.Change.TheVariants.{Push, Erase}
use Rattle.pin_book.specs.declared.write.Write.{Write}
use Rattle.pin_book.specs.Replay.{Edition, is_slot_listed, ListState, opening, front_of, allowed, after_write, state_after, replays_from, replays}
use Rattle.pin_book.specs.Pushes.{pushed_by, pushes}
use Rattle.pin_book.specs.Sequence.{writes_by, counts_from}
use Rattle.pin_book.proofs.ListLemmas.{listed_below}
use Rattle.pin_book.proofs.ReplayLemmas.{Orderly, push_asks, erase_asks, gone_less, change_orderly, opening_orderly, replay_orderly}
use Rattle.pin_book.proofs.LawLemmas.{listed_told}
use Rattle.pin_book.proofs.Journals.{replays_take}
use Rattle.tz_batch.specs.Fitting.{FitsWord, FitsChange, FitsWrite}
use Rattle.tz_batch.specs.Batch.{Answered, each_answered, answered, is_write_before}
use Rattle.tz_batch.specs.Laws.{batch_of}
use Rattle.tz_batch.specs.Run.{PlacedChange, change_told, change_told_in, changes_by, TakesFirstSlot, PassesOver, IsRun}
use Rattle.tz_batch.specs.PassedOver.{IsHeldSlot, IsPassedOver}
use Rattle.tz_batch.specs.Round.{round_of}
use Rattle.tz_batch.specs.declared.answer.Answer.{Answer}
use Rattle.tz_batch.specs.declared.answer.Answer.TheVariants as answers
use Rattle.tz_batch.specs.declared.outcome.Outcome.{Outcome}
use Rattle.tz_batch.specs.declared.reply.Reply.{Reply}
use Rattle.tz_batch.proofs.Fronts.{first_edition, front_is_told, nothing_allowed, none_taken, pushed_later}
use Rattle.tz_batch.proofs.LanePositions.{both}
use Rattle.tz_batch.proofs.FullLists.{covers, listed_there, slot_there}

abbrev slot_of : Edition → ℕ
slot_of edition = edition.slot

-- ---- elements ----

all_from : {X : Type 0} (P : X → Type 0) (xs : List X) → ((x : X) → Contains xs x → P x) → All P xs
all_from P xs each = λ k d low. each (get_or xs k d) (All-contains_itself xs k d low)

-- what all elements pass, each passes
passes : {X : Type 0} (test : X → Bool) (xs : List X) (x : X) → list_all test xs ≡ true → Contains xs x → test x ≡ true
passes test [] x all (k, low, at) = absurd (omega (arith, low))
passes test (y ∷ ys) x all (zero, low, at) =
    subst (λ it. test it ≡ true) at (and_parts (test y) (list_all test ys) all).0
passes test (y ∷ ys) x all (suc k, low, at) =
    passes test ys x (and_parts (test y) (list_all test ys) all).1 (k, omega (arith, low), at)

-- ---- how many writes there are ----

abbrev one_if : Bool → ℕ
one_if test = cond test 1 0

-- how many of the writes are by a number that passes
abbrev how_many : (ℕ → Bool) → List Write → ℕ
how_many test [] = 0
how_many test (write ∷ later) = one_if (test write.by) + how_many test later

changes_counted : (number w : ℕ) (xs : List Write) → length (changes_by number w xs) ≡ how_many (λ by. by == number) xs
changes_counted number w [] = refl
changes_counted number w (write ∷ later) =
    let rest = changes_counted number (suc w) later in
    cond_both (write.by == number) (record { w = w; change = write.change } ∷ changes_by number (suc w) later) (changes_by number (suc w) later)
    (λ (those : List PlacedChange). length those ≡ one_if (write.by == number) + how_many (λ by. by == number) later)
    (λ yes. rw yes (omega (arith, rest)))
    (λ no. rw no (omega (arith, rest)))

one_more : (by k : ℕ) → one_if (nat_lt by (suc k)) ≤ one_if (nat_lt by k) + one_if (by == k)
one_more by k = grind arith

more_below : (k : ℕ) (xs : List Write) → how_many (λ by. nat_lt by (suc k)) xs ≤ how_many (λ by. nat_lt by k) xs + how_many (λ by. by == k) xs
more_below k [] = omega arith
more_below k (write ∷ later) = omega (arith, one_more write.by k, more_below k later)

no_one : (by : ℕ) → one_if (nat_lt by 0) ≡ 0
no_one by = grind arith

none_below : (xs : List Write) → how_many (λ by. nat_lt by 0) xs ≡ 0
none_below [] = refl
none_below (write ∷ later) = omega (arith, no_one write.by, none_below later)

few_below : (k : ℕ) (xs : List Write) → ((number : ℕ) → number < k → how_many (λ by. by == number) xs ≤ MOST_OPERATIONS)
    → how_many (λ by. nat_lt by k) xs ≤ k * MOST_OPERATIONS
few_below zero xs few = omega (arith, none_below xs)
few_below (suc k) xs few =
    omega (arith, more_below k xs, few_below k xs (λ number low. few number (omega (arith, low))), few k (omega arith))

all_below : (k : ℕ) (xs : List Write) → list_all (λ (write : Write). nat_lt write.by k) xs ≡ true → how_many (λ by. nat_lt by k) xs ≡ length xs
all_below k [] all = refl
all_below k (write ∷ later) all =
    let parts = and_parts (nat_lt write.by k) (list_all (λ (it : Write). nat_lt it.by k) later) all in
    rw parts.0 (omega (arith, all_below k later parts.1))

one_longer : (change : Option PlacedChange) (those : List PlacedChange) → length (cons_option change those) ≤ suc (length those)
one_longer None those = omega arith
one_longer (Some change) those = omega arith

-- replies tell of no more changes than there are operations
told_few : (lane : ℕ) (operations : List Operation) (replies : List Reply)
    → length (filter_map (change_told_in lane) (each_answered operations replies)) ≤ length operations
told_few lane [] replies = omega arith
told_few lane (o ∷ operations) [] = omega arith
told_few lane (o ∷ operations) (reply ∷ replies) =
    omega (arith, told_few lane operations replies, one_longer (change_told_in lane (both o reply)) (filter_map (change_told_in lane) (each_answered operations replies)))

answered_few : (operations : List Operation) (replies : List Reply) → length (each_answered operations replies) ≤ length operations
answered_few [] replies = omega arith
answered_few (o ∷ operations) [] = omega arith
answered_few (o ∷ operations) (reply ∷ replies) = omega (arith, answered_few operations replies)

-- ---- counts ----

-- a write is the first of these, or one of the later ones
first_or_later : (x write : Write) (xs : List Write) → Contains (x ∷ xs) write → (x ≡ write) ⊎ Contains xs write
first_or_later x write xs (zero, low, at) = inl at
first_or_later x write xs (suc k, low, at) = inr (k, omega (arith, low), at)

-- a write's count isn't above how many writes there are
seq_low : (write : Write) (before : ℕ) (xs : List Write) → counts_from before (writes_by write.by xs) ≡ true → Contains xs write
    → write.seq ≤ before + length xs
seq_low write before [] counts (k, low, at) = absurd (omega (arith, low))
seq_low write before (x ∷ xs) counts has =
    let rest : List Write = writes_by write.by xs in
    cond_both (x.by == write.by) (x ∷ rest) rest (λ (those : List Write). counts_from before those ≡ true → write.seq ≤ before + suc (length xs))
    (λ yes counted.
    let parts = and_parts (x.seq == before + 1) (counts_from (before + 1) rest) counted in
    ⊎_elim
    (λ (same : x ≡ write). omega (arith, eqb-true x.seq (before + 1) parts.0, ap (λ (it : Write). it.seq) same))
    (λ (later : Contains xs write). omega (arith, seq_low write (before + 1) xs parts.1 later))
    (first_or_later x write xs has))
    (λ no counted.
    ⊎_elim
    (λ (same : x ≡ write). let own = eq-eqb x.by write.by (ap (λ (it : Write). it.by) same) in cc)
    (λ (later : Contains xs write). omega (arith, seq_low write before xs counted later))
    (first_or_later x write xs has))
    counts

-- ---- numbers of versions ----

-- the numbers of versions are at most so great
abbrev IsLow : ℕ → Change → Type 0
IsLow most (Push n src slot) = n ≤ most
IsLow most (Erase after gone) = (after ≤ most) × (gone ≤ most)

change_low : (slots pushed most : ℕ) (state : ListState) (change : Change) → Orderly slots pushed state → allowed state change ≡ true
    → pushed + 2 ≤ most → IsLow most change
change_low slots pushed most state (Push n src slot) orderly may low =
    omega (arith, (push_asks state n src slot may).next, orderly.front, low)
change_low slots pushed most state (Erase after gone) orderly may low =
    let asks = erase_asks state after gone may in
    let behind = listed_below (pushed + 2) after state.kept state.listed orderly.stands asks.listed in
    (omega (arith, behind.1, low), omega (arith, behind.1, gone_less slots pushed after gone state orderly asks, low))

few_pushed : (change : Change) → length (pushed_by change) ≤ 1
few_pushed (Push n src slot) = omega arith
few_pushed (Erase after gone) = omega arith

-- the changes of writes that replay are
changes_low : (slots pushed most : ℕ) (state : ListState) (xs : List Write) → Orderly slots pushed state → replays_from state xs ≡ true
    → pushed + length xs + 1 ≤ most → All (λ (write : Write). IsLow most write.change) xs
changes_low slots pushed most state [] orderly replay low = All-nil (λ (write : Write). IsLow most write.change)
changes_low slots pushed most state (write ∷ later) orderly replay low =
    let parts = and_parts (allowed state write.change) (replays_from (after_write state write) later) replay in
    All-cons (λ (it : Write). IsLow most it.change) write later
    (change_low slots pushed most state write.change orderly parts.0 (omega (arith, low)))
    (changes_low slots (pushed + length (pushed_by write.change)) most (after_write state write) later (change_orderly slots pushed state write.change orderly parts.0) parts.1 (omega (arith, low, few_pushed write.change)))

numbers_low : (slots most : ℕ) (journal : List Write) → replays slots journal ≡ true → length journal + 1 ≤ most
    → All (λ (write : Write). IsLow most write.change) journal
numbers_low zero most [] replay low = All-nil (λ (write : Write). IsLow most write.change)
numbers_low zero most (write ∷ later) replay low =
    absurd (nothing_allowed write.change (and_parts (allowed (opening 0) write.change) (replays_from (after_write (opening 0) write) later) replay).0)
numbers_low (suc slots) most journal replay low =
    changes_low (suc slots) 0 most (opening (suc slots)) journal (opening_orderly (suc slots) (omega arith)) replay (omega (arith, low))

-- there are no more pushes than writes
few_pushes : (journal : List Write) → length (pushes journal) ≤ length journal
few_pushes [] = omega arith
few_pushes (write ∷ later) =
    omega (arith, few_pushes later, few_pushed write.change, length-append (pushed_by write.change) (pushes later))

-- the number of the version at the front is at most one more than there are writes
pub front_low : (slots w : ℕ) (journal : List Write) → replays slots journal ≡ true
    → (front_of (state_after slots (take w journal)).listed).n ≤ length journal + 1
front_low zero w [] replay =
    subst (λ (writes : List Write). (front_of (state_after 0 writes).listed).n ≤ 1) (sym (none_taken w)) (omega arith)
front_low zero w (write ∷ later) replay =
    absurd (nothing_allowed write.change (and_parts (allowed (opening 0) write.change) (replays_from (after_write (opening 0) write) later) replay).0)
front_low (suc slots) w journal replay =
    let orderly = replay_orderly (suc slots) (take w journal) (omega arith) (replays_take (suc slots) journal w replay) in
    omega (arith, orderly.front, few_pushes (take w journal), length-take w journal)

-- ---- what replies tell, and what is written ----

-- the source of a push is one of so many
abbrev HasText : ℕ → Change → Type 0
HasText sources (Push n src slot) = src < sources
HasText sources (Erase after gone) = Unit {0}

-- the slot of a push is at most so great
abbrev HasLowSlot : ℕ → Change → Type 0
HasLowSlot most (Push n src slot) = slot ≤ most
HasLowSlot most (Erase after gone) = Unit {0}

-- a change that is told is so
abbrev IfTold : (Change → Type 0) → Option PlacedChange → Type 0
IfTold P None = Unit {0}
IfTold P (Some placed) = P placed.change

abbrev OfPlaced : (Change → Type 0) → PlacedChange → Type 0
OfPlaced P placed = P placed.change

asked_there : (sources src : ℕ) → not (nat_le sources src) ≡ true → src < sources
asked_there sources src there = leb-false sources src (not-true (nat_le sources src) there)

-- a reply to an operation whose text is there tells of no other source
tells_text : (sources line round lane said w : ℕ) (op : Op) (answer : Answer)
    → is_there sources (record { line = line; round = round; lane = lane; op = op }) ≡ true
    → IfTold (HasText sources) (change_told (both (record { line = line; round = round; lane = lane; op = op }) (record { line = said; w = w; answer = answer })))
tells_text sources line round lane said w (ops.Reload src) (answers.Pushed n slot) there = asked_there sources src there
tells_text sources line round lane said w (ops.Reload src) (answers.Erased n slot gone) there = tt
tells_text sources line round lane said w (ops.Reload src) _ there = tt
tells_text sources line round lane said w _ (answers.Erased n slot gone) there = tt
tells_text sources line round lane said w _ _ there = tt

one_more_told : (P : Change → Type 0) (lane : ℕ) (here : Answered) (those : List PlacedChange) → IfTold P (change_told here)
    → All (OfPlaced P) those → All (OfPlaced P) (cons_option (change_told_in lane here) those)
one_more_told P lane here those one all =
    cond_both (here.operation.lane == lane) (change_told here) None (λ (told : Option PlacedChange). All (OfPlaced P) (cons_option told those))
    (λ yes. with_it (change_told here) one)
    (λ no. all)
  where
    with_it : (told : Option PlacedChange) → IfTold P told → All (OfPlaced P) (cons_option told those)
    with_it None h = all
    with_it (Some placed) h = All-cons (OfPlaced P) placed those h all

-- the sources that a lane's replies tell of are there
told_there : (sources lane : ℕ) (operations : List Operation) (replies : List Reply) → list_all (is_there sources) operations ≡ true
    → All (OfPlaced (HasText sources)) (filter_map (change_told_in lane) (each_answered operations replies))
told_there sources lane [] replies there = All-nil (OfPlaced (HasText sources))
told_there sources lane (o ∷ operations) [] there = All-nil (OfPlaced (HasText sources))
told_there sources lane (o ∷ operations) (reply ∷ replies) there =
    let parts = and_parts (is_there sources o) (list_all (is_there sources) operations) there in
    one_more_told (HasText sources) lane (both o reply) (filter_map (change_told_in lane) (each_answered operations replies))
    (tells_text sources o.line o.round o.lane reply.line reply.w o.op reply.answer parts.0)
    (told_there sources lane operations replies parts.1)

-- what holds of the changes of a number holds of each write by it
of_write : (P : Change → Type 0) (w : ℕ) (write : Write) (xs : List Write) → All (OfPlaced P) (changes_by write.by w xs) → Contains xs write
    → P write.change
of_write P w write [] all (k, low, at) = absurd (omega (arith, low))
of_write P w write (x ∷ xs) all has =
    let here : PlacedChange = record { w = w; change = x.change } in
    let rest : List PlacedChange = changes_by write.by (suc w) xs in
    cond_both (x.by == write.by) (here ∷ rest) rest (λ (those : List PlacedChange). All (OfPlaced P) those → P write.change)
    (λ yes told.
    ⊎_elim
    (λ (same : x ≡ write). subst (λ (it : Write). P it.change) same (All-head (OfPlaced P) here rest told))
    (λ (later : Contains xs write). of_write P (suc w) write xs (All-tail (OfPlaced P) here rest told) later)
    (first_or_later x write xs has))
    (λ no told.
    ⊎_elim
    (λ (same : x ≡ write). let own = eq-eqb x.by write.by (ap (λ (it : Write). it.by) same) in cc)
    (λ (later : Contains xs write). of_write P (suc w) write xs told later)
    (first_or_later x write xs has))
    all

-- ---- runs ----

change_fits : (sources most : ℕ) (change : Change) → FitsWord sources → FitsWord most → IsLow most change → HasText sources change
    → HasLowSlot most change → FitsChange change
change_fits sources most (Push n src slot) few small low there slots =
    (omega (arith, small, low), omega (arith, few, there), omega (arith, small, slots))
change_fits sources most (Erase after gone) few small low there slots =
    (omega (arith, small, low.0), omega (arith, small, low.1))

-- a list that a write changes has slots
some_slots : (slots : ℕ) (journal : List Write) (write : Write) → replays slots journal ≡ true → Contains journal write → 0 < slots
some_slots zero [] write replay (k, low, at) = absurd (omega (arith, low))
some_slots zero (first ∷ later) write replay has =
    absurd (nothing_allowed first.change (and_parts (allowed (opening 0) first.change) (replays_from (after_write (opening 0) first) later) replay).0)
some_slots (suc slots) journal write replay has = omega arith

module _ (script : Script) (sources : Sources) (slots : ℕ) (outcome : Outcome) (run : IsRun script sources slots outcome) where
  lanes_few : script.lanes ≤ MOST_LANES
  lanes_few = leb-true script.lanes MOST_LANES (and_parts (nat_le 1 script.lanes) (nat_le script.lanes MOST_LANES) script.sound.lanes_in).1

  own_few : (number : ℕ) → number < script.lanes → how_many (λ by. by == number) outcome.journal ≤ MOST_OPERATIONS
  own_few number low =
      omega (arith, changes_counted number 1 outcome.journal, ap length (run.writes.same number low), told_few (number + 1) script.operations outcome.replies, script.sound.few)

  -- there are at most as many writes as every lane could tell of
  pub journal_few : length outcome.journal ≤ 2 ^ 24
  journal_few =
      omega (arith, lanes_few, few_below script.lanes outcome.journal own_few, all_below script.lanes outcome.journal run.writes.no_others)

  -- the first version, and those that are pushed
  known : List Edition
  known = first_edition ∷ pushes outcome.journal

  is_known : (e : Edition) → (e ≡ first_edition) ⊎ Contains (pushes outcome.journal) e → Contains (map slot_of known) e.slot
  unfolding known
  is_known e (inl same) = slot_there known e (0, omega arith, sym same)
  is_known e (inr (k, low, at)) = slot_there known e (suc k, omega (arith, low), at)

  -- the front's slot is one of theirs
  front_known : (w slot : ℕ) → 0 < slots → (front_of (state_after slots (take w outcome.journal)).listed).slot ≡ slot → Contains (map slot_of known) slot
  front_known w slot some is =
      subst (Contains (map slot_of known)) is (is_known (front_of (state_after slots (take w outcome.journal)).listed) (front_is_told slots outcome.journal w some run.replay))

  -- so is a slot that is listed
  listed_known : (w slot : ℕ) → 0 < slots → is_slot_listed slot (state_after slots (take w outcome.journal)).listed ≡ true → Contains (map slot_of known) slot
  listed_known w slot some listed =
      let there = listed_there slot (state_after slots (take w outcome.journal)).listed listed in
      let told = (listed_told slots (take w outcome.journal) there.0 some (replays_take slots outcome.journal w run.replay)).0 there.1 in
      subst (Contains (map slot_of known)) there.2
      (is_known there.0 (⊎_elim (λ (same : there.0 ≡ first_edition). inl same) (λ (has : Contains (pushes (take w outcome.journal)) there.0). inr (pushed_later outcome.journal w there.0 has)) told.0))

  -- and each slot that a push passes over
  passed_known : (number : ℕ) (before : List Answered) (operation : Operation) (w slot : ℕ) → 0 < slots
      → IsPassedOver (round_of (batch_of script sources slots outcome) number) (IsHeldSlot (round_of (batch_of script sources slots outcome) number) before operation) w slot → Contains (map slot_of known) slot
  passed_known number before operation w slot some (inl listed) = listed_known w slot some listed
  passed_known number before operation w slot some (inr may) = by_lanes (script.lanes == 1) refl
    where
      by_lanes : (one : Bool) → (script.lanes == 1) ≡ one → Contains (map slot_of known) slot
      by_lanes true is = let held = may.0 (eqb-true script.lanes 1 is) in front_known held.begun.reply.w slot some held.in_slot
      by_lanes false is = let front = may.1 (λ one. let yes = eq-eqb script.lanes 1 one in cc) in front_known front.0 slot some front.3

  -- so a push takes no great slot
  slot_low : (number : ℕ) (before : List Answered) (operation : Operation) (w slot : ℕ) → 0 < slots
      → TakesFirstSlot (round_of (batch_of script sources slots outcome) number) (IsHeldSlot (round_of (batch_of script sources slots outcome) number) before operation) w slot → slot ≤ length outcome.journal + 1
  unfolding known
  slot_low number before operation w slot some takes =
      omega (arith, covers slot (map slot_of known) (λ other low. passed_known number before operation w other some (takes.lower other low)), length-map known slot_of, few_pushes outcome.journal)

  tells_slot : (before : List Answered) (line round lane said w : ℕ) (op : Op) (answer : Answer) → 0 < slots
      → PassesOver (round_of (batch_of script sources slots outcome) round) before (both (record { line = line; round = round; lane = lane; op = op }) (record { line = said; w = w; answer = answer }))
      → IfTold (HasLowSlot (length outcome.journal + 1)) (change_told (both (record { line = line; round = round; lane = lane; op = op }) (record { line = said; w = w; answer = answer })))
  tells_slot before line round lane said w (ops.Reload src) (answers.Pushed n slot) some takes =
      slot_low round before (record { line = line; round = round; lane = lane; op = ops.Reload src }) (w - 1) slot some takes
  tells_slot before line round lane said w (ops.Reload src) (answers.Erased n slot gone) some takes = tt
  tells_slot before line round lane said w (ops.Reload src) _ some takes = tt
  tells_slot before line round lane said w _ (answers.Erased n slot gone) some takes = tt
  tells_slot before line round lane said w _ _ some takes = tt

  -- the slots that a lane's replies tell of aren't great
  told_slots : (lane : ℕ) (before : List Answered) (operations : List Operation) (replies : List Reply) → 0 < slots
      → answered (batch_of script sources slots outcome) ≡ before ++ each_answered operations replies
      → All (OfPlaced (HasLowSlot (length outcome.journal + 1))) (filter_map (change_told_in lane) (each_answered operations replies))
  told_slots lane before [] replies some is = All-nil (OfPlaced (HasLowSlot (length outcome.journal + 1)))
  told_slots lane before (o ∷ operations) [] some is = All-nil (OfPlaced (HasLowSlot (length outcome.journal + 1)))
  told_slots lane before (o ∷ operations) (reply ∷ replies) some is =
      one_more_told (HasLowSlot (length outcome.journal + 1)) lane (both o reply) (filter_map (change_told_in lane) (each_answered operations replies))
      (tells_slot before o.line o.round o.lane reply.line reply.w o.op reply.answer some (run.pushes before (each_answered operations replies) (both o reply) is))
      (told_slots lane (before ++ both o reply ∷ []) operations replies some (is ∙ sym (append_assoc before (both o reply ∷ []) (each_answered operations replies))))

  -- the numbers of the writes fit
  pub writes_fit : KeepsSources (length sources.texts) script.operations → All FitsWrite outcome.journal
  writes_fit there = all_from FitsWrite outcome.journal each
    where
      each : (write : Write) → Contains outcome.journal write → FitsWrite write
      each write has =
          let most = length outcome.journal + 1 in
          let texts = length sources.texts in
          let lane = write.by + 1 in
          let own : write.by < script.lanes = ltb-true write.by script.lanes (passes (λ (it : Write). nat_lt it.by script.lanes) outcome.journal write run.writes.no_others has) in
          let some = some_slots slots outcome.journal write run.replay has in
          let low = All-contains (λ (it : Write). IsLow most it.change) outcome.journal write (numbers_low slots most outcome.journal run.replay (omega arith)) has in
          let text = of_write (HasText texts) 1 write outcome.journal (subst (All (OfPlaced (HasText texts))) (run.writes.same write.by own) (told_there texts lane script.operations outcome.replies there)) has in
          let slot = of_write (HasLowSlot most) 1 write outcome.journal (subst (All (OfPlaced (HasLowSlot most))) (run.writes.same write.by own) (told_slots lane [] script.operations outcome.replies some refl)) has in
          record {
            by = omega (arith, own, lanes_few);
            seq = omega (arith, seq_low write 0 outcome.journal (run.writes.counted write.by) has, journal_few);
            change = change_fits texts most write.change (omega (arith, sources.few_texts)) (omega (arith, journal_few)) low text slot;
          }

  -- there is a reply to each operation
  pub replies_few : length outcome.replies ≤ MOST_OPERATIONS
  replies_few =
      omega (arith, script.sound.few, ap length run.replies.one_each, length-map outcome.replies (λ (reply : Reply). reply.line), length-map script.operations (λ (operation : Operation). operation.line))

  -- no position is above how many operations there are
  pub position_low : (before later : List Answered) (here : Answered) → answered (batch_of script sources slots outcome) ≡ before ++ here ∷ later → here.reply.w ≤ MOST_OPERATIONS
  position_low before later here is =
      omega (arith, (run.positions before later here is).high, count_by-le-length (is_write_before (here.operation.round + 1)) (answered (batch_of script sources slots outcome)), answered_few script.operations outcome.replies, script.sound.few)

-- What a push asks and leaves.
use Rattle.std.proofs.Common.{◌≡◌, ◌≢◌, ℕ, zero, suc, ◌+◌, ◌-◌, ◌<◌, List, [], ◌∷◌, ◌++◌, length, map, drop, replicate, refl, ⊎_elim, sym, ap, ◌∙◌, subst, arith, true, false, ◌==◌, ◌&&◌, eq-eqb, Result, Ok, Err}
use Rattle.std.specs.Prelude.{IfOk, IfErr}
use Rattle.std.specs.List.{Contains}
use Rattle.std.proofs.lemmas.List.{map-append, length-replicate, get_or-map}
use Rattle.atomic_table.specs.Table.{Me}
use Rattle.pin_book.specs.declared.write.Write.{Write}
use Rattle.pin_book.specs.declared.write.Change.TheVariants.{Push}
use Rattle.pin_book.specs.Replay.{Edition, state_after, allowed, replays, front_number, front_of, is_taken}
use Rattle.pin_book.specs.Pushes.{pushed_by}
use Rattle.pin_book.specs.Book.{Chronicle, list_of}
use Rattle.pin_book.specs.Names.{with_name}
use Rattle.pin_table.specs.declared.position.Position.{Position}
use Rattle.pin_table.specs.Position.{IsAfter}
use Rattle.pin_table.specs.Carried.{slots_of}
use Rattle.pin_table.specs.Seat.{knowing}
use Rattle.pin_table.specs.BookHeld.{WritesIn}
use Rattle.pin_table.specs.Claims.{FreePlaces, ClaimsLeast}
use Rattle.pin_book.proofs.BookLemmas.{asked_push}
use Rattle.pin_book.proofs.ReplayLemmas.{replay_orderly}
use Rattle.pin_book.proofs.Journals as journals
use Rattle.pin_core.specs.declared.entry.Entry.{Entry}
use Rattle.pin_core.specs.declared.view.View.{View}
use Rattle.pin_core.specs.Core.{total, one_if, times}
use Rattle.pin_core.specs.Packing.{place}
use Rattle.pin_core.specs.Step.{got_turn, gave_turn, stored, claiming}
use Rattle.pin_table.specs.declared.answers.Pushed.{Pushed}
use Rattle.pin_table.specs.declared.answers.PushWhy.{PushWhy}
use Rattle.pin_table.specs.declared.answers.PushWhy.TheVariants as push
use Rattle.pin_table.specs.declared.cell.Cell.{Cell}
use Rattle.pin_table.specs.declared.cell.Cell.TheVariants.{Place}
use Rattle.pin_table.specs.declared.sitting.Plan.{Plan}
use Rattle.pin_table.specs.declared.sitting.Sitting.{Sitting}
use Rattle.pin_table.specs.Runs.{run_from, CarriesRun}
use Rattle.pin_table.specs.Shelf.{full_shelf, AreOf}
use Rattle.pin_table.specs.Sources.{sources, source_of, book_of}
use Rattle.pin_table.specs.Places.{IsStockedPlace}
use Rattle.pin_table.specs.Plays.{GoesOn, HasStockedRun}
use Rattle.pin_table.specs.Idle.{IsIdle}
use Rattle.pin_table.specs.Turns.{finding, PushAnswers, Pushes, RefusesPush}
use Rattle.pin_table.proofs.SourceLemmas.{sources-append, source_count, source_at, front_some}
use Rattle.pin_table.proofs.RefillLemmas.{behind_run, each_of_replicate}
use Rattle.pin_table.proofs.ExchangeLemmas.{among_one_more}
use Rattle.pin_table.proofs.HandLemmas.{LeavesHandles, turn_leaves}
use Rattle.pin_table.proofs.WriteLemmas.{write_leaves}

-- the journal allows a push of the next number into a slot in which nothing listed is
pub push_allowed : (slots n src slot : ℕ) (journal : List Write) → 0 < slots → replays slots journal ≡ true → n ≡ front_number slots journal + 1 → slot < slots → is_taken slots journal slot ≡ false
    → allowed (state_after slots journal) (Push n src slot) ≡ true
unfolding front_number is_taken
push_allowed slots n src slot journal some_slot replay next inside unlisted =
    asked_push (state_after slots journal) n src slot record { next = next; inside = (let wide = (replay_orderly slots journal some_slot replay).wide in omega arith); unlisted = unlisted }

-- the names that versions have with a push
pub pushed_book : {H : Type 0} (name_of : H → ℕ → List ℕ) (home : H) (slots room n src slot : ℕ) (journal : List Write) (write : Write) → write.change ≡ Push n src slot
    → record { slots = slots; room = room; journal = journal ++ write ∷ []; names = map (name_of home) (sources journal) ++ name_of home src ∷ [] } ≡ book_of name_of home slots room (journal ++ write ∷ [])
pushed_book name_of home slots room n src slot journal write change =
    ap (λ (ns : List (List ℕ)). record { slots = slots; room = room; journal = journal ++ write ∷ []; names = ns })
    (sym (ap (λ (ns : List ℕ). map (name_of home) ns) (sources-append journal (write ∷ []) ∙ ap (λ c. sources journal ++ map (λ (e : Edition). e.src) (pushed_by c ++ [])) change)
    ∙ map-append (name_of home) (sources journal) (src ∷ [])))

-- a slot where the reader has no handle isn't the slot of one
held_elsewhere : (slot : ℕ) (entries : List Entry) (e : Entry) → total (λ (x : Entry). one_if ((x.slot == slot) && x.held)) entries ≡ 0 → Contains entries e → e.held ≡ true → e.slot ≢ slot
held_elsewhere slot [] e free among held same = absurd (let low = among.1 in omega arith)
held_elsewhere slot (x ∷ xs) e free among held same = ⊎_elim
    (λ (here : x ≡ e). let one : one_if ((x.slot == slot) && x.held) ≡ 1 = (λ i. one_if ((eq-eqb x.slot slot (ap (λ (y : Entry). y.slot) here ∙ same) i) && (ap (λ (y : Entry). y.held) here ∙ held) i)) in omega arith)
    (λ later. held_elsewhere slot xs e (omega arith) later held same)
    (among_one_more x xs e among)

module _ {P H : Type 0} (home : P → H) (source : P → ℕ) (plan : Plan P) where
  -- copies of one version are alike
  alike_of : (version : P) → home version ≡ home plan.first → (n : ℕ) → AreOf home source (home plan.first) (source version) (replicate n version)
  alike_of version of_home zero = tt
  alike_of version of_home (suc n) = (of_home, refl, alike_of version of_home n)

  -- full shelves of a version of the table
  pub stocked_run : (slot : ℕ) (version : P) (carried behind : List (ℕ × Cell P H)) → home version ≡ home plan.first → carried ≡ run_from (place slot 0) (replicate plan.readers (Place (full_shelf version))) ++ behind
      → HasStockedRun home source plan slot (source version) carried
  stocked_run slot version carried behind of_home is =
      let cells : List (Cell P H) = replicate plan.readers (Place (full_shelf version)) in let many = length-replicate {A = Cell P H} plan.readers (Place (full_shelf version)) in
      let rest : drop plan.readers carried ≡ behind = ap (λ n. drop n carried) (sym many) ∙ (ap (λ l. drop (length cells) l) is ∙ behind_run (place slot 0) cells behind) in record {
        cells = cells;
        many = many;
        stocked = λ i cell at. subst (IsStockedPlace home source (home plan.first) (source version)) (sym (each_of_replicate plan.readers i (Place (full_shelf version)) cell at))
            record { shelf = full_shelf version; is = refl; full = refl; alike = alike_of version of_home 8 };
        is = is ∙ ap (λ l. run_from (place slot 0) cells ++ l) (sym rest);
      }

-- ---- what the front is, by the book in hand ----

module _ {P H : Type 0} (home : P → H) (name_of : H → ℕ → List ℕ) (plan : Plan P) where
  -- the front's name is that of its source
  front_named : (journal : List Write) → 0 < plan.slots → replays plan.slots journal ≡ true
      → (with_name (book_of name_of (home plan.first) plan.slots plan.room journal).names (front_of (state_after plan.slots journal).listed)).name ≡ name_of (home plan.first) (source_of journal (front_number plan.slots journal))
  unfolding front_number
  front_named journal some_slot replay =
      let many = source_count plan.slots journal some_slot replay in let some_front = front_some plan.slots journal some_slot replay in let n : ℕ = (front_of (state_after plan.slots journal).listed).n in
      get_or-map (name_of (home plan.first)) (sources journal) (n - 1) 0 [] (omega arith) ∙ ap (name_of (home plan.first)) (sym (source_at journal n))

  pub front_knows : (number : ℕ) (v : View) (book : Chronicle) (front : Position) → 0 < plan.slots → WritesIn home name_of plan number v book → IsAfter book.slots book.journal front
      → (front.w ≡ length v.seen) × (front.n ≡ front_number plan.slots v.seen) × ((with_name book.names (front_of (list_of book).listed)).name ≡ name_of (home plan.first) (source_of v.seen (front_number plan.slots v.seen)))
  front_knows number v book front some_slot h after =
      let here = subst (λ (b : Chronicle). IsAfter b.slots b.journal front) h.is after in
      (here.w, here.n, ap (λ (b : Chronicle). (with_name b.names (front_of (list_of b).listed)).name) h.is ∙ front_named v.seen some_slot h.replay)

module _ {P H : Type 0} where
  -- what stands behind it
  pub rest_of : (plan : Plan P) (slot : ℕ) (m m1 : Me (Cell P H) (Sitting P)) → ClaimsLeast plan slot m m1 → drop plan.readers m1.1 ≡ m.1
  rest_of plan slot m m1 h = ap (λ n. drop n m1.1) (sym h.many) ∙ (ap (λ (x : Me (Cell P H) (Sitting P)). drop (length h.cells) x.1) h.seat ∙ behind_run (place slot 0) h.cells m.1)

  -- the run of a claimed slot
  pub claimed_run : (plan : Plan P) (slot : ℕ) (m m1 : Me (Cell P H) (Sitting P)) → FreePlaces plan m → ClaimsLeast plan slot m m1 → CarriesRun (place slot 0) plan.readers m1.1
  claimed_run plan slot m m1 free_places h =
      let carried = ap (λ (x : Me (Cell P H) (Sitting P)). x.1) h.seat in let rest = rest_of plan slot m m1 h in record {
        held = h.cells;
        many = h.many;
        is = carried ∙ ap (λ l. run_from (place slot 0) h.cells ++ l) (sym rest);
        apart = λ at low high. let reader : ℕ = at - place slot 0 in let to : place slot reader ≡ at = omega arith in
            ap (λ l. times at (slots_of l)) rest ∙ subst (λ k. times k (slots_of m.1) ≡ 0) to (free_places slot reader h.inside (omega arith) h.free);
      }

  pub pushed_seat : (plan : Plan P) (slot : ℕ) (x : View) (m m1 m2 : Me (Cell P H) (Sitting P)) → ClaimsLeast plan slot m m1 → m2 ≡ (knowing x m1.0, drop plan.readers m1.1) → m2 ≡ (knowing m2.0.core m.0, m.1)
  pushed_seat plan slot x m m1 m2 h stored =
      let rest = rest_of plan slot m m1 h in let seat = ap (λ (y : Me (Cell P H) (Sitting P)). y.0) h.seat in
      let here : m2 ≡ (knowing x m.0, m.1) = stored ∙ (λ i. (knowing x (seat i), rest i)) in
      here ∙ (λ i. (knowing (sym (ap (λ (y : Me (Cell P H) (Sitting P)). y.0.core) here) i) m.0, m.1))

-- ---- a push in a turn ----

module _ {P H : Type 0} (home : P → H) (source : P → ℕ) (name_of : H → ℕ → List ℕ) (plan : Plan P) where
  -- it leaves the handles
  push_leaves : (by : ℕ) (journal : List Write) (v after : View) (version : P) (answer : Result Pushed PushWhy) → 0 < plan.slots → IsIdle plan.slots by v → GoesOn plan.slots plan.room by v journal
      → PushAnswers home source name_of plan by (got_turn journal v) after version answer → LeavesHandles plan.slots v (gave_turn after)
  push_leaves by journal v after version (Ok pushed) some_slot h goes is =
      let write : Write = record { by = by; seq = length v.own + 1; change = Push pushed.n (source version) pushed.slot } in
      let allows = push_allowed plan.slots pushed.n (source version) pushed.slot journal some_slot goes.replay is.is_n is.inside is.unlisted in
      let left = journals.pushed plan.slots journal write pushed.n (source version) pushed.slot some_slot goes.replay allows refl in
      subst (λ a. LeavesHandles plan.slots v (gave_turn a)) (sym is.view)
      (write_leaves plan.slots plan.room by journal write v (gave_turn (stored write (claiming pushed.slot (finding plan.slots pushed.slot (got_turn journal v))))) h goes refl refl refl refl refl refl
      (λ e among. left.others e.slot (held_elsewhere pushed.slot v.entries e is.free among (h.handles e among).held)))
  push_leaves by journal v after version (Err (push.Busy holder)) some_slot h goes is = absurd is
  push_leaves by journal v after version (Err (push.Same w n)) some_slot h goes is = subst (λ a. LeavesHandles plan.slots v (gave_turn a)) (sym is.view) (turn_leaves plan.slots plan.room by journal v h goes)
  push_leaves by journal v after version (Err (push.JournalFull w)) some_slot h goes is = subst (λ a. LeavesHandles plan.slots v (gave_turn a)) (sym is.view) (turn_leaves plan.slots plan.room by journal v h goes)
  push_leaves by journal v after version (Err (push.Full w)) some_slot h goes is =
      let t = turn_leaves plan.slots plan.room by journal v h goes in
      subst (λ a. LeavesHandles plan.slots v (gave_turn a)) (sym is.view) record { role = t.role; numbers = t.numbers; entries = t.entries; turn = t.turn; claimed = t.claimed; grows = t.grows; kept = t.kept }

  -- whatever it answers
  pub push_left : {R : Type 0} (why : R → PushWhy) (by : ℕ) (journal : List Write) (v u after : View) (version : P) (answer : Result Pushed R) → u ≡ got_turn journal v → 0 < plan.slots → IsIdle plan.slots by v → GoesOn plan.slots plan.room by v journal
      → IfOk answer (λ pushed. PushAnswers home source name_of plan by u after version (Ok pushed)) → IfErr answer (λ refused. PushAnswers home source name_of plan by u after version (Err (why refused))) → LeavesHandles plan.slots v (gave_turn after)
  push_left why by journal v u after version (Ok pushed) turn some_slot h goes ok err = push_leaves by journal v after version (Ok pushed) some_slot h goes (subst (λ x. PushAnswers home source name_of plan by x after version (Ok pushed)) turn ok)
  push_left why by journal v u after version (Err refused) turn some_slot h goes ok err = push_leaves by journal v after version (Err (why refused)) some_slot h goes (subst (λ x. PushAnswers home source name_of plan by x after version (Err (why refused))) turn err)

  -- a refusal in a turn
  pub refuses : (by : ℕ) (v v' : View) (version : P) (why : PushWhy) → Pushes home source name_of plan by v v' version (Err why) → RefusesPush home source name_of plan by v v' version why
  refuses by v v' version (push.Busy holder) h = absurd h.is
  refuses by v v' version (push.Same w n) h = h
  refuses by v v' version (push.JournalFull w) h = h
  refuses by v v' version (push.Full w) h = h

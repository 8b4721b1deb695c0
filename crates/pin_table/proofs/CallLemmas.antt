-- What stays of a reader's pins and writes over a call that takes the turn, or tries to.
use Rattle.std.proofs.Common.{◌≡◌, ℕ, List, [], ◌∷◌, ◌++◌, length, take, refl, sym, ap, subst, ◌∙◌}
use Rattle.std.specs.Prelude.{Result, Ok, Err, IfOk, IfErr}
use Rattle.std.specs.List.{Contains}
use Rattle.std.proofs.Math.Seq.{take-length}
use Rattle.std.proofs.lemmas.List.{take-append-le}
use Rattle.std.proofs.lemmas.List.Elements.{Contains-append_left}
use Rattle.pin_book.specs.declared.payload.Payload.{Ghosts}
use Rattle.pin_book.specs.declared.write.Write.{Write}
use Rattle.pin_book.specs.Replay.{front_number}
use Rattle.pin_core.specs.declared.view.View.{View}
use Rattle.pin_core.specs.Step.{loaded, gave_turn}
use Rattle.pin_table.specs.declared.answers.Erased.{Erased}
use Rattle.pin_table.specs.declared.answers.EraseWhy.{EraseWhy}
use Rattle.pin_table.specs.declared.answers.Listing.{Listing}
use Rattle.pin_table.specs.declared.answers.Pushed.{Pushed}
use Rattle.pin_table.specs.declared.answers.PushWhy.{PushWhy}
use Rattle.pin_table.specs.declared.answers.PushWhy.TheVariants as push
use Rattle.pin_table.specs.declared.answers.Released.{Released}
use Rattle.pin_table.specs.declared.position.Position.{Position}
use Rattle.pin_table.specs.declared.reader.Reader.{Reader}
use Rattle.pin_table.specs.declared.sitting.Plan.{Plan}
use Rattle.pin_table.specs.Handles.{Handle, pin_of, AreAllHeld, MadeBy, IsOf}
use Rattle.pin_table.specs.Kept.{KeepsPins, KeepsWrites, KeepsHandles}
use Rattle.pin_table.specs.Pins.{PinsAtOnce, Releases}
use Rattle.pin_table.specs.Reader.{reader_view, seen, Looks}
use Rattle.pin_table.specs.Sources.{source_of}
use Rattle.pin_table.specs.Table.{plan as plan_of_table}
use Rattle.pin_table.specs.Turns.{MeetsTurn, WaitsForTurn, Lists, Erases, Pushes, RefusesPush}
use Rattle.pin_table.proofs.FrontLemmas.{AfterMisses}
use Rattle.pin_table.proofs.PlaceLemmas.{no_shorter, take_seen}

-- ---- one handle ----

-- a handle whose pin is still there stays its reader's
pub handle_stays : {P H : Type 0} (home : P → H) (source : P → ℕ) (plan : Plan P) (v later : View) (handle : Handle P) → MadeBy home source plan v handle
    → take (length v.seen) later.seen ≡ v.seen → later.role ≡ v.role → later.numbers ≡ v.numbers
    → Contains later.entries (pin_of handle) → AreAllHeld plan.slots later → MadeBy home source plan later handle
handle_stays home source plan v later handle h grows role numbers pinned held =
    let same = take_seen handle.position v.seen later.seen h.holds.told grows in record {
      reader = (role ∙ h.reader.0, numbers ∙ h.reader.1);
      pinned = pinned;
      holds = held (pin_of handle) pinned;
      number = h.number ∙ ap (front_number plan.slots) (sym same);
      version = subst (λ l. IsOf home source (home plan.first) (source_of l (front_number plan.slots l)) handle.version) (sym same) h.version;
    }

-- where pins are kept, so is each handle
pub handle_kept : {P H : Type 0} (home : P → H) (source : P → ℕ) (old new : Plan P) (v later : View) → new ≡ old → KeepsPins v later → AreAllHeld new.slots later
    → (handle : Handle P) → MadeBy home source old v handle → MadeBy home source new later handle
handle_kept home source old new v later same k held handle h =
    handle_stays home source new v later handle (subst (λ p. MadeBy home source p v handle) (sym same) h) k.grows k.role k.numbers
    (subst (λ es. Contains es (pin_of handle)) (sym k.entries) h.pinned) held

module _ {P H : Type 0} (home : P → H) (source : P → ℕ) {meanings : Ghosts P H} where
  -- the same from one reader to another, of one table
  stays_from : (reader later : Reader P H meanings) → later.table.now ≡ reader.table.now → take (length (seen reader)) (seen later) ≡ seen reader
      → (reader_view later).role ≡ (reader_view reader).role → (reader_view later).numbers ≡ (reader_view reader).numbers
      → (handle : Handle P) → MadeBy home source (plan_of_table reader.table.now) (reader_view reader) handle → Contains (reader_view later).entries (pin_of handle)
      → MadeBy home source (plan_of_table later.table.now) (reader_view later) handle
  stays_from reader later same grows role numbers handle made pinned =
      handle_stays home source (plan_of_table later.table.now) (reader_view reader) (reader_view later) handle
      (subst (λ t. MadeBy home source (plan_of_table t) (reader_view reader) handle) (sym same) made) grows role numbers pinned later.handles

  pub look_keeps : (reader later : Reader P H meanings) (position : Position) → Looks reader later position → KeepsHandles home source reader later
  look_keeps reader later position h handle made = stays_from reader later h.more.table h.more.grows (ap (λ (x : View). x.role) h.view) (ap (λ (x : View). x.numbers) h.view) handle made
      (subst (λ es. Contains es (pin_of handle)) (sym (ap (λ (x : View). x.entries) h.view)) made.pinned)

  -- a handle beside it
  pub pin_keeps : (first reader later : Reader P H meanings) (new : Handle P) → AfterMisses first reader → PinsAtOnce home source reader later new → KeepsHandles home source first later
  pin_keeps first reader later new a h handle made = stays_from first later (h.table ∙ a.table) (ap (λ (x : View). take (length (seen first)) x.seen) h.view ∙ a.grows)
      (ap (λ (x : View). x.role) h.view ∙ ap (λ (x : View). x.role) a.view) (ap (λ (x : View). x.numbers) h.view ∙ ap (λ (x : View). x.numbers) a.view) handle made
      (subst (λ es. Contains es (pin_of handle)) (sym (ap (λ (x : View). x.entries) h.view))
      (Contains-append_left (reader_view reader).entries (pin_of new ∷ []) (pin_of handle) (subst (λ es. Contains es (pin_of handle)) (sym (ap (λ (x : View). x.entries) a.view)) made.pinned)))

  -- a handle that isn't released
  pub release_keeps : (reader later : Reader P H meanings) (spent : Handle P) (released : Released) → Releases reader later spent released
      → (handle : Handle P) → MadeBy home source (plan_of_table reader.table.now) (reader_view reader) handle → Contains (reader_view later).entries (pin_of handle)
      → MadeBy home source (plan_of_table later.table.now) (reader_view later) handle
  release_keeps reader later spent released h = stays_from reader later h.more.table h.more.grows (ap (λ (x : View). x.role) h.view) (ap (λ (x : View). x.numbers) h.view)

-- ---- views ----

-- a view that differs in nothing that is kept but in what it has seen
pins_kept : (v w later : View) → later ≡ w → w.role ≡ v.role → w.numbers ≡ v.numbers → w.floor ≡ v.floor → w.entries ≡ v.entries → take (length v.seen) w.seen ≡ v.seen → KeepsPins v later
pins_kept v w later is role numbers floor entries grows = record {
  role = ap (λ (x : View). x.role) is ∙ role;
  numbers = ap (λ (x : View). x.numbers) is ∙ numbers;
  floor = ap (λ (x : View). x.floor) is ∙ floor;
  entries = ap (λ (x : View). x.entries) is ∙ entries;
  grows = ap (λ (x : View). take (length v.seen) x.seen) is ∙ grows;
}

writes_kept : (v w later : View) → later ≡ w → w.own ≡ v.own → w.allowance ≡ v.allowance → KeepsWrites v later
writes_kept v w later is own allowance = record { own = ap (λ (x : View). x.own) is ∙ own; allowance = ap (λ (x : View). x.allowance) is ∙ allowance }

-- what was seen stands before one write more, too
grows_more : (seen journal : List Write) (write : Write) → take (length seen) journal ≡ seen → take (length seen) (journal ++ write ∷ []) ≡ seen
grows_more seen journal write grows = take-append-le _ _ _ (no_shorter seen journal grows) ∙ grows

pub kept_twice : (v w later : View) → KeepsPins v w → KeepsPins w later → KeepsPins v later
kept_twice v w later one two = record {
  role = two.role ∙ one.role;
  numbers = two.numbers ∙ one.numbers;
  floor = two.floor ∙ one.floor;
  entries = two.entries ∙ one.entries;
  grows = take_seen (length v.seen) w.seen later.seen (no_shorter v.seen w.seen one.grows) two.grows ∙ one.grows;
}

pub writes_twice : (v w later : View) → KeepsWrites v w → KeepsWrites w later → KeepsWrites v later
writes_twice v w later one two = record { own = two.own ∙ one.own; allowance = two.allowance ∙ one.allowance }

-- ---- calls ----

module _ {P : Type 0} (plan : Plan P) (by : ℕ) (v later : View) where
  pub meeting_keeps : (holder : ℕ) → MeetsTurn plan by v later holder → KeepsPins v later
  meeting_keeps holder h = pins_kept v _ later h.view refl refl refl refl (take-length v.seen)

  pub meeting_keeps_writes : (holder : ℕ) → MeetsTurn plan by v later holder → KeepsWrites v later
  meeting_keeps_writes holder h = writes_kept v _ later h.view refl refl

pub load_keeps : (v later : View) (journal : List Write) → later ≡ loaded journal v → take (length v.seen) journal ≡ v.seen → KeepsPins v later
load_keeps v later journal is grows = pins_kept v (loaded journal v) later is refl refl refl refl grows

pub wait_keeps : (v w : View) → WaitsForTurn v w → KeepsPins v w
wait_keeps v w h = pins_kept v _ w h.view refl refl refl refl (take-length v.seen)

pub wait_keeps_writes : (v w : View) → WaitsForTurn v w → KeepsWrites v w
wait_keeps_writes v w h = writes_kept v _ w h.view refl refl

module _ {P H : Type 0} (home : P → H) (name_of : H → ℕ → List ℕ) (plan : Plan P) (v later : View) (listing : Listing) where
  pub list_keeps : Lists home name_of plan v later listing → KeepsPins v later
  list_keeps h = pins_kept v _ later h.view refl refl refl refl h.found.grows

  pub list_keeps_writes : Lists home name_of plan v later listing → KeepsWrites v later
  list_keeps_writes h = writes_kept v _ later h.view refl refl

module _ (slots by n : ℕ) (v later : View) where
  pub erase_keeps : (answer : Result Erased EraseWhy) → Erases slots by n v later answer → KeepsPins v later
  erase_keeps (Err why) h = pins_kept v _ later h.view refl refl refl refl h.found.grows
  erase_keeps (Ok erased) h = pins_kept v _ later h.view refl refl refl refl (grows_more v.seen h.journal _ h.found.grows)

  pub erase_keeps_writes : (why : EraseWhy) → Erases slots by n v later (Err why) → KeepsWrites v later
  erase_keeps_writes why h = writes_kept v _ later h.view refl refl

module _ {P H : Type 0} (home : P → H) (source : P → ℕ) (name_of : H → ℕ → List ℕ) (plan : Plan P) (by : ℕ) (v later : View) (version : P) where
  pub push_keeps : (answer : Result Pushed PushWhy) → Pushes home source name_of plan by v later version answer → KeepsPins v later
  push_keeps (Ok pushed) h = pins_kept v _ later (h.view ∙ ap gave_turn h.is.view) refl refl refl refl (grows_more v.seen h.journal _ h.found.grows)
  push_keeps (Err (push.Busy holder)) h = absurd h.is
  push_keeps (Err (push.Same w n)) h = pins_kept v _ later (h.view ∙ ap gave_turn h.is.view) refl refl refl refl h.found.grows
  push_keeps (Err (push.JournalFull w)) h = pins_kept v _ later (h.view ∙ ap gave_turn h.is.view) refl refl refl refl h.found.grows
  push_keeps (Err (push.Full w)) h = pins_kept v _ later (h.view ∙ ap gave_turn h.is.view) refl refl refl refl h.found.grows

  pub push_keeps_writes : (why : PushWhy) → Pushes home source name_of plan by v later version (Err why) → KeepsWrites v later
  push_keeps_writes (push.Busy holder) h = absurd h.is
  push_keeps_writes (push.Same w n) h = writes_kept v _ later (h.view ∙ ap gave_turn h.is.view) refl refl
  push_keeps_writes (push.JournalFull w) h = writes_kept v _ later (h.view ∙ ap gave_turn h.is.view) refl refl
  push_keeps_writes (push.Full w) h = writes_kept v _ later (h.view ∙ ap gave_turn h.is.view) refl refl

  pub refusal_keeps : (why : PushWhy) → RefusesPush home source name_of plan by v later version why → KeepsPins v later
  refusal_keeps (push.Busy holder) h = meeting_keeps plan by v later holder h
  refusal_keeps (push.Same w n) h = push_keeps (Err (push.Same w n)) h
  refusal_keeps (push.JournalFull w) h = push_keeps (Err (push.JournalFull w)) h
  refusal_keeps (push.Full w) h = push_keeps (Err (push.Full w)) h

  pub refusal_keeps_writes : (why : PushWhy) → RefusesPush home source name_of plan by v later version why → KeepsWrites v later
  refusal_keeps_writes (push.Busy holder) h = meeting_keeps_writes plan by v later holder h
  refusal_keeps_writes (push.Same w n) h = push_keeps_writes (push.Same w n) h
  refusal_keeps_writes (push.JournalFull w) h = push_keeps_writes (push.JournalFull w) h
  refusal_keeps_writes (push.Full w) h = push_keeps_writes (push.Full w) h

  -- the same for either answer of a turn
  pub turn_keeps : {E : Type 0} (why : E → PushWhy) (more : E → Type 0) (answer : Result Pushed E) → IfOk answer (λ pushed. Pushes home source name_of plan by v later version (Ok pushed))
      → IfErr answer (λ refused. RefusesPush home source name_of plan by v later version (why refused) × more refused) → KeepsPins v later
  turn_keeps why more (Ok pushed) made refused = push_keeps (Ok pushed) made
  turn_keeps why more (Err e) made refused = refusal_keeps (why e) refused.0

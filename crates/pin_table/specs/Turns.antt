-- What a call that takes the turn answers, and what its reader then knows. All but a try that finds the turn taken go by
-- the journal that the turn finds.
use Rattle.std.specs.Prelude.{◌≡◌, ◌≢◌, ℕ, ◌+◌, ◌<◌, true, false, not, ◌==◌, if◌then◌else◌, Option, Some, List, length, take, filter, Contains, Result, Ok, Err}
use Rattle.std.specs.List.{range_with_len}
use Rattle.pin_book.specs.declared.write.Write.{Write}
use Rattle.pin_book.specs.declared.write.Change.TheVariants.{Push, Erase}
use Rattle.pin_book.specs.Replay.{Edition, state_after, replays, front_number, is_taken, is_listed, greatest_below}
use Rattle.pin_book.specs.Book.{rows_of}
use Rattle.pin_core.specs.declared.view.View.{View}
use Rattle.pin_core.specs.Core.{held_at}
use Rattle.pin_core.specs.Lawful.{WasFrontOnce}
use Rattle.pin_core.specs.Step.{was_refused, got_turn, gave_turn, stored, claiming}
use Rattle.pin_table.specs.declared.answers.Listing.{Listing}
use Rattle.pin_table.specs.declared.answers.Erased.{Erased}
use Rattle.pin_table.specs.declared.answers.EraseWhy.{EraseWhy}
use Rattle.pin_table.specs.declared.answers.EraseWhy.TheVariants as erase
use Rattle.pin_table.specs.declared.answers.Pushed.{Pushed}
use Rattle.pin_table.specs.declared.answers.PushWhy.{PushWhy}
use Rattle.pin_table.specs.declared.answers.PushWhy.TheVariants as push
use Rattle.pin_table.specs.declared.sitting.Plan.{Plan}
use Rattle.pin_table.specs.Sources.{source_of, book_of}

-- the journal that a turn finds goes on from what the reader had seen
pub record FindsJournal (slots : ℕ) (v : View) (journal : List Write) : Type 0 where
  pub grows : take (length v.seen) journal ≡ v.seen
  pub replay : replays slots journal ≡ true

module _ {P : Type 0} where
  -- The try found that another reader has the turn. In a table of one reader it never does.
  pub record MeetsTurn (plan : Plan P) (number : ℕ) (v v' : View) (holder : ℕ) : Type 0 where
    pub view : v' ≡ was_refused (Some holder) v
    pub other : holder ≢ number
    pub inside : holder < plan.readers
    pub several : 1 < plan.readers

-- the reader met the turn so often, and the holder whom it met last
pub record WaitsForTurn (v v' : View) : Type 0 where
  pub often : ℕ
  pub holder : Option ℕ
  pub view : v' ≡ record v { refused = v.refused + often; holder = holder }

-- the reader met the turn some number of times, and from there the fact holds
abbrev pub AfterWait : View → (View → Type 0) → Type 0
AfterWait v fact = (w : View) × WaitsForTurn v w × fact w

-- ---- lists ----

module _ {P H : Type 0} (home : P → H) (name_of : H → ℕ → List ℕ) where
  -- the listing is the list after the journal that the turn found, newest first
  pub record Lists (plan : Plan P) (v v' : View) (listing : Listing) : Type 0 where
    pub journal : List Write
    pub found : FindsJournal plan.slots v journal
    pub view : v' ≡ gave_turn (got_turn journal v)
    pub w : listing.w ≡ length journal
    pub rows : listing.rows.items ≡ rows_of (book_of name_of (home plan.first) plan.slots plan.room journal)

-- ---- erases ----

-- the versions that are listed after these writes
abbrev pub listed_after : ℕ → List Write → List Edition
listed_after slots journal = (state_after slots journal).listed

-- What an erase after this number comes to by this journal, for a reader that may still make so many writes. The first
-- reason that holds is told.
abbrev pub erase_answer : ℕ → List Write → ℕ → ℕ → Result Erased EraseWhy
erase_answer slots journal allowance number =
    let listed = listed_after slots journal in let w = length journal in
    if not (is_listed number listed) then Err (erase.NotListed w)
    else (if greatest_below number listed == 0 then Err (erase.Nothing w)
    else (if allowance == 0 then Err (erase.JournalFull w)
    else Ok record { w = w + 1; gone = greatest_below number listed }))

-- what the reader that has the turn knows after an erase with this answer
abbrev pub view_after_erase : ℕ → ℕ → View → Result Erased EraseWhy → View
view_after_erase by number v (Ok erased) = stored record { by = by; seq = length v.own + 1; change = Erase number erased.gone } v
view_after_erase by number v (Err why) = v

-- the erase of the version behind that of this number, by the journal that the turn found
pub record Erases (slots by number : ℕ) (v v' : View) (answer : Result Erased EraseWhy) : Type 0 where
  pub journal : List Write
  pub found : FindsJournal slots v journal
  pub is : answer ≡ erase_answer slots journal v.allowance number
  pub view : v' ≡ gave_turn (view_after_erase by number (got_turn journal v) answer)

-- the same, or another reader has the turn
abbrev pub TriesErase : {P : Type 0} → Plan P → ℕ → ℕ → View → View → Result Erased EraseWhy → Type 0
TriesErase plan by number v v' (Err (erase.Busy holder)) = MeetsTurn plan by v v' holder
TriesErase plan by number v v' (Err (erase.NotListed w)) = Erases plan.slots by number v v' (Err (erase.NotListed w))
TriesErase plan by number v v' (Err (erase.Nothing w)) = Erases plan.slots by number v v' (Err (erase.Nothing w))
TriesErase plan by number v v' (Err (erase.JournalFull w)) = Erases plan.slots by number v v' (Err (erase.JournalFull w))
TriesErase plan by number v v' (Ok erased) = Erases plan.slots by number v v' (Ok erased)

-- ---- pushes ----

-- the slots below this one in which nothing listed is, rising
abbrev pub unlisted_below : ℕ → List Write → ℕ → List ℕ
unlisted_below slots journal slot = filter (λ other. not (is_taken slots journal other)) (range_with_len 0 slot)

-- Of a reader that has the turn: its claims of all unlisted slots below this one found them pinned. Each was the front's
-- slot once, not before the floor. In a table of one reader that reader has a handle at each.
pub record FoundPinned (slots readers : ℕ) (v : View) (slot : ℕ) : Type 0 where
  pub fronts : (other : ℕ) → Contains (unlisted_below slots v.seen slot) other → WasFrontOnce slots v.seen v.floor (length v.seen) other
  pub alone : readers ≡ 1 → (other : ℕ) → Contains (unlisted_below slots v.seen slot) other → 0 < held_at other v

-- what the reader then knows
abbrev pub finding : ℕ → ℕ → View → View
finding slots slot v = record v { pinned = unlisted_below slots v.seen slot }

module _ {P H : Type 0} (home : P → H) (source : P → ℕ) (name_of : H → ℕ → List ℕ) where
  -- what a version of the table is called
  abbrev pub payload_name : P → List ℕ
  payload_name version = name_of (home version) (source version)

  -- the name of the front after these writes
  abbrev pub front_name : Plan P → List Write → List ℕ
  front_name plan journal = name_of (home plan.first) (source_of journal (front_number plan.slots journal))

  -- What follows is of a reader that has the turn, with what it knows when it has got it and before it gives it back.

  -- the front has the version's name
  pub record PushesSame (plan : Plan P) (v v' : View) (version : P) (w n : ℕ) : Type 0 where
    pub same : payload_name version ≡ front_name plan v.seen
    pub is_w : w ≡ length v.seen
    pub is_n : n ≡ front_number plan.slots v.seen
    pub view : v' ≡ v

  -- it hasn't, and the reader may make no write
  pub record PushesTooMany (plan : Plan P) (v v' : View) (version : P) (w : ℕ) : Type 0 where
    pub other : payload_name version ≢ front_name plan v.seen
    pub no_write : v.allowance ≡ 0
    pub is_w : w ≡ length v.seen
    pub view : v' ≡ v

  -- it may, and each slot is listed or was found pinned
  pub record PushesIntoFull (plan : Plan P) (v v' : View) (version : P) (w : ℕ) : Type 0 where
    pub other : payload_name version ≢ front_name plan v.seen
    pub some_write : 0 < v.allowance
    pub pinned : FoundPinned plan.slots plan.readers v plan.slots
    pub is_w : w ≡ length v.seen
    pub view : v' ≡ finding plan.slots plan.slots v

  -- the version went into the least unlisted slot that wasn't found pinned, in which the reader has no handle
  pub record PushesVersion (plan : Plan P) (by : ℕ) (v v' : View) (version : P) (pushed : Pushed) : Type 0 where
    pub other : payload_name version ≢ front_name plan v.seen
    pub some_write : 0 < v.allowance
    pub pinned : FoundPinned plan.slots plan.readers v pushed.slot
    pub inside : pushed.slot < plan.slots
    pub unlisted : is_taken plan.slots v.seen pushed.slot ≡ false
    pub free : held_at pushed.slot v ≡ 0
    pub is_w : pushed.w ≡ length v.seen + 1
    pub is_n : pushed.n ≡ front_number plan.slots v.seen + 1
    pub view : v' ≡ stored record { by = by; seq = length v.own + 1; change = Push pushed.n (source version) pushed.slot }
        (claiming pushed.slot (finding plan.slots pushed.slot v))

  -- what a push answers by the journal that its turn found
  abbrev pub PushAnswers : Plan P → ℕ → View → View → P → Result Pushed PushWhy → Type 0
  PushAnswers plan by v v' version (Ok pushed) = PushesVersion plan by v v' version pushed
  PushAnswers plan by v v' version (Err (push.Busy holder)) = ⊥
  PushAnswers plan by v v' version (Err (push.Same w n)) = PushesSame plan v v' version w n
  PushAnswers plan by v v' version (Err (push.JournalFull w)) = PushesTooMany plan v v' version w
  PushAnswers plan by v v' version (Err (push.Full w)) = PushesIntoFull plan v v' version w

  -- the push of this version in a turn, from before the turn until after it
  pub record Pushes (plan : Plan P) (by : ℕ) (v v' : View) (version : P) (answer : Result Pushed PushWhy) : Type 0 where
    pub journal : List Write
    pub found : FindsJournal plan.slots v journal
    pub after : View
    pub is : PushAnswers plan by (got_turn journal v) after version answer
    pub view : v' ≡ gave_turn after

  -- the push is refused, or another reader has the turn
  abbrev pub RefusesPush : Plan P → ℕ → View → View → P → PushWhy → Type 0
  RefusesPush plan by v v' version (push.Busy holder) = MeetsTurn plan by v v' holder
  RefusesPush plan by v v' version (push.Same w n) = Pushes plan by v v' version (Err (push.Same w n))
  RefusesPush plan by v v' version (push.JournalFull w) = Pushes plan by v v' version (Err (push.JournalFull w))
  RefusesPush plan by v v' version (push.Full w) = Pushes plan by v v' version (Err (push.Full w))

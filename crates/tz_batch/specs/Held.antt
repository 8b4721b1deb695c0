-- Which versions are held.
use Rattle.std.specs.Prelude.{◌≡◌, ℕ, ◌==◌, if◌then◌else◌, List, [], fold, Contains}
use Rattle.tz_script.specs.Holds.{holds_after}
use Rattle.tz_script.specs.declared.holds.OpenHold.{OpenHold}
use Rattle.tz_script.specs.declared.operation.Operation.{Operation}
use Rattle.pin_book.specs.Replay.{Edition}
use Rattle.tz_batch.specs.Batch.{Answered}
use Rattle.tz_batch.specs.Round.{Round, newest_at}

-- the holds of the round of that number that are open after one more operation; those of other rounds don't count
abbrev pub holds_in : ℕ → List OpenHold → Answered → List OpenHold
holds_in number holds here =
    if here.operation.round == number
    then holds_after here.operation.line here.operation.lane here.operation.op holds else holds

-- the holds of a round that are open behind these operations
abbrev pub open_holds : ℕ → List Answered → List OpenHold
open_holds number before = fold (holds_in number) [] before

-- one of the operations before began this hold, which is open in the round
pub record IsOpenHold (before : List Answered) (number : ℕ) (open_hold : OpenHold) (begun : Answered) : Type 0 where
  pub is_open : Contains (open_holds number before) open_hold
  pub is_before : Contains before begun
  pub line : begun.operation.line ≡ open_hold.line

-- The operation's lane holds this version by that name: it was at the front at the position where the hold began.
pub record IsHeldAs (round : Round) (before : List Answered) (operation : Operation) (name : List ℕ) (edition : Edition) : Type 0 where
  pub open_hold : OpenHold
  pub begun : Answered
  pub is : IsOpenHold before operation.round open_hold begun
  pub lane : open_hold.lane ≡ operation.lane
  pub name_is : open_hold.name ≡ name
  pub version : edition ≡ newest_at round begun.reply.w

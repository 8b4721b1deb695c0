-- What is left when a hold is dropped, and what is answered.
use Rattle.std.specs.Prelude.{◌≡◌, ℕ, List, Some, slice_get}
use Rattle.std.specs.List.{remove}
use Rattle.pin_core.specs.declared.entry.Entry.{Entry}
use Rattle.tz_batch.specs.Answering.{IsToldAs}
use Rattle.tz_batch.specs.Round.{Round, newest_at}
use Rattle.tz_batch.specs.declared.answer.Answer.{Answer}
use Rattle.tz_batch.specs.declared.answer.Answer.TheVariants as answers

-- the drop of a hold on what was at the front at a position
abbrev pub AnswersDropOf : Round → ℕ → Answer → Type 0
AnswersDropOf round position (answers.Dropped n slot) = IsToldAs (newest_at round position) n slot
AnswersDropOf round position _ = ⊥

-- the pins without this one, which is taken off where it stands
pub record IsLeft (entries : List Entry) (pin : Entry) (later : List Entry) : Type 0 where
  pub at : ℕ
  pub there : slice_get entries at ≡ Some pin
  pub is : later ≡ remove entries at

-- A batch: operations in so many lanes over some sources, in a list of so many slots, with their outcome.
use Rattle.std.specs.Prelude.{ℕ, nat_lt, Bool, true, false, ◌&&◌, List, [], ◌∷◌, Option, Some, None, count_by, slice_get}
use Rattle.tz_types.specs.declared.source.Source.{Source}
use Rattle.tz_specs.specs.Reads.{version_of}
use Rattle.tz_script.specs.declared.operation.Operation.{Operation}
use Rattle.tz_version.specs.declared.sources.Sources.{Sources}
use Rattle.pin_book.specs.Replay.{Edition}
use Rattle.pin_book.specs.declared.listed.Listed.{Listed}
use Rattle.tz_batch.specs.declared.answer.Answer.{Answer}
use Rattle.tz_batch.specs.declared.answer.Answer.TheVariants as answers
use Rattle.tz_batch.specs.declared.outcome.Outcome.{Outcome}
use Rattle.tz_batch.specs.declared.reply.Reply.{Reply}

pub record Batch : Type 0 where
  pub lanes : ℕ
  pub operations : List Operation
  pub sources : Sources
  pub slots : ℕ
  pub outcome : Outcome

-- an operation with its reply
pub record Answered : Type 0 where
  pub operation : Operation
  pub reply : Reply

-- operations with replies, each with the one in its place
abbrev pub each_answered : List Operation → List Reply → List Answered
each_answered [] replies = []
each_answered (operation ∷ operations) [] = []
each_answered (operation ∷ operations) (reply ∷ replies) =
    record { operation = operation; reply = reply } ∷ each_answered operations replies

-- the operations of a batch with their replies, in the order of the script
abbrev pub answered : Batch → List Answered
answered batch = each_answered batch.operations batch.outcome.replies

-- the name of the versions of the source at a place: its version text
abbrev pub name_of_source : Sources → ℕ → List ℕ
name_of_source sources src = by_source (slice_get sources.texts src)
  where
    by_source : Option Source → List ℕ
    by_source None = []
    by_source (Some source) = version_of source

-- a listed version with its name
abbrev pub row_of : Sources → Edition → Listed
row_of sources edition =
    record { n = edition.n; src = edition.src; slot = edition.slot; name = name_of_source sources edition.src }

-- the answer tells of a write
abbrev pub tells_write : Answer → Bool
tells_write (answers.Pushed n slot) = true
tells_write (answers.Erased n slot gone) = true
tells_write _ = false

-- the operation stands in a round before this one, and its reply tells of a write
abbrev pub is_write_before : ℕ → Answered → Bool
is_write_before round here = nat_lt here.operation.round round && tells_write here.reply.answer

-- the position from which a round starts: how many writes the replies of the rounds before it tell of
abbrev pub start_of : Batch → ℕ → ℕ
start_of batch round = count_by (is_write_before round) (answered batch)

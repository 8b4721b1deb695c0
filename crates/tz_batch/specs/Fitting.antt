-- What the types of an outcome keep: numbers that fit so many bits, and abbreviations without a newline. Laws say it as
-- a premise.
use Rattle.std.specs.Prelude.{ℕ, ◌<◌, ◌^◌, ◌==◌, Bool, not, List, length, ℤ, IsTrue}
use Rattle.std.specs.List.{All, list_all}
use Rattle.jiff_core.specs.Calendar.{IsWithin}
use Rattle.tz_types.specs.declared.range.SysInfo.{SysInfo}
use Rattle.tz_types.specs.declared.range.LocalInfo.{LocalInfo}
use Rattle.tz_types.specs.declared.range.LocalInfo.TheVariants.{Unique, Nonexistent, Ambiguous}
use Rattle.tz_windows.specs.declared.scan.Scan.{Scan}
use Rattle.pin_book.specs.declared.listed.Listed.{Listed}
use Rattle.pin_book.specs.declared.write.Change.{Change}
use Rattle.pin_book.specs.declared.write.Change.TheVariants.{Push, Erase}
use Rattle.pin_book.specs.declared.write.Write.{Write}
use Rattle.tz_batch.specs.OutcomeText.{answer_text}
use Rattle.tz_batch.specs.declared.answer.Answer.{Answer}
use Rattle.tz_batch.specs.declared.answer.Answer.TheVariants as answers
use Rattle.tz_lookup.specs.declared.found.Found.{Found}
use Rattle.tz_lookup.specs.declared.found.Found.TheVariants as found
use Rattle.tz_batch.specs.declared.outcome.Outcome.{Outcome}
use Rattle.tz_batch.specs.declared.reply.Reply.{Reply}

-- the number fits 32 bits
abbrev pub FitsWord : ℕ → Type 0
FitsWord number = number < 2 ^ 32

abbrev pub FitsChange : Change → Type 0
FitsChange (Push n src slot) = FitsWord n × FitsWord src × FitsWord slot
FitsChange (Erase after gone) = FitsWord after × FitsWord gone

-- the numbers of a write
pub record FitsWrite (write : Write) : Type 0 where
  pub by : FitsWord write.by
  pub seq : FitsWord write.seq
  pub change : FitsChange write.change

-- the number fits 64 bits with its sign
abbrev pub FitsCount : ℤ → Type 0
FitsCount number = IsWithin (2 ^ 63) number

-- no byte of the text is a newline
abbrev pub is_one_line : List ℕ → Bool
is_one_line text = list_all (λ byte. not (byte == 10)) text

-- the numbers of a range, and its abbreviation
pub record FitsRange (range : SysInfo) : Type 0 where
  pub begin : FitsCount range.begin
  pub end : FitsCount range.end
  pub offset : FitsCount range.offset
  pub save : FitsCount range.save
  pub name : IsTrue (is_one_line range.abbrev)

-- the ranges of a local info
abbrev pub FitsLocal : LocalInfo → Type 0
FitsLocal (Unique range) = FitsRange range
FitsLocal (Nonexistent first second) = FitsRange first × FitsRange second
FitsLocal (Ambiguous first second) = FitsRange first × FitsRange second

-- the numbers of a scan
pub record FitsScan (scan : Scan) : Type 0 where
  pub inside : FitsWord scan.inside
  pub offsets : FitsCount scan.offsets
  pub changes : FitsWord scan.changes

-- what is found
abbrev pub FitsFound : Found → Type 0
FitsFound (found.Info range) = FitsRange range
FitsFound (found.Local info) = FitsLocal info
FitsFound (found.Sys t) = FitsCount t
FitsFound (found.Undecided info) = FitsLocal info
FitsFound (found.Scan scan) = FitsScan scan
FitsFound (found.Clock count) = FitsCount count
FitsFound (found.Leap info) = FitsCount info.elapsed
FitsFound found.NoZone = Unit {0}
FitsFound found.Range = Unit {0}

-- the numbers of a row
pub record FitsRow (row : Listed) : Type 0 where
  pub n : FitsWord row.n
  pub src : FitsWord row.src
  pub slot : FitsWord row.slot

-- what is answered
abbrev pub FitsAnswer : Answer → Type 0
FitsAnswer (answers.Front n slot) = FitsWord n × FitsWord slot
FitsAnswer (answers.Held n slot) = FitsWord n × FitsWord slot
FitsAnswer (answers.Dropped n slot) = FitsWord n × FitsWord slot
FitsAnswer (answers.Pushed n slot) = FitsWord n × FitsWord slot
FitsAnswer (answers.Same n) = FitsWord n
FitsAnswer answers.Full = Unit {0}
FitsAnswer (answers.Refused file line cause) = FitsWord file × FitsWord line × FitsWord cause
FitsAnswer (answers.Erased n slot gone) = FitsWord n × FitsWord slot × FitsWord gone
FitsAnswer (answers.Nothing n slot) = FitsWord n × FitsWord slot
FitsAnswer (answers.NotListed n slot) = FitsWord n × FitsWord slot
FitsAnswer (answers.Listed listing) = All FitsRow listing.rows
FitsAnswer (answers.On n slot found) = FitsWord n × FitsWord slot × FitsFound found

-- the line and the position of a reply, and its answer
pub record FitsReply (reply : Reply) : Type 0 where
  pub line : FitsWord reply.line
  pub position : FitsWord reply.w
  pub answer : FitsAnswer reply.answer

-- an outcome
pub record FitsOutcome (outcome : Outcome) : Type 0 where
  pub few_writes : FitsWord (length outcome.journal)
  pub few_replies : FitsWord (length outcome.replies)
  pub writes : All FitsWrite outcome.journal
  pub replies : All FitsReply outcome.replies

-- what a reply's line tells: the operation's line, the position, and the text of the answer
pub record ReplyTold : Type 0 where
  pub line : ℕ
  pub w : ℕ
  pub text : List ℕ

abbrev pub reply_told : Reply → ReplyTold
reply_told reply = record { line = reply.line; w = reply.w; text = answer_text reply.answer }

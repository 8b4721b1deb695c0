-- How an outcome is printed, line by line. All numbers are decimal, and each line ends with a newline.
use Rattle.std.specs.Prelude.{ℕ, zero, suc, ◌+◌, List, [], ◌∷◌, ◌++◌, length, codes}
use Rattle.std.specs.List.{flat_map}
use Rattle.std.specs.Fmt.{decimal}
use Rattle.pin_book.specs.declared.listed.Listed.{Listed}
use Rattle.pin_book.specs.declared.write.Change.{Change}
use Rattle.pin_book.specs.declared.write.Change.TheVariants.{Push, Erase}
use Rattle.pin_book.specs.declared.write.Write.{Write}
use Rattle.tz_lookup.specs.Found.{after_space, found_text}
use Rattle.tz_batch.specs.declared.answer.Answer.{Answer}
use Rattle.tz_batch.specs.declared.answer.Answer.TheVariants as answers
use Rattle.tz_lookup.specs.declared.found.Found.{Found}
use Rattle.tz_lookup.specs.declared.found.Found.TheVariants as found
use Rattle.tz_batch.specs.declared.outcome.Outcome.{Outcome}
use Rattle.tz_batch.specs.declared.reply.Reply.{Reply}

-- a slash and a number
abbrev pub after_slash : ℕ → List ℕ
after_slash number = codes "/" ++ decimal number

-- `push N SRC SLOT` or `erase AFTER GONE`
unfoldable pub change_text : Change → List ℕ
change_text (Push n src slot) = codes "push" ++ after_space n ++ after_space src ++ after_space slot
change_text (Erase after gone) = codes "erase" ++ after_space after ++ after_space gone

-- `W LANE SEQ` and what the write changes; the lane is the reader's number plus 1
unfoldable pub write_line : ℕ → Write → List ℕ
write_line w write =
    decimal w ++ after_space (write.by + 1) ++ after_space write.seq
    ++ codes " " ++ change_text write.change ++ codes "\n"

-- the lines of writes, the first of which is numbered so
abbrev pub write_lines : ℕ → List Write → List ℕ
write_lines w [] = []
write_lines w (write ∷ later) = write_line w write ++ write_lines (suc w) later

-- the word before what is found, where its spelling has none of its own
abbrev pub finding_word : Found → List ℕ
finding_word (found.Info range) = codes "info "
finding_word (found.Clock count) = codes "clock "
finding_word (found.Leap info) = codes "clock "
finding_word _ = []

-- what is found in a version
abbrev pub finding_text : Found → List ℕ
finding_text what = finding_word what ++ found_text what

-- a version's number and its slot
abbrev pub version_text : ℕ → ℕ → List ℕ
version_text n slot = decimal n ++ after_space slot

-- ` in F` where the source has several files; 0 stands for the one that there is
abbrev pub of_several : ℕ → List ℕ
of_several zero = []
of_several (suc file) = codes " in" ++ after_space (suc file)

-- `refused LINE CAUSE`, and the file where there are several
unfoldable pub refusal_text : ℕ → ℕ → ℕ → List ℕ
refusal_text file line cause = codes "refused" ++ after_space line ++ after_space cause ++ of_several file

-- ` N/SRC/S` of a listed version
unfoldable pub row_text : Listed → List ℕ
row_text row = after_space row.n ++ after_slash row.src ++ after_slash row.slot

-- what is answered to an operation
abbrev pub answer_text : Answer → List ℕ
answer_text (answers.Front n slot) = codes "front " ++ version_text n slot
answer_text (answers.Held n slot) = codes "held " ++ version_text n slot
answer_text (answers.Dropped n slot) = codes "dropped " ++ version_text n slot
answer_text (answers.Pushed n slot) = codes "pushed " ++ version_text n slot
answer_text (answers.Same n) = codes "same" ++ after_space n
answer_text answers.Full = codes "full"
answer_text (answers.Refused file line cause) = refusal_text file line cause
answer_text (answers.Erased n slot gone) = version_text n slot ++ codes " erased" ++ after_space gone
answer_text (answers.Nothing n slot) = version_text n slot ++ codes " nothing"
answer_text (answers.NotListed n slot) = version_text n slot ++ codes " notlisted"
answer_text (answers.Listed listing) = codes "list" ++ flat_map row_text listing.rows
answer_text (answers.On n slot found) = version_text n slot ++ codes " " ++ finding_text found

-- `LINE @W` and the answer: the operation's line in the script, and the position
unfoldable pub reply_line : Reply → List ℕ
reply_line reply =
    decimal reply.line ++ codes " @" ++ decimal reply.w ++ codes " " ++ answer_text reply.answer ++ codes "\n"

-- a word and a count
abbrev pub count_line : List ℕ → ℕ → List ℕ
count_line word count = word ++ decimal count ++ codes "\n"

-- the writes of the journal, numbered from 1, and the replies in the order of the script, each with their count above
-- them, and a last line
unfoldable pub outcome_text : Outcome → List ℕ
outcome_text outcome =
    count_line (codes "journal ") (length outcome.journal) ++ write_lines 1 outcome.journal
    ++ count_line (codes "replies ") (length outcome.replies) ++ flat_map reply_line outcome.replies ++ codes "end\n"

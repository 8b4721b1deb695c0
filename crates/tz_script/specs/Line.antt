-- What one line of a script says, by its words and by what stands before it, or its least cause.
use Rattle.std.specs.Prelude.{ℕ, ◌==◌, nat_le, Bool, true, false, not, ◌&&◌, ◌||◌, if◌then◌else◌, List, [], ◌∷◌, ◌++◌, length, codes, Option, Some, None, option_map, Result, Ok, Err}
use Rattle.std.specs.Option.{is_none}
use Rattle.tz_specs.specs.Choice.{◌>>=◌}
use Rattle.tz_specs.specs.Value.{is_exactly}
use Rattle.tz_script.specs.Cause.{least_script_cause}
use Rattle.tz_script.specs.Contents.{ScriptContents}
use Rattle.tz_script.specs.FirstWord.{first, ends}
use Rattle.tz_script.specs.Holds.{is_open, is_full}
use Rattle.tz_script.specs.declared.limit.TheConstants.{MOST_ROUNDS, MOST_OPERATIONS, MOST_CHANGES}
use Rattle.tz_script.specs.Operand.{counted_of, lanes_word_of, lane_count_of}
use Rattle.tz_script.specs.Operation.{hold_begun, hold_needed, source_asked, is_change}
use Rattle.tz_script.specs.OpWords.{keyword_first, op_said}
use Rattle.tz_script.specs.Words.{line_words, is_bad_line}
use Rattle.tz_script.specs.declared.cause.ScriptCause.{ScriptCause}
use Rattle.tz_script.specs.declared.cause.ScriptCause.TheVariants as causes
use Rattle.tz_script.specs.declared.holds.OpenHold.{OpenHold}
use Rattle.tz_script.specs.declared.operation.Op.{Op}
use Rattle.tz_script.specs.declared.statement.Statement.{Statement}
use Rattle.tz_script.specs.declared.statement.Statement.TheVariants as statements

-- The first line that isn't blank: `lanes N`.

-- how many lanes there are, by the words `lanes N`
unfoldable pub lanes_said : List (List ℕ) → Option ℕ
lanes_said words = first lanes_word_of words >>= λ word. first lane_count_of word.1 >>= λ lanes. ends lanes.0 lanes.1

-- its cause
abbrev pub first_causes : List (List ℕ) → List (ScriptCause × Bool)
first_causes words = (causes.Lanes, is_none (lanes_said words)) ∷ []

-- A later line `round`, by the words behind it.

-- there is a word
abbrev pub has_word : List (List ℕ) → Bool
has_word [] = false
has_word (word ∷ words) = true

-- words follow, or it is the 1,025th round
abbrev pub round_causes : ScriptContents → List (List ℕ) → List (ScriptCause × Bool)
round_causes contents words =
    (causes.Operand, has_word words) ∷ (causes.Limit, nat_le MOST_ROUNDS contents.rounds) ∷ []

-- An operation, by the number of lanes, the word of its lane and the words behind it.

-- its words say no operation, or it stands before the first round; its operands aren't those of the operation
abbrev pub op_causes : ScriptContents → List (List ℕ) → List (ScriptCause × Bool)
op_causes contents words =
    (causes.Op, is_none (keyword_first words) || (contents.rounds == 0)) ∷ (causes.Operand, is_none (op_said words)) ∷ []

-- a hold of the name that begins is open
abbrev pub is_held_twice : ℕ → List OpenHold → Option (List ℕ) → Bool
is_held_twice lane holds None = false
is_held_twice lane holds (Some name) = is_open lane name holds

-- no hold is open of the name that has to be
abbrev pub is_unknown : ℕ → List OpenHold → Option (List ℕ) → Bool
is_unknown lane holds None = false
is_unknown lane holds (Some name) = not (is_open lane name holds)

-- seven holds are open where another begins
abbrev pub is_crowded : ℕ → List OpenHold → Option (List ℕ) → Bool
is_crowded lane holds None = false
is_crowded lane holds (Some name) = not (is_open lane name holds) && is_full lane holds

-- there is no text of the number
abbrev pub is_missing : ℕ → Option ℕ → Bool
is_missing sources None = false
is_missing sources (Some src) = nat_le sources src

-- it is the 65,537th operation, or the 4,097th reload or erasure
abbrev pub is_late : ScriptContents → Op → Bool
is_late contents op = nat_le MOST_OPERATIONS (length contents.operations) || (is_change op && nat_le MOST_CHANGES contents.changes)

-- the causes of an operation of a lane
abbrev pub standing_causes : ℕ → ScriptContents → ℕ → Op → List (ScriptCause × Bool)
standing_causes sources contents lane op =
    (causes.HoldTwice, is_held_twice lane contents.holds (hold_begun op))
    ∷ (causes.HoldUnknown, is_unknown lane contents.holds (hold_needed op))
    ∷ (causes.TooManyHolds, is_crowded lane contents.holds (hold_begun op))
    ∷ (causes.SourceIndex, is_missing sources (source_asked op))
    ∷ (causes.Limit, is_late contents op) ∷ []

-- Where the words name no lane or say no operation, the holds, the texts and the limits aren't asked.
abbrev pub lane_causes : ℕ → ScriptContents → Option ℕ → Option Op → List (ScriptCause × Bool)
lane_causes sources contents None op = (causes.Lanes, true) ∷ []
lane_causes sources contents (Some lane) None = []
lane_causes sources contents (Some lane) (Some op) = standing_causes sources contents lane op

-- the lane that a word names, of so many
abbrev pub lane_of : ℕ → List ℕ → Option ℕ
lane_of lanes word = counted_of 1 lanes word

-- the causes of an operation, in rising order
abbrev pub operation_causes : ℕ → ScriptContents → ℕ → List ℕ → List (List ℕ) → List (ScriptCause × Bool)
operation_causes sources contents lanes word words =
    op_causes contents words ++ lane_causes sources contents (lane_of lanes word) (op_said words)

-- the operation and its lane
abbrev pub operation_said : ℕ → List ℕ → List (List ℕ) → Option Statement
operation_said lanes word words =
    lane_of lanes word >>= λ lane. op_said words >>= λ op. Some (statements.Operation lane op)

-- Any line.

-- the word `round`
abbrev pub is_round : List ℕ → Bool
is_round word = is_exactly word (codes "round")

-- the causes of a line's words, by the number of lanes, once it is said; a blank line has none
abbrev pub word_causes : ℕ → ScriptContents → Option ℕ → List (List ℕ) → List (ScriptCause × Bool)
word_causes sources contents lanes [] = []
word_causes sources contents None (word ∷ words) = first_causes (word ∷ words)
word_causes sources contents (Some lanes) (word ∷ words) =
    if is_round word then round_causes contents words else operation_causes sources contents lanes word words

-- what the words say
abbrev pub words_say : Option ℕ → List (List ℕ) → Option Statement
words_say lanes [] = None
words_say None (word ∷ words) = option_map statements.Lanes (lanes_said (word ∷ words))
words_say (Some lanes) (word ∷ words) = if is_round word then Some statements.Round else operation_said lanes word words

-- the causes of a line, in rising order
abbrev pub script_line_causes : ℕ → ScriptContents → List ℕ → List (ScriptCause × Bool)
script_line_causes sources contents line =
    (causes.Line, is_bad_line line) ∷ word_causes sources contents contents.lanes (line_words line)

-- the cause, where there is one
abbrev pub unless_refused : {A : Type 0} → Option ScriptCause → A → Result A ScriptCause
unless_refused None x = Ok x
unless_refused (Some cause) x = Err cause

-- the least cause of a line, or else what it says; a blank line says nothing
unfoldable pub script_line_says : ℕ → ScriptContents → List ℕ → Result (Option Statement) ScriptCause
script_line_says sources contents line =
    unless_refused (least_script_cause (script_line_causes sources contents line)) (words_say contents.lanes (line_words line))

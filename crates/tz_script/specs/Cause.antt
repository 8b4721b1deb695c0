-- Why scripts are refused: the number by which each cause is told, what is said of it in words, and the least of several.
use Rattle.std.specs.Prelude.{ℕ, ◌==◌, Bool, if◌then◌else◌, List, [], ◌∷◌, find, codes, Option, Some, None}
use Rattle.tz_types.specs.declared.fault.LineFault.{LineFault}
use Rattle.tz_script.specs.declared.cause.ScriptCause.{ScriptCause}
use Rattle.tz_script.specs.declared.cause.ScriptCause.TheVariants as causes

-- the number by which a cause is told
abbrev pub script_cause_number : ScriptCause → ℕ
script_cause_number causes.Line = 1
script_cause_number causes.Op = 2
script_cause_number causes.Operand = 3
script_cause_number causes.HoldTwice = 4
script_cause_number causes.HoldUnknown = 5
script_cause_number causes.HoldOpen = 6
script_cause_number causes.TooManyHolds = 7
script_cause_number causes.Lanes = 8
script_cause_number causes.SourceIndex = 9
script_cause_number causes.Limit = 10

-- every cause, by its number
abbrev pub all_script_causes : List ScriptCause
all_script_causes =
    causes.Line ∷
    causes.Op ∷
    causes.Operand ∷
    causes.HoldTwice ∷
    causes.HoldUnknown ∷
    causes.HoldOpen ∷
    causes.TooManyHolds ∷
    causes.Lanes ∷
    causes.SourceIndex ∷
    causes.Limit ∷
    []

-- the cause of a number, if there is one
abbrev pub script_cause_numbered : ℕ → Option ScriptCause
script_cause_numbered number = find (λ cause. script_cause_number cause == number) all_script_causes

-- what `{}` prints of a cause: what is wrong, and behind the colon what is wanted
abbrev pub script_cause_text : ScriptCause → List ℕ
script_cause_text causes.Line = codes "bad line: at most 512 bytes with its newline, and outside of a comment visible ASCII and white space alone"
script_cause_text causes.Op = codes "no operation: look, hold, drop, info, local, sys, scan, clock, reload, erase or list, behind the first round"
script_cause_text causes.Operand = codes "bad operands: as many as the operation takes, each of its form; none behind round"
script_cause_text causes.HoldTwice = codes "open hold: one is dropped before another takes its name"
script_cause_text causes.HoldUnknown = codes "no such hold: one of that name is open in the lane"
script_cause_text causes.HoldOpen = codes "hold left open: it is dropped in its round"
script_cause_text causes.TooManyHolds = codes "too many holds: at most seven are open in a lane"
script_cause_text causes.Lanes = codes "no lane: the first line is lanes N, and an operation begins with the number of its lane"
script_cause_text causes.SourceIndex = codes "no such text: a number below the number of texts"
script_cause_text causes.Limit = codes "too much: at most 65536 operations, 1024 rounds, and 4096 reloads and erasures"

-- A list of causes is in rising order, each with whether it holds. The first that holds is the least.
abbrev pub least_script_cause : List (ScriptCause × Bool) → Option ScriptCause
least_script_cause [] = None
least_script_cause (row ∷ rows) = if row.1 then Some row.0 else least_script_cause rows

-- why a script is refused, and at which line
abbrev pub script_fault_at : ℕ → ScriptCause → LineFault
script_fault_at number cause = record { line = number; cause = script_cause_number cause }

-- The forms of the command line.
use Rattle.std.specs.Prelude.{◌≡◌, ℕ, ◌⊎◌, List}
use Rattle.tz_words.specs.BatchCommand.{BatchCommand, IsBatchCommand}
use Rattle.tz_words.specs.Command.{Command, Info, Local, Moves, Days, Tzif, Dump, Check, Clock, IsCommand}
use Rattle.tz_words.specs.declared.form.Form.{Form}
use Rattle.tz_words.specs.declared.form.Form.TheVariants as forms

-- the form of a command other than `batch`
abbrev pub command_form : Command → Form
command_form (Info text zone instant) = forms.Info
command_form (Local text zone l choice) = forms.Local
command_form (Moves text zone from to) = forms.Moves
command_form (Days text zone first count) = forms.Days
command_form (Tzif text zone first last) = forms.Tzif
command_form (Dump text from to zone) = forms.Dump
command_form (Check text) = forms.Check
command_form (Clock leaps conversion count) = forms.Clock

-- the words are those of a command of that form
abbrev pub HasForm : List (List ℕ) → Form → Type 0
HasForm words form =
    ((command : Command) × IsCommand words command × (command_form command ≡ form))
    ⊎ ((batch : BatchCommand) × IsBatchCommand words batch × (forms.Batch ≡ form))

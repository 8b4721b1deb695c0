-- The words that say what is asked of a local time.
use Rattle.std.specs.Prelude.{ℕ, List, codes}
use Rattle.tz_lookup.specs.declared.choice.Choice.{Choice}
use Rattle.tz_lookup.specs.declared.choice.Choice.TheVariants as choices

-- the word that stands for a choice
abbrev pub choice_word : Choice → List ℕ
choice_word choices.None = codes "none"
choice_word choices.Strict = codes "strict"
choice_word choices.Earliest = codes "earliest"
choice_word choices.Latest = codes "latest"

use Rattle.std.proofs.Common.{◌≡◌, true, take}
use Rattle.tz_words.specs.BatchCommand.{name_texts}
use Rattle.tz_words.proofs.batch_line.name_texts.Given as goal

-- each word so far names a text
abbrev pub invariant-loop-word : goal.invariant-loop-word
invariant-loop-word l = name_texts (take l.word-index l.words) ≡ true

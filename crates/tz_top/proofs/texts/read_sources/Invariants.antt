use Rattle.std.proofs.Common.{◌≡◌, take}
use Rattle.tz_words.specs.BatchCommand.{texts_in}
use Rattle.tz_top.specs.BatchTexts.{AreReadSources}
use Rattle.tz_top.proofs.texts.read_sources.Given as goal

-- the sources so far were read, and no file of them failed
abbrev pub invariant-loop-word : goal.invariant-loop-word
invariant-loop-word g l = record {
  have : AreReadSources (g.F.Files.state l.initial.files) (texts_in (take l.word-index l.words)) l.sources;
  unharmed : g.F.Files.state l.files ≡ g.F.Files.state l.initial.files;
}

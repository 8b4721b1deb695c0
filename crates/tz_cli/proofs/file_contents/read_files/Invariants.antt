use Rattle.std.proofs.Common.{◌≡◌}
use Rattle.tz_words.specs.NamedText.{parts_of, parts_left}
use Rattle.tz_words.proofs.Parts.{bytes_left}
use Rattle.tz_cli.proofs.Contents.{HasRead}
use Rattle.tz_cli.proofs.file_contents.read_files.Given as goal

-- first files were read, and none of them failed
abbrev pub invariant-loop-rest : goal.invariant-loop-rest
invariant-loop-rest g l = record {
  has : HasRead (g.F.Files.state l.initial.files) (parts_of l.names) (parts_left l.rest) l.contents l.left;
  unharmed : g.F.Files.state l.files ≡ g.F.Files.state l.initial.files;
}

abbrev pub decreases-loop-rest : goal.decreases-loop-rest
decreases-loop-rest g l = bytes_left l.rest

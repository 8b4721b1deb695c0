use Rattle.std.proofs.Common.{None, ◌∙◌, arith}
use Rattle.std.proofs.lemmas.Str.Pattern.{strip_prefix_char}
use Rattle.tz_words.proofs.Parts.{files_alone}
use Rattle.tz_words.proofs.text_word.TextWord.new.Goals as goal

pub returns-in-None : goal.returns-in-None
returns-in-None c =
    c.with_names.ensures ∙ files_alone c.args.word.now (strip_prefix_char 0x3d c.args.word.now None c.in-None.ensures.cases (omega arith))

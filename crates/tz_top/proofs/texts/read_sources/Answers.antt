use Rattle.std.proofs.Common.{◌≡◌, ◌<◌, ◌∷◌, ◌++◌, [], length, take, drop, ap, ◌∙◌, subst, rules, ◌+◌}
use Rattle.tz_io.specs.Files.{FilesState}
use Rattle.tz_words.specs.NamedText.{named_text_of}
use Rattle.tz_words.specs.BatchCommand.{IsTextOf, texts_in}
use Rattle.tz_cli.specs.Refusal.{RefusesContents}
use Rattle.tz_top.specs.BatchTexts.{text_groups, IsReadSource}
use Rattle.tz_top.proofs.Groups.{group_refused}
use Rattle.tz_top.proofs.SourcesRead.{text_at, groups_at, next_source}
use Rattle.tz_top.proofs.texts.read_sources.Goals as goal

pub returns-in-Err-clause-refused : goal.returns-in-Err-clause-refused
returns-in-Err-clause-refused g c =
    let before = g.F.Files.state c.args.files.now in
    let after = g.F.Files.state c.read_source.new.files in
    let words = c.args.words.now in
    let i = c.loop-word.word-index in
    let word = c.word-item.result in
    let kept = c.loop-word.invariant in
    let within : i < length words = search rules in
    let text = text_at words i word c.requires within c.word-item.is in
    let is : IsTextOf c.as_str.result.now text.0 = ap named_text_of c.as_str.ensures.value ∙ text.1 in
    let refused = subst (λ (files : FilesState). RefusesContents files after text.0.files c.in-Err.refusal) kept.unharmed (c.in-Err.ensures.refused text.0 is) in
    group_refused before after (text_groups (texts_in words)) (text_groups (texts_in (take i words))) (text_groups (texts_in (drop (i + 1) words))) kept.have.contents text.0.files c.in-Err.refusal (groups_at words i word text.0 within c.word-item.is text.1) kept.have.read kept.have.few_bytes refused

pub loop-word-preserved : goal.loop-word-preserved
loop-word-preserved g c =
    let before = g.F.Files.state c.args.files.now in
    let words = c.args.words.now in
    let i = c.loop-word.word-index in
    let word = c.word-item.result in
    let source = c.in-Ok.source in
    let kept = c.loop-word.invariant in
    let within : i < length words = search rules in
    let text = text_at words i word c.requires within c.word-item.is in
    let is : IsTextOf c.as_str.result.now text.0 = ap named_text_of c.as_str.ensures.value ∙ text.1 in
    let one : IsReadSource before text.0 source = subst (λ (files : FilesState). IsReadSource files text.0 source) kept.unharmed (c.in-Ok.ensures.source text.0 is) in
    let pushed : c.push.new.self ≡ c.loop-word.sources ++ source ∷ [] = search rules in
    record {
      have = rw pushed (next_source before words i word text.0 c.loop-word.sources source within c.word-item.is text.1 kept.have one);
      unharmed = c.in-Ok.ensures.unharmed ∙ kept.unharmed;
    }

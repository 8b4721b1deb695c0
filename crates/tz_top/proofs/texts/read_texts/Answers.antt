use Rattle.std.proofs.Common.{◌≡◌, [], ◌∷◌, length, refl, ap, ◌∙◌, subst, arith}
use Rattle.tz_types.specs.Source.{bytes_together}
use Rattle.tz_words.specs.Command.{leap_files, batch_meant}
use Rattle.tz_io.specs.Files.{FilesState}
use Rattle.tz_cli.specs.Outcome.{MayReadAll}
use Rattle.tz_cli.specs.Refusal.{RefusesContents}
use Rattle.tz_top.specs.Refusal.{RefusesGroups}
use Rattle.tz_cli.proofs.Contents.{concat_long}
use Rattle.tz_top.specs.BatchTexts.{text_groups, file_groups, AreReadSources}
use Rattle.tz_top.proofs.Groups.{group_refused, later_refused}
use Rattle.tz_top.proofs.SourcesRead.{some_sources, texts_read}
use Rattle.tz_top.proofs.texts.read_texts.Goals as goal

pub returns-in-Err-clause-refused : goal.returns-in-Err-clause-refused
returns-in-Err-clause-refused g c =
    let before = g.F.Files.state c.args.files.now in
    let batch = batch_meant c.args.line in
    let after = g.F.Files.state c.read_one.new.files in
    group_refused before after (file_groups batch) [] (leap_files batch.leaps ∷ text_groups batch.texts) [] (batch.script ∷ []) c.in-Err.refusal refl tt refl c.in-Err.ensures.refused

pub returns-in-Err-read_leaps-clause-refused : goal.returns-in-Err-read_leaps-clause-refused
returns-in-Err-read_leaps-clause-refused g c =
    let before = g.F.Files.state c.args.files.now in
    let batch = batch_meant c.args.line in
    let after = g.F.Files.state c.read_leaps.new.files in
    let refusal = c.in-Err-read_leaps.refusal in
    let first = c.in-Ok.ensures in
    let refused = subst (λ (files : FilesState). RefusesContents files after (leap_files batch.leaps) refusal) first.unharmed c.in-Err-read_leaps.ensures.refused in
    let leaps = group_refused before after (leap_files batch.leaps ∷ text_groups batch.texts) [] (text_groups batch.texts) [] (leap_files batch.leaps) refusal refl tt refl refused in
    later_refused before after (leap_files batch.leaps ∷ text_groups batch.texts) (batch.script ∷ []) c.in-Ok.contents refusal first.contents first.short leaps

pub returns-in-Err-read_sources-clause-refused : goal.returns-in-Err-read_sources-clause-refused
returns-in-Err-read_sources-clause-refused g c =
    let before = g.F.Files.state c.args.files.now in
    let batch = batch_meant c.args.line in
    let after = g.F.Files.state c.read_sources.new.files in
    let refusal = c.in-Err-read_sources.refusal in
    let first = c.in-Ok.ensures in
    let second = c.in-Ok-read_leaps.ensures in
    let read = subst (λ (files : FilesState). MayReadAll files (leap_files batch.leaps) c.in-Ok-read_leaps.contents) first.unharmed second.contents in
    let refused = subst (λ (files : FilesState). RefusesGroups files after (text_groups batch.texts) refusal) (second.unharmed ∙ first.unharmed) c.in-Err-read_sources.ensures.refused in
    let leaps = later_refused before after (text_groups batch.texts) (leap_files batch.leaps) c.in-Ok-read_leaps.contents refusal read second.short refused in
    later_refused before after (leap_files batch.leaps ∷ text_groups batch.texts) (batch.script ∷ []) c.in-Ok.contents refusal first.contents first.short leaps

pub invariant_of-result : goal.invariant_of-result
invariant_of-result g c =
    let range = some_sources (g.F.Files.state c.read_leaps.new.files) c.args.line.texts.now c.in-Ok-read_sources.texts c.args.line.texts_fit c.in-Ok-read_sources.ensures.sources in
    let long : length c.lone_text-leaps.result ≡ bytes_together c.in-Ok-read_leaps.contents = ap length c.lone_text-leaps.ensures ∙ concat_long c.in-Ok-read_leaps.contents in
    let short = c.in-Ok-read_leaps.ensures.short in
    record { some_text = range.0; few_texts = range.1; few_bytes = omega (arith, long, short) }

pub returns-clause-texts : goal.returns-clause-texts
returns-clause-texts g c =
    let before = g.F.Files.state c.args.files.now in
    let batch = batch_meant c.args.line in
    let first = c.in-Ok.ensures in
    let second = c.in-Ok-read_leaps.ensures in
    let read = subst (λ (files : FilesState). MayReadAll files (leap_files batch.leaps) c.in-Ok-read_leaps.contents) first.unharmed second.contents in
    let have = subst (λ (files : FilesState). AreReadSources files batch.texts c.in-Ok-read_sources.texts) (second.unharmed ∙ first.unharmed) c.in-Ok-read_sources.ensures.sources in
    texts_read before batch c.in-Ok.contents c.in-Ok-read_leaps.contents c.lone_text-script.result _ first.contents first.short c.lone_text-script.ensures read second.short c.lone_text-leaps.ensures have

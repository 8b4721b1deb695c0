use Rattle.std.proofs.Common.{◌≡◌, ◌∷◌, ◌++◌, ◌-◌, [], ◌∙◌, subst, arith, rules}
use Rattle.tz_io.specs.Files.{FilesState}
use Rattle.tz_words.specs.NamedText.{parts_of, parts_left}
use Rattle.tz_cli.specs.Outcome.{MayRead}
use Rattle.tz_cli.specs.Refusal.{RefusesFile}
use Rattle.tz_cli.proofs.Contents.{next_refused, next_read}
use Rattle.tz_cli.proofs.file_contents.read_files.Goals as goal

pub returns-in-Err-clause-refused : goal.returns-in-Err-clause-refused
returns-in-Err-clause-refused g c =
    let before = g.F.Files.state c.args.files.now in
    let after = g.F.Files.state c.read_file.new.files in
    let name = c.first_name.result.0.now in
    let later = parts_left c.first_name.result.1 in
    let same : parts_left c.loop-rest.rest ≡ name ∷ later = rw c.in-Some.is c.first_name.ensures.parts in
    let refused = subst (λ (files : FilesState). RefusesFile files after name c.loop-rest.left c.in-Err.refusal) c.loop-rest.invariant.unharmed c.in-Err.ensures.refused in
    next_refused before after (parts_of c.args.names.now) (parts_left c.loop-rest.rest) later c.loop-rest.contents c.loop-rest.left name c.in-Err.refusal c.loop-rest.invariant.has same refused

pub loop-rest-preserved : goal.loop-rest-preserved
loop-rest-preserved g c =
    let before = g.F.Files.state c.args.files.now in
    let name = c.first_name.result.0.now in
    let names = parts_of c.args.names.now in
    let later = parts_left c.first_name.result.1 in
    let content = c.in-Ok.content.items in
    let same : parts_left c.loop-rest.rest ≡ name ∷ later = rw c.in-Some.is c.first_name.ensures.parts in
    let may = subst (λ (files : FilesState). MayRead files name content) c.loop-rest.invariant.unharmed c.in-Ok.ensures.content in
    let pushed : c.push.new.self ≡ c.loop-rest.contents ++ content ∷ [] = search rules in
    let short = c.in-Ok.ensures.short in
    let count = c.len-left.ensures in
    record {
      has = rw pushed (next_read before names (parts_left c.loop-rest.rest) later c.loop-rest.contents c.loop-rest.left (c.loop-rest.left - c.len-left.result) name content c.loop-rest.invariant.has same may (omega (arith, short, count)));
      unharmed = c.in-Ok.ensures.unharmed ∙ c.loop-rest.invariant.unharmed;
    }

use Rattle.std.proofs.Common.{[], ◌∷◌, refl}
use Rattle.tz_types.specs.declared.limit.TheConstants.{MOST_BYTES}
use Rattle.tz_cli.proofs.Contents.{none_read, next_refused}
use Rattle.tz_cli.proofs.file_contents.read_one.Goals as goal

pub returns-in-Err-clause-refused : goal.returns-in-Err-clause-refused
returns-in-Err-clause-refused g c =
    let before = g.F.Files.state c.args.files.now in
    let names = c.args.name.now ∷ [] in
    next_refused before (g.F.Files.state c.read_file.new.files) names names [] [] MOST_BYTES c.args.name.now c.in-Err.refusal (none_read before names) refl c.in-Err.ensures.refused

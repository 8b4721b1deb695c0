use Rattle.std.proofs.Common.{◌≤◌, length, arith}
use Rattle.tz_cli.proofs.Contents.{may_read, too_large}
use Rattle.tz_cli.proofs.file_contents.read_file.Goals as goal

pub returns-then-len-left-clause-refused : goal.returns-then-len-left-clause-refused
returns-then-len-left-clause-refused g c =
    too_large (g.F.Files.state c.args.files.now) c.args.name.now c.args.left c.in-Ok.bytes.items c.in-Ok.ensures.bytes (omega arith)

pub returns-clause-content : goal.returns-clause-content
returns-clause-content g c =
    let short : length c.in-Ok.bytes.items ≤ c.args.left = omega arith in
    may_read (g.F.Files.state c.args.files.now) c.args.name.now c.args.left c.in-Ok.bytes.items c.in-Ok.ensures.bytes short

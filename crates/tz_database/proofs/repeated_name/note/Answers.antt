use Rattle.std.proofs.Common.{◌≡◌, Some, ap, ◌∙◌}
use Rattle.std.proofs.lemmas.Map.Text.{hash_map_updates_str}
use Rattle.tz_database.specs.NameMap.{known_of}
use Rattle.tz_database.specs.FirstLine.{lesser_line}
use Rattle.tz_database.proofs.FirstLines.{noted}
use Rattle.tz_database.proofs.repeated_name.note.Goals as goal

pub returns : goal.returns
returns c =
    let known = known_of c.args.lines.now in
    let least : Some c.lesser-least.result ≡ lesser_line (known c.args.name.now) c.args.line =
    c.lesser-least.ensures ∙ ap (λ known. lesser_line known c.args.line) (c.copied.ensures ∙ c.get.ensures.value) in
    let updates = c.in_ok-insert.ensures.updates in
    λ other. noted known c.args.name.now other c.args.line c.lesser-least.result (known_of c.insert.new.self other) (hash_map_updates_str c.args.name.now c.args.lines.now c.insert.new.self _ updates other) least

use Rattle.std.proofs.Common.{◌≡◌, ◌∙◌, ap, ◌++◌, rules}
use Rattle.tz_cli.specs.Dumping.{compiled_text, compiled_texts}
use Rattle.tz_cli.proofs.Dumps.{flat_one, compiled_zone_text}
use Rattle.tz_cli.proofs.dump.push_compiled.Goals as goal

pub returns : goal.returns
returns c = λ zone from to at.
    let before = c.args.compiled.now.items in
    let same : c.from_arc.result ≡ c.in_ok-zone.zone = search rules in
    ap (compiled_texts from to) c.in_ok-push.ensures.items
    ∙ flat_one (compiled_text from to) before c.from_arc.result
    ∙ ap (λ text. compiled_texts from to before ++ text) (ap (compiled_text from to) same ∙ compiled_zone_text c.args.db.now zone c.in_ok-zone.zone from to (c.in_ok-zone.ensures zone at))

use Rattle.std.proofs.Common.{◌≡◌, rules, ◌++◌, ◌∷◌, []}
use Rattle.tz_expand.specs.Zone.{IsCompiled}
use Rattle.tz_version.proofs.ReadyZones.{zip_push}
use Rattle.tz_version.proofs.ready_zones.push_compiled.Goals as goal

pub returns : goal.returns
returns c = λ before zone at zip.
    let db = c.args.db.now in
    let same : c.from_arc.result ≡ c.in_ok-zone.zone = search rules in
    let is : IsCompiled db zone c.from_arc.result = rw same (c.in_ok-zone.ensures zone at) in
    let pushed : c.push.new.self ≡ c.args.compiled.now ++ c.from_arc.result ∷ [] = search rules in
    rw pushed (zip_push (IsCompiled db) before c.args.compiled.now zone c.from_arc.result zip is)

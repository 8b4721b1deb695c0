use Rattle.tz_expand.proofs.Equality.{compiled_zone_eq, compiled_zone_same}
use Rattle.std.proofs.Common.{◌≡◌}
use Rattle.std.proofs.lemmas.Bool.Decides.{Decides-at}
use Rattle.tz_expand.proofs.compiled_zone.CompiledZone.same.Goals as goal

pub returns : goal.returns
returns c =
    let is : c.eq.result ≡ compiled_zone_eq c.args.self.now c.args.other.now = c.eq.ensures in
    Decides-at c.eq.result (compiled_zone_eq c.args.self.now c.args.other.now) is (compiled_zone_same c.args.self.now c.args.other.now)

use Rattle.std.proofs.Common.{◌≡◌, length, arith}
use Rattle.tz_rules.proofs.letters.first_standard.Goals as goal

pub returns : goal.returns
returns g c =
    let set = c.args.set.now in
    let end : length set.rules ≡ c.loop-place.place = omega arith in
    rw end c.loop-place.invariant

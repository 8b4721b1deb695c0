use Rattle.std.proofs.Common.{◌<◌, arith}
use Rattle.tz_text.proofs.Power.{below_limit}
use Rattle.tz_text.proofs.clock.with_fraction.Goals as goal

pub overflow_mul-twice : goal.overflow_mul-twice
overflow_mul-twice c =
    let few : c.in_ok-twice.field-0 < 1_000_000_000_000 = below_limit _ _ c.in_ok-twice.ensures.bound (omega arith) in
    omega arith

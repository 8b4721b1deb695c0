use Rattle.std.proofs.Common.{arith, ◌+◌, ◌≤◌}
use Rattle.tz_text.proofs.Power.{more_room}
use Rattle.tz_text.proofs.digits.decimal.Goals as goal

pub overflow_mul-value : goal.overflow_mul-value
overflow_mul-value c =
    let room : c.loop-byte.value + 1 ≤ 100_000_000_000_000 =
    more_room c.loop-byte.value c.loop-byte.byte-index c.loop-byte.invariant.fits (omega arith) in
    omega arith

pub overflow_add-value : goal.overflow_add-value
overflow_add-value c =
    let room : c.loop-byte.value + 1 ≤ 100_000_000_000_000 =
    more_room c.loop-byte.value c.loop-byte.byte-index c.loop-byte.invariant.fits (omega arith) in
    omega arith

use Rattle.std.proofs.Common.{◌≡◌, ◌+◌, ◌-◌, arith, map}
use Rattle.tz_moves.specs.Moves.{moved_ranges}
use Rattle.tz_moves.specs.Move.{move_to}
use Rattle.tz_moves.proofs.StretchLemmas.{pushed, all_pushed}
use Rattle.tz_moves.proofs.moves.moves_among.Goals as goal

pub loop-place-preserved : goal.loop-place-preserved
loop-place-preserved c =
    let ranges = c.args.ranges.now in
    let place = c.loop-place.place in
    let next : place - 1 + 1 ≡ place = omega (arith, c.loop-place.auto.place) in
    let done : place + 1 - 1 ≡ place - 1 + 1 = omega (arith, c.loop-place.auto.place) in
    let total = map move_to (moved_ranges ranges) in
    let more = pushed ranges (place - 1) c.index-ranges-place.result c.index-ranges-place-in-loop-place.result c.loop-place.moves.items c.push_move.new.moves.items total
    (omega (arith, c.loop-place.auto.place, c.loop-place-test.true)) c.index-ranges-place.is (rw next c.index-ranges-place-in-loop-place.is) c.loop-place.invariant c.in_ok-push_move.ensures in
    rw done more

pub returns : goal.returns
returns c =
    let ranges = c.args.ranges.now in
    all_pushed ranges (c.loop-place.place - 1) c.loop-place.moves.items (map move_to (moved_ranges ranges)) (omega (arith, c.loop-place.auto.place, c.loop-place-test.false)) c.loop-place.invariant

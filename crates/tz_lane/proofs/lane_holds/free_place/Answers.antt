use Rattle.std.proofs.Common.{below_more, ap, length, ◌≡◌, ◌∙◌, arith}
use Rattle.std.specs.Prelude.{not}
use Rattle.tz_lane.specs.HoldPlaces.{holds_at}
use Rattle.tz_lane.proofs.HoldPlaces.{full_there, all_full}
use Rattle.tz_lane.proofs.lane_holds.free_place.Goals as goal

pub loop-at-preserved : goal.loop-at-preserved
loop-at-preserved c = below_more _ _ c.loop-at.invariant
    (full_there c.args.places.now c.loop-at.at c.index-places-at.result c.loop-at-test.true c.index-places-at.is (c.is_none.ensures ∙ ap not c.if-is_none.false))

pub unreachable-requires : goal.unreachable-requires
unreachable-requires c =
    let all : length (holds_at c.args.places.now) ≡ length c.args.places.now = all_full c.args.places.now (λ k low. c.loop-at.invariant k (omega arith)) in
    omega (arith, all, c.requires)

use Rattle.std.proofs.Common.{below_more, sym, ◌∙◌, arith}
use Rattle.tz_lane.proofs.HoldPlaces.{full_there, free_there, all_free}
use Rattle.tz_lane.proofs.lane_holds.full_place.Goals as goal

pub loop-at-preserved : goal.loop-at-preserved
loop-at-preserved c = below_more _ _ c.loop-at.invariant
    (free_there c.args.places.now c.loop-at.at c.index-places-at.result c.loop-at-test.true c.index-places-at.is (sym c.is_some.ensures ∙ c.if-is_some.false))

pub returns-then-is_some : goal.returns-then-is_some
returns-then-is_some c =
    full_there c.args.places.now c.loop-at.at c.index-places-at.result c.loop-at-test.true c.index-places-at.is (sym c.is_some.ensures ∙ c.if-is_some.true)

pub returns : goal.returns
returns c = all_free c.args.places.now (λ k low. c.loop-at.invariant k (omega arith))

use Rattle.std.proofs.Common.{below_more, sym, ◌∙◌, arith}
use Rattle.std.proofs.lemmas.Bool.{false≢true}
use Rattle.tz_lane.proofs.HoldPlaces.{named_there, other_name, none_named}
use Rattle.tz_lane.proofs.lane_holds.place_named.Goals as goal

pub loop-at-preserved : goal.loop-at-preserved
loop-at-preserved c = below_more _ _ c.loop-at.invariant
    (other_name c.args.name.now c.args.places.now c.loop-at.at c.index-places-at.result c.loop-at-test.true c.index-places-at.is (sym c.is_named.ensures ∙ c.if-is_named.false))

pub returns-then-is_named : goal.returns-then-is_named
returns-then-is_named c =
    named_there c.args.name.now c.args.places.now c.loop-at.at c.index-places-at.result c.loop-at-test.true c.index-places-at.is (sym c.is_named.ensures ∙ c.if-is_named.true)

pub unreachable-requires : goal.unreachable-requires
unreachable-requires c =
    let none = none_named c.args.name.now c.args.places.now (λ k low. c.loop-at.invariant k (omega arith)) in
    false≢true (sym none ∙ c.requires)

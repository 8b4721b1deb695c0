use Rattle.std.proofs.Common.{length, sym, ◌∙◌, arith}
use Rattle.rule_rows.proofs.InOrder.{place_later, place_here, place_last}
use Rattle.rule_rows.proofs.listing.place_among.Goals as goal

pub loop-place-preserved : goal.loop-place-preserved
loop-place-preserved c =
    place_later c.args.occurrence.now c.index-list-place.result c.args.list.now c.loop-place.place c.loop-place-test.true c.index-list-place.is (sym c.precedes.ensures ∙ c.if-precedes.false) c.loop-place.invariant

pub returns-then-precedes-clause-place : goal.returns-then-precedes-clause-place
returns-then-precedes-clause-place c =
    place_here c.args.occurrence.now c.index-list-place.result c.args.list.now c.loop-place.place c.loop-place-test.true c.index-list-place.is (sym c.precedes.ensures ∙ c.if-precedes.true) c.loop-place.invariant

pub returns-clause-place : goal.returns-clause-place
returns-clause-place c =
    place_last c.args.occurrence.now c.args.list.now c.loop-place.place (length c.args.list.now) c.loop-place-test.false (omega arith) c.loop-place.invariant

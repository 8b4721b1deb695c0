use Rattle.std.proofs.Common.{◌≡◌, ◌<◌, ◌+◌, ◌-◌, ◌/◌, length, true, false, sym, ◌∙◌, arith, FitsSigned}
use Rattle.std.specs.Int.{w64}
use Rattle.std.proofs.lemmas.Int.{to_z-of_z}
use Rattle.tz_specs.specs.LeapSecond.{counts_at}
use Rattle.tz_specs.proofs.LeapLemmas.{no_entry, entry_at}
use Rattle.tz_leap.proofs.SearchLemmas.{count_by_place, counts_upto, counts_after}
use Rattle.tz_leap.proofs.search.entries_at.Goals as goal

pub loop-low-preserved-then-counts_at : goal.loop-low-preserved-then-counts_at
loop-low-preserved-then-counts_at c =
    let fits : FitsSigned w64 c.args.u = c.ranges.u in
    let leaps = c.args.leaps.now in
    let middle = c.loop-low.low + (c.loop-low.high - c.loop-low.low) / 2 in
    let below : middle < length leaps.entries = omega (arith, c.loop-low.invariant.within, c.loop-low-test.true) in
    let test = simp to_z-of_z at (c.counts_at.ensures no_entry) in
    let here : counts_at leaps.entries c.args.u (entry_at leaps.entries middle) ≡ true = sym test ∙ c.if-counts_at.true in
    rw to_z-of_z (record {
      order = omega (arith, c.loop-low-test.true);
      within = c.loop-low.invariant.within;
      upto = λ k before. counts_upto leaps.entries leaps.ascending c.args.u k middle (omega arith) below here;
      after = simp to_z-of_z at c.loop-low.invariant.after;
    })

pub loop-low-preserved : goal.loop-low-preserved
loop-low-preserved c =
    let fits : FitsSigned w64 c.args.u = c.ranges.u in
    let leaps = c.args.leaps.now in
    let middle = c.loop-low.low + (c.loop-low.high - c.loop-low.low) / 2 in
    let below : middle < length leaps.entries = omega (arith, c.loop-low.invariant.within, c.loop-low-test.true) in
    let test = simp to_z-of_z at (c.counts_at.ensures no_entry) in
    let here : counts_at leaps.entries c.args.u (entry_at leaps.entries middle) ≡ false = sym test ∙ c.if-counts_at.false in
    rw to_z-of_z (record {
      order = omega arith;
      within = omega (arith, below);
      upto = simp to_z-of_z at c.loop-low.invariant.upto;
      after = λ k from within. counts_after leaps.entries leaps.ascending c.args.u middle k from within here;
    })

pub returns-clause-count : goal.returns-clause-count
returns-clause-count c =
    let fits : FitsSigned w64 c.args.u = c.ranges.u in
    let xs = c.args.leaps.now.entries in
    let same : c.loop-low.low ≡ c.loop-low.high = omega (arith, c.loop-low-test.false, c.loop-low.invariant.order) in
    let invariant = simp to_z-of_z at c.loop-low.invariant in
    sym (count_by_place (counts_at xs c.args.u) xs c.loop-low.low (omega (arith, same, c.loop-low.invariant.within)) invariant.upto (λ k from below. invariant.after k (omega (arith, same, from)) below))

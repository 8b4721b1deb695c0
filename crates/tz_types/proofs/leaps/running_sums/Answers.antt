use Rattle.std.proofs.Common.{◌≡◌, ◌≤◌, ◌<◌, length, pos, false, ℤ, ◌+ℤ◌, ap, arith, to_z, of_z}
use Rattle.std.specs.Int.{w64}
use Rattle.std.proofs.lemmas.Int.{ints}
use Rattle.tz_types.specs.declared.limit.TheConstants.{MOST_LEAPS}
use Rattle.tz_types.specs.declared.leap_entry.LeapEntry.{LeapEntry}
use Rattle.tz_types.proofs.LeapSums.{sums_more}
use Rattle.tz_types.proofs.leaps.running_sums.Goals as goal

pub loop-entry-preserved : goal.loop-entry-preserved
loop-entry-preserved c =
    let entries = c.args.entries.now in
    let few : length entries ≤ MOST_LEAPS = c.requires in
    let within : c.loop-entry.entry-index < length entries = c.loop-entry-test.true in
    let sum = to_z w64 c.loop-entry.sum-bits in
    let d : LeapEntry = record { date = pos 0; added = false } in
    let bound = c.sign-sum.ensures.bound in
    let low = c.loop-entry.invariant.low in
    let high = c.loop-entry.invariant.high in
    let plain : to_z w64 (of_z w64 (sum +ℤ to_z w64 (of_z w64 c.sign-sum.result))) ≡ sum +ℤ c.sign-sum.result = omega (arith, ints, bound.0, bound.1, low, high) in
    rw plain (record {
      same = sums_more entries c.loop-entry.entry-index d c.loop-entry.sums.items c.push.new.self.items sum (sum +ℤ c.sign-sum.result) within c.loop-entry.invariant.same c.in_ok-push.ensures.items (ap (λ (z : ℤ). sum +ℤ z) c.sign-sum.ensures.value);
      low = omega (arith, ints, bound.0, low);
      high = omega (arith, ints, bound.1, high);
    })

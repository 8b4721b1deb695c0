use Rattle.std.proofs.Common.{◌≡◌, take, ◌∙◌, arith, to_z, of_z}
use Rattle.std.specs.Int.{w64}
use Rattle.std.proofs.lemmas.Int.{ints}
use Rattle.tz_specs.specs.LeapSecond.{all_seconds}
use Rattle.tz_leap.proofs.SearchLemmas.{sum_looked_up, place_of_sum, sum_within}
use Rattle.tz_leap.proofs.search.sum_before.Goals as goal

pub bounds-as_slice-place : goal.bounds-as_slice-place
bounds-as_slice-place c =
    let leaps = c.args.leaps.now in
    place_of_sum c.as_slice.result.now leaps.entries c.args.place (c.as_slice.ensures ∙ leaps.summed) c.requires

pub returns-clause-value : goal.returns-clause-value
returns-clause-value c =
    let leaps = c.args.leaps.now in
    let found = sum_looked_up c.as_slice.result.now leaps.entries c.args.place (c.as_slice.ensures ∙ leaps.summed) c.requires in
    let bound = sum_within leaps.entries c.args.place leaps.few_enough c.requires in
    let sum = all_seconds (take c.args.place leaps.entries) in
    let fits : to_z w64 (of_z w64 sum) ≡ sum = omega (arith, ints, bound.0, bound.1) in
    rw found fits

pub returns-clause-bound : goal.returns-clause-bound
returns-clause-bound c =
    let leaps = c.args.leaps.now in
    let found = sum_looked_up c.as_slice.result.now leaps.entries c.args.place (c.as_slice.ensures ∙ leaps.summed) c.requires in
    let bound = sum_within leaps.entries c.args.place leaps.few_enough c.requires in
    let sum = all_seconds (take c.args.place leaps.entries) in
    let fits : to_z w64 (of_z w64 sum) ≡ sum = omega (arith, ints, bound.0, bound.1) in
    rw (found, fits) bound

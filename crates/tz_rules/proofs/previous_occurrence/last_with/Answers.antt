use Rattle.std.proofs.Common.{rules, FitsSigned, None, Some}
use Rattle.std.specs.Int.{w32}
use Rattle.std.proofs.lemmas.Int.{to_z-of_z}
use Rattle.tz_specs.proofs.Tests.{int_lt-true}
use Rattle.tz_rules.proofs.BeforeMark.{rule_at, over_before, last_with_is}
use Rattle.tz_rules.proofs.previous_occurrence.last_with.Goals as goal

pub returns-then-rule-since-clause-last : goal.returns-then-rule-since-clause-last
returns-then-rule-since-clause-last g c =
    let to_fits : FitsSigned w32 c.index-as_slice-place.result.to = search rules in
    let since_fits : FitsSigned w32 c.year_since-since.result = search rules in
    let since = c.year_since-since.ensures.value in
    let test = simp to_z-of_z at c.if-rule-since.true in
    let over = int_lt-true c.index-as_slice-place.result.to c.year_since-since.result test in
    let rule = c.index-as_slice-place.result in
    let here = rule_at c.args.set.now c.as_slice.result.now c.args.place rule c.as_slice.ensures c.requires.place_in c.index-as_slice-place.is in
    last_with_is c.args.set.now c.args.mark c.args.place rule c.args.last None here c.requires.so_far (rw since at (over_before rule c.args.place c.year_since-since.result c.args.mark over))

pub returns-in-None-clause-last : goal.returns-in-None-clause-last
returns-in-None-clause-last g c =
    let since_fits : FitsSigned w32 c.year_since-since.result = search rules in
    let rule = c.index-as_slice-place.result in
    let here = rule_at c.args.set.now c.as_slice.result.now c.args.place rule c.as_slice.ensures c.requires.place_in c.index-as_slice-place.is in
    let since = c.year_since-since.ensures.value in
    let own = simp to_z-of_z at c.in-None.ensures.last in
    let own' = rw since at own in
    last_with_is c.args.set.now c.args.mark c.args.place rule c.args.last None here c.requires.so_far own'

pub returns-in-Some-clause-last : goal.returns-in-Some-clause-last
returns-in-Some-clause-last g c =
    let rule = c.index-as_slice-place.result in
    let here = rule_at c.args.set.now c.as_slice.result.now c.args.place rule c.as_slice.ensures c.requires.place_in c.index-as_slice-place.is in
    let is = c.later.ensures in
    rw is (last_with_is c.args.set.now c.args.mark c.args.place rule c.args.last (Some c.in-Some.found) here c.requires.so_far c.in-Some.ensures.last)

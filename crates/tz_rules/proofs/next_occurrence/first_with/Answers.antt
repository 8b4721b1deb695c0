use Rattle.std.proofs.Common.{rules, FitsSigned, None, Some}
use Rattle.std.specs.Int.{w32}
use Rattle.std.proofs.lemmas.Int.{to_z-of_z}
use Rattle.tz_specs.proofs.Tests.{int_lt-true}
use Rattle.tz_rules.proofs.BeforeMark.{rule_at}
use Rattle.tz_rules.proofs.AfterMark.{first_with_is, over_first}
use Rattle.tz_rules.proofs.next_occurrence.first_with.Goals as goal

pub returns-then-rule-earliest-clause-first : goal.returns-then-rule-earliest-clause-first
returns-then-rule-earliest-clause-first g c =
    let to_fits : FitsSigned w32 c.index-as_slice-place.result.to = search rules in
    let earliest_fits : FitsSigned w32 c.args.earliest = search rules in
    let test = simp to_z-of_z at c.if-rule-earliest.true in
    let over = int_lt-true c.index-as_slice-place.result.to c.args.earliest test in
    let rule = c.index-as_slice-place.result in
    let here = rule_at c.args.set.now c.as_slice.result.now c.args.place rule c.as_slice.ensures c.requires.place_in c.index-as_slice-place.is in
    first_with_is c.args.set.now c.args.mark c.args.place rule c.args.first None here c.requires.so_far (over_first _ c.args.place _ _ c.args.mark c.requires.earliest over)

pub returns-in-None-clause-first : goal.returns-in-None-clause-first
returns-in-None-clause-first g c =
    let through_fits : FitsSigned w32 c.year_through-through.result = search rules in
    let rule = c.index-as_slice-place.result in
    let here = rule_at c.args.set.now c.as_slice.result.now c.args.place rule c.as_slice.ensures c.requires.place_in c.index-as_slice-place.is in
    let through = c.year_through-through.ensures.value in
    let own = simp to_z-of_z at c.in-None.ensures.first in
    let own' = rw through at own in
    first_with_is c.args.set.now c.args.mark c.args.place rule c.args.first None here c.requires.so_far own'

pub returns-in-Some-clause-first : goal.returns-in-Some-clause-first
returns-in-Some-clause-first g c =
    let rule = c.index-as_slice-place.result in
    let here = rule_at c.args.set.now c.as_slice.result.now c.args.place rule c.as_slice.ensures c.requires.place_in c.index-as_slice-place.is in
    let is = c.earlier.ensures in
    rw is (first_with_is c.args.set.now c.args.mark c.args.place rule c.args.first (Some c.in-Some.found) here c.requires.so_far c.in-Some.ensures.first)

use Rattle.std.proofs.Common.{FitsSigned, refl}
use Rattle.std.specs.Int.{w32, w64}
use Rattle.std.proofs.lemmas.Int.{to_z-of_z}
use Rattle.tz_rules.proofs.BeforeMark.{rule_at, own_stands}
use Rattle.tz_rules.proofs.EffectSearch.{come_none, come_not_later, come_later}
use Rattle.tz_rules.proofs.in_effect.come_with.Goals as goal

pub last_of_rule-requires-clause-latest : goal.last_of_rule-requires-clause-latest
last_of_rule-requires-clause-latest g c =
    let latest_fits : FitsSigned w32 c.args.latest = c.ranges.latest in
    let t_fits : FitsSigned w64 c.args.t = c.ranges.t in
    let second = simp to_z-of_z at c.two_days_after-mark.ensures.second in
    rw (to_z-of_z, second) c.requires.latest

pub returns-in-None-clause-last : goal.returns-in-None-clause-last
returns-in-None-clause-last g c =
    let t_fits : FitsSigned w64 c.args.t = c.ranges.t in
    let second = simp to_z-of_z at c.two_days_after-mark.ensures.second in
    let rule = c.index-as_slice-place.result in
    let here = rule_at c.args.set.now c.as_slice.result.now c.args.place rule c.as_slice.ensures c.requires.place_in c.index-as_slice-place.is in
    come_none c.args.set.now c.args.stdoff c.args.t c.args.place rule _ c.two_days_after-mark.result c.args.last c.requires.stdoff_in second refl here c.in-None.ensures.last c.requires.so_far

pub comes_later-requires-clause-stands : goal.comes_later-requires-clause-stands
comes_later-requires-clause-stands g c =
    let rule = c.index-as_slice-place.result in
    let here = rule_at c.args.set.now c.as_slice.result.now c.args.place rule c.as_slice.ensures c.requires.place_in c.index-as_slice-place.is in
    (own_stands c.args.set.now rule c.args.place c.two_days_after-mark.result c.in-Some.found here c.in-Some.ensures.last).0

pub returns-then-comes_later-clause-last : goal.returns-then-comes_later-clause-last
returns-then-comes_later-clause-last g c =
    let t_fits : FitsSigned w64 c.args.t = c.ranges.t in
    let stdoff_fits : FitsSigned w64 c.args.stdoff = c.ranges.stdoff in
    let second = simp to_z-of_z at c.two_days_after-mark.ensures.second in
    let rule = c.index-as_slice-place.result in
    let here = rule_at c.args.set.now c.as_slice.result.now c.args.place rule c.as_slice.ensures c.requires.place_in c.index-as_slice-place.is in
    let later = simp to_z-of_z at c.comes_later.ensures.later in
    come_later c.args.set.now c.args.stdoff c.args.t c.args.place rule c.two_days_after-mark.result c.args.last c.in-Some.found c.requires.stdoff_in second c.two_days_after-mark.ensures.line here c.in-Some.ensures.last c.requires.so_far (later c.if-comes_later.true)

pub returns-else-comes_later-clause-last : goal.returns-else-comes_later-clause-last
returns-else-comes_later-clause-last g c =
    let t_fits : FitsSigned w64 c.args.t = c.ranges.t in
    let stdoff_fits : FitsSigned w64 c.args.stdoff = c.ranges.stdoff in
    let second = simp to_z-of_z at c.two_days_after-mark.ensures.second in
    let rule = c.index-as_slice-place.result in
    let here = rule_at c.args.set.now c.as_slice.result.now c.args.place rule c.as_slice.ensures c.requires.place_in c.index-as_slice-place.is in
    let not_later = simp to_z-of_z at c.comes_later.ensures.not_later in
    come_not_later c.args.set.now c.args.stdoff c.args.t c.args.place rule c.two_days_after-mark.result c.args.last c.in-Some.found c.requires.stdoff_in second c.two_days_after-mark.ensures.line here c.in-Some.ensures.last c.requires.so_far (not_later c.if-comes_later.false)

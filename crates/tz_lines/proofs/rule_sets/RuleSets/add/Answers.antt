use Rattle.std.proofs.Common.{◌≡◌, length, set, Some, None, sym, ◌∙◌, subst, arith}
use Rattle.std.proofs.lemmas.Bool.{le-leb, lt-leb}
use Rattle.std.proofs.lemmas.Result.{on_ok_weaker}
use Rattle.tz_types.specs.declared.limit.TheConstants.{MOST_SETS}
use Rattle.tz_specs.specs.Written.{set_names}
use Rattle.tz_lines.specs.NameIndex.{name_position}
use Rattle.tz_lines.specs.Excess.{MeansLimit}
use Rattle.tz_lines.proofs.RuleSets.{full_known, full_new, added_known, names_kept, added_new, place_before, set_within, as_many_sets}
use Rattle.tz_lines.proofs.rule_sets.RuleSets.add.Goals as goal

pub push_rule-requires : goal.push_rule-requires
push_rule-requires c =
    let sets = c.args.self.now.sets.items in
    let place : name_position c.args.name.bytes.now (set_names sets) ≡ Some c.in-Some.place = sym (rw c.as_bytes.ensures at c.in-Some.ensures) in
    place_before c.args.rule.line sets c.in-Some.place c.index_mut.result.now (set_within sets c.args.name.bytes.now c.in-Some.place place) c.index_mut.ensures.value c.requires

pub invariant_of-self : goal.invariant_of-self
invariant_of-self c =
    let gathered = c.args.self.now in
    let sets = gathered.sets.items in
    let place : name_position c.args.name.bytes.now (set_names sets) ≡ Some c.in-Some.place = sym (rw c.as_bytes.ensures at c.in-Some.ensures) in
    let kept = names_kept sets c.in-Some.place c.index_mut.result.now c.push_rule.new.set (set_within sets c.args.name.bytes.now c.in-Some.place place) c.index_mut.ensures.value c.push_rule.ensures.name in
    record {
      placed = rw kept gathered.placed;
      apart = rw kept gathered.apart;
      few = rw (as_many_sets sets (set sets c.in-Some.place c.push_rule.new.set) kept) gathered.few;
    }

pub returns-in-Some-clause-limit : goal.returns-in-Some-clause-limit
returns-in-Some-clause-limit c =
    let sets = c.args.self.now.sets.items in
    let place : name_position c.args.name.bytes.now (set_names sets) ≡ Some c.in-Some.place = sym (rw c.as_bytes.ensures at c.in-Some.ensures) in
    subst (MeansLimit c.push_rule.result) (full_known sets c.args.name.bytes.now c.in-Some.place c.index_mut.result.now place c.index_mut.ensures.value) c.push_rule.ensures.limit

pub returns-in-Some-clause-sets : goal.returns-in-Some-clause-sets
returns-in-Some-clause-sets c =
    let sets = c.args.self.now.sets.items in
    let place : name_position c.args.name.bytes.now (set_names sets) ≡ Some c.in-Some.place = sym (rw c.as_bytes.ensures at c.in-Some.ensures) in
    on_ok_weaker c.push_rule.result (λ rules. added_known sets c.args.name.bytes.now c.args.rule c.in-Some.place c.index_mut.result.now c.push_rule.new.set place c.index_mut.ensures.value rules c.push_rule.ensures.name) c.push_rule.ensures.rules

pub returns-then-len-ge-MOST_SETS-clause-limit : goal.returns-then-len-ge-MOST_SETS-clause-limit
returns-then-len-ge-MOST_SETS-clause-limit c =
    let sets = c.args.self.now.sets.items in
    let none : name_position c.args.name.bytes.now (set_names sets) ≡ None = sym (rw c.as_bytes.ensures at c.in-None.ensures) in
    sym (full_new sets c.args.name.bytes.now none) ∙ le-leb MOST_SETS (length sets) (omega arith)

pub push-requires-clause-missing : goal.push-requires-clause-missing
push-requires-clause-missing c =
    rw c.in_ok-set_of-in-None.ensures.name (sym (rw c.as_bytes.ensures at c.in-None.ensures))

pub returns-in_ok-push-in-None-clause-limit : goal.returns-in_ok-push-in-None-clause-limit
returns-in_ok-push-in-None-clause-limit c =
    let sets = c.args.self.now.sets.items in
    let none : name_position c.args.name.bytes.now (set_names sets) ≡ None = sym (rw c.as_bytes.ensures at c.in-None.ensures) in
    sym (full_new sets c.args.name.bytes.now none) ∙ lt-leb MOST_SETS (length sets) (omega arith)

pub returns-in_ok-push-in-None-clause-sets : goal.returns-in_ok-push-in-None-clause-sets
returns-in_ok-push-in-None-clause-sets c =
    let sets = c.args.self.now.sets.items in
    let new = c.in_ok-set_of-in-None.field-0 in
    let none : name_position c.args.name.bytes.now (set_names sets) ≡ None = sym (rw c.as_bytes.ensures at c.in-None.ensures) in
    rw c.in_ok-push-in-None.ensures (added_new sets c.args.name.bytes.now c.args.rule new none c.in_ok-set_of-in-None.ensures.rules c.in_ok-set_of-in-None.ensures.name)

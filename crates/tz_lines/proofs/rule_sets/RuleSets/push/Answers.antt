use Rattle.std.proofs.Common.{◌≡◌, ◌∷◌, ◌++◌, [], List, length, vec_len, ap, sym, ◌∙◌, arith}
use Rattle.std.proofs.lemmas.List.{length-map, length-append}
use Rattle.tz_types.specs.declared.rule_set.RuleSet.{RuleSet}
use Rattle.tz_specs.specs.Written.{set_names}
use Rattle.tz_lines.proofs.NameIndex.{indexed, not_there, pushed_apart, pushed_items}
use Rattle.tz_lines.proofs.RuleSets.{names_pushed}
use Rattle.tz_lines.proofs.rule_sets.RuleSets.push.Goals as goal

pub invariant_of-self-2 : goal.invariant_of-self-2
invariant_of-self-2 c =
    let sets = c.args.self.now in
    let names = set_names sets.sets.items in
    let room = c.push.ensures.succeeds (omega (arith, c.in_ok-reserve.ensures.ok)) in
    let items : c.push.new.self.items ≡ sets.sets.items ++ c.args.set ∷ [] = pushed_items c.push.result c.reserve.new.self.items c.push.new.self.items c.args.set c.push.ensures.items room ∙ ap (λ (it : List RuleSet). it ++ c.args.set ∷ []) c.reserve.ensures.items in
    let pushed : set_names c.push.new.self.items ≡ names ++ c.args.set.name ∷ [] = ap set_names items ∙ names_pushed sets.sets.items c.args.set in
    let count : c.len-place.result ≡ length names = c.len-place.ensures ∙ (let all : vec_len sets.sets ≡ length sets.sets.items = omega (arith, sets.sets.ok.0) in all) ∙ sym (length-map sets.sets.items (λ (it : RuleSet). it.name)) in
    record {
      placed = rw pushed (indexed sets.places c.insert.new.self names c.args.set.name c.len-place.result count sets.placed c.requires.missing (rw c.as_bytes.ensures.bytes at c.in_ok-insert.ensures.ok));
      apart = rw pushed (pushed_apart names c.args.set.name sets.apart (not_there names c.args.set.name c.requires.missing));
      few = rw items (rw (length-append sets.sets.items (c.args.set ∷ [])) (omega (arith, c.requires.room)));
    }

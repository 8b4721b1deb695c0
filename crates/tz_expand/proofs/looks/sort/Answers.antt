use Rattle.std.proofs.Common.{◌≡◌, ◌+◌, get_or, rules, sym, ◌∙◌}
use Rattle.std.proofs.lemmas.Fn.{always_returns_same}
use Rattle.tz_specs.specs.Occurrence.{Occurrence, nominal_of}
use Rattle.tz_expand.proofs.Strict.{is_lt-keys}
use Rattle.tz_expand.proofs.looks.sort.Goals as goal

pub returns : goal.returns
returns c =
    let list = c.sort_unstable_by_key.new.self in
    let sorted = c.sort_unstable_by_key.ensures.sorted (λ (o : Occurrence). (nominal_of o, o.rule.line)) (always_returns_same _ (λ a r. r ≡ (nominal_of a.0.now, a.0.now.rule.line)) _ (λ a r q k. search rules)) in
    record {
      same = c.sort_unstable_by_key.ensures.permutation;
      sorted = λ k d low high.
          let later = get_or list (k + 1) d in
          let earlier = get_or list k d in
          sym (is_lt-keys (nominal_of later) (nominal_of earlier) later.rule.line earlier.rule.line) ∙ sorted k d low high;
    }

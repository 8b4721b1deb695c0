use Rattle.std.proofs.Common.{◌≡◌, ◌∷◌, ◌++◌, [], List, ℕ, length, vec_len, ap, ◌∙◌, arith}
use Rattle.tz_lines.proofs.NameIndex.{indexed, pushed_items}
use Rattle.tz_lines.proofs.set_names.SetNames.add.Goals as goal

pub invariant_of-self-2 : goal.invariant_of-self-2
invariant_of-self-2 c =
    let names = c.args.self.now in
    let room = c.push.ensures.succeeds (omega (arith, c.in_ok-reserve.ensures.ok)) in
    let items : c.push.new.self.items ≡ names.labels.items ++ c.args.name ∷ [] = pushed_items c.push.result c.reserve.new.self.items c.push.new.self.items c.args.name c.push.ensures.items room ∙ ap (λ (labels : List (List ℕ)). labels ++ c.args.name ∷ []) c.reserve.ensures.items in
    let count : vec_len names.labels ≡ length names.labels.items = omega (arith, names.labels.ok.0) in
    record {
      placed = rw items (indexed names.places c.insert.new.self names.labels.items c.args.name _ (c.len-place.ensures ∙ count) names.placed c.requires.missing (rw c.as_bytes.ensures.bytes at c.in_ok-insert.ensures.ok));
    }

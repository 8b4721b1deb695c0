use Rattle.std.proofs.Common.{◌≡◌, ℕ, List, [], ◌∷◌, ◌++◌, ap, sym, ◌∙◌, arith}
use Rattle.tz_gen.specs.Generated.{text_lines, bytes_of_lines}
use Rattle.std.proofs.lemmas.List.FromFn.{map-range_with_len_more}
use Rattle.tz_gen.proofs.generated.generated_texts.Goals as goal

pub loop-number-preserved : goal.loop-number-preserved
loop-number-preserved c =
    let one_more = map-range_with_len_more (λ number. bytes_of_lines (text_lines c.args.n number)) 0 c.loop-number.number c.loop-number.number (omega arith) in
    let pushed : c.push.new.self ≡ c.loop-number.texts ++ bytes_of_lines (text_lines c.args.n c.loop-number.number) ∷ [] = rw (← c.in_ok-generated_text.ensures) c.in_ok-push.ensures.ok in
    pushed ∙ ap (λ (texts : List (List ℕ)). texts ++ bytes_of_lines (text_lines c.args.n c.loop-number.number) ∷ []) c.loop-number.invariant ∙ sym one_more

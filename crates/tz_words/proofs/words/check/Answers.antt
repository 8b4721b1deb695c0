use Rattle.std.proofs.Common.{◌≡◌, ℕ, List, [], ◌∷◌, length, codes, string_bytes, sym, ap, ◌∙◌, arith}
use Rattle.tz_words.specs.Command.{words_of}
use Rattle.tz_words.proofs.FewWords.{two, alike}
use Rattle.tz_words.proofs.words.check.Goals as goal

pub returns-in-Some-clause-some : goal.returns-in-Some-clause-some
returns-in-Some-clause-some c =
    let words = c.args.words.now in
    let keyword = c.keyword-item.result in
    let text = c.text-item.result in
    let long : length words ≡ 2 = omega arith in
    let all = two words keyword text long c.keyword-item.is c.text-item.is in
    let is_word : c.as_str.result.now ≡ codes "check" = alike c.as_str.result.now (codes "check") c.if-ne.ensures in
    let first : string_bytes keyword ≡ codes "check" = sym c.as_str.ensures.value ∙ is_word in
    record {
      word = string_bytes text;
      words_are = ap words_of all ∙ ap (λ (word : List ℕ). word ∷ string_bytes text ∷ []) first;
      text_is = sym (rw c.as_str-in-len2.ensures.value at c.in-Some.ensures);
    }

use Rattle.std.proofs.Common.{◌≡◌, ℕ, List, [], ◌∷◌, length, codes, string_bytes, sym, ap, ◌∙◌, rules, FitsSigned, arith}
use Rattle.std.specs.Int.{w64}
use Rattle.std.proofs.lemmas.Int.{to_z-of_z}
use Rattle.tz_words.specs.Command.{words_of}
use Rattle.tz_words.proofs.FewWords.{five, alike}
use Rattle.tz_words.proofs.words.days.Goals as goal

pub returns-in-Some-day_count-clause-some : goal.returns-in-Some-day_count-clause-some
returns-in-Some-day_count-clause-some c =
    let words = c.args.words.now in
    let keyword = c.keyword-item.result in
    let text = c.text-item.result in
    let zone = c.zone-item.result in
    let number = c.number-item.result in
    let many = c.many-item.result in
    let long : length words ≡ 5 = omega arith in
    let all = five words keyword text zone number many long c.keyword-item.is c.text-item.is c.zone-item.is c.number-item.is c.many-item.is in
    let fits : FitsSigned w64 c.in-Some-signed_number.first = search rules in
    let is_word : c.as_str.result.now ≡ codes "days" = alike c.as_str.result.now (codes "days") c.if-ne.ensures in
    let starts : string_bytes keyword ≡ codes "days" = sym c.as_str.ensures.value ∙ is_word in
    rw (to_z-of_z, c.as_str-in-Some-day_count.ensures.value) (record {
      word = string_bytes text;
      number = string_bytes number;
      many = string_bytes many;
      words_are = ap words_of all ∙ ap (λ (word : List ℕ). word ∷ string_bytes text ∷ string_bytes zone ∷ string_bytes number ∷ string_bytes many ∷ []) starts;
      text_is = sym (rw c.as_str-in-len5.ensures.value at c.in-Some.ensures);
      number_is = sym (rw c.as_bytes.ensures.value at c.in-Some-signed_number.ensures.value);
      count_is = sym (rw c.as_bytes-in-len5.ensures.value at c.in-Some-day_count.ensures);
    })

use Rattle.std.proofs.Common.{◌≡◌, ℕ, List, [], ◌∷◌, length, codes, string_bytes, sym, ap, ◌∙◌, rules, FitsSigned, arith}
use Rattle.std.specs.Int.{w64}
use Rattle.std.proofs.lemmas.Int.{to_z-of_z}
use Rattle.tz_words.specs.Command.{words_of}
use Rattle.tz_words.proofs.FewWords.{four, alike}
use Rattle.tz_words.proofs.words.info.Goals as goal

pub returns-in-Some-signed_number-clause-some : goal.returns-in-Some-signed_number-clause-some
returns-in-Some-signed_number-clause-some c =
    let words = c.args.words.now in
    let keyword = c.keyword-item.result in
    let text = c.text-item.result in
    let zone = c.zone-item.result in
    let number = c.number-item.result in
    let long : length words ≡ 4 = omega arith in
    let all = four words keyword text zone number long c.keyword-item.is c.text-item.is c.zone-item.is c.number-item.is in
    let instant_fits : FitsSigned w64 c.in-Some-signed_number.instant = search rules in
    let is_word : c.as_str.result.now ≡ codes "info" = alike c.as_str.result.now (codes "info") c.if-ne.ensures in
    let first : string_bytes keyword ≡ codes "info" = sym c.as_str.ensures.value ∙ is_word in
    rw (to_z-of_z, c.as_str-in-Some-signed_number.ensures.value) (record {
      word = string_bytes text;
      number = string_bytes number;
      words_are = ap words_of all ∙ ap (λ (word : List ℕ). word ∷ string_bytes text ∷ string_bytes zone ∷ string_bytes number ∷ []) first;
      text_is = sym (rw c.as_str-in-len4.ensures.value at c.in-Some.ensures);
      number_is = sym (rw c.as_bytes.ensures.value at c.in-Some-signed_number.ensures.value);
    })

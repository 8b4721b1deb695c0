use Rattle.std.proofs.Common.{◌≡◌, ℕ, List, [], ◌∷◌, length, codes, string_bytes, sym, ap, ◌∙◌, rules, FitsSigned, arith}
use Rattle.std.specs.Int.{w64}
use Rattle.std.proofs.lemmas.Int.{to_z-of_z}
use Rattle.tz_words.specs.Command.{words_of}
use Rattle.tz_lookup.specs.Conversion.{conversion_word}
use Rattle.tz_words.proofs.FewWords.{four, alike}
use Rattle.tz_words.proofs.words.clock.Goals as goal

pub returns-in-Some-signed_number-clause-some : goal.returns-in-Some-signed_number-clause-some
returns-in-Some-signed_number-clause-some c =
    let words = c.args.words.now in
    let keyword = c.keyword-item.result in
    let leaps = c.leaps-item.result in
    let conversion = c.conversion-item.result in
    let number = c.number-item.result in
    let long : length words ≡ 4 = omega arith in
    let all = four words keyword leaps conversion number long c.keyword-item.is c.leaps-item.is c.conversion-item.is c.number-item.is in
    let number_fits : FitsSigned w64 c.in-Some-signed_number.number = search rules in
    let is_word : c.as_str.result.now ≡ codes "clock" = alike c.as_str.result.now (codes "clock") c.if-ne.ensures in
    let first : string_bytes keyword ≡ codes "clock" = sym c.as_str.ensures.value ∙ is_word in
    let third : string_bytes conversion ≡ conversion_word c.in-Some.conversion = sym c.as_str-in-len4.ensures.value ∙ c.in-Some.ensures.some in
    rw (to_z-of_z, c.as_str-in-Some-signed_number.ensures.value) (record {
      number = string_bytes number;
      words_are = ap words_of all ∙ ap (λ (word : List ℕ). word ∷ string_bytes leaps ∷ string_bytes conversion ∷ string_bytes number ∷ []) first ∙ ap (λ (word : List ℕ). codes "clock" ∷ string_bytes leaps ∷ word ∷ string_bytes number ∷ []) third;
      number_is = sym (rw c.as_bytes.ensures.value at c.in-Some-signed_number.ensures.value);
    })

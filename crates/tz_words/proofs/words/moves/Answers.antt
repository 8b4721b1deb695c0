use Rattle.std.proofs.Common.{◌≡◌, ℕ, List, [], ◌∷◌, length, codes, string_bytes, sym, ap, ◌∙◌, rules, FitsSigned, arith}
use Rattle.std.specs.Int.{w64}
use Rattle.std.proofs.lemmas.Int.{to_z-of_z}
use Rattle.tz_words.specs.Command.{words_of}
use Rattle.tz_words.proofs.FewWords.{five, alike}
use Rattle.tz_words.proofs.words.moves.Goals as goal

pub returns-in-Some-signed_number-2-clause-some : goal.returns-in-Some-signed_number-2-clause-some
returns-in-Some-signed_number-2-clause-some c =
    let words = c.args.words.now in
    let keyword = c.keyword-item.result in
    let text = c.text-item.result in
    let zone = c.zone-item.result in
    let first = c.first-item.result in
    let last = c.last-item.result in
    let long : length words ≡ 5 = omega arith in
    let all = five words keyword text zone first last long c.keyword-item.is c.text-item.is c.zone-item.is c.first-item.is c.last-item.is in
    let from_fits : FitsSigned w64 c.in-Some-signed_number.from = search rules in
    let to_fits : FitsSigned w64 c.in-Some-signed_number-2.to = search rules in
    let is_word : c.as_str.result.now ≡ codes "moves" = alike c.as_str.result.now (codes "moves") c.if-ne.ensures in
    let starts : string_bytes keyword ≡ codes "moves" = sym c.as_str.ensures.value ∙ is_word in
    rw (to_z-of_z, to_z-of_z, c.as_str-in-Some-signed_number-2.ensures.value) (record {
      word = string_bytes text;
      first = string_bytes first;
      last = string_bytes last;
      words_are = ap words_of all ∙ ap (λ (word : List ℕ). word ∷ string_bytes text ∷ string_bytes zone ∷ string_bytes first ∷ string_bytes last ∷ []) starts;
      text_is = sym (rw c.as_str-in-len5.ensures.value at c.in-Some.ensures);
      first_is = sym (rw c.as_bytes.ensures.value at c.in-Some-signed_number.ensures.value);
      last_is = sym (rw c.as_bytes-in-len5.ensures.value at c.in-Some-signed_number-2.ensures.value);
    })

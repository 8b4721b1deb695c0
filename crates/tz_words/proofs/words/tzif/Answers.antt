use Rattle.std.proofs.Common.{◌≡◌, ℕ, List, [], ◌∷◌, length, codes, string_bytes, sym, ap, ◌∙◌, rules, FitsSigned, arith}
use Rattle.std.specs.Int.{w32}
use Rattle.std.proofs.lemmas.Int.{to_z-of_z}
use Rattle.tz_words.specs.Command.{words_of}
use Rattle.tz_words.proofs.FewWords.{five, alike}
use Rattle.tz_words.proofs.words.tzif.Goals as goal

pub returns-in-Some-short_year-2-clause-some : goal.returns-in-Some-short_year-2-clause-some
returns-in-Some-short_year-2-clause-some c =
    let words = c.args.words.now in
    let keyword = c.keyword-item.result in
    let text = c.text-item.result in
    let zone = c.zone-item.result in
    let begins = c.begins-item.result in
    let ends = c.ends-item.result in
    let long : length words ≡ 5 = omega arith in
    let all = five words keyword text zone begins ends long c.keyword-item.is c.text-item.is c.zone-item.is c.begins-item.is c.ends-item.is in
    let first_fits : FitsSigned w32 c.in-Some-short_year.first = search rules in
    let last_fits : FitsSigned w32 c.in-Some-short_year-2.last = search rules in
    let is_word : c.as_str.result.now ≡ codes "tzif" = alike c.as_str.result.now (codes "tzif") c.if-ne.ensures in
    let starts : string_bytes keyword ≡ codes "tzif" = sym c.as_str.ensures.value ∙ is_word in
    rw (to_z-of_z, to_z-of_z, c.as_str-in-Some-short_year-2.ensures.value) (record {
      word = string_bytes text;
      begins = string_bytes begins;
      ends = string_bytes ends;
      words_are = ap words_of all ∙ ap (λ (word : List ℕ). word ∷ string_bytes text ∷ string_bytes zone ∷ string_bytes begins ∷ string_bytes ends ∷ []) starts;
      text_is = sym (rw c.as_str-in-len5.ensures.value at c.in-Some.ensures);
      first_is = sym (rw c.as_bytes.ensures.value at c.in-Some-short_year.ensures);
      last_is = sym (rw c.as_bytes-in-len5.ensures.value at c.in-Some-short_year-2.ensures);
    })

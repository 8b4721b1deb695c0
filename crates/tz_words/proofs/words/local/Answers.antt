use Rattle.std.proofs.Common.{◌≡◌, ℕ, List, [], ◌∷◌, length, codes, string_bytes, sym, ap, ◌∙◌, rules, FitsSigned, arith}
use Rattle.std.specs.Int.{w64}
use Rattle.std.proofs.lemmas.Int.{to_z-of_z}
use Rattle.tz_words.specs.Command.{words_of}
use Rattle.tz_lookup.specs.Choice.{choice_word}
use Rattle.tz_words.proofs.FewWords.{five, alike}
use Rattle.tz_words.proofs.words.local.Goals as goal

pub returns-in-Some-local_time-clause-some : goal.returns-in-Some-local_time-clause-some
returns-in-Some-local_time-clause-some c =
    let words = c.args.words.now in
    let keyword = c.keyword-item.result in
    let text = c.text-item.result in
    let zone = c.zone-item.result in
    let time = c.time-item.result in
    let choice = c.choice-item.result in
    let long : length words ≡ 5 = omega arith in
    let all = five words keyword text zone time choice long c.keyword-item.is c.text-item.is c.zone-item.is c.time-item.is c.choice-item.is in
    let time_fits : FitsSigned w64 c.in-Some-local_time.time = search rules in
    let is_word : c.as_str.result.now ≡ codes "local" = alike c.as_str.result.now (codes "local") c.if-ne.ensures in
    let first : string_bytes keyword ≡ codes "local" = sym c.as_str.ensures.value ∙ is_word in
    let last : string_bytes choice ≡ choice_word c.in-Some-from_word.choice = sym c.as_str-in-len5-2.ensures.value ∙ c.in-Some-from_word.ensures.some in
    rw (to_z-of_z, c.as_str-in-Some-local_time.ensures.value) (record {
      word = string_bytes text;
      time = string_bytes time;
      words_are = ap words_of all ∙ ap (λ (word : List ℕ). word ∷ string_bytes text ∷ string_bytes zone ∷ string_bytes time ∷ string_bytes choice ∷ []) first ∙ ap (λ (word : List ℕ). codes "local" ∷ string_bytes text ∷ string_bytes zone ∷ string_bytes time ∷ word ∷ []) last;
      text_is = sym (rw c.as_str-in-len5.ensures.value at c.in-Some.ensures);
      time_is = sym (rw c.as_bytes.ensures.value at c.in-Some-local_time.ensures);
    })

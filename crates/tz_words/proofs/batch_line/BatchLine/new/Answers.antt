use Rattle.std.proofs.Common.{◌≡◌, ◌≢◌, ◌≤◌, ◌-◌, true, false, length, take, drop, codes, Some, string_bytes, sym, ◌∙◌, arith}
use Rattle.tz_words.specs.BatchCommand.{slot_count_of, are_texts}
use Rattle.tz_words.proofs.FewWords.{alike}
use Rattle.tz_words.proofs.BatchWords.{four_and_more, unlike, other_keyword, no_texts, is_batch}
use Rattle.tz_words.proofs.batch_line.BatchLine.new.Goals as goal
use Rattle.tz_words.proofs.batch_line.BatchLine.new.Goals.{then-ne-via-then-ne, then-ne-via-else-ne+then-not-are_texts}

pub returns-then-ne-clause-none : goal.returns-then-ne-clause-none
returns-then-ne-clause-none c = λ none batch.
    let words = c.args.words.now in
    let texts = take (length words - 4) (drop 4 words) in
    let keyword = c.keyword-item.result in
    let long : 4 ≤ length words = omega arith in
    let all = four_and_more words keyword c.script-item.result c.number-item.result c.leaps-item.result long c.keyword-item.is c.script-item.is c.number-item.is c.leaps-item.is in
    elim c.then-ne.branch [
      | then-ne-via-then-ne w ↦
          let other : string_bytes keyword ≢ codes "batch" = λ same. unlike c.as_str.result.now (codes "batch") w.if-ne.ensures (c.as_str.ensures.value ∙ same) in
          other_keyword words texts keyword c.script-item.result c.number-item.result c.leaps-item.result batch all other
      | then-ne-via-else-ne+then-not-are_texts w ↦
          let none : are_texts texts ≡ false = cc in
          no_texts words texts keyword c.script-item.result c.number-item.result c.leaps-item.result batch all none
    ]

pub returns-in-Some-clause-some : goal.returns-in-Some-clause-some
returns-in-Some-clause-some c =
    let words = c.args.words.now in
    let texts = take (length words - 4) (drop 4 words) in
    let keyword = c.keyword-item.result in
    let long : 4 ≤ length words = omega arith in
    let all = four_and_more words keyword c.script-item.result c.number-item.result c.leaps-item.result long c.keyword-item.is c.script-item.is c.number-item.is c.leaps-item.is in
    let is_word : c.as_str.result.now ≡ codes "batch" = alike c.as_str.result.now (codes "batch") c.if-ne.ensures in
    let starts : string_bytes keyword ≡ codes "batch" = sym c.as_str.ensures.value ∙ is_word in
    let counted : slot_count_of (string_bytes c.number-item.result) ≡ Some c.in-Some.slots = sym (rw c.as_bytes.ensures.value at c.in-Some.ensures.value) in
    let are : are_texts texts ≡ true = cc in
    rw (c.as_str-in-Some.ensures.value, c.as_str-in-Some-2.ensures.value) (is_batch words texts keyword c.script-item.result c.number-item.result c.leaps-item.result c.in-Some.slots all starts counted are)

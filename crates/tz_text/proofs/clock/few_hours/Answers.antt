use Rattle.std.proofs.Common.{◌≡◌, ◌*◌, ◌+◌, Some, ap, ◌∙◌, arith}
use Rattle.tz_text.proofs.Sizes.{one_digit, two_digits}
use Rattle.tz_text.proofs.clock.few_hours.Goals as goal

pub returns-in_ok-digit-in-len1-clause-value : goal.returns-in_ok-digit-in-len1-clause-value
returns-in_ok-digit-in-len1-clause-value c =
    let hours : 3600 * c.in_ok-digit-in-len1.field-0 ≡ 3600 * c.from.result = omega arith in
    one_digit c.args.word.now c.in_ok-digit-in-len1.field-0 c.in-len1.len_at_least c.in-len1.len_below c.in_ok-digit-in-len1.ensures.value ∙ ap Some hours

pub returns-in_ok-digit-in-len2-2-clause-value : goal.returns-in_ok-digit-in-len2-2-clause-value
returns-in_ok-digit-in-len2-2-clause-value c =
    let hours : 3600 * (10 * c.in_ok-digit-in-len2.field-0 + c.in_ok-digit-in-len2-2.field-0) ≡ 3600 * c.from-in-len2.result = omega arith in
    two_digits c.args.word.now c.in_ok-digit-in-len2.field-0 c.in_ok-digit-in-len2-2.field-0 c.in-len2.len_at_least c.in-len2.len_below c.in_ok-digit-in-len2.ensures.value c.in_ok-digit-in-len2-2.ensures.value ∙ ap Some hours

use Rattle.std.proofs.Common.{ap, sym, arith, ◌∙◌}
use Rattle.tz_text.proofs.Suffixes.{suffix_taken, suffix_left}
use Rattle.tz_text.proofs.clock.split_suffix.Goals as goal

pub returns-then-is_one_of-clause-front : goal.returns-then-is_one_of-clause-front
returns-then-is_one_of-clause-front c =
    ap (λ s. s.0) (sym (suffix_taken c.args.letters.now c.args.word.now c.lower_case-letter.result (omega arith) c.lower_case-letter.ensures (sym c.is_one_of.ensures ∙ c.if-is_one_of.true)))

pub returns-then-is_one_of-clause-suffix : goal.returns-then-is_one_of-clause-suffix
returns-then-is_one_of-clause-suffix c =
    ap (λ s. s.1) (sym (suffix_taken c.args.letters.now c.args.word.now c.lower_case-letter.result (omega arith) c.lower_case-letter.ensures (sym c.is_one_of.ensures ∙ c.if-is_one_of.true)))

pub returns-clause-front : goal.returns-clause-front
returns-clause-front c =
    ap (λ s. s.0) (sym (suffix_left c.args.letters.now c.args.word.now c.lower_case-letter.result (omega arith) c.lower_case-letter.ensures (sym c.is_one_of.ensures ∙ c.if-is_one_of.false)))

pub returns-clause-suffix : goal.returns-clause-suffix
returns-clause-suffix c =
    ap (λ s. s.1) (sym (suffix_left c.args.letters.now c.args.word.now c.lower_case-letter.result (omega arith) c.lower_case-letter.ensures (sym c.is_one_of.ensures ∙ c.if-is_one_of.false)))

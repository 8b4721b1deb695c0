use Rattle.std.proofs.Common.{◌≡◌, ℕ, ◌+◌, ◌<◌, ◌≤◌, List, length, take, sum_by, get_or, refl, ap, arith}
use Rattle.std.proofs.lemmas.List.Sums.{sum_by_more, sum_by-take-le}
use Rattle.std.proofs.Common.{take_all}
use Rattle.tz_types.specs.declared.limit.TheConstants.{MOST_BYTES}
use Rattle.tz_types.specs.Source.{bytes_together}
use Rattle.tz_types.proofs.source.are_few_bytes.Goals as goal

pub loop-text-init : goal.loop-text-init
loop-text-init c = refl

-- what is left, less one more text
one_less : (texts : List (List ℕ)) (place left : ℕ) (text : List ℕ) → place < length texts → text ≡ get_or texts place text → length text ≤ left → left + sum_by length (take place texts) ≡ MOST_BYTES → (less : ℕ) → less + length text ≡ left → less + sum_by length (take (place + 1) texts) ≡ MOST_BYTES
one_less texts place left text within is enough before less left_is =
    let next = sum_by_more length texts place text within in
    let count : length text ≡ length (get_or texts place text) = ap length is in
    omega (arith, next, count, before, left_is)

-- one more text is one too many
too_many : (texts : List (List ℕ)) (place left : ℕ) (text : List ℕ) → place < length texts → text ≡ get_or texts place text → (length text ≤ left → ⊥) → left + sum_by length (take place texts) ≡ MOST_BYTES → bytes_together texts ≤ MOST_BYTES → ⊥
too_many texts place left text within is more before few =
    let next = sum_by_more length texts place text within in
    let count : length text ≡ length (get_or texts place text) = ap length is in
    let part = sum_by-take-le length texts (place + 1) in
    more (omega (arith, next, count, before, part, few))

pub returns-in-None : goal.returns-in-None
returns-in-None c =
    let texts = c.args.texts.now in
    let text = c.text-item.result in
    let within : c.loop-text.text-index < length texts = c.loop-text-test.true in (
      λ none. absurd (cc),
      λ few. absurd (too_many texts c.loop-text.text-index c.loop-text.left text within c.text-item.is (λ enough. c.in-None.ensures (rw c.len.ensures enough)) c.loop-text.invariant few),
    )

pub loop-text-preserved : goal.loop-text-preserved
loop-text-preserved c =
    let texts = c.args.texts.now in
    let text = c.text-item.result in
    let within : c.loop-text.text-index < length texts = c.loop-text-test.true in
    let is = c.in-Some.ensures in
    let enough : length text ≤ c.loop-text.left = rw (← c.len.ensures) is.0 in
    let less = is.1 in
    let count = c.len.ensures in
    one_less texts c.loop-text.text-index c.loop-text.left text within c.text-item.is enough c.loop-text.invariant c.in-Some.less (omega (arith, less, count, enough))

pub returns : goal.returns
returns c =
    let texts = c.args.texts.now in
    let all : take c.loop-text.text-index texts ≡ texts = take_all c.loop-text.text-index texts c.loop-text-test.false in
    let sum : c.loop-text.left + bytes_together texts ≡ MOST_BYTES = rw all at c.loop-text.invariant in
    (λ yes. omega (arith, sum), λ few. refl)

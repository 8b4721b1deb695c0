-- Pieces that are put one after another stand there as one.
use Rattle.std.proofs.Common.{◌≡◌, ℕ, List, ◌++◌, ap, ◌∙◌, append_assoc}

-- one more piece behind what stands there
after_more : (out some more before after : List ℕ) → before ≡ out ++ some → after ≡ before ++ more → after ≡ out ++ (some ++ more)
after_more out some more before after first second = second ∙ ap (λ xs. xs ++ more) first ∙ append_assoc out some more

-- five pieces
pub after_five :
    (out a b c d e one two three four five : List ℕ) → one ≡ out ++ a → two ≡ one ++ b → three ≡ two ++ c → four ≡ three ++ d
    → five ≡ four ++ e → five ≡ out ++ (a ++ b ++ c ++ d ++ e)
after_five out a b c d e one two three four five first second third fourth fifth =
    let to_two = after_more out a b one two first second in
    let to_three = after_more out (a ++ b) c two three to_two third in
    let to_four = after_more out (a ++ b ++ c) d three four to_three fourth in
    after_more out (a ++ b ++ c ++ d) e four five to_four fifth

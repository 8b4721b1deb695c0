-- What the lines of writes settle.
use Rattle.std.proofs.Common.{◌≡◌, ℕ, suc, ◌+◌, ◌<◌, ◌^◌, List, [], ◌∷◌, ◌++◌, length, refl, sym, ap, ◌∙◌, arith, append_assoc}
use Rattle.std.proofs.Math.Nat.{suc_inj}
use Rattle.std.specs.List.{All}
use Rattle.std.specs.Fmt.{decimal}
use Rattle.std.specs.Prelude.{codes}
use Rattle.std.proofs.lemmas.List.{append_cancel_left}
use Rattle.std.proofs.lemmas.List.Elements.{All-head, All-tail}
use Rattle.pin_book.specs.declared.write.Change.{Change}
use Rattle.pin_book.specs.declared.write.Change.TheVariants.{Push, Erase}
use Rattle.pin_book.specs.declared.write.Write.{Write}
use Rattle.tz_batch.specs.OutcomeText.{change_text, write_line, write_lines}
use Rattle.tz_batch.specs.Fitting.{FitsWord, FitsChange, FitsWrite}
use Rattle.tz_batch.proofs.NumberCuts.{first_same, number_before}

-- what fits 32 bits fits 64
pub wider : (n : ℕ) → FitsWord n → n < 2 ^ 64
wider n h = omega arith

-- three pieces with what follows, from the left
pub three_pieces : (a b c z : List ℕ) → a ++ b ++ c ++ z ≡ a ++ (b ++ (c ++ z))
three_pieces a b c z = append_assoc (a ++ b) c z ∙ append_assoc a b (c ++ z)

-- four pieces
pub four_pieces : (a b c d z : List ℕ) → a ++ b ++ c ++ d ++ z ≡ a ++ (b ++ (c ++ (d ++ z)))
four_pieces a b c d z = append_assoc (a ++ b ++ c) d z ∙ three_pieces a b c (d ++ z)

-- five pieces
pub five_pieces : (a b c d f z : List ℕ) → a ++ b ++ c ++ d ++ f ++ z ≡ a ++ (b ++ (c ++ (d ++ (f ++ z))))
five_pieces a b c d f z = append_assoc (a ++ b ++ c ++ d) f z ∙ four_pieces a b c d (f ++ z)

-- six pieces
pub six_pieces : (a b c d f g z : List ℕ) → a ++ b ++ c ++ d ++ f ++ g ++ z ≡ a ++ (b ++ (c ++ (d ++ (f ++ (g ++ z)))))
six_pieces a b c d f g z = append_assoc (a ++ b ++ c ++ d ++ f) g z ∙ five_pieces a b c d f (g ++ z)

-- the text of a change with what follows, from the left
abbrev change_laid : Change → List ℕ → List ℕ
change_laid (Push n src slot) z =
    codes "push " ++ (decimal n ++ 32 ∷ (decimal src ++ 32 ∷ (decimal slot ++ z)))
change_laid (Erase after gone) z = codes "erase " ++ (decimal after ++ 32 ∷ (decimal gone ++ z))

change_is_laid : (change : Change) (z : List ℕ) → change_text change ++ z ≡ change_laid change z
unfolding change_text
change_is_laid (Push n src slot) z =
    four_pieces (codes "push") (32 ∷ decimal n) (32 ∷ decimal src) (32 ∷ decimal slot) z
change_is_laid (Erase after gone) z = three_pieces (codes "erase") (32 ∷ decimal after) (32 ∷ decimal gone) z

push_same : (n src slot m other place : ℕ) → n ≡ m → src ≡ other → slot ≡ place → Push n src slot ≡ Push m other place
push_same n src slot m other place one two three = cc

erase_same : (after gone behind other : ℕ) → after ≡ behind → gone ≡ other → Erase after gone ≡ Erase behind other
erase_same after gone behind other one two = cc

pub apart : (m n : ℕ) → n < m → m ≡ n → ⊥
apart m n h e = omega arith

p_is_not_e : (s t : List ℕ) → 112 ∷ s ≡ 101 ∷ t → ⊥
p_is_not_e s t e = apart 112 101 (omega arith) (first_same 112 101 s t e)

-- a change is settled by its text, where a newline follows
change_settled : (a b : Change) (x y : List ℕ) → FitsChange a → FitsChange b
    → change_laid a (10 ∷ x) ≡ change_laid b (10 ∷ y) → (a ≡ b) × (x ≡ y)
change_settled (Push n src slot) (Push m other place) x y fits_a fits_b e =
    let behind_word = append_cancel_left (codes "push ") (decimal n ++ 32 ∷ (decimal src ++ 32 ∷ (decimal slot ++ 10 ∷ x))) (decimal m ++ 32 ∷ (decimal other ++ 32 ∷ (decimal place ++ 10 ∷ y))) e in
    let first = number_before 32 n m (decimal src ++ 32 ∷ (decimal slot ++ 10 ∷ x)) (decimal other ++ 32 ∷ (decimal place ++ 10 ∷ y)) (omega arith) (wider n fits_a.0) (wider m fits_b.0) behind_word in
    let second = number_before 32 src other (decimal slot ++ 10 ∷ x) (decimal place ++ 10 ∷ y) (omega arith) (wider src fits_a.1) (wider other fits_b.1) first.1 in
    let third = number_before 10 slot place x y (omega arith) (wider slot fits_a.2) (wider place fits_b.2) second.1 in
    (push_same n src slot m other place first.0 second.0 third.0, third.1)
change_settled (Push n src slot) (Erase behind other) x y fits_a fits_b e =
    absurd (p_is_not_e (codes "ush " ++ (decimal n ++ 32 ∷ (decimal src ++ 32 ∷ (decimal slot ++ 10 ∷ x)))) (codes "rase " ++ (decimal behind ++ 32 ∷ (decimal other ++ 10 ∷ y))) e)
change_settled (Erase after gone) (Push m other place) x y fits_a fits_b e =
    absurd (p_is_not_e (codes "ush " ++ (decimal m ++ 32 ∷ (decimal other ++ 32 ∷ (decimal place ++ 10 ∷ y)))) (codes "rase " ++ (decimal after ++ 32 ∷ (decimal gone ++ 10 ∷ x))) (sym e))
change_settled (Erase after gone) (Erase behind other) x y fits_a fits_b e =
    let behind_word = append_cancel_left (codes "erase ") (decimal after ++ 32 ∷ (decimal gone ++ 10 ∷ x)) (decimal behind ++ 32 ∷ (decimal other ++ 10 ∷ y)) e in
    let first = number_before 32 after behind (decimal gone ++ 10 ∷ x) (decimal other ++ 10 ∷ y) (omega arith) (wider after fits_a.0) (wider behind fits_b.0) behind_word in
    let second = number_before 10 gone other x y (omega arith) (wider gone fits_a.1) (wider other fits_b.1) first.1 in
    (erase_same after gone behind other first.0 second.0, second.1)

-- the line of a write with what follows, from the left
abbrev write_laid : ℕ → Write → List ℕ → List ℕ
write_laid w write z =
    decimal w ++ 32 ∷ (decimal (write.by + 1) ++ 32 ∷ (decimal write.seq ++ 32 ∷ change_laid write.change (10 ∷ z)))

write_is_laid : (w : ℕ) (write : Write) (z : List ℕ) → write_line w write ++ z ≡ write_laid w write z
unfolding write_line
write_is_laid w write z =
    six_pieces (decimal w) (32 ∷ decimal (write.by + 1)) (32 ∷ decimal write.seq) (codes " ") (change_text write.change) (codes "\n") z
    ∙ ap (λ t. decimal w ++ 32 ∷ (decimal (write.by + 1) ++ 32 ∷ (decimal write.seq ++ 32 ∷ t))) (change_is_laid write.change (10 ∷ z))

abbrev write_of : ℕ → ℕ → Change → Write
write_of by seq change = record { by = by; seq = seq; change = change }

write_same : (a b : Write) → a.by ≡ b.by → a.seq ≡ b.seq → a.change ≡ b.change → a ≡ b
write_same a b one two three =
    ap (λ by. write_of by a.seq a.change) one ∙ ap (λ seq. write_of b.by seq a.change) two ∙ ap (λ change. write_of b.by b.seq change) three

-- a write is settled by its line
write_settled : (w : ℕ) (a b : Write) (x y : List ℕ) → w < 2 ^ 64 → FitsWrite a → FitsWrite b
    → write_line w a ++ x ≡ write_line w b ++ y → (a ≡ b) × (x ≡ y)
write_settled w a b x y low fits_a fits_b e =
    let laid : write_laid w a x ≡ write_laid w b y = sym (write_is_laid w a x) ∙ e ∙ write_is_laid w b y in
    let behind_place = number_before 32 w w (decimal (a.by + 1) ++ 32 ∷ (decimal a.seq ++ 32 ∷ change_laid a.change (10 ∷ x))) (decimal (b.by + 1) ++ 32 ∷ (decimal b.seq ++ 32 ∷ change_laid b.change (10 ∷ y))) (omega arith) low low laid in
    let lane = number_before 32 (a.by + 1) (b.by + 1) (decimal a.seq ++ 32 ∷ change_laid a.change (10 ∷ x)) (decimal b.seq ++ 32 ∷ change_laid b.change (10 ∷ y)) (omega arith) (omega (arith, fits_a.by)) (omega (arith, fits_b.by)) behind_place.1 in
    let count = number_before 32 a.seq b.seq (change_laid a.change (10 ∷ x)) (change_laid b.change (10 ∷ y)) (omega arith) (wider a.seq fits_a.seq) (wider b.seq fits_b.seq) lane.1 in
    let changed = change_settled a.change b.change x y fits_a.change fits_b.change count.1 in
    (write_same a b (omega (arith, lane.0)) count.0 changed.0, changed.1)

both_longer : (a b : Write) (p q : List Write) (x y : List ℕ) → a ≡ b → (p ≡ q) × (x ≡ y) → (a ∷ p ≡ b ∷ q) × (x ≡ y)
both_longer a b p q x y same h = (cc, h.1)

-- as many writes are settled by their lines
pub writes_settled : (w : ℕ) (p q : List Write) (x y : List ℕ) → w + length p < 2 ^ 64 → length p ≡ length q
    → All FitsWrite p → All FitsWrite q → write_lines w p ++ x ≡ write_lines w q ++ y → (p ≡ q) × (x ≡ y)
writes_settled w [] [] x y low long fits_p fits_q e = (refl, e)
writes_settled w [] (b ∷ q) x y low long fits_p fits_q e = absurd (omega arith)
writes_settled w (a ∷ p) [] x y low long fits_p fits_q e = absurd (omega arith)
writes_settled w (a ∷ p) (b ∷ q) x y low long fits_p fits_q e =
    let nested : write_line w a ++ (write_lines (suc w) p ++ x) ≡ write_line w b ++ (write_lines (suc w) q ++ y) = sym (append_assoc (write_line w a) (write_lines (suc w) p) x) ∙ e ∙ append_assoc (write_line w b) (write_lines (suc w) q) y in
    let first = write_settled w a b (write_lines (suc w) p ++ x) (write_lines (suc w) q ++ y) (omega arith) (All-head FitsWrite a p fits_p) (All-head FitsWrite b q fits_q) nested in
    both_longer a b p q x y first.0 (writes_settled (suc w) p q x y (omega arith) (suc_inj long) (All-tail FitsWrite a p fits_p) (All-tail FitsWrite b q fits_q) first.1)

-- What the text of an outcome settles.
use Rattle.std.proofs.Common.{◌≡◌, ℕ, ◌<◌, ◌^◌, List, [], ◌∷◌, ◌++◌, length, map, refl, sym, ap, ◌∙◌, arith, append_assoc}
use Rattle.std.proofs.Math.Nat.{suc_inj}
use Rattle.std.specs.List.{All, flat_map}
use Rattle.std.specs.Fmt.{decimal}
use Rattle.std.specs.Prelude.{codes, IsTrue}
use Rattle.std.proofs.lemmas.List.{append_cancel_left}
use Rattle.std.proofs.lemmas.List.Elements.{All-head, All-tail}
use Rattle.tz_batch.specs.OutcomeText.{write_lines, answer_text, reply_line, count_line, outcome_text}
use Rattle.tz_batch.specs.Fitting.{FitsWord, FitsWrite, FitsReply, FitsOutcome, is_one_line, ReplyTold, reply_told}
use Rattle.tz_batch.specs.declared.outcome.Outcome.{Outcome}
use Rattle.tz_batch.specs.declared.reply.Reply.{Reply}
use Rattle.tz_batch.proofs.NumberCuts.{first_same, rest_same, number_before}
use Rattle.tz_batch.proofs.OneLine.{first_differs, later_too, answer_one}
use Rattle.tz_batch.proofs.WriteTexts.{wider, three_pieces, four_pieces, six_pieces, writes_settled}

-- a count is settled by its line
count_settled : (word : List ℕ) (m n : ℕ) (x y : List ℕ) → m < 2 ^ 64 → n < 2 ^ 64
    → count_line word m ++ x ≡ count_line word n ++ y → (m ≡ n) × (x ≡ y)
count_settled word m n x y fits_m fits_n e =
    let laid : word ++ (decimal m ++ 10 ∷ x) ≡ word ++ (decimal n ++ 10 ∷ y) = sym (three_pieces word (decimal m) (codes "\n") x) ∙ e ∙ three_pieces word (decimal n) (codes "\n") y in
    number_before 10 m n x y (omega arith) fits_m fits_n (append_cancel_left word (decimal m ++ 10 ∷ x) (decimal n ++ 10 ∷ y) laid)

-- the replies and the last line
abbrev pub replies_text : List Reply → List ℕ
replies_text replies = flat_map reply_line replies ++ codes "end\n"

-- the whole text, from the left
abbrev outcome_laid : Outcome → List ℕ
outcome_laid outcome =
    count_line (codes "journal ") (length outcome.journal)
    ++ (write_lines 1 outcome.journal ++ (count_line (codes "replies ") (length outcome.replies) ++ replies_text outcome.replies))

outcome_is_laid : (outcome : Outcome) → outcome_text outcome ≡ outcome_laid outcome
unfolding outcome_text
outcome_is_laid outcome =
    four_pieces (count_line (codes "journal ") (length outcome.journal)) (write_lines 1 outcome.journal) (count_line (codes "replies ") (length outcome.replies)) (flat_map reply_line outcome.replies) (codes "end\n")

-- the numbers that are printed before the replies fit
pub record FitsFront (outcome : Outcome) : Type 0 where
  pub few_writes : FitsWord (length outcome.journal)
  pub few_replies : FitsWord (length outcome.replies)
  pub writes : All FitsWrite outcome.journal

front_of_outcome : (outcome : Outcome) → FitsOutcome outcome → FitsFront outcome
front_of_outcome outcome fits = record { few_writes = fits.few_writes; few_replies = fits.few_replies; writes = fits.writes }

-- an outcome's text settles the journal, how many replies there are, and their text
pub parts_settled : (a b : Outcome) → FitsFront a → FitsFront b → outcome_text a ≡ outcome_text b
    → (a.journal ≡ b.journal) × (length a.replies ≡ length b.replies) × (replies_text a.replies ≡ replies_text b.replies)
parts_settled a b fits_a fits_b e =
    let laid : outcome_laid a ≡ outcome_laid b = sym (outcome_is_laid a) ∙ e ∙ outcome_is_laid b in
    let count = count_settled (codes "journal ") (length a.journal) (length b.journal) (write_lines 1 a.journal ++ (count_line (codes "replies ") (length a.replies) ++ replies_text a.replies)) (write_lines 1 b.journal ++ (count_line (codes "replies ") (length b.replies) ++ replies_text b.replies)) (wider (length a.journal) fits_a.few_writes) (wider (length b.journal) fits_b.few_writes) laid in
    let writes = writes_settled 1 a.journal b.journal (count_line (codes "replies ") (length a.replies) ++ replies_text a.replies) (count_line (codes "replies ") (length b.replies) ++ replies_text b.replies) (omega (arith, fits_a.few_writes)) count.0 fits_a.writes fits_b.writes count.1 in
    let replies = count_settled (codes "replies ") (length a.replies) (length b.replies) (replies_text a.replies) (replies_text b.replies) (wider (length a.replies) fits_a.few_replies) (wider (length b.replies) fits_b.few_replies) writes.1 in
    (writes.0, replies.0, replies.1)

pub journal_settled : (a b : Outcome) → FitsOutcome a → FitsOutcome b → outcome_text a ≡ outcome_text b → a.journal ≡ b.journal
journal_settled a b fits_a fits_b e = (parts_settled a b (front_of_outcome a fits_a) (front_of_outcome b fits_b) e).0

both_longer : (g : ℕ) (s t x y : List ℕ) → (s ≡ t) × (x ≡ y) → (g ∷ s ≡ g ∷ t) × (x ≡ y)
both_longer g s t x y h = (ap (λ zs. g ∷ zs) h.0, h.1)

-- a line ends where its newline stands
line_ends : (s t x y : List ℕ) → IsTrue (is_one_line s) → IsTrue (is_one_line t) → s ++ 10 ∷ x ≡ t ++ 10 ∷ y → (s ≡ t) × (x ≡ y)
line_ends [] [] x y one_s one_t e = (refl, rest_same 10 10 x y e)
line_ends [] (g ∷ t) x y one_s one_t e =
    absurd (first_differs g t one_t (sym (first_same 10 g x (t ++ 10 ∷ y) e)))
line_ends (f ∷ s) [] x y one_s one_t e =
    absurd (first_differs f s one_s (first_same f 10 (s ++ 10 ∷ x) y e))
line_ends (f ∷ s) (g ∷ t) x y one_s one_t e =
    let same : f ≡ g = first_same f g (s ++ 10 ∷ x) (t ++ 10 ∷ y) e in
    let later = line_ends s t x y (later_too f s one_s) (later_too g t one_t) (rest_same f g (s ++ 10 ∷ x) (t ++ 10 ∷ y) e) in
    rw same (both_longer g s t x y later)

-- a reply's line with what follows, from the left
abbrev pub reply_laid : Reply → List ℕ → List ℕ
reply_laid reply z =
    decimal reply.line ++ 32 ∷ 64 ∷ (decimal reply.w ++ 32 ∷ (answer_text reply.answer ++ 10 ∷ z))

pub reply_is_laid : (reply : Reply) (z : List ℕ) → reply_line reply ++ z ≡ reply_laid reply z
unfolding reply_line
reply_is_laid reply z =
    six_pieces (decimal reply.line) (codes " @") (decimal reply.w) (codes " ") (answer_text reply.answer) (codes "\n") z

told_of : ℕ → ℕ → List ℕ → ReplyTold
told_of line w text = record { line = line; w = w; text = text }

told_same : (line other w place : ℕ) (text given : List ℕ) → line ≡ other → w ≡ place → text ≡ given
    → told_of line w text ≡ told_of other place given
told_same line other w place text given one two three = cc

-- what a reply tells is settled by its line
reply_settled : (a b : Reply) (x y : List ℕ) → FitsReply a → FitsReply b
    → reply_line a ++ x ≡ reply_line b ++ y → (reply_told a ≡ reply_told b) × (x ≡ y)
unfolding told_of
reply_settled a b x y fits_a fits_b e =
    let laid : reply_laid a x ≡ reply_laid b y = sym (reply_is_laid a x) ∙ e ∙ reply_is_laid b y in
    let line = number_before 32 a.line b.line (64 ∷ (decimal a.w ++ 32 ∷ (answer_text a.answer ++ 10 ∷ x))) (64 ∷ (decimal b.w ++ 32 ∷ (answer_text b.answer ++ 10 ∷ y))) (omega arith) (wider a.line fits_a.line) (wider b.line fits_b.line) laid in
    let behind : decimal a.w ++ 32 ∷ (answer_text a.answer ++ 10 ∷ x) ≡ decimal b.w ++ 32 ∷ (answer_text b.answer ++ 10 ∷ y) = rest_same 64 64 (decimal a.w ++ 32 ∷ (answer_text a.answer ++ 10 ∷ x)) (decimal b.w ++ 32 ∷ (answer_text b.answer ++ 10 ∷ y)) line.1 in
    let position = number_before 32 a.w b.w (answer_text a.answer ++ 10 ∷ x) (answer_text b.answer ++ 10 ∷ y) (omega arith) (wider a.w fits_a.position) (wider b.w fits_b.position) behind in
    let answer = line_ends (answer_text a.answer) (answer_text b.answer) x y (answer_one a.answer fits_a.answer) (answer_one b.answer fits_b.answer) position.1 in
    (told_same a.line b.line a.w b.w (answer_text a.answer) (answer_text b.answer) line.0 position.0 answer.0, answer.1)

more_told : (a b : Reply) (p q : List Reply) → reply_told a ≡ reply_told b → map reply_told p ≡ map reply_told q
    → map reply_told (a ∷ p) ≡ map reply_told (b ∷ q)
more_told a b p q first later = cc

-- as many replies tell the same where their texts are the same
replies_settled : (p q : List Reply) (x y : List ℕ) → length p ≡ length q → All FitsReply p → All FitsReply q
    → flat_map reply_line p ++ x ≡ flat_map reply_line q ++ y
    → map reply_told p ≡ map reply_told q
replies_settled [] [] x y long fits_p fits_q e = refl
replies_settled [] (b ∷ q) x y long fits_p fits_q e = absurd (omega arith)
replies_settled (a ∷ p) [] x y long fits_p fits_q e = absurd (omega arith)
replies_settled (a ∷ p) (b ∷ q) x y long fits_p fits_q e =
    let nested : reply_line a ++ (flat_map reply_line p ++ x) ≡ reply_line b ++ (flat_map reply_line q ++ y) = sym (append_assoc (reply_line a) (flat_map reply_line p) x) ∙ e ∙ append_assoc (reply_line b) (flat_map reply_line q) y in
    let first = reply_settled a b (flat_map reply_line p ++ x) (flat_map reply_line q ++ y) (All-head FitsReply a p fits_p) (All-head FitsReply b q fits_q) nested in
    let later = replies_settled p q x y (suc_inj long) (All-tail FitsReply a p fits_p) (All-tail FitsReply b q fits_q) first.1 in
    more_told a b p q first.0 later

pub told_settled : (a b : Outcome) → FitsOutcome a → FitsOutcome b
    → outcome_text a ≡ outcome_text b → map reply_told a.replies ≡ map reply_told b.replies
told_settled a b fits_a fits_b e =
    let parts = parts_settled a b (front_of_outcome a fits_a) (front_of_outcome b fits_b) e in
    replies_settled a.replies b.replies (codes "end\n") (codes "end\n") parts.1 fits_a.replies fits_b.replies parts.2

-- A suffix is looked for in the last byte alone.
use Rattle.std.proofs.Common.{◌≡◌, ℕ, zero, suc, ◌-◌, ◌<◌, ◌==◌, Bool, true, false, if◌then◌else◌, List, [], ◌∷◌, length, get_or, take, refl, ap, ◌∙◌, arith}
use Rattle.std.specs.List.{list_any}
use Rattle.tz_specs.specs.Word.{lower}
use Rattle.tz_specs.specs.Amount.{suffix_split, onto_front}

onto_choice : (test : Bool) (byte letter : ℕ) (front all : List ℕ) → onto_front byte (if test then (front, letter) else (all, 0)) ≡ (if test then (byte ∷ front, letter) else (byte ∷ all, 0))
onto_choice true byte letter front all = refl
onto_choice false byte letter front all = refl

pub suffix_at : (letters word : List ℕ) (n : ℕ) → length word ≡ suc n → suffix_split letters word ≡ (if list_any (λ letter. lower (get_or word n 0) == letter) letters then (take n word, lower (get_or word n 0)) else (word, 0))
suffix_at letters [] n long = absurd (omega arith)
suffix_at letters (byte ∷ []) zero long = refl
suffix_at letters (byte ∷ []) (suc n) long = absurd (omega arith)
suffix_at letters (byte ∷ next ∷ bytes) zero long = absurd (omega arith)
suffix_at letters (byte ∷ next ∷ bytes) (suc n) long =
    ap (onto_front byte) (suffix_at letters (next ∷ bytes) n (omega arith))
    ∙ onto_choice (list_any (λ letter. lower (get_or (next ∷ bytes) n 0) == letter) letters) byte (lower (get_or (next ∷ bytes) n 0)) (take n (next ∷ bytes)) (next ∷ bytes)

pub suffix_last : (letters word : List ℕ) → 0 < length word → suffix_split letters word ≡ (if list_any (λ letter. lower (get_or word (length word - 1) 0) == letter) letters then (take (length word - 1) word, lower (get_or word (length word - 1) 0)) else (word, 0))
suffix_last letters word some = suffix_at letters word (length word - 1) (omega arith)

pub suffix_taken : (letters word : List ℕ) (letter : ℕ) → 0 < length word → letter ≡ lower (get_or word (length word - 1) 0) → list_any (λ other. letter == other) letters ≡ true → suffix_split letters word ≡ (take (length word - 1) word, letter)
suffix_taken letters word letter some is one =
    let test : list_any (λ other. lower (get_or word (length word - 1) 0) == other) letters ≡ true = rw is at one in
    suffix_last letters word some ∙ rw (test, is) refl

pub suffix_left : (letters word : List ℕ) (letter : ℕ) → 0 < length word → letter ≡ lower (get_or word (length word - 1) 0) → list_any (λ other. letter == other) letters ≡ false → suffix_split letters word ≡ (word, 0)
suffix_left letters word letter some is none =
    let test : list_any (λ other. lower (get_or word (length word - 1) 0) == other) letters ≡ false = rw is at none in
    suffix_last letters word some ∙ rw test refl

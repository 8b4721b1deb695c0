-- Lines that come one after another.
use Rattle.std.proofs.Common.{◌≡◌, ℕ, zero, suc, ◌+◌, List, [], ◌∷◌, ◌++◌, map, codes, refl, sym, ap, ◌∙◌, arith, append_assoc}
use Rattle.std.specs.List.{flat_map, range_with_len}
use Rattle.std.proofs.lemmas.Grind.{flat_map-append}
use Rattle.std.proofs.lemmas.List.FromFn.{map-range_with_len_more}
use Rattle.tz_gen.specs.Generated.{bytes_of_lines}

-- one number more
range_more : (a n : ℕ) → range_with_len a (suc n) ≡ range_with_len a n ++ (a + n) ∷ []
range_more a zero = ap (λ k. k ∷ []) (let same : a ≡ a + 0 = omega arith in same)
range_more a (suc n) = ap (λ ks. a ∷ ks) (range_more (a + 1) n ∙ ap (λ k. range_with_len (a + 1) n ++ k ∷ []) (let same : a + 1 + n ≡ a + suc n = omega arith in same))

nothing_behind : {B : Type 0} (bs : List B) → bs ++ [] ≡ bs
nothing_behind [] = refl
nothing_behind (b ∷ bs) = ap (λ more. b ∷ more) (nothing_behind bs)

one_line : (line : List ℕ) → bytes_of_lines (line ∷ []) ≡ line ++ codes "\n"
one_line line = nothing_behind (line ++ codes "\n")

-- what was put behind the text so far, all together
pub put_behind : (first before after done next all : List ℕ) → before ≡ first ++ done → after ≡ before ++ next → all ≡ done ++ next → after ≡ first ++ all
put_behind first before after done next all so_far put together =
    put ∙ ap (λ (bytes : List ℕ). bytes ++ next) so_far ∙ append_assoc first done next ∙ ap (λ (bytes : List ℕ). first ++ bytes) (sym together)

pub more_lines : (f : ℕ → List ℕ) (a i j : ℕ) → a + i ≡ j → bytes_of_lines (map f (range_with_len a (i + 1))) ≡ bytes_of_lines (map f (range_with_len a i)) ++ (f j ++ codes "\n")
more_lines f a i j at =
    ap bytes_of_lines (map-range_with_len_more f a i j at) ∙ flat_map-append (λ (line : List ℕ). line ++ codes "\n") (map f (range_with_len a i)) (f j ∷ [])
    ∙ ap (λ (bytes : List ℕ). bytes_of_lines (map f (range_with_len a i)) ++ bytes) (one_line (f j))

-- so many parts, and one part more
more_parts : {A B : Type 0} (f : A → List B) (xs : List A) (x : A) → flat_map f (xs ++ x ∷ []) ≡ flat_map f xs ++ f x
more_parts f xs x = flat_map-append f xs (x ∷ []) ∙ ap (λ bs. flat_map f xs ++ bs) (nothing_behind (f x))

pub more_blocks : (f : ℕ → List (List ℕ)) (a i j : ℕ) → a + i ≡ j → bytes_of_lines (flat_map f (range_with_len a (i + 1))) ≡ bytes_of_lines (flat_map f (range_with_len a i)) ++ bytes_of_lines (f j)
more_blocks f a i j at =
    ap (λ n. bytes_of_lines (flat_map f (range_with_len a n))) (let same : i + 1 ≡ suc i = omega arith in same)
    ∙ ap (λ ks. bytes_of_lines (flat_map f ks)) (range_more a i ∙ ap (λ k. range_with_len a i ++ k ∷ []) at)
    ∙ ap bytes_of_lines (more_parts f (range_with_len a i) j)
    ∙ flat_map-append (λ (line : List ℕ). line ++ codes "\n") (flat_map f (range_with_len a i)) (f j)

four_together : (o a b c d : List ℕ) → (((o ++ a) ++ b) ++ c) ++ d ≡ o ++ (a ++ (b ++ (c ++ d)))
four_together o a b c d = simp append_assoc

six_together : (o a b c d e f : List ℕ) → (((((o ++ a) ++ b) ++ c) ++ d) ++ e) ++ f ≡ o ++ (a ++ (b ++ (c ++ (d ++ (e ++ f)))))
six_together o a b c d e f = simp append_assoc

line_together : (o a b c d e f : List ℕ) → (((((o ++ a) ++ b) ++ c) ++ d) ++ e) ++ f ≡ o ++ ((a ++ b ++ c ++ d ++ e) ++ f)
line_together o a b c d e f = simp append_assoc

-- pieces that were put one behind another
pub four_put : (o a b c d o1 o2 o3 o4 : List ℕ) → o1 ≡ o ++ a → o2 ≡ o1 ++ b → o3 ≡ o2 ++ c → o4 ≡ o3 ++ d → o4 ≡ o ++ (a ++ (b ++ (c ++ d)))
four_put o a b c d o1 o2 o3 o4 p q r s = cc (four_together o a b c d)

pub six_put : (o a b c d e f o1 o2 o3 o4 o5 o6 : List ℕ) → o1 ≡ o ++ a → o2 ≡ o1 ++ b → o3 ≡ o2 ++ c → o4 ≡ o3 ++ d → o5 ≡ o4 ++ e → o6 ≡ o5 ++ f → o6 ≡ o ++ (a ++ (b ++ (c ++ (d ++ (e ++ f)))))
six_put o a b c d e f o1 o2 o3 o4 o5 o6 p q r s t u = cc (six_together o a b c d e f)

-- the same pieces, as the parts of one line
pub line_put : (o a b c d e f o1 o2 o3 o4 o5 o6 : List ℕ) → o1 ≡ o ++ a → o2 ≡ o1 ++ b → o3 ≡ o2 ++ c → o4 ≡ o3 ++ d → o5 ≡ o4 ++ e → o6 ≡ o5 ++ f → o6 ≡ o ++ ((a ++ b ++ c ++ d ++ e) ++ f)
line_put o a b c d e f o1 o2 o3 o4 o5 o6 p q r s t u = cc (line_together o a b c d e f)

-- what was put behind nothing
pub put_first : (start out all : List ℕ) → start ≡ [] → out ≡ start ++ all → out ≡ all
put_first start out all none put = put ∙ ap (λ (bytes : List ℕ). bytes ++ all) none

-- Occurrences put in order one by one are those of the definition.
use Rattle.std.proofs.Common.{◌≡◌, ℕ, suc, ◌+◌, ◌-◌, ◌<◌, ◌≤◌, true, false, List, [], ◌∷◌, ◌++◌, length, take, drop, get_or, map, refl, sym, ap, ◌∙◌, arith, ℤ, pos, ◌-ℤ◌, append_assoc}
use Rattle.std.specs.Prelude.{filter, flat_map}
use Rattle.std.specs.List.{range_with_len, insert}
use Rattle.std.proofs.lemmas.Int.{ints}
use Rattle.std.proofs.lemmas.List.{drop_more, take_more, drop_all, take_all}
use Rattle.tz_types.specs.declared.rule.Rule.{Rule}
use Rattle.tz_types.specs.declared.rule_set.RuleSet.{RuleSet}
use Rattle.tz_specs.specs.Occurrence.{Occurrence, rule_years, is_year_of, occurrences_of_rule, precedes, put_in_order, in_order, occurrences}
use Rattle.tz_specs.proofs.Tests.{by_test}
use Rattle.rule_rows.specs.Listing.{put_all, occurrence_in}

-- ---- where an occurrence is put
put-before : (x y : Occurrence) (later : List Occurrence) → precedes x y ≡ true → put_in_order x (y ∷ later) ≡ x ∷ y ∷ later
put-before x y later h = rw h

put-after : (x y : Occurrence) (later : List Occurrence) → precedes x y ≡ false → put_in_order x (y ∷ later) ≡ y ∷ put_in_order x later
put-after x y later h = rw h

pub place_later : (x y : Occurrence) (list : List Occurrence) (i : ℕ) → i < length list → y ≡ get_or list i y → precedes x y ≡ false → take i list ++ put_in_order x (drop i list) ≡ put_in_order x list → take (i + 1) list ++ put_in_order x (drop (i + 1) list) ≡ put_in_order x list
place_later x y list i low is test so_far =
    let front : take (i + 1) list ≡ take i list ++ y ∷ [] = take_more list i y low ∙ ap (λ (z : Occurrence). take i list ++ z ∷ []) (sym is) in
    let back : drop i list ≡ y ∷ drop (i + 1) list = drop_more list i y low ∙ ap (λ (z : Occurrence). z ∷ drop (i + 1) list) (sym is) in
    let put = put-after x y (drop (i + 1) list) test in
    ap (λ (z : List Occurrence). z ++ put_in_order x (drop (i + 1) list)) front ∙ append_assoc (take i list) (y ∷ []) (put_in_order x (drop (i + 1) list))
    ∙ ap (λ (z : List Occurrence). take i list ++ z) (sym put ∙ ap (put_in_order x) (sym back))
    ∙ so_far

pub place_here : (x y : Occurrence) (list : List Occurrence) (i : ℕ) → i < length list → y ≡ get_or list i y → precedes x y ≡ true → take i list ++ put_in_order x (drop i list) ≡ put_in_order x list → insert list i x ≡ put_in_order x list
place_here x y list i low is test so_far =
    let back : drop i list ≡ y ∷ drop (i + 1) list = drop_more list i y low ∙ ap (λ (z : Occurrence). z ∷ drop (i + 1) list) (sym is) in
    ap (λ (z : List Occurrence). take i list ++ x ∷ z) back
    ∙ ap (λ (z : List Occurrence). take i list ++ z) (sym (put-before x y (drop (i + 1) list) test) ∙ ap (put_in_order x) (sym back))
    ∙ so_far

pub place_last : (x : Occurrence) (list : List Occurrence) (i end : ℕ) → length list ≤ i → end ≡ length list → take i list ++ put_in_order x (drop i list) ≡ put_in_order x list → insert list end x ≡ put_in_order x list
place_last x list i end high is so_far =
    let none = drop_all i list high in
    let none_at_end = drop_all end list (omega arith) in
    let all = take_all i list high in
    let all_at_end = take_all end list (omega arith) in
    ap (λ (z : List Occurrence). take end list ++ x ∷ z) none_at_end
    ∙ ap (λ (z : List Occurrence). z ++ x ∷ []) (all_at_end ∙ sym all)
    ∙ ap (λ (z : List Occurrence). take i list ++ put_in_order x z) (sym none)
    ∙ so_far

-- ---- the years of a rule
abbrev pub year_number : ℕ → ℤ
year_number n = pos n -ℤ pos 9998

-- the occurrences of a rule in so many years from one on
abbrev pub occurrences_from : Rule → ℕ → ℕ → List Occurrence
occurrences_from rule first count =
    map (λ year. record { rule = rule; year = year }) (filter (is_year_of rule) (map year_number (range_with_len first count)))

one_before : (rule : Rule) (first count : ℕ) (list : List Occurrence) → put_all (occurrence_in rule (year_number first)) (put_all (occurrences_from rule (first + 1) count) list) ≡ put_all (occurrences_from rule first (suc count)) list
one_before rule first count list =
    by_test (is_year_of rule (year_number first)) (λ (h : is_year_of rule (year_number first) ≡ true). rw h refl) (λ (h : is_year_of rule (year_number first) ≡ false). rw h refl)

-- the years that are left
abbrev pub Puts : Rule → ℕ → ℕ → List Occurrence → List Occurrence → Type 0
Puts rule first count before list = put_all (occurrences_from rule first count) before ≡ list

puts_more : (rule : Rule) (first next count more : ℕ) (before list after : List Occurrence) → next ≡ first + 1 → more ≡ suc count → Puts rule next count before list → after ≡ put_all (occurrence_in rule (year_number first)) list → Puts rule first more before after
puts_more rule first next count more before list after follows counts so_far put =
    let here : Puts rule (first + 1) count before list = rw follows at so_far in
    rw (counts, put, ← here) (sym (one_before rule first count before))

pub year_back : (all count : ℕ) (rule : Rule) (year : ℤ) (before list after : List Occurrence) → all ≡ 19_997 → count < all → year ≡ (pos 9998 -ℤ pos count) → Puts rule (all - count) count before list → after ≡ put_all (occurrence_in rule year) list → Puts rule (all - (count + 1)) (count + 1) before after
year_back all count rule year before list after is low year_is so_far put =
    let same : year_number (all - (count + 1)) ≡ year = omega (arith, ints) in
    puts_more rule (all - (count + 1)) (all - count) count (count + 1) before list after (omega arith) (omega arith) so_far (put ∙ ap (λ (y : ℤ). put_all (occurrence_in rule y) list) (sym same))

all_years_from_zero : (all : ℕ) (rule : Rule) (before list : List Occurrence) → all ≡ 19_997 → Puts rule 0 all before list → list ≡ put_all (occurrences_of_rule rule) before
unfolding rule_years
all_years_from_zero all rule before list is whole = sym whole ∙ ap (λ (n : ℕ). put_all (occurrences_from rule 0 n) before) is

pub all_years : (all count : ℕ) (rule : Rule) (before list : List Occurrence) → all ≡ 19_997 → all ≤ count → count ≤ all → Puts rule (all - count) count before list → list ≡ put_all (occurrences_of_rule rule) before
all_years all count rule before list is low high so_far =
    let none_left : all - count ≡ 0 = omega arith in
    let counted : count ≡ 19_997 = omega arith in
    let whole : Puts rule 0 count before list = rw none_left at so_far in
    all_years_from_zero count rule before list counted whole

-- ---- the rules of a set
put_all-append : (xs ys list : List Occurrence) → put_all (xs ++ ys) list ≡ put_all xs (put_all ys list)
put_all-append [] ys list = refl
put_all-append (x ∷ xs) ys list = ap (put_in_order x) (put_all-append xs ys list)

put_all-nil : (xs : List Occurrence) → put_all xs [] ≡ in_order xs
put_all-nil [] = refl
put_all-nil (x ∷ xs) = ap (put_in_order x) (put_all-nil xs)

in_order-append : (xs ys : List Occurrence) → in_order (xs ++ ys) ≡ put_all xs (in_order ys)
in_order-append xs ys = sym (put_all-nil (xs ++ ys)) ∙ put_all-append xs ys [] ∙ ap (put_all xs) (put_all-nil ys)

pub rule_back : (rules : List Rule) (rule : Rule) (place first next : ℕ) (list after : List Occurrence) → place ≡ first → next ≡ first + 1 → first < length rules → rule ≡ get_or rules place rule → list ≡ in_order (flat_map occurrences_of_rule (drop next rules)) → after ≡ put_all (occurrences_of_rule rule) list → after ≡ in_order (flat_map occurrences_of_rule (drop first rules))
rule_back rules rule place first next list after there follows low is so_far put =
    let is' : rule ≡ get_or rules first rule = rw there at is in
    let here : drop first rules ≡ rule ∷ drop (first + 1) rules = drop_more rules first rule low ∙ ap (λ (z : Rule). z ∷ drop (first + 1) rules) (sym is') in
    let so_far' : list ≡ in_order (flat_map occurrences_of_rule (drop (first + 1) rules)) = rw follows at so_far in
    rw (here, put, so_far') (sym (in_order-append (occurrences_of_rule rule) (flat_map occurrences_of_rule (drop (first + 1) rules))))

pub all_rules : (set : RuleSet) (rules : List Rule) (back : ℕ) (list : List Occurrence) → rules ≡ set.rules → length rules ≤ back → list ≡ in_order (flat_map occurrences_of_rule (drop (length rules - back) rules)) → list ≡ occurrences set
unfolding occurrences
all_rules set rules back list is high so_far =
    let none_left : length rules - back ≡ 0 = omega arith in
    let whole : list ≡ in_order (flat_map occurrences_of_rule rules) = rw none_left at so_far in
    whole ∙ ap (λ (z : List Rule). in_order (flat_map occurrences_of_rule z)) is

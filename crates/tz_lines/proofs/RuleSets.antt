-- Rule sets put in the order of their names, with one more rule.
use Rattle.std.proofs.Common.{◌≡◌, ◌≢◌, ℕ, zero, suc, ◌<◌, ◌≤◌, Bool, true, false, ◌&&◌, ◌||◌, nat_le, nat_lt, cond, if◌then◌else◌, IsTrue, List, [], ◌∷◌, ◌++◌, length, map, get_or, set, Option, Some, None, Result, Ok, Err, refl, sym, ap, ◌∙◌, ⊎_elim, subst, arith}
use Rattle.std.proofs.lemmas.Bool.{cases_Bool, and_parts, and_from, or_parts}
use Rattle.std.specs.List.{find, list_all, list_any, slice_get, AllPairs}
use Rattle.std.specs.List.Sorted.{IsPermutation}
use Rattle.std.specs.Result.{OnOk, OnErr}
use Rattle.std.specs.Cmp.Lexicographic.{nat_list_eq_equiv}
use Rattle.std.proofs.lemmas.List.{length-map, length-append, get_or-map, map-set, map-append, set-get_or}
use Rattle.std.proofs.lemmas.List.Quantifiers.{position-Some}
use Rattle.std.proofs.lemmas.List.Sorted.{IsPermutation-refl, IsPermutation-trans, IsPermutation-cons, IsPermutation-middle, IsPermutation-map, IsPermutation-sym, Contains-permutation}
use Rattle.std.proofs.lemmas.Slice.Eq.{bytes_eq-Decides}
use Rattle.tz_types.specs.Order.{ascends, ascends_after, name_before}
use Rattle.tz_types.specs.declared.limit.TheConstants.{MOST_RULES, MOST_SETS}
use Rattle.tz_types.specs.declared.rule.Rule.{Rule}
use Rattle.tz_types.specs.declared.rule_set.RuleSet.{RuleSet}
use Rattle.tz_specs.specs.Value.{is_exactly}
use Rattle.tz_specs.specs.Written.{WrittenRule, WrittenSet, written_rule, written_set, set_names}
use Rattle.tz_specs.specs.Contents.{is_set_named, with_rule, is_full_set}
use Rattle.tz_specs.proofs.AscendingLemmas.{never_before_itself, same_ascending}
use Rattle.tz_database.proofs.NameOrder.{before_trans, before_other}
use Rattle.tz_lines.specs.NameIndex.{name_position}
use Rattle.tz_lines.specs.RuleSets.{with_set, in_name_order}
use Rattle.tz_lines.specs.RecordOrder.{are_before}
use Rattle.tz_lines.proofs.NameIndex.{differs, apart_rest, first_apart, not_there}

-- the name of a set as it is written
abbrev pub name_of : WrittenSet → List ℕ
name_of it = it.name

written_names : (sets : List RuleSet) → map name_of (map written_set sets) ≡ set_names sets
written_names [] = refl
written_names (it ∷ sets) = ap (λ (names : List (List ℕ)). it.name ∷ names) (written_names sets)

-- a name before another is neither the same nor behind it

not_same : (a b : List ℕ) → name_before a b ≡ true → is_exactly a b ≡ false
not_same a b h =
    differs a b (λ same. never_before_itself b (subst (λ it. IsTrue (name_before it b)) same h))

not_back : (a b : List ℕ) → name_before a b ≡ true → name_before b a ≡ false
not_back a b h =
    ⊎_elim (λ (e : name_before b a ≡ true). absurd (never_before_itself a (before_trans a b a h e))) (λ (e : name_before b a ≡ false). e) (cases_Bool (name_before b a))

-- a rule is added to sets in order as it is before another set is put among them

abbrev one_rule : List ℕ → List WrittenRule → WrittenSet
one_rule name rules = record { name = name; rules = rules }

commute : (name : List ℕ) (rule : WrittenRule) (it : WrittenSet) (sets : List WrittenSet) → is_set_named name it ≡ false → with_rule name rule (with_set it sets) ≡ with_set it (with_rule name rule sets)
commute name rule it [] other_name = rw other_name (by_test (name_before name it.name))
  where
    by_test : (first : Bool) → (if first then one_rule name (rule ∷ []) ∷ it ∷ [] else it ∷ one_rule name (rule ∷ []) ∷ []) ≡ (if first then one_rule name (rule ∷ []) ∷ it ∷ [] else it ∷ one_rule name (rule ∷ []) ∷ [])
    by_test first = refl
commute name rule it (next ∷ sets) other_name =
    by_tests (name_before next.name it.name) (name_before name it.name) (is_set_named name next) (name_before name next.name) refl refl refl refl (commute name rule it sets other_name)
  where
    by_tests : (lower first same earlier : Bool) → name_before next.name it.name ≡ lower → name_before name it.name ≡ first → is_set_named name next ≡ same → name_before name next.name ≡ earlier → with_rule name rule (with_set it sets) ≡ with_set it (with_rule name rule sets) → with_rule name rule (with_set it (next ∷ sets)) ≡ with_set it (with_rule name rule (next ∷ sets))
    by_tests true true true earlier l f s e more = simp (l, f, s) refl
    by_tests true false true earlier l f s e more =
        let named : next.name ≡ name = (bytes_eq-Decides next.name name).0 s in
        let bad : true ≡ false = sym l ∙ ap (λ (them : List ℕ). name_before them it.name) named ∙ f in
        absurd (cc)
    by_tests true true false true l f s e more = simp (l, f, s, e) refl
    by_tests true false false true l f s e more =
        let bad : true ≡ false = sym (before_trans name next.name it.name e l) ∙ f in absurd (cc)
    by_tests true first false false l f s e more =
        simp (l, s, e) (ap (λ (later : List WrittenSet). next ∷ later) more)
    by_tests false true true earlier l f s e more =
        let named : next.name ≡ name = (bytes_eq-Decides next.name name).0 s in
        let bad : true ≡ false = sym f ∙ ap (λ (them : List ℕ). name_before them it.name) (sym named) ∙ l in
        absurd (cc)
    by_tests false true false true l f s e more = simp (l, f, s, e, other_name) refl
    by_tests false true false false l f s e more =
        let bad : true ≡ false = sym (before_trans next.name name it.name (before_other next.name name s e) f) ∙ l in
        absurd (cc)
    by_tests false false true earlier l f s e more = simp (l, f, s, other_name) refl
    by_tests false false false true l f s e more = simp (l, f, s, e, other_name) refl
    by_tests false false false false l f s e more = simp (l, f, s, e, other_name) refl

-- a rule of the set that is put among them

put_known : (name : List ℕ) (rule : WrittenRule) (it : WrittenSet) (sets : List WrittenSet) → is_set_named name it ≡ true → with_rule name rule (with_set it sets) ≡ with_set (one_rule name (it.rules ++ rule ∷ [])) sets
put_known name rule it [] named = rw named refl
put_known name rule it (next ∷ sets) named =
    by_test (name_before next.name it.name) refl (put_known name rule it sets named)
  where
    same : it.name ≡ name
    same = (bytes_eq-Decides it.name name).0 named

    by_test : (lower : Bool) → name_before next.name it.name ≡ lower → with_rule name rule (with_set it sets) ≡ with_set (one_rule name (it.rules ++ rule ∷ [])) sets → with_rule name rule (with_set it (next ∷ sets)) ≡ with_set (one_rule name (it.rules ++ rule ∷ [])) (next ∷ sets)
    by_test true l more =
        let lower : name_before next.name name ≡ true = ap (λ (them : List ℕ). name_before next.name them) (sym same) ∙ l in
        let other : is_set_named name next ≡ false = not_same next.name name lower in
        let later : name_before name next.name ≡ false = not_back next.name name lower in
        simp (l, lower, other, later) (ap (λ (rest : List WrittenSet). next ∷ rest) more)
    by_test false l more =
        let lower : name_before next.name name ≡ false = ap (λ (them : List ℕ). name_before next.name them) (sym same) ∙ l in
        simp (l, lower, named) refl

-- the first set that has a name stands at that place
abbrev pub FirstAt : List ℕ → List WrittenSet → ℕ → Type 0
FirstAt name [] place = ⊥
FirstAt name (it ∷ sets) zero = is_set_named name it ≡ true
FirstAt name (it ∷ sets) (suc place) = (is_set_named name it ≡ false) × FirstAt name sets place

first_at : (name : List ℕ) (sets : List WrittenSet) (place : ℕ) (d : List ℕ) → place < length (map name_of sets) → is_exactly (get_or (map name_of sets) place d) name ≡ true → ((k : ℕ) → k < place → is_exactly (get_or (map name_of sets) k d) name ≡ false) → FirstAt name sets place
first_at name [] place d within here others = absurd (omega arith)
first_at name (it ∷ sets) zero d within here others = here
first_at name (it ∷ sets) (suc place) d within here others =
    (others 0 (omega arith), first_at name sets place d (omega arith) here (λ k less. others (suc k) (omega arith)))

pub first_set : (sets : List RuleSet) (name : List ℕ) (place : ℕ) → name_position name (set_names sets) ≡ Some place → FirstAt name (map written_set sets) place
first_set sets name place e =
    let written : name_position name (map name_of (map written_set sets)) ≡ Some place = rw (written_names sets) e in
    let at = position-Some (λ other. is_exactly other name) (map name_of (map written_set sets)) place [] written in
    first_at name (map written_set sets) place [] at.0 at.1 at.2

pub set_within : (sets : List RuleSet) (name : List ℕ) (place : ℕ) → name_position name (set_names sets) ≡ Some place → place < length sets
set_within sets name place e =
    let at = position-Some (λ other. is_exactly other name) (set_names sets) place [] e in
    let count : length (set_names sets) ≡ length sets = length-map sets (λ (it : RuleSet). it.name) in
    let below = at.0 in
    omega (arith, below, count)

named_there : (sets : List RuleSet) (name : List ℕ) (place : ℕ) (old : RuleSet) → FirstAt name (map written_set sets) place → old ≡ get_or sets place old → old.name ≡ name
named_there [] name place old first is = absurd first
named_there (it ∷ sets) name zero old first is =
    ap (λ (it : RuleSet). it.name) is ∙ (bytes_eq-Decides it.name name).0 first
named_there (it ∷ sets) name (suc place) old first is = named_there sets name place old first.1 is

-- one more rule of a name that is known, and of a new one

with_known : (sets : List WrittenSet) (name : List ℕ) (rule : WrittenRule) (place : ℕ) (d : WrittenSet) → FirstAt name sets place → in_name_order (set sets place (one_rule name ((get_or sets place d).rules ++ rule ∷ []))) ≡ with_rule name rule (in_name_order sets)
with_known [] name rule place d first = absurd first
with_known (it ∷ sets) name rule zero d first = sym (put_known name rule it (in_name_order sets) first)
with_known (it ∷ sets) name rule (suc place) d first =
    ap (with_set it) (with_known sets name rule place d first.1) ∙ sym (commute name rule it (in_name_order sets) first.0)

with_new : (sets : List WrittenSet) (name : List ℕ) (rule : WrittenRule) → list_any (is_set_named name) sets ≡ false → in_name_order (sets ++ one_rule name (rule ∷ []) ∷ []) ≡ with_rule name rule (in_name_order sets)
with_new [] name rule none = refl
with_new (it ∷ sets) name rule none =
    let parts = or_parts (is_set_named name it) (list_any (is_set_named name) sets) none in
    ap (with_set it) (with_new sets name rule parts.1) ∙ sym (commute name rule it (in_name_order sets) parts.0)

-- whether one more rule is too many

found_with : (name : List ℕ) (it : WrittenSet) (sets : List WrittenSet) → find (is_set_named name) (with_set it sets) ≡ cond (is_set_named name it) (Some it) (find (is_set_named name) sets)
found_with name it [] = refl
found_with name it (next ∷ sets) = by_test (name_before next.name it.name) refl (found_with name it sets)
  where
    swapped : (there here : Bool) (later : Option WrittenSet) → (there ≡ true → here ≡ true → ⊥) → cond there (Some next) (cond here (Some it) later) ≡ cond here (Some it) (cond there (Some next) later)
    swapped true true later never = absurd (never refl refl)
    swapped true false later never = refl
    swapped false true later never = refl
    swapped false false later never = refl

    both : name_before next.name it.name ≡ true → is_set_named name next ≡ true → is_set_named name it ≡ true → ⊥
    both l there here =
        let same : next.name ≡ it.name = (bytes_eq-Decides next.name name).0 there ∙ sym ((bytes_eq-Decides it.name name).0 here) in
        never_before_itself it.name (subst (λ them. IsTrue (name_before them it.name)) same l)

    by_test : (lower : Bool) → name_before next.name it.name ≡ lower → find (is_set_named name) (with_set it sets) ≡ cond (is_set_named name it) (Some it) (find (is_set_named name) sets) → find (is_set_named name) (if lower then next ∷ with_set it sets else it ∷ next ∷ sets) ≡ cond (is_set_named name it) (Some it) (find (is_set_named name) (next ∷ sets))
    by_test true l more =
        ap (cond (is_set_named name next) (Some next)) more ∙ swapped (is_set_named name next) (is_set_named name it) (find (is_set_named name) sets) (both l)
    by_test false l more = refl

found_in_order : (name : List ℕ) (sets : List WrittenSet) → find (is_set_named name) (in_name_order sets) ≡ find (is_set_named name) sets
found_in_order name [] = refl
found_in_order name (it ∷ sets) =
    found_with name it (in_name_order sets) ∙ ap (cond (is_set_named name it) (Some it)) (found_in_order name sets)

found_first : (name : List ℕ) (sets : List WrittenSet) (place : ℕ) (d : WrittenSet) → FirstAt name sets place → find (is_set_named name) sets ≡ Some (get_or sets place d)
found_first name [] place d first = absurd first
found_first name (it ∷ sets) zero d first = rw first refl
found_first name (it ∷ sets) (suc place) d first = rw first.0 (found_first name sets place d first.1)

found_none : (name : List ℕ) (sets : List WrittenSet) → list_any (is_set_named name) sets ≡ false → find (is_set_named name) sets ≡ None
found_none name [] none = refl
found_none name (it ∷ sets) none =
    let parts = or_parts (is_set_named name it) (list_any (is_set_named name) sets) none in
    rw parts.0 (found_none name sets parts.1)

count_with : (it : WrittenSet) (sets : List WrittenSet) → length (with_set it sets) ≡ suc (length sets)
count_with it [] = refl
count_with it (next ∷ sets) = by_test (name_before next.name it.name) (count_with it sets)
  where
    by_test : (lower : Bool) → length (with_set it sets) ≡ suc (length sets) → length (if lower then next ∷ with_set it sets else it ∷ next ∷ sets) ≡ suc (suc (length sets))
    by_test true more = ap suc more
    by_test false more = refl

count_in_order : (sets : List WrittenSet) → length (in_name_order sets) ≡ length sets
count_in_order [] = refl
count_in_order (it ∷ sets) = count_with it (in_name_order sets) ∙ ap suc (count_in_order sets)

pub full_known : (sets : List RuleSet) (name : List ℕ) (place : ℕ) (it : RuleSet) → name_position name (set_names sets) ≡ Some place → it ≡ get_or sets place it → nat_le MOST_RULES (length it.rules) ≡ is_full_set (in_name_order (map written_set sets)) (find (is_set_named name) (in_name_order (map written_set sets)))
full_known sets name place it e is =
    let there = get_or-map written_set sets place it (written_set it) (set_within sets name place e) in
    let found = found_in_order name (map written_set sets) ∙ found_first name (map written_set sets) place (written_set it) (first_set sets name place e) ∙ ap Some (there ∙ ap written_set (sym is)) in
    rw found (rw (length-map it.rules written_rule) refl)

none_named : (sets : List RuleSet) (name : List ℕ) → name_position name (set_names sets) ≡ None → list_any (is_set_named name) (map written_set sets) ≡ false
none_named sets name e = by_names sets ∙ not_there (set_names sets) name e
  where
    by_names : (sets : List RuleSet) → list_any (is_set_named name) (map written_set sets) ≡ list_any (λ other. is_exactly other name) (set_names sets)
    by_names [] = refl
    by_names (it ∷ sets) = ap (λ later. is_exactly it.name name || later) (by_names sets)

pub full_new : (sets : List RuleSet) (name : List ℕ) → name_position name (set_names sets) ≡ None → nat_le MOST_SETS (length sets) ≡ is_full_set (in_name_order (map written_set sets)) (find (is_set_named name) (in_name_order (map written_set sets)))
full_new sets name e =
    let found = found_in_order name (map written_set sets) ∙ found_none name (map written_set sets) (none_named sets name e) in
    rw found (rw (count_in_order (map written_set sets), length-map sets written_set) refl)

-- sets with one more rule

same_set : (name kept : List ℕ) (olds news : List WrittenRule) (d : WrittenSet) (rule : WrittenRule) → kept ≡ name → news ≡ olds ++ rule ∷ [] → d.rules ≡ olds → one_rule kept news ≡ one_rule name (d.rules ++ rule ∷ [])
same_set name kept olds news d rule named more found = rw (named, more, found) refl

pub added_known : (sets : List RuleSet) (name : List ℕ) (rule : Rule) (place : ℕ) (old new : RuleSet) → name_position name (set_names sets) ≡ Some place → old ≡ get_or sets place old → new.rules ≡ old.rules ++ rule ∷ [] → new.name ≡ old.name → in_name_order (map written_set (set sets place new)) ≡ with_rule name (written_rule rule) (in_name_order (map written_set sets))
added_known sets name rule place old new e is rules kept =
    let first = first_set sets name place e in
    let there : get_or (map written_set sets) place (written_set old) ≡ written_set old = get_or-map written_set sets place old (written_set old) (set_within sets name place e) ∙ ap written_set (sym is) in
    let more : map written_rule new.rules ≡ map written_rule old.rules ++ written_rule rule ∷ [] = ap (map written_rule) rules ∙ map-append written_rule old.rules (rule ∷ []) in
    let found : (get_or (map written_set sets) place (written_set old)).rules ≡ map written_rule old.rules = ap (λ (it : WrittenSet). it.rules) there in
    let same = same_set name new.name (map written_rule old.rules) (map written_rule new.rules) (get_or (map written_set sets) place (written_set old)) (written_rule rule) (kept ∙ named_there sets name place old first is) more found in
    ap in_name_order (map-set written_set sets place new ∙ ap (λ (it : WrittenSet). set (map written_set sets) place it) same)
    ∙ with_known (map written_set sets) name (written_rule rule) place (written_set old) first

pub names_kept : (sets : List RuleSet) (place : ℕ) (old new : RuleSet) → place < length sets → old ≡ get_or sets place old → new.name ≡ old.name → set_names (set sets place new) ≡ set_names sets
names_kept sets place old new within is kept =
    let there : get_or (set_names sets) place new.name ≡ new.name = get_or-map (λ (it : RuleSet). it.name) sets place old new.name within ∙ ap (λ (it : RuleSet). it.name) (sym is) ∙ sym kept in
    map-set (λ (it : RuleSet). it.name) sets place new ∙ ap (λ (name : List ℕ). set (set_names sets) place name) (sym there)
    ∙ set-get_or (set_names sets) place new.name

-- there are as many sets as names
pub as_many_sets : (olds news : List RuleSet) → set_names news ≡ set_names olds → length news ≡ length olds
as_many_sets olds news named =
    sym (length-map news (λ (it : RuleSet). it.name)) ∙ ap length named ∙ length-map olds (λ (it : RuleSet). it.name)

pub added_new : (sets : List RuleSet) (name : List ℕ) (rule : Rule) (new : RuleSet) → name_position name (set_names sets) ≡ None → new.rules ≡ rule ∷ [] → new.name ≡ name → in_name_order (map written_set (sets ++ new ∷ [])) ≡ with_rule name (written_rule rule) (in_name_order (map written_set sets))
added_new sets name rule new e rules named =
    let same : one_rule new.name (map written_rule new.rules) ≡ one_rule name (written_rule rule ∷ []) = rw (rules, named) refl in
    ap in_name_order (map-append written_set sets (new ∷ []) ∙ ap (λ (it : WrittenSet). map written_set sets ++ it ∷ []) same)
    ∙ with_new (map written_set sets) name (written_rule rule) (none_named sets name e)

-- the names of sets with one more
pub names_pushed : (sets : List RuleSet) (new : RuleSet) → set_names (sets ++ new ∷ []) ≡ set_names sets ++ new.name ∷ []
names_pushed sets new = map-append (λ (it : RuleSet). it.name) sets (new ∷ [])

-- a set with one more rule, which stands behind its others

lines_after : (low : ℕ) (rules : List Rule) (rule : Rule) → nat_lt low rule.line ≡ true → ascends_after nat_lt low (map (λ (it : Rule). it.line) rules) ≡ true → list_all (λ (it : Rule). nat_lt it.line rule.line) rules ≡ true → ascends_after nat_lt low (map (λ (it : Rule). it.line) (rules ++ rule ∷ [])) ≡ true
lines_after low [] rule before up all = and_from (nat_lt low rule.line) true before refl
lines_after low (it ∷ rules) rule before up all =
    let here = (and_parts (nat_lt low it.line) (ascends_after nat_lt it.line (map (λ (it : Rule). it.line) rules)) up).0 in
    let later = (and_parts (nat_lt low it.line) (ascends_after nat_lt it.line (map (λ (it : Rule). it.line) rules)) up).1 in
    let first = (and_parts (nat_lt it.line rule.line) (list_all (λ (it : Rule). nat_lt it.line rule.line) rules) all).0 in
    let others = (and_parts (nat_lt it.line rule.line) (list_all (λ (it : Rule). nat_lt it.line rule.line) rules) all).1 in
    and_from (nat_lt low it.line) (ascends_after nat_lt it.line (map (λ (it : Rule). it.line) (rules ++ rule ∷ []))) here (lines_after it.line rules rule first later others)

lines_pushed : (rules : List Rule) (rule : Rule) → ascends nat_lt (map (λ (it : Rule). it.line) rules) ≡ true → list_all (λ (it : Rule). nat_lt it.line rule.line) rules ≡ true → ascends nat_lt (map (λ (it : Rule). it.line) (rules ++ rule ∷ [])) ≡ true
lines_pushed [] rule up all = refl
lines_pushed (it ∷ rules) rule up all =
    let first = (and_parts (nat_lt it.line rule.line) (list_all (λ (it : Rule). nat_lt it.line rule.line) rules) all).0 in
    let others = (and_parts (nat_lt it.line rule.line) (list_all (λ (it : Rule). nat_lt it.line rule.line) rules) all).1 in
    lines_after it.line rules rule first up others

-- what a push leaves, whether it found memory or not
pub still_in_line_order : {A E : Type 0} (result : Result A E) (old new : List Rule) (rule : Rule) → OnOk result (new ≡ old ++ rule ∷ []) → OnErr result (new ≡ old) → IsTrue (ascends nat_lt (map (λ (it : Rule). it.line) old)) → IsTrue (list_all (λ (it : Rule). nat_lt it.line rule.line) old) → IsTrue (ascends nat_lt (map (λ (it : Rule). it.line) new))
still_in_line_order (Ok done) old new rule ok err up all = rw ok (lines_pushed old rule up all)
still_in_line_order (Err error) old new rule ok err up all = rw err up

pub still_few_rules : {A E : Type 0} (result : Result A E) (old new : List Rule) (rule : Rule) → OnOk result (new ≡ old ++ rule ∷ []) → OnErr result (new ≡ old) → length old < MOST_RULES → length new ≤ MOST_RULES
still_few_rules (Ok done) old new rule ok err room = rw ok (rw (length-append old (rule ∷ [])) (omega arith))
still_few_rules (Err error) old new rule ok err room = rw err (omega arith)

-- ---- sets put in order

swap_and : (a b c : Bool) → (a && (b && c)) ≡ (b && (a && c))
swap_and true true c = refl
swap_and true false c = refl
swap_and false true c = refl
swap_and false false c = refl

swap_or : (a b c : Bool) → (a || (b || c)) ≡ (b || (a || c))
swap_or true true c = refl
swap_or true false c = refl
swap_or false true c = refl
swap_or false false c = refl

all_with : (p : WrittenSet → Bool) (it : WrittenSet) (sets : List WrittenSet) → list_all p (with_set it sets) ≡ (p it && list_all p sets)
all_with p it [] = refl
all_with p it (next ∷ sets) = by_test (name_before next.name it.name) (all_with p it sets)
  where
    by_test : (lower : Bool) → list_all p (with_set it sets) ≡ (p it && list_all p sets) → list_all p (if lower then next ∷ with_set it sets else it ∷ next ∷ sets) ≡ (p it && (p next && list_all p sets))
    by_test true more =
        ap (λ later. p next && later) more ∙ swap_and (p next) (p it) (list_all p sets)
    by_test false more = refl

all_in_order : (p : WrittenSet → Bool) (sets : List WrittenSet) → list_all p (in_name_order sets) ≡ list_all p sets
all_in_order p [] = refl
all_in_order p (it ∷ sets) =
    all_with p it (in_name_order sets) ∙ ap (λ later. p it && later) (all_in_order p sets)

any_with : (p : WrittenSet → Bool) (it : WrittenSet) (sets : List WrittenSet) → list_any p (with_set it sets) ≡ (p it || list_any p sets)
any_with p it [] = refl
any_with p it (next ∷ sets) = by_test (name_before next.name it.name) (any_with p it sets)
  where
    by_test : (lower : Bool) → list_any p (with_set it sets) ≡ (p it || list_any p sets) → list_any p (if lower then next ∷ with_set it sets else it ∷ next ∷ sets) ≡ (p it || (p next || list_any p sets))
    by_test true more =
        ap (λ later. p next || later) more ∙ swap_or (p next) (p it) (list_any p sets)
    by_test false more = refl

any_in_order : (p : WrittenSet → Bool) (sets : List WrittenSet) → list_any p (in_name_order sets) ≡ list_any p sets
any_in_order p [] = refl
any_in_order p (it ∷ sets) =
    any_with p it (in_name_order sets) ∙ ap (λ later. p it || later) (any_in_order p sets)

permuted_with : (it : WrittenSet) (sets : List WrittenSet) → IsPermutation (it ∷ sets) (with_set it sets)
permuted_with it [] = IsPermutation-refl (it ∷ [])
permuted_with it (next ∷ sets) = by_test (name_before next.name it.name) (permuted_with it sets)
  where
    by_test : (lower : Bool) → IsPermutation (it ∷ sets) (with_set it sets) → IsPermutation (it ∷ next ∷ sets) (if lower then next ∷ with_set it sets else it ∷ next ∷ sets)
    by_test true more =
        IsPermutation-trans (it ∷ next ∷ sets) (next ∷ it ∷ sets) (next ∷ with_set it sets) (IsPermutation-middle (it ∷ []) next sets) (IsPermutation-cons next (it ∷ sets) (with_set it sets) more)
    by_test false more = IsPermutation-refl (it ∷ next ∷ sets)

permuted_in_order : (sets : List WrittenSet) → IsPermutation sets (in_name_order sets)
permuted_in_order [] = IsPermutation-refl []
permuted_in_order (it ∷ sets) =
    IsPermutation-trans (it ∷ sets) (it ∷ in_name_order sets) (with_set it (in_name_order sets)) (IsPermutation-cons it sets (in_name_order sets) (permuted_in_order sets)) (permuted_with it (in_name_order sets))

-- their names ascend, where they differ

after_with : (low : List ℕ) (it : WrittenSet) (sets : List WrittenSet) → name_before low it.name ≡ true → list_any (is_set_named it.name) sets ≡ false → ascends_after name_before low (map name_of sets) ≡ true → ascends_after name_before low (map name_of (with_set it sets)) ≡ true
after_with low it [] below none up = and_from (name_before low it.name) true below refl
after_with low it (next ∷ sets) below none up =
    by_test (name_before next.name it.name) refl (λ l. after_with next.name it sets l others.1 parts.1)
  where
    parts : (name_before low next.name ≡ true) × (ascends_after name_before next.name (map name_of sets) ≡ true)
    parts = and_parts (name_before low next.name) (ascends_after name_before next.name (map name_of sets)) up

    others : (is_set_named it.name next ≡ false) × (list_any (is_set_named it.name) sets ≡ false)
    others = or_parts (is_set_named it.name next) (list_any (is_set_named it.name) sets) none

    by_test : (lower : Bool) → name_before next.name it.name ≡ lower → (name_before next.name it.name ≡ true → ascends_after name_before next.name (map name_of (with_set it sets)) ≡ true) → ascends_after name_before low (map name_of (if lower then next ∷ with_set it sets else it ∷ next ∷ sets)) ≡ true
    by_test true l more =
        and_from (name_before low next.name) (ascends_after name_before next.name (map name_of (with_set it sets))) parts.0 (more l)
    by_test false l more =
        let between = before_other it.name next.name (nat_list_eq_equiv.symm it.name next.name ∙ others.0) l in
        and_from (name_before low it.name) (name_before it.name next.name && ascends_after name_before next.name (map name_of sets)) below (and_from (name_before it.name next.name) (ascends_after name_before next.name (map name_of sets)) between parts.1)

ascends_with : (it : WrittenSet) (sets : List WrittenSet) → list_any (is_set_named it.name) sets ≡ false → ascends name_before (map name_of sets) ≡ true → ascends name_before (map name_of (with_set it sets)) ≡ true
ascends_with it [] none up = refl
ascends_with it (next ∷ sets) none up = by_test (name_before next.name it.name) refl
  where
    others : (is_set_named it.name next ≡ false) × (list_any (is_set_named it.name) sets ≡ false)
    others = or_parts (is_set_named it.name next) (list_any (is_set_named it.name) sets) none

    by_test : (lower : Bool) → name_before next.name it.name ≡ lower → ascends name_before (map name_of (if lower then next ∷ with_set it sets else it ∷ next ∷ sets)) ≡ true
    by_test true l = after_with next.name it sets l others.1 up
    by_test false l =
        let between = before_other it.name next.name (nat_list_eq_equiv.symm it.name next.name ∙ others.0) l in
        and_from (name_before it.name next.name) (ascends_after name_before next.name (map name_of sets)) between up

none_named_so : (name : List ℕ) (sets : List WrittenSet) → ((k : ℕ) (d : List ℕ) → k < length (map name_of sets) → name ≢ get_or (map name_of sets) k d) → list_any (is_set_named name) sets ≡ false
none_named_so name [] apart = refl
none_named_so name (it ∷ sets) apart =
    rw (differs it.name name (λ same. apart 0 [] (omega arith) (sym same))) (none_named_so name sets (λ k d within. apart (suc k) d (omega arith)))

ascends_in_order : (sets : List WrittenSet) → AllPairs ◌≢◌ (map name_of sets) → ascends name_before (map name_of (in_name_order sets)) ≡ true
ascends_in_order [] apart = refl
ascends_in_order (it ∷ sets) apart =
    ascends_with it (in_name_order sets) (any_in_order (is_set_named it.name) sets ∙ none_named_so it.name sets (first_apart it.name (map name_of sets) apart)) (ascends_in_order sets (apart_rest it.name (map name_of sets) apart))

-- so sets that were sorted by their names are those that were put in order
pub put_in_order : (sets ordered : List RuleSet) → AllPairs ◌≢◌ (set_names sets) → IsPermutation sets ordered → IsTrue (ascends name_before (set_names ordered)) → map written_set ordered ≡ in_name_order (map written_set sets)
put_in_order sets ordered apart same up =
    let olds = map written_set sets in
    let news = map written_set ordered in
    let moved : IsPermutation olds news = IsPermutation-map written_set sets ordered same in
    let put : IsPermutation olds (in_name_order olds) = permuted_in_order olds in
    same_ascending name_of news (in_name_order olds) (rw (written_names ordered) up) (ascends_in_order olds (rw (written_names sets) apart)) (λ it h. Contains-permutation olds (in_name_order olds) it put (Contains-permutation news olds it (IsPermutation-sym olds news moved) h)) (λ it h. Contains-permutation olds news it moved (Contains-permutation (in_name_order olds) olds it (IsPermutation-sym olds (in_name_order olds) put) h))

-- all rules of the set at a place stand before a line

rules_before : (number : ℕ) (rules : List Rule) → list_all (λ (it : WrittenRule). nat_lt it.line number) (map written_rule rules) ≡ true → list_all (λ (it : Rule). nat_lt it.line number) rules ≡ true
rules_before number [] h = refl
rules_before number (rule ∷ rules) h =
    let first = (and_parts (nat_lt rule.line number) (list_all (λ (it : WrittenRule). nat_lt it.line number) (map written_rule rules)) h).0 in
    let others = (and_parts (nat_lt rule.line number) (list_all (λ (it : WrittenRule). nat_lt it.line number) (map written_rule rules)) h).1 in
    and_from (nat_lt rule.line number) (list_all (λ (it : Rule). nat_lt it.line number) rules) first (rules_before number rules others)

set_before : (number : ℕ) (sets : List RuleSet) (place : ℕ) (d : RuleSet) → place < length sets → are_before number (map written_set sets) ≡ true → list_all (λ (it : Rule). nat_lt it.line number) (get_or sets place d).rules ≡ true
set_before number [] place d within h = absurd (omega arith)
set_before number (it ∷ sets) zero d within h =
    rules_before number it.rules (and_parts (list_all (λ (rule : WrittenRule). nat_lt rule.line number) (map written_rule it.rules)) (are_before number (map written_set sets)) h).0
set_before number (it ∷ sets) (suc place) d within h =
    set_before number sets place d (omega arith) (and_parts (list_all (λ (rule : WrittenRule). nat_lt rule.line number) (map written_rule it.rules)) (are_before number (map written_set sets)) h).1

pub place_before : (number : ℕ) (sets : List RuleSet) (place : ℕ) (it : RuleSet) → place < length sets → it ≡ get_or sets place it → IsTrue (are_before number (in_name_order (map written_set sets))) → IsTrue (list_all (λ (rule : Rule). nat_lt rule.line number) it.rules)
place_before number sets place it within is h =
    ap (λ (set : RuleSet). list_all (λ (rule : Rule). nat_lt rule.line number) set.rules) is ∙ set_before number sets place it within (sym (all_in_order (λ (it : WrittenSet). list_all (λ (rule : WrittenRule). nat_lt rule.line number) it.rules) (map written_set sets)) ∙ h)

-- the name of the set at a place
pub named_last : (sets : List RuleSet) (place : ℕ) (it : RuleSet) (name : List ℕ) → place < length sets → it ≡ get_or sets place it → it.name ≡ name → slice_get (set_names sets) place ≡ Some name
named_last [] place it name within is named = absurd (omega arith)
named_last (first ∷ sets) zero it name within is named = ap Some (sym (ap (λ (it : RuleSet). it.name) is) ∙ named)
named_last (first ∷ sets) (suc place) it name within is named = named_last sets place it name (omega arith) is named

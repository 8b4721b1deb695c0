-- A split keeps states lawful.
use Rattle.std.proofs.Common.{◌≡◌, ◌≢◌, ℕ, ◌+◌, ◌≤◌, ◌<◌, List, [], ◌∷◌, ◌++◌, length, set, get_or, sym, refl, ap, ◌∙◌, subst, ⊎_elim, arith, true, not, cond, ◌==◌, eq-eqb, ne_eqb}
use mathlib.Core.Option.{some}
use lib.ListN.{get_elem?}
use Rattle.std.specs.List.{All, filter}
use Rattle.std.proofs.lemmas.Bool.{both_ways, cases_eq, cond-true, cond-false, cond_both, eqb-true, not-true, not_from_true, not_from_false}
use Rattle.std.proofs.lemmas.List.Elements.{All-nil, All-cons, All-head, All-tail, All-weaker, All-filter, filter_passes}
use Rattle.pin_core.specs.declared.entry.Entry.{Entry}
use Rattle.pin_book.specs.declared.write.Write.{Write}
use Rattle.pin_core.specs.declared.view.View.{View}
use Rattle.pin_core.specs.declared.view.Role.{Role}
use Rattle.pin_core.specs.declared.view.Role.TheVariants as roles
use Rattle.pin_book.specs.Sequence.{writes_by}
use Rattle.pin_core.specs.Core.{CoreState, number_at, total, one_if, times, has_number, number_count, is_main, mains, pins_at, has_claimed, has_turn, allowance_of, EachSeat}
use Rattle.pin_core.specs.Lawful.{Lawful, KeepsEntry, WasFront, WasFrontOnce, KnowsPlaces}
use Rattle.pin_core.specs.Step.{MaySplit, floor_after, left_over, split_off, split}
use Rattle.pin_core.proofs.Sums.{at_set, at_push, total-set, total-append, terms_le}
use Rattle.pin_core.proofs.Stores.{all_pass}

-- ---- the numbers and the writes of one number, and the others ----

times_here : (number : ℕ) (numbers : List ℕ) → times number (filter (λ other. not (other == number)) numbers) ≡ 0
times_here number [] = refl
times_here number (n ∷ ns) = ⊎_elim
    (λ (is : n ≡ number). ap (times number) (cond-false (not (n == number)) (n ∷ filter (λ other. not (other == number)) ns) (filter (λ other. not (other == number)) ns) (not_from_true (n == number) (eq-eqb n number is))) ∙ times_here number ns)
    (λ (no : n ≢ number). ap (times number) (cond-true (not (n == number)) (n ∷ filter (λ other. not (other == number)) ns) (filter (λ other. not (other == number)) ns) (not_from_false (n == number) (ne_eqb n number no)))
    ∙ (let zero = ap one_if (ne_eqb n number no) in let rest = times_here number ns in omega arith)) (cases_eq n number)

times_else : (number r : ℕ) (numbers : List ℕ) → r ≢ number → times r (filter (λ other. not (other == number)) numbers) ≡ times r numbers
times_else number r [] else = refl
times_else number r (n ∷ ns) else = ⊎_elim
    (λ (is : n ≡ number). ap (times r) (cond-false (not (n == number)) (n ∷ filter (λ other. not (other == number)) ns) (filter (λ other. not (other == number)) ns) (not_from_true (n == number) (eq-eqb n number is)))
    ∙ (let zero = ap one_if (ne_eqb n r (λ e. else (sym e ∙ is))) in let rest = times_else number r ns else in omega arith))
    (λ (no : n ≢ number). ap (times r) (cond-true (not (n == number)) (n ∷ filter (λ other. not (other == number)) ns) (filter (λ other. not (other == number)) ns) (not_from_false (n == number) (ne_eqb n number no)))
    ∙ (let rest = times_else number r ns else in omega arith)) (cases_eq n number)

count_others : (number : ℕ) (numbers : List ℕ) → length (filter (λ other. not (other == number)) numbers) + times number numbers ≡ length numbers
count_others number [] = refl
count_others number (n ∷ ns) = ⊎_elim
    (λ (is : n ≡ number). let long = ap (λ (l : List ℕ). length l) (cond-false (not (n == number)) (n ∷ filter (λ other. not (other == number)) ns) (filter (λ other. not (other == number)) ns) (not_from_true (n == number) (eq-eqb n number is))) in
    let one = ap one_if (eq-eqb n number is) in let rest = count_others number ns in omega arith)
    (λ (no : n ≢ number). let long = ap (λ (l : List ℕ). length l) (cond-true (not (n == number)) (n ∷ filter (λ other. not (other == number)) ns) (filter (λ other. not (other == number)) ns) (not_from_false (n == number) (ne_eqb n number no))) in
    let zero = ap one_if (ne_eqb n number no) in let rest = count_others number ns in omega arith) (cases_eq n number)

-- a number that stands in a list of numbers below n is below n
pub inside_of : (most number : ℕ) (numbers : List ℕ) → All (λ n. n < most) numbers → times number numbers ≡ 1 → number < most
inside_of most number [] all one = absurd (omega arith)
inside_of most number (n ∷ ns) all one = ⊎_elim
    (λ (is : n ≡ number). let low = All-head (λ n. n < most) n ns all in omega arith)
    (λ (no : n ≢ number). let zero = ap one_if (ne_eqb n number no) in inside_of most number ns (All-tail (λ n. n < most) n ns all) (omega arith)) (cases_eq n number)

-- the writes of a number among those that aren't by another
writes_left : (number r : ℕ) (own : List Write) → r ≢ number → writes_by r (filter (λ (w : Write). not (w.by == number)) own) ≡ writes_by r own
writes_left number r [] else = refl
writes_left number r (x ∷ xs) else = ⊎_elim
    (λ (is : x.by ≡ number). ap (writes_by r) (cond-false (not (x.by == number)) (x ∷ filter (λ (w : Write). not (w.by == number)) xs) (filter (λ (w : Write). not (w.by == number)) xs) (not_from_true (x.by == number) (eq-eqb x.by number is)))
    ∙ writes_left number r xs else ∙ sym (cond-false (x.by == r) (x ∷ writes_by r xs) (writes_by r xs) (ne_eqb x.by r (λ e. else (sym e ∙ is)))))
    (λ (no : x.by ≢ number). ap (writes_by r) (cond-true (not (x.by == number)) (x ∷ filter (λ (w : Write). not (w.by == number)) xs) (filter (λ (w : Write). not (w.by == number)) xs) (not_from_false (x.by == number) (ne_eqb x.by number no)))
    ∙ ap (λ (l : List Write). cond (x.by == r) (x ∷ l) l) (writes_left number r xs else)) (cases_eq x.by number)

-- ---- each seat after a split ----

each_split : (P : View → Type 0) (views : List View) (id : ℕ) (left right : View) → P left → P right → ((j : ℕ) (u : View) → j ≢ id → get_elem? views j ≡ some u → u.role ≢ roles.Spent → P u)
    → EachSeat P (set views id left ++ right ∷ [])
each_split P views id left right one two others j u at live =
    ⊎_elim (λ (old : get_elem? (set views id left) j ≡ some u). ⊎_elim (λ (x : (j ≡ id) × (left ≡ u)). subst P x.1 one) (λ (x : (j ≢ id) × (get_elem? views j ≡ some u)). others j u x.0 x.1 live) (at_set views id j left u old))
    (λ (new : right ≡ u). subst P new two) (at_push (set views id left) right u j at)

-- a sum stays where what the two count is what the one counted
pub total_split : (f : View → ℕ) (views : List View) (id : ℕ) (v left right : View) → get_elem? views id ≡ some v → f left + f right ≡ f v → total f (set views id left ++ right ∷ []) ≡ total f views
total_split f views id v left right at same = let sum = total-set f views id v left at in let more = total-append f (set views id left) (right ∷ []) in omega arith

-- while the main has all numbers, every other seat is spent
no_other : (readers : ℕ) (views : List View) → total number_count views ≡ readers → total is_main views ≡ 1 → (id j : ℕ) (v u : View) → get_elem? views id ≡ some v → is_main v ≡ 1 → length v.numbers ≡ readers
    → j ≢ id → get_elem? views j ≡ some u → (u.role ≡ roles.Reader → (number : ℕ) × (u.numbers ≡ number ∷ [])) → u.role ≢ roles.Spent → ⊥
no_other readers views whole one id j v u here main all other there reader lives =
    let counts = terms_le number_count views id j v u other here there in let both = terms_le is_main views id j v u other here there in by_role u.role refl (omega arith) (omega arith)
  where
    by_role : (role : Role) → u.role ≡ role → length u.numbers ≡ 0 → is_main u ≡ 0 → ⊥
    by_role roles.Main is none no_main = let second = ap mains is in omega arith
    by_role roles.Reader is none no_main = let has = reader is in let long = ap (λ (ns : List ℕ). length ns) has.1 in omega arith
    by_role roles.Spent is none no_main = lives is

pub splits : (s : CoreState) (id : ℕ) (v : View) (number writes : ℕ) → Lawful s → get_elem? s.views id ≡ some v → MaySplit number writes v → Lawful (split s id v number writes)
splits s id v number writes h here may =
    let main = may.main in
    let live : v.role ≢ roles.Spent = λ spent. absurd (cc) in
    let left : View = left_over s.readers number writes v in let right : View = split_off s.readers number writes v in
    let floor : ℕ = floor_after s.readers v in
    let turn = h.turn.each id v here live in let knows = h.owners.each id v here live in let places = h.places id v here live in
    let bare = knows.main main in
    let mine : times number v.numbers ≡ 1 = may.mine in
    let inside : number < s.readers = inside_of s.readers number v.numbers knows.inside mine in
    let whole : number_count left + 1 ≡ number_count v = (let count = count_others number v.numbers in omega arith) in
    let numbers : (r : ℕ) → has_number r left + has_number r right ≡ has_number r v = λ r. ⊎_elim
    (λ (is : r ≡ number). let none = times_here number v.numbers in let one = ap one_if (eq-eqb number r (sym is)) in let now = ap (λ k. times k left.numbers) is in let before = ap (λ k. times k v.numbers) is in omega arith)
    (λ (no : r ≢ number). let same = times_else number r v.numbers no in let zero = ap one_if (ne_eqb number r (λ e. no (sym e))) in omega arith) (cases_eq r number) in
    let apart : (r : ℕ) → has_number r left ≡ 1 → r ≢ number = λ r one is. (let none = times_here number v.numbers in let now = ap (λ k. times k left.numbers) is in omega arith) in
    let before : (r : ℕ) → has_number r left ≡ 1 → has_number r v ≡ 1 = λ r one. sym (times_else number r v.numbers (apart r one)) ∙ one in
    let only_number : (r : ℕ) → has_number r right ≡ 1 → number ≡ r = λ r one. ⊎_elim (λ (is : number ≡ r). is) (λ (no : number ≢ r). let zero = ap one_if (ne_eqb number r no) in absurd (omega arith)) (cases_eq number r) in
    -- where all numbers are with the main, every other seat is spent
    let alone : length v.numbers ≡ s.readers → (j : ℕ) (u : View) → j ≢ id → get_elem? s.views j ≡ some u → u.role ≢ roles.Spent → ⊥ = λ all j u other there lives.
    no_other s.readers s.views (h.owners.whole) (h.owners.main) id j v u here (ap mains main) all other there (λ is. (h.owners.each j u there lives).reader is) lives in
    let above : floor ≤ length v.seen = (let low = places.above in let same = places.same in cond_both (length v.numbers == s.readers) (length v.seen) v.floor (λ f. f ≤ length v.seen) (λ _. omega arith) (λ _. omega arith)) in
    let others : (j : ℕ) (u : View) → j ≢ id → get_elem? s.views j ≡ some u → u.role ≢ roles.Spent → KnowsPlaces s.slots s.journal floor u = λ j u other there lives.
    cond_both (length v.numbers == s.readers) (length v.seen) v.floor (λ f. KnowsPlaces s.slots s.journal f u) (λ all. absurd (alone (eqb-true (length v.numbers) s.readers all) j u other there lives))
    (λ _. subst (λ f. KnowsPlaces s.slots s.journal f u) (sym places.same) (h.places j u there lives)) in
    record {
      pins = λ slot low. h.pins slot low ∙ sym (total_split (pins_at slot) s.views id v left right here (omega arith));
      spent = λ j u at spent. ⊎_elim
          (λ (old : get_elem? (set s.views id left) j ≡ some u). ⊎_elim (λ (x : (j ≡ id) × (left ≡ u)). absurd (live (ap (λ (y : View). y.role) x.1 ∙ spent))) (λ (x : (j ≢ id) × (get_elem? s.views j ≡ some u)). h.spent j u x.1 spent) (at_set s.views id j left u old))
          (λ (new : right ≡ u). let role = ap (λ (y : View). y.role) new in absurd (cc)) (at_push (set s.views id left) right u j at);
      handles = each_split _ s.views id left right (h.handles id v here live) (All-nil (KeepsEntry s.slots s.journal (number_at s.words))) (λ j u _ there. h.handles j u there);
      follows = record {
        some_slot = h.follows.some_slot;
        replay = h.follows.replay;
        front = h.follows.front;
        wide = h.follows.wide;
        kept = λ slot low none. h.follows.kept slot low (sym (total_split (has_claimed slot) s.views id v left right here (omega arith)) ∙ none);
      };
      turn = record {
        one = total_split has_turn s.views id v left right here (omega arith) ∙ h.turn.one;
        each = each_split _ s.views id left right record {
          holder = λ is. absurd (both_ways v.turn bare.1 is);
          current = λ is. absurd (both_ways v.turn bare.1 is);
          claims = turn.claims;
          inside = turn.inside;
          unlisted = turn.unlisted;
          coming = turn.coming;
        } record {
          holder = λ is. absurd (cc);
          current = λ is. absurd (cc);
          claims = λ j is. absurd (cc);
          inside = λ j is. absurd (cc);
          unlisted = λ j is. absurd (cc);
          coming = λ j is. absurd (cc);
        } (λ j u _ there. h.turn.each j u there);
      };
      owners = record {
        numbers = λ r low. total_split (has_number r) s.views id v left right here (numbers r) ∙ h.owners.numbers r low;
        whole = total_split number_count s.views id v left right here whole ∙ h.owners.whole;
        main = total_split is_main s.views id v left right here (omega arith) ∙ h.owners.main;
        writers = h.owners.writers;
        counted = h.owners.counted;
        each = each_split _ s.views id left right record {
          reader = λ is. absurd (cc);
          main = knows.main;
          inside = All-filter (λ other. not (other == number)) (λ n. n < s.readers) v.numbers knows.inside;
          seen = knows.seen;
          own = λ r one. writes_left number r v.own (apart r one) ∙ knows.own r (before r one);
          told = λ r one. knows.told r (before r one);
          only = λ k d low. let w = get_or left.own k d in
              let apart_here = not-true (w.by == number) (filter_passes (λ (w : Write). not (w.by == number)) v.own k d low) in
              times_else number w.by v.numbers (λ e. absurd (both_ways (w.by == number) apart_here (eq-eqb w.by number e))) ∙ All-filter (λ (w : Write). not (w.by == number)) (λ (w : Write). has_number w.by v ≡ 1) v.own knows.only k d low;
        } record {
          reader = λ _. (number, refl);
          main = λ is. absurd (cc);
          inside = All-cons (λ n. n < s.readers) number [] inside (All-nil (λ n. n < s.readers));
          seen = knows.seen;
          own = λ r one. subst (λ k. writes_by k (writes_by number v.own) ≡ writes_by k s.journal) (only_number r one)
              (all_pass (λ (w : Write). w.by == number) (writes_by number v.own) (filter_passes (λ (w : Write). w.by == number) v.own) ∙ knows.own number mine);
          told = λ r one. subst (λ k. writes_by k v.seen ≡ writes_by k s.journal) (only_number r one) (knows.told number mine);
          only = All-weaker (λ (w : Write). (w.by == number) ≡ true) (λ (w : Write). has_number w.by right ≡ 1) (λ w is. let one = ap one_if (eq-eqb number w.by (sym (eqb-true w.by number is))) in omega arith) (writes_by number v.own) (filter_passes (λ (w : Write). w.by == number) v.own);
        } (λ j u _ there. h.owners.each j u there);
      };
      places = each_split _ s.views id left right record {
        same = refl;
        above = above;
        entries = subst (λ (es : List Entry). All (WasFront s.slots s.journal floor (length v.seen)) es) (sym bare.0) (All-nil (WasFront s.slots s.journal floor (length v.seen)));
        pinned = subst (λ (ns : List ℕ). All (WasFrontOnce s.slots s.journal floor (length v.seen)) ns) (sym bare.3) (All-nil (WasFrontOnce s.slots s.journal floor (length v.seen)));
      } record {
        same = refl;
        above = above;
        entries = All-nil (WasFront s.slots s.journal floor (length v.seen));
        pinned = All-nil (WasFrontOnce s.slots s.journal floor (length v.seen));
      } others;
      room = (let sum = total_split allowance_of s.views id v left right here (let room = may.room in omega arith) in let room = h.room in omega arith);
      few = each_split _ s.views id left right (let none = ap (λ (es : List Entry). length es) bare.0 in omega arith) (omega arith) (λ j u _ there. h.few j u there);
    }

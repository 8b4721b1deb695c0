-- A join keeps states lawful.
use Rattle.std.proofs.Common.{◌≡◌, ◌≢◌, ◌⊎◌, ℕ, zero, suc, ◌+◌, ◌≤◌, ◌<◌, List, [], ◌∷◌, ◌++◌, length, take, set, sym, refl, ap, ◌∙◌, subst, ⊎_elim, inl, inr, arith, true, false, ◌==◌, ne_eqb, Option, Some, None}
use Rattle.std.specs.Prelude.{nat_lt}
use mathlib.Core.Option.{some}
use lib.ListN.{get_elem?}
use Rattle.std.specs.List.{All}
use Rattle.std.proofs.lemmas.Bool.{both_ways, cases_Bool, cond-true, cond-false, cond_both, ltb-true, ltb-false}
use Rattle.std.proofs.lemmas.List.{append-nil, length-append}
use Rattle.std.proofs.lemmas.List.Elements.{All-nil, All-head, All-tail, All-weaker, All-append, filter-append}
use Rattle.pin_core.specs.declared.entry.Entry.{Entry}
use Rattle.pin_book.specs.declared.write.Write.{Write}
use Rattle.pin_core.specs.declared.view.View.{View}
use Rattle.pin_core.specs.declared.view.Role.TheVariants as roles
use Rattle.pin_book.specs.Sequence.{writes_by}
use Rattle.pin_core.specs.Core.{CoreState, total, one_if, has_number, number_count, is_main, mains, pins_at, claims, has_claimed, has_turn, allowance_of, spent, EachSeat}
use Rattle.pin_core.specs.Lawful.{Lawful, WasFront, WasFrontOnce}
use Rattle.pin_core.specs.Step.{MayJoin, taken_in, join}
use Rattle.pin_core.proofs.Sums.{at_set, set_else, total-set, total-append, terms_le}
use Rattle.pin_core.proofs.Splits.{inside_of}

-- ---- the writes of a number in longer parts of a journal ----

none_in_part : (number : ℕ) (xs : List Write) (n : ℕ) → writes_by number xs ≡ [] → writes_by number (take n xs) ≡ []
none_in_part number xs zero none = refl
none_in_part number [] (suc n) none = refl
none_in_part number (x ∷ xs) (suc n) none = ⊎_elim
    (λ (is : (x.by == number) ≡ true). let here = sym (cond-true (x.by == number) (x ∷ writes_by number xs) (writes_by number xs) is) ∙ none in absurd (cc))
    (λ (else : (x.by == number) ≡ false). cond-false (x.by == number) (x ∷ writes_by number (take n xs)) (writes_by number (take n xs)) else
    ∙ none_in_part number xs n (sym (cond-false (x.by == number) (x ∷ writes_by number xs) (writes_by number xs) else) ∙ none)) (cases_Bool (x.by == number))

-- where the first m writes have all of a number, so have the first n for each larger n
all_in_longer : (number : ℕ) (xs : List Write) (m n : ℕ) → m ≤ n → writes_by number (take m xs) ≡ writes_by number xs → writes_by number (take n xs) ≡ writes_by number xs
all_in_longer number xs zero n le same = none_in_part number xs n (sym same) ∙ same
all_in_longer number [] (suc m) zero le same = refl
all_in_longer number [] (suc m) (suc n) le same = refl
all_in_longer number (x ∷ xs) (suc m) zero le same = absurd (omega arith)
all_in_longer number (x ∷ xs) (suc m) (suc n) le same = ⊎_elim
    (λ (is : (x.by == number) ≡ true).
    let both : x ∷ writes_by number (take m xs) ≡ x ∷ writes_by number xs = sym (cond-true (x.by == number) (x ∷ writes_by number (take m xs)) (writes_by number (take m xs)) is) ∙ same ∙ cond-true (x.by == number) (x ∷ writes_by number xs) (writes_by number xs) is in
    let rest : writes_by number (take m xs) ≡ writes_by number xs = cc in
    cond-true (x.by == number) (x ∷ writes_by number (take n xs)) (writes_by number (take n xs)) is ∙ ap (λ (l : List Write). x ∷ l) (all_in_longer number xs m n (omega arith) rest) ∙ sym (cond-true (x.by == number) (x ∷ writes_by number xs) (writes_by number xs) is))
    (λ (else : (x.by == number) ≡ false).
    let rest : writes_by number (take m xs) ≡ writes_by number xs = sym (cond-false (x.by == number) (x ∷ writes_by number (take m xs)) (writes_by number (take m xs)) else) ∙ same ∙ cond-false (x.by == number) (x ∷ writes_by number xs) (writes_by number xs) else in
    cond-false (x.by == number) (x ∷ writes_by number (take n xs)) (writes_by number (take n xs)) else ∙ all_in_longer number xs m n (omega arith) rest ∙ sym (cond-false (x.by == number) (x ∷ writes_by number xs) (writes_by number xs) else)) (cases_Bool (x.by == number))

-- own writes are by the seat's numbers, so there are none by another
none_by : (number : ℕ) (v : View) (own : List Write) → All (λ (w : Write). has_number w.by v ≡ 1) own → has_number number v ≡ 0 → writes_by number own ≡ []
none_by number v [] all none = refl
none_by number v (x ∷ xs) all none =
    let here = All-head (λ (w : Write). has_number w.by v ≡ 1) x xs all in
    cond-false (x.by == number) (x ∷ writes_by number xs) (writes_by number xs) (ne_eqb x.by number (λ is. let same = ap (λ n. has_number n v) is in omega arith))
    ∙ none_by number v xs (All-tail (λ (w : Write). has_number w.by v ≡ 1) x xs all) none

-- ---- each seat after a join ----

each_join : (P : View → Type 0) (views : List View) (id other : ℕ) (both : View) → P both → ((j : ℕ) (u : View) → j ≢ id → j ≢ other → get_elem? views j ≡ some u → u.role ≢ roles.Spent → P u)
    → EachSeat P (set (set views id both) other spent)
each_join P views id other both mine others j u at live =
    ⊎_elim (λ (x : (j ≡ other) × (spent ≡ u)). absurd (live (ap (λ (y : View). y.role) (sym x.1))))
    (λ (x : (j ≢ other) × (get_elem? (set views id both) j ≡ some u)). ⊎_elim (λ (y : (j ≡ id) × (both ≡ u)). subst P y.1 mine) (λ (y : (j ≢ id) × (get_elem? views j ≡ some u)). others j u y.0 x.0 y.1 live) (at_set views id j both u x.1))
    (at_set (set views id both) other j spent u at)

-- a sum stays where what both know counts what the two counted
pub total_join : (f : View → ℕ) (views : List View) (id other : ℕ) (v w both : View) → other ≢ id → get_elem? views id ≡ some v → get_elem? views other ≡ some w → f both ≡ f v + f w → f spent ≡ 0
    → total f (set (set views id both) other spent) ≡ total f views
total_join f views id other v w both apart here there sum none =
    let first = total-set f views id v both here in let second = total-set f (set views id both) other w spent (set_else views id other both apart ∙ there) in omega arith

no_claim : (slot : ℕ) (claimed : Option ℕ) → ((j : ℕ) → claimed ≡ Some j → ⊥) → claims slot claimed ≡ 0
no_claim slot None none = refl
no_claim slot (Some j) none = absurd (none j refl)

pub joins : (s : CoreState) (id : ℕ) (v : View) (other : ℕ) (w : View) → Lawful s → get_elem? s.views id ≡ some v → get_elem? s.views other ≡ some w → MayJoin v w → Lawful (join s id v other w)
joins s id v other w h here there may =
    let main = may.main in let reader = may.reader in
    let live : v.role ≢ roles.Spent = λ is. absurd (cc) in let lives : w.role ≢ roles.Spent = λ is. absurd (cc) in
    let both : View = taken_in v w in
    let apart : other ≢ id = λ same. (let both_there : some w ≡ some v = sym there ∙ ap (get_elem? s.views) same ∙ here in let one : w ≡ v = cc in let role = ap (λ (y : View). y.role) one in absurd (cc)) in
    let turn = h.turn.each id v here live in let turn_w = h.turn.each other w there lives in
    let knows = h.owners.each id v here live in let knows_w = h.owners.each other w there lives in
    let places = h.places id v here live in let places_w = h.places other w there lives in
    let bare = knows.main main in
    let longer : List Write = both.seen in
    let free : (slot : ℕ) → has_claimed slot w ≡ 0 = λ slot. no_claim slot w.claimed (λ j is. both_ways w.turn may.turn (turn_w.claims j is)) in
    let times_both : (r : ℕ) → has_number r both ≡ has_number r v + has_number r w = λ r. total-append (λ k. one_if (k == r)) v.numbers w.numbers in
    let no_pins : (slot : ℕ) → pins_at slot w ≡ 0 = λ slot. ap (λ (es : List Entry). total (λ (e : Entry). one_if (e.slot == slot)) es) may.unpinned in
    let idle_w : has_turn w ≡ 0 = ap one_if may.turn in
    let role_v : is_main v ≡ 1 = ap mains main in let role_w : is_main w ≡ 0 = ap mains reader in
    -- a number is the main's or the reader's, and not both
    let one_of : (r : ℕ) → has_number r both ≡ 1 → ((has_number r v ≡ 1) × (has_number r w ≡ 0)) ⊎ ((has_number r v ≡ 0) × (has_number r w ≡ 1)) = λ r one. split_one (has_number r v) (has_number r w) (sym (times_both r) ∙ one) in
    let below_v : (r : ℕ) → has_number r v ≡ 1 → has_number r w ≡ 0 = λ r one. (let sum = terms_le (has_number r) s.views id other v w apart here there in let whole = h.owners.numbers r (inside_of s.readers r v.numbers knows.inside one) in omega arith) in
    let below_w : (r : ℕ) → has_number r w ≡ 1 → has_number r v ≡ 0 = λ r one. (let sum = terms_le (has_number r) s.views id other v w apart here there in let whole = h.owners.numbers r (inside_of s.readers r w.numbers knows_w.inside one) in omega arith) in
    let told_by : (r : ℕ) (l : List Write) → take (length l) s.journal ≡ l → length v.seen ≤ length l → length w.seen ≤ length l → has_number r both ≡ 1 → writes_by r l ≡ writes_by r s.journal = λ r l is long_v long_w one.
    ap (writes_by r) (sym is) ∙ ⊎_elim
    (λ (x : (has_number r v ≡ 1) × (has_number r w ≡ 0)). all_in_longer r s.journal (length v.seen) (length l) long_v (ap (writes_by r) knows.seen ∙ knows.told r x.0))
    (λ (x : (has_number r v ≡ 0) × (has_number r w ≡ 1)). all_in_longer r s.journal (length w.seen) (length l) long_w (ap (writes_by r) knows_w.seen ∙ knows_w.told r x.1)) (one_of r one) in
    record {
      pins = λ slot low. h.pins slot low ∙ sym (total_join (pins_at slot) s.views id other v w both apart here there (let none = no_pins slot in omega arith) refl);
      spent = λ j u at is. ⊎_elim (λ (x : (j ≡ other) × (spent ≡ u)). sym x.1)
          (λ (x : (j ≢ other) × (get_elem? (set s.views id both) j ≡ some u)). ⊎_elim (λ (y : (j ≡ id) × (both ≡ u)). absurd (live (ap (λ (z : View). z.role) y.1 ∙ is))) (λ (y : (j ≢ id) × (get_elem? s.views j ≡ some u)). h.spent j u y.1 is) (at_set s.views id j both u x.1))
          (at_set (set s.views id both) other j spent u at);
      handles = each_join _ s.views id other both (h.handles id v here live) (λ j u _ _ at. h.handles j u at);
      follows = record {
        some_slot = h.follows.some_slot;
        replay = h.follows.replay;
        front = h.follows.front;
        wide = h.follows.wide;
        kept = λ slot low none. h.follows.kept slot low (sym (total_join (has_claimed slot) s.views id other v w both apart here there (let none = free slot in omega arith) refl) ∙ none);
      };
      turn = record {
        one = total_join has_turn s.views id other v w both apart here there (omega arith) refl ∙ h.turn.one;
        each = each_join _ s.views id other both record {
          holder = λ is. absurd (both_ways v.turn bare.1 is);
          current = λ is. absurd (both_ways v.turn bare.1 is);
          claims = turn.claims;
          inside = turn.inside;
          unlisted = turn.unlisted;
          coming = turn.coming;
        } (λ j u _ _ at. h.turn.each j u at);
      };
      owners = record {
        numbers = λ r low. total_join (has_number r) s.views id other v w both apart here there (times_both r) refl ∙ h.owners.numbers r low;
        whole = total_join number_count s.views id other v w both apart here there (length-append v.numbers w.numbers) refl ∙ h.owners.whole;
        main = total_join is_main s.views id other v w both apart here there (omega arith) refl ∙ h.owners.main;
        writers = h.owners.writers;
        counted = h.owners.counted;
        each = each_join _ s.views id other both record {
          reader = λ is. absurd (cc);
          main = knows.main;
          inside = All-append (λ n. n < s.readers) v.numbers w.numbers knows.inside knows_w.inside;
          seen = cond_both (nat_lt (length v.seen) (length w.seen)) w.seen v.seen (λ (l : List Write). take (length l) s.journal ≡ l) (λ _. knows_w.seen) (λ _. knows.seen);
          own = λ r one. filter-append (λ (x : Write). x.by == r) v.own w.own ∙ ⊎_elim
              (λ (x : (has_number r v ≡ 1) × (has_number r w ≡ 0)). ap (λ (l : List Write). writes_by r v.own ++ l) (none_by r w w.own knows_w.only x.1) ∙ append-nil (writes_by r v.own) ∙ knows.own r x.0)
              (λ (x : (has_number r v ≡ 0) × (has_number r w ≡ 1)). ap (λ (l : List Write). l ++ writes_by r w.own) (none_by r v v.own knows.only x.0) ∙ knows_w.own r x.1) (one_of r one);
          told = λ r one. cond_both (nat_lt (length v.seen) (length w.seen)) w.seen v.seen (λ (l : List Write). writes_by r l ≡ writes_by r s.journal)
              (λ is. let less = ltb-true (length v.seen) (length w.seen) is in told_by r w.seen knows_w.seen (omega arith) (omega arith) one)
              (λ is. let most = ltb-false (length v.seen) (length w.seen) is in told_by r v.seen knows.seen (omega arith) (omega arith) one);
          only = All-append (λ (x : Write). has_number x.by both ≡ 1) v.own w.own
              (All-weaker (λ (x : Write). has_number x.by v ≡ 1) (λ (x : Write). has_number x.by both ≡ 1) (λ x one. let none = below_v x.by one in let sum = times_both x.by in omega arith) v.own knows.only)
              (All-weaker (λ (x : Write). has_number x.by w ≡ 1) (λ (x : Write). has_number x.by both ≡ 1) (λ x one. let none = below_w x.by one in let sum = times_both x.by in omega arith) w.own knows_w.only);
        } (λ j u _ _ at. h.owners.each j u at);
      };
      places = each_join _ s.views id other both record {
        same = places.same;
        above = cond_both (nat_lt (length v.seen) (length w.seen)) w.seen v.seen (λ (l : List Write). s.floor ≤ length l) (λ _. places_w.above) (λ _. places.above);
        entries = subst (λ (es : List Entry). All (WasFront s.slots s.journal s.floor (length longer)) es) (sym bare.0) (All-nil (WasFront s.slots s.journal s.floor (length longer)));
        pinned = subst (λ (ns : List ℕ). All (WasFrontOnce s.slots s.journal s.floor (length longer)) ns) (sym bare.3) (All-nil (WasFrontOnce s.slots s.journal s.floor (length longer)));
      } (λ j u _ _ at. h.places j u at);
      room = (let sum = total_join allowance_of s.views id other v w both apart here there refl refl in let room = h.room in omega arith);
      few = each_join _ s.views id other both (let few = h.few id v here live in let more = length-append v.numbers w.numbers in omega arith) (λ j u _ _ at. h.few j u at);
    }
  where
    split_one : (m n : ℕ) → m + n ≡ 1 → ((m ≡ 1) × (n ≡ 0)) ⊎ ((m ≡ 0) × (n ≡ 1))
    split_one zero n is = inr (refl, omega arith)
    split_one (suc m) n is = inl (omega arith, omega arith)

-- No step takes a write back, or makes a seat forget what it has seen.
use Rattle.std.proofs.Common.{◌≡◌, ◌≢◌, ℕ, zero, suc, List, [], ◌∷◌, ◌++◌, length, take, set, sym, refl, ap, ◌∙◌, subst, ⊎_elim, arith, ◌==◌}
use Rattle.std.specs.Prelude.{is_some, nat_lt}
use mathlib.Core.Option.{some, some-injective, some-ne-none}
use lib.ListN.{get_elem?}
use Rattle.std.proofs.lemmas.Bool.{cond_both, cases_eq, ltb-true}
use Rattle.std.proofs.lemmas.List.{take_all, take_at, take-take}
use Rattle.pin_book.specs.declared.write.Write.{Write}
use Rattle.pin_core.specs.declared.view.View.{View}
use Rattle.pin_core.specs.declared.view.Role.TheVariants as roles
use Rattle.pin_book.specs.Replay.{front_slot}
use Rattle.pin_core.specs.Core.{CoreState, count_at, number_at, spent}
use Rattle.pin_core.specs.Lawful.{Lawful}
use Rattle.pin_core.specs.Step.{MayJoin, loaded, pinned, unpinned, got_turn, was_refused, take_turn, miss_turn, claiming, found_pinned, claim_slot, miss_slot, stored, gave_turn, left_over, split_off, taken_in}
use Rattle.pin_core.specs.Run.{Moves, loads, adds, takes_off, exchanges, claims_slot, stores, gives_back, splits, joins}
use Rattle.pin_core.proofs.Sums.{at_set, set_else}
use Rattle.pin_core.proofs.Seats.{is_live}

-- what the first has seen is the front part of what the second has
abbrev Follows : View → View → Type 0
Follows v u = take (length v.seen) u.seen ≡ v.seen

same : (xs : List Write) → take (length xs) xs ≡ xs
same xs = take_all (length xs) xs (omega arith)

one_view : (views : List View) (id : ℕ) (v u : View) → get_elem? views id ≡ some v → get_elem? views id ≡ some u → v ≡ u
one_view views id v u here there = some-injective v u (sym here ∙ there)

-- one seat is set
after_set : (views : List View) (id : ℕ) (v w : View) → get_elem? views id ≡ some v → Follows v w → (j : ℕ) (x u : View) → get_elem? views j ≡ some x → get_elem? (set views id w) j ≡ some u → Follows x u
after_set views id v w here grows j x u was now = ⊎_elim
    (λ (t : (j ≡ id) × (w ≡ u)). let is : v ≡ x = one_view views id v x here (ap (get_elem? views) (sym t.0) ∙ was) in
    subst (λ (y : View). Follows x y) t.1 (subst (λ (y : View). Follows y w) is grows))
    (λ (t : (j ≢ id) × (get_elem? views j ≡ some u)). subst (λ (y : View). Follows x y) (one_view views j x u was t.1) (same x.seen)) (at_set views id j w u now)

-- an element of a list with more behind it
at_longer : (xs ys : List View) (j : ℕ) (x : View) → get_elem? xs j ≡ some x → get_elem? (xs ++ ys) j ≡ some x
at_longer [] ys j x at = absurd (some-ne-none x (sym at))
at_longer (y ∷ xs) ys zero x at = at
at_longer (y ∷ xs) ys (suc j) x at = at_longer xs ys j x at

set_there : (xs : List View) (i : ℕ) (x w : View) → get_elem? xs i ≡ some x → get_elem? (set xs i w) i ≡ some w
set_there [] i x w at = absurd (some-ne-none x (sym at))
set_there (y ∷ xs) zero x w at = refl
set_there (y ∷ xs) (suc i) x w at = set_there xs i x w at

after_split : (views : List View) (id : ℕ) (v left right : View) → get_elem? views id ≡ some v → Follows v left → (j : ℕ) (x u : View) → get_elem? views j ≡ some x → get_elem? (set views id left ++ right ∷ []) j ≡ some u → Follows x u
after_split views id v left right here grows j x u was now = ⊎_elim
    (λ (is : j ≡ id). let there = set_there views id v left here in
    after_set views id v left here grows j x u was (ap (get_elem? (set views id left)) is ∙ there ∙ sym (at_longer (set views id left) (right ∷ []) id left there) ∙ ap (get_elem? (set views id left ++ right ∷ [])) (sym is) ∙ now))
    (λ (no : j ≢ id). let there = set_else views id j left no ∙ was in
    subst (λ (y : View). Follows x y) (some-injective x u (sym (at_longer (set views id left) (right ∷ []) j x there) ∙ now)) (same x.seen)) (cases_eq j id)

-- what a reader, or the main, sees where it sees the whole journal
whole : (s : CoreState) (id : ℕ) (v : View) → Lawful s → get_elem? s.views id ≡ some v → v.role ≢ roles.Spent → take (length v.seen) s.journal ≡ v.seen
whole s id v h here live = (h.owners.each id v here live).seen

pub journal_goes_on : (s t : CoreState) → Lawful s → Moves s t → take (length s.journal) t.journal ≡ s.journal
journal_goes_on s t h (loads id number v has) = same s.journal
journal_goes_on s t h (adds id number v has may) = same s.journal
journal_goes_on s t h (takes_off id number v place e has may) = same s.journal
journal_goes_on s t h (exchanges id number v has may) =
    cond_both (is_some s.turn) (miss_turn s id v) (take_turn s id number v) (λ (u : CoreState). take (length s.journal) u.journal ≡ s.journal) (λ _. same s.journal) (λ _. same s.journal)
journal_goes_on s t h (claims_slot id number v slot has may) =
    cond_both (count_at s.words slot == 0) (claim_slot s id v slot) (miss_slot s id v slot) (λ (u : CoreState). take (length s.journal) u.journal ≡ s.journal) (λ _. same s.journal) (λ _. same s.journal)
journal_goes_on s t h (stores id number v write has may) = take_at s.journal (write ∷ []) (length s.journal) refl
journal_goes_on s t h (gives_back id number v has may) = same s.journal
journal_goes_on s t h (splits id v number writes here may) = same s.journal
journal_goes_on s t h (joins id v other w here there may) = same s.journal

-- every seat that is still one has seen at least what it had
abbrev Grows : CoreState → CoreState → Type 0
Grows s t = (j : ℕ) (x u : View) → get_elem? s.views j ≡ some x → get_elem? t.views j ≡ some u → u.role ≢ roles.Spent → Follows x u

grows_by : (s t : CoreState) (id : ℕ) (v w : View) → get_elem? s.views id ≡ some v → t.views ≡ set s.views id w → Follows v w → Grows s t
grows_by s t id v w here is grows j x u was now live = after_set s.views id v w here grows j x u was (ap (λ (l : List View). get_elem? l j) (sym is) ∙ now)

longer_seen : (v w : View) (journal : List Write) → take (length v.seen) journal ≡ v.seen → take (length w.seen) journal ≡ w.seen → Follows v (taken_in v w)
longer_seen v w journal one two = cond_both (nat_lt (length v.seen) (length w.seen)) w.seen v.seen (λ (l : List Write). take (length v.seen) l ≡ v.seen)
    (λ is. let less = ltb-true (length v.seen) (length w.seen) is in ap (take (length v.seen)) (sym two) ∙ take-take (length v.seen) (length w.seen) journal (omega arith) ∙ one)
    (λ _. same v.seen)

pub seen_grows : (s t : CoreState) → Lawful s → Moves s t → Grows s t
seen_grows s t h (loads id number v has) = grows_by s t id v (loaded s.journal v) has.here refl (whole s id v h has.here (is_live number v has.reader))
seen_grows s t h (adds id number v has may) = grows_by s t id v (pinned s.slots (number_at s.words (front_slot s.slots v.seen)) v) has.here refl (same v.seen)
seen_grows s t h (takes_off id number v place e has may) = grows_by s t id v (unpinned place v) has.here refl (same v.seen)
seen_grows s t h (exchanges id number v has may) =
    cond_both (is_some s.turn) (miss_turn s id v) (take_turn s id number v) (λ (u : CoreState). Grows s u)
    (λ _. grows_by s (miss_turn s id v) id v (was_refused s.turn v) has.here refl (same v.seen))
    (λ _. grows_by s (take_turn s id number v) id v (got_turn s.journal v) has.here refl (whole s id v h has.here (is_live number v has.reader)))
seen_grows s t h (claims_slot id number v slot has may) =
    cond_both (count_at s.words slot == 0) (claim_slot s id v slot) (miss_slot s id v slot) (λ (u : CoreState). Grows s u)
    (λ _. grows_by s (claim_slot s id v slot) id v (claiming slot v) has.here refl (same v.seen))
    (λ _. grows_by s (miss_slot s id v slot) id v (found_pinned slot v) has.here refl (same v.seen))
seen_grows s t h (stores id number v write has may) = grows_by s t id v (stored write v) has.here refl (take_at v.seen (write ∷ []) (length v.seen) refl)
seen_grows s t h (gives_back id number v has may) = grows_by s t id v (gave_turn v) has.here refl (same v.seen)
seen_grows s t h (splits id v number writes here may) = λ j x u was now live. after_split s.views id v (left_over s.readers number writes v) (split_off s.readers number writes v) here (same v.seen) j x u was now
seen_grows s t h (joins id v other w here there may) = λ j x u was now live. ⊎_elim
    (λ (y : (j ≡ other) × (spent ≡ u)). absurd (live (ap (λ (z : View). z.role) (sym y.1))))
    (λ (y : (j ≢ other) × (get_elem? (set s.views id (taken_in v w)) j ≡ some u)).
    after_set s.views id v (taken_in v w) here (longer_seen v w s.journal (whole s id v h here (main_lives v may)) (whole s other w h there (reader_lives w may))) j x u was y.1) (at_set (set s.views id (taken_in v w)) other j spent u now)
  where
    main_lives : (x : View) → MayJoin x w → x.role ≢ roles.Spent
    main_lives x may spent = let main = may.main in absurd (cc)

    reader_lives : (x : View) → MayJoin v x → x.role ≢ roles.Spent
    reader_lives x may spent = let reader = may.reader in absurd (cc)

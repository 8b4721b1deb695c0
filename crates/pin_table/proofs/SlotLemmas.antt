-- How a reader that has the turn goes over the slots.
use Rattle.std.proofs.Common.{◌≡◌, ◌⊎◌, ℕ, zero, suc, ◌+◌, ◌<◌, ◌≤◌, List, [], ◌∷◌, ◌++◌, length, filter, refl, sym, ap, ◌∙◌, subst, ⊎_elim, arith, Bool, true, false, not, ◌==◌, ◌&&◌, ne_eqb, if◌then◌else◌}
use Rattle.std.specs.Prelude.{nat_lt}
use Rattle.std.specs.List.{Contains, range_with_len}
use Rattle.std.proofs.lemmas.Bool.{cond-true, cond-false, le-ltb}
use Rattle.std.proofs.lemmas.List.Elements.{filter-append, Contains-push_cases}
use Rattle.atomic_table.specs.Table.{Me}
use Rattle.pin_book.specs.declared.write.Write.{Write}
use Rattle.pin_book.specs.Replay.{is_taken}
use Rattle.pin_core.specs.declared.entry.Entry.{Entry}
use Rattle.pin_core.specs.declared.view.View.{View}
use Rattle.pin_core.specs.Core.{total, one_if, held_at}
use Rattle.pin_core.specs.Step.{with_number}
use Rattle.pin_table.specs.declared.cell.Cell.{Cell}
use Rattle.pin_table.specs.declared.sitting.Plan.{Plan}
use Rattle.pin_table.specs.declared.sitting.Sitting.{Sitting}
use Rattle.pin_table.specs.Seat.{knowing}
use Rattle.pin_table.specs.Carried.{slots_of}
use Rattle.pin_table.specs.Runs.{run_slots, run_from}
use Rattle.pin_table.specs.Plays.{SlotPinned, SlotClaimed}
use Rattle.pin_table.specs.Turns.{unlisted_below, finding}
use Rattle.pin_table.specs.Claims.{PassesSlot, PassesBelow, ClaimsLeast}
use Rattle.pin_table.proofs.ExchangeLemmas.{head_among, tail_among, among_one_more}

module _ {S : Type 0} where
  -- the numbers of a run, and of what stands behind it
  pub slots_of_run : (base : ℕ) (xs : List S) (ys : List (ℕ × S)) → slots_of (run_from base xs ++ ys) ≡ run_slots base (length xs) ++ slots_of ys
  slots_of_run base [] ys = refl
  slots_of_run base (x ∷ xs) ys = ap (λ l. base ∷ l) (slots_of_run (suc base) xs ys)

-- ---- the unlisted slots below one ----

-- one more number in a range
range_more : (a n : ℕ) → range_with_len a (n + 1) ≡ range_with_len a n ++ (a + n) ∷ []
range_more a zero = let here : a ≡ a + 0 = omega arith in ap (λ k. k ∷ []) here
range_more a (suc n) = let to : a + 1 + n ≡ a + suc n = omega arith in let up : suc n + 1 ≡ suc (n + 1) = omega arith in ap (range_with_len a) up ∙ ap (λ l. a ∷ l) (range_more (a + 1) n ∙ ap (λ k. range_with_len (a + 1) n ++ k ∷ []) to)

module _ (slots : ℕ) (journal : List Write) where
  free : ℕ → Bool
  free other = not (is_taken slots journal other)

  below_more : (slot : ℕ) → unlisted_below slots journal (slot + 1) ≡ unlisted_below slots journal slot ++ (if not (is_taken slots journal slot) then slot ∷ [] else [])
  below_more slot = ap (filter (λ other. not (is_taken slots journal other))) (range_more 0 slot) ∙ filter-append (λ other. not (is_taken slots journal other)) (range_with_len 0 slot) ((0 + slot) ∷ [])
      ∙ (let same : 0 + slot ≡ slot = omega arith in ap (λ k. unlisted_below slots journal slot ++ (if not (is_taken slots journal k) then k ∷ [] else [])) same)

  none_more : (xs : List ℕ) → xs ++ [] ≡ xs
  none_more [] = refl
  none_more (x ∷ xs) = ap (λ l. x ∷ l) (none_more xs)

  pub below_taken : (slot : ℕ) → is_taken slots journal slot ≡ true → unlisted_below slots journal (slot + 1) ≡ unlisted_below slots journal slot
  below_taken slot is = below_more slot ∙ (ap (λ b. unlisted_below slots journal slot ++ (if not b then slot ∷ [] else [])) is ∙ none_more (unlisted_below slots journal slot))

  pub below_free : (slot : ℕ) → is_taken slots journal slot ≡ false → unlisted_below slots journal (slot + 1) ≡ unlisted_below slots journal slot ++ slot ∷ []
  below_free slot is = below_more slot ∙ ap (λ b. unlisted_below slots journal slot ++ (if not b then slot ∷ [] else [])) is

-- each number of the range is below its end
filter_low : (p : ℕ → Bool) (a n top x : ℕ) → a + n ≤ top → Contains (filter p (range_with_len a n)) x → x < top
filter_low p a zero top x low among = absurd (let none = among.1 in omega arith)
filter_low p a (suc n) top x low among = by_test (p a) refl (λ later. filter_low p (a + 1) n top x (omega arith) later)
  where
    by_test : (b : Bool) → p a ≡ b → (Contains (filter p (range_with_len (a + 1) n)) x → x < top) → x < top
    by_test true is below = ⊎_elim (λ (same : a ≡ x). omega arith) (λ later. below later)
        (among_one_more a (filter p (range_with_len (a + 1) n)) x (subst (λ l. Contains l x) (cond-true (p a) (a ∷ filter p (range_with_len (a + 1) n)) (filter p (range_with_len (a + 1) n)) is) among))
    by_test false is below = below (subst (λ l. Contains l x) (cond-false (p a) (a ∷ filter p (range_with_len (a + 1) n)) (filter p (range_with_len (a + 1) n)) is) among)

-- a number above all in a list goes to its end
with_last : (number : ℕ) (numbers : List ℕ) → ((x : ℕ) → Contains numbers x → x < number) → with_number number numbers ≡ numbers ++ number ∷ []
with_last number [] low = refl
with_last number (n ∷ ns) low =
    let less = low n (head_among n ns) in
    cond-false (nat_lt number n) (number ∷ n ∷ ns) (if number == n then n ∷ ns else n ∷ with_number number ns) (le-ltb number n (omega arith))
    ∙ (cond-false (number == n) (n ∷ ns) (n ∷ with_number number ns) (ne_eqb number n (λ same. omega arith))
    ∙ ap (λ l. n ∷ l) (with_last number ns (λ x among. low x (tail_among n ns x among))))

-- where all pins are held
all_held : (slot : ℕ) (entries : List Entry) → ((e : Entry) → Contains entries e → e.held ≡ true) → total (λ (e : Entry). one_if (e.slot == slot)) entries ≡ total (λ (e : Entry). one_if ((e.slot == slot) && e.held)) entries
all_held slot [] held = refl
all_held slot (e ∷ es) held =
    let here = held e (head_among e es) in let later = all_held slot es (λ x among. held x (tail_among e es x among)) in let same = both (e.slot == slot) e.held here in omega arith
  where
    both : (a b : Bool) → b ≡ true → one_if a ≡ one_if (a && b)
    both true b is = ap one_if (sym is)
    both false b is = refl

-- ---- one slot more ----

module _ {P H : Type 0} (plan : Plan P) (m : Me (Cell P H) (Sitting P)) (held : (e : Entry) → Contains m.0.core.entries e → e.held ≡ true) where
  abbrev v : View
  v = m.0.core

  -- what the seat has after the slots below this one were passed by
  abbrev passed_by : ℕ → Me (Cell P H) (Sitting P)
  passed_by slot = (knowing (finding plan.slots slot v) m.0, m.1)

  pub passes_none : v.pinned ≡ [] → PassesBelow plan 0 m m
  passes_none fresh = record {
    pinned = record { fronts = λ other among. absurd (let none = among.1 in omega arith); alone = λ one other among. absurd (let none = among.1 in omega arith) };
    seat = λ i. (knowing (record v { pinned = fresh i }) m.0, m.1);
  }

  -- one more slot was passed by
  pub passes_more : (slot next : ℕ) (m1 m2 : Me (Cell P H) (Sitting P)) → next ≡ slot + 1 → PassesBelow plan slot m m1 → PassesSlot plan slot m1 m2 → PassesBelow plan next m m2
  passes_more slot next m1 m2 is below passed = subst (λ n. PassesBelow plan n m m2) (sym is) (⊎_elim listed found (subst (λ x. PassesSlot plan slot x m2) below.seat passed))
    where
      listed : (is_taken plan.slots v.seen slot ≡ true) × (m2 ≡ passed_by slot) → PassesBelow plan (slot + 1) m m2
      listed taken = let same = below_taken plan.slots v.seen slot taken.0 in record {
        pinned = record {
          fronts = λ other among. below.pinned.fronts other (subst (λ l. Contains l other) same among);
          alone = λ one other among. below.pinned.alone one other (subst (λ l. Contains l other) same among);
        };
        seat = taken.1 ∙ (λ i. (knowing (record v { pinned = sym same i }) m.0, m.1));
      }

      found : (is_taken plan.slots v.seen slot ≡ false) × SlotPinned plan slot (passed_by slot) m2 → PassesBelow plan (slot + 1) m m2
      found pinned =
          let more = below_free plan.slots v.seen slot pinned.0 in let old = unlisted_below plan.slots v.seen slot in
          let last = with_last slot old (λ x among. filter_low (λ other. not (is_taken plan.slots v.seen other)) 0 slot slot x (omega arith) among) in record {
            pinned = record {
              fronts = λ other among. ⊎_elim (λ before. below.pinned.fronts other before) (λ (same : slot ≡ other). subst (λ k. Rattle.pin_core.specs.Lawful.WasFrontOnce plan.slots v.seen v.floor (length v.seen) k) same pinned.1.once)
                  (at_end other old among more);
              alone = λ one other among. ⊎_elim (λ before. below.pinned.alone one other before)
                  (λ (same : slot ≡ other). subst (λ k. 0 < held_at k v) same (let some_pin = pinned.1.alone one in let all = all_held slot v.entries held in omega arith))
                  (at_end other old among more);
            };
            seat = pinned.1.seat ∙ (λ i. (knowing (record v { pinned = (last ∙ sym more) i }) m.0, m.1));
          }
        where
          at_end : (other : ℕ) (old : List ℕ) → Contains (unlisted_below plan.slots v.seen (slot + 1)) other → unlisted_below plan.slots v.seen (slot + 1) ≡ old ++ slot ∷ [] → Contains old other ⊎ (slot ≡ other)
          at_end other old among more = Contains-push_cases old slot other (subst (λ l. Contains l other) more among)

  -- the slot was claimed, after those below it were passed by
  pub claims_least : (slot : ℕ) (m1 m2 : Me (Cell P H) (Sitting P)) → slot < plan.slots → PassesBelow plan slot m m1 → is_taken plan.slots m1.0.core.seen slot ≡ false → SlotClaimed plan slot m1 m2 → ClaimsLeast plan slot m m2
  claims_least slot m1 m2 inside below unlisted claimed =
      let here = subst (λ (x : Me (Cell P H) (Sitting P)). (is_taken plan.slots x.0.core.seen slot ≡ false) × SlotClaimed plan slot x m2) below.seat (unlisted, claimed) in record {
        pinned = below.pinned;
        inside = inside;
        unlisted = here.0;
        free = here.1.free;
        cells = here.1.cells;
        many = here.1.many;
        seat = here.1.seat;
      }

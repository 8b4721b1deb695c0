-- The slots that a push passes over, as its turn found them.
use Rattle.std.proofs.Common.{◌≡◌, ℕ, ◌+◌, ◌<◌, ◌≤◌, inl, inr, Bool, true, false, not, ◌==◌, ◌&&◌, List, [], ◌∷◌, length, take, Contains, sym, ap, ◌∙◌, subst, ⊎_elim, arith}
use Rattle.std.specs.List.{filter, range_with_len}
use Rattle.std.proofs.lemmas.Bool.{cases_Bool, not_from_false, cond-true, cond_both}
use Rattle.std.proofs.lemmas.List.FromFn.{length-range_with_len, get_or-range_with_len}
use Rattle.pin_book.specs.declared.write.Write.{Write}
use Rattle.pin_book.specs.Replay.{front_of, state_after, is_slot_listed, is_taken, front_slot}
use Rattle.pin_core.specs.declared.entry.Entry.{Entry}
use Rattle.pin_core.specs.declared.view.View.{View}
use Rattle.pin_core.specs.Core.{total, one_if, held_at}
use Rattle.pin_core.specs.Step.{got_turn}
use Rattle.pin_table.specs.declared.sitting.Plan.{Plan}
use Rattle.pin_table.specs.Turns.{FoundPinned, unlisted_below}
use Rattle.pin_table.proofs.ExchangeLemmas.{head_among, tail_among, among_one_more}
use Rattle.pin_table.proofs.PlaceLemmas.{take_seen}
use Rattle.tz_version.specs.declared.sources.Sources.{Sources}
use Rattle.tz_batch.specs.PassedOver.{IsPassedOver, MayBeHeld}
use Rattle.tz_lane.specs.Changing.{HasHandleAt}
use Rattle.tz_lane.specs.Meeting.{lane_round}

-- what passes a test is among what passes
passing : (p : ℕ → Bool) (x : ℕ) (xs : List ℕ) → p x ≡ true → Contains xs x → Contains (filter p xs) x
passing p x [] passes has = has
passing p x (y ∷ ys) passes has = ⊎_elim
    (λ (same : y ≡ x). let here : p y ≡ true = ap p same ∙ passes in
    subst (λ (l : List ℕ). Contains l x) (sym (cond-true (p y) (y ∷ filter p ys) (filter p ys) here)) (subst (λ (z : ℕ). Contains (y ∷ filter p ys) z) same (head_among y (filter p ys))))
    (λ (later : Contains ys x). let rest = passing p x ys passes later in
    cond_both (p y) (y ∷ filter p ys) (filter p ys) (λ (l : List ℕ). Contains l x) (λ _. tail_among y (filter p ys) x rest) (λ _. rest))
    (among_one_more y ys x has)

-- a number below another is in the range up to that
in_range : (n x : ℕ) → x < n → Contains (range_with_len 0 n) x
in_range n x low = (x, (let long = length-range_with_len 0 n in omega arith), get_or-range_with_len 0 n x x low ∙ (let same : 0 + x ≡ x = omega arith in same))

-- a slot in which nothing listed is, below another
unlisted_slot : (slots : ℕ) (journal : List Write) (bound other : ℕ) → is_taken slots journal other ≡ false → other < bound → Contains (unlisted_below slots journal bound) other
unlisted_slot slots journal bound other free low = passing (λ slot. not (is_taken slots journal slot)) other (range_with_len 0 bound) (not_from_false (is_taken slots journal other) free) (in_range bound other low)

module _ {P : Type 0} (plan : Plan P) (sources : Sources) (begun : ℕ) (v v' w : View) (journal : List Write) where
  -- a slot that was found pinned may be held
  found_held : (bound other : ℕ) → w.entries ≡ v.entries → w.floor ≡ v'.floor → take (length journal) v'.seen ≡ journal → FoundPinned plan.slots plan.readers (got_turn journal w) bound
      → Contains (unlisted_below plan.slots journal bound) other → MayBeHeld (lane_round plan sources begun v') (HasHandleAt v) (length journal) other
  unfolding front_slot
  found_held bound other entries floor before found among =
      let once = found.fronts other among in (
        λ one. subst (λ (es : List Entry). 0 < total (λ (e : Entry). one_if ((e.slot == other) && e.held)) es) entries (found.alone one other among),
        λ several. (once.0, subst (λ (floor : ℕ). floor ≤ once.0) floor once.1, once.2, ap (λ (l : List Write). (front_of (state_after plan.slots l).listed).slot) (take_seen once.0 journal v'.seen once.2 before) ∙ sym once.3),
      )

  -- Each slot below the one up to which the unlisted ones were found pinned is passed over.
  pub passed_over : (bound other : ℕ) → w.entries ≡ v.entries → w.floor ≡ v'.floor → take (length journal) v'.seen ≡ journal → FoundPinned plan.slots plan.readers (got_turn journal w) bound → other < bound
      → IsPassedOver (lane_round plan sources begun v') (HasHandleAt v) (length journal) other
  unfolding is_taken
  passed_over bound other entries floor before found low =
      let listed : Bool = is_slot_listed other (state_after plan.slots journal).listed in
      ⊎_elim
      (λ (is : listed ≡ true). inl (ap (λ (l : List Write). is_slot_listed other (state_after plan.slots l).listed) before ∙ is))
      (λ (free : listed ≡ false). inr (found_held bound other entries floor before found (unlisted_slot plan.slots journal bound other free low)))
      (cases_Bool listed)

  -- A slot that a push took isn't passed over where the reader is alone.
  pub not_passed : (slot : ℕ) → plan.readers ≡ 1 → take (length journal) v'.seen ≡ journal → is_taken plan.slots journal slot ≡ false → held_at slot v ≡ 0
      → IsPassedOver (lane_round plan sources begun v') (HasHandleAt v) (length journal) slot → ⊥
  unfolding is_taken
  not_passed slot one before free none (inl listed) =
      let same = ap (λ (l : List Write). is_slot_listed slot (state_after plan.slots l).listed) before in cc
  not_passed slot one before free none (inr held) = let some = held.0 one in omega arith

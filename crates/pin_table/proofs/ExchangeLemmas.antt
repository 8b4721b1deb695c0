-- What an exchange leaves as it was among the slots that a seat carries.
use Rattle.std.proofs.Common.{◌≡◌, ◌≢◌, ◌⊎◌, ℕ, ◌+◌, List, [], ◌∷◌, ◌++◌, sym, refl, ap, ◌∙◌, subst, ⊎_elim, inl, inr, arith, ◌==◌, eq-eqb}
use Rattle.std.specs.List.{Contains}
use Rattle.std.proofs.lemmas.List.{map-append, append-nil}
use Rattle.std.proofs.lemmas.List.Elements.{Contains-append_cases, Contains-append_left, Contains-append_right, Contains-push, Contains-push_cases}
use Rattle.pin_core.specs.Core.{times, total, one_if}
use Rattle.pin_core.proofs.Sums.{total-append}
use Rattle.pin_table.specs.Carried.{slots_of, Exchanges}

-- an element of a list with one more at the head
pub among_one_more : {X : Type 0} (x : X) (xs : List X) (y : X) → Contains (x ∷ xs) y → (x ≡ y) ⊎ Contains xs y
among_one_more x xs y among = ⊎_elim
    (λ head. ⊎_elim (λ none. absurd (let low = none.1 in omega arith)) (λ is. inl is) (Contains-push_cases [] x y head))
    (λ tail. inr tail)
    (Contains-append_cases (x ∷ []) xs y among)

pub head_among : {X : Type 0} (x : X) (xs : List X) → Contains (x ∷ xs) x
head_among x xs = Contains-append_left (x ∷ []) xs x (Contains-push [] x)

pub tail_among : {X : Type 0} (x : X) (xs : List X) (y : X) → Contains xs y → Contains (x ∷ xs) y
tail_among x xs y among = Contains-append_right (x ∷ []) xs y among

module _ {S : Type 0} where
  -- how often a slot stands in two lists together
  pub times_both : (slot : ℕ) (xs ys : List (ℕ × S)) → times slot (slots_of (xs ++ ys)) ≡ times slot (slots_of xs) + times slot (slots_of ys)
  times_both slot xs ys = ap (times slot) (map-append (λ (x : ℕ × S). x.0) xs ys) ∙ total-append (λ other. one_if (other == slot)) (slots_of xs) (slots_of ys)

  -- what stands nowhere is no element's slot
  pub not_there : (slot : ℕ) (xs : List (ℕ × S)) (x : ℕ × S) → times slot (slots_of xs) ≡ 0 → Contains xs x → x.0 ≢ slot
  not_there slot [] x none among is = absurd (let low = among.1 in omega arith)
  not_there slot (y ∷ ys) x none among is = ⊎_elim
      (λ same. let one = ap one_if (eq-eqb y.0 slot (ap (λ (z : ℕ × S). z.0) same ∙ is)) in omega arith)
      (λ later. not_there slot ys x (omega arith) later is)
      (among_one_more y ys x among)

  module _ (slot : ℕ) (old new : S) (c c' : List (ℕ × S)) (h : Exchanges slot old new c c') where
    pub same_slots : (other : ℕ) → times other (slots_of c') ≡ times other (slots_of c)
    same_slots other =
        let was = ap (λ l. times other (slots_of l)) h.was ∙ times_both other h.before ((slot, old) ∷ h.behind) in
        let is = ap (λ l. times other (slots_of l)) h.is in let both = times_both other h.behind h.before in omega arith

    pub other_sum : (f : ℕ × S → ℕ) → total f c' + f (slot, old) ≡ total f c + f (slot, new)
    other_sum f =
        let was = ap (total f) h.was ∙ total-append f h.before ((slot, old) ∷ h.behind) in
        let is = ap (total f) h.is in let both = total-append f h.behind h.before in omega arith

    -- what was exchanged was carried
    pub was_carried : Contains c (slot, old)
    was_carried = subst (λ l. Contains l (slot, old)) (sym h.was) (Contains-append_right h.before ((slot, old) ∷ h.behind) (slot, old) (head_among (slot, old) h.behind))

    -- what else is carried was carried before, at another slot where this one is carried once
    pub others_same : times slot (slots_of c) ≡ 1 → (x : ℕ × S) → Contains (h.behind ++ h.before) x → Contains c x × (x.0 ≢ slot)
    others_same once x among =
        let was = ap (λ l. times slot (slots_of l)) h.was ∙ times_both slot h.before ((slot, old) ∷ h.behind) in
        let one = ap one_if (eq-eqb slot slot refl) in let both = times_both slot h.behind h.before in (
          subst (λ l. Contains l x) (sym h.was) (⊎_elim
              (λ behind. Contains-append_right h.before ((slot, old) ∷ h.behind) x (tail_among (slot, old) h.behind x behind))
              (λ before. Contains-append_left h.before ((slot, old) ∷ h.behind) x before)
              (Contains-append_cases h.behind h.before x among)),
          not_there slot (h.behind ++ h.before) x (omega arith) among,
        )

    pub now_carried : times slot (slots_of c) ≡ 1 → (x : ℕ × S) → Contains c' x → ((slot, new) ≡ x) ⊎ (Contains c x × (x.0 ≢ slot))
    now_carried once x among = ⊎_elim (λ is. inl is) (λ other. inr (others_same once x other)) (among_one_more (slot, new) (h.behind ++ h.before) x (subst (λ l. Contains l x) h.is among))

  -- a slot that is carried once and stands at the head has nothing before it
  pub at_head_already : (slot : ℕ) (x old new : S) (others c' : List (ℕ × S)) → times slot (slots_of ((slot, x) ∷ others)) ≡ 1 → Exchanges slot old new ((slot, x) ∷ others) c' → c' ≡ (slot, new) ∷ others
  at_head_already slot x old new others c' once h = by_before h.before h.behind h.was h.is
    where
      tail_of : List (ℕ × S) → List (ℕ × S)
      tail_of [] = []
      tail_of (y ∷ ys) = ys

      by_before : (before behind : List (ℕ × S)) → (slot, x) ∷ others ≡ before ++ (slot, old) ∷ behind → c' ≡ (slot, new) ∷ behind ++ before → c' ≡ (slot, new) ∷ others
      by_before [] behind was is = is ∙ ap (λ (l : List (ℕ × S)). (slot, new) ∷ l) (append-nil behind ∙ sym (ap tail_of was))
      by_before (y ∷ before) behind was is = absurd (
          let one = ap one_if (eq-eqb slot slot refl) in let tail = times_both slot before ((slot, old) ∷ behind) in
          let more = ap (λ l. times slot (slots_of (tail_of l))) was in omega arith)

  -- an exchange of a slot for a value, and then for another, is one exchange
  pub exchanged_twice : (slot : ℕ) (old middle found new : S) (c c1 c2 : List (ℕ × S)) → times slot (slots_of c) ≡ 1 → Exchanges slot old middle c c1 → Exchanges slot found new c1 c2 → Exchanges slot old new c c2
  exchanged_twice slot old middle found new c c1 c2 once one two =
      let head = at_head_already slot middle found new (one.behind ++ one.before) c2 (ap (λ l. times slot (slots_of l)) (sym one.is) ∙ same_slots slot old middle c c1 one slot ∙ once)
      (subst (λ l. Exchanges slot found new l c2) one.is two) in record {
        before = one.before;
        behind = one.behind;
        was = one.was;
        is = head;
      }

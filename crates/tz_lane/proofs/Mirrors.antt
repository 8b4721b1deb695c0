-- A lane's holds are those that are open by the definition, each begun by one of the operations before.
use Rattle.std.proofs.Common.{◌≡◌, ℕ, zero, suc, ◌==◌, ◌⊎◌, Bool, true, false, not, ◌&&◌, List, [], ◌∷◌, ◌++◌, map, Contains, refl, sym, ap, subst, ◌∙◌, inl, inr, ⊎_elim, arith}
use Rattle.std.specs.Prelude.{count_by}
use Rattle.std.proofs.lemmas.Bool.{cases_Bool, both_ways, cond-true, cond-false, and_from, eq-eqb}
use Rattle.std.proofs.lemmas.List.Sums.{fold-append}
use Rattle.std.proofs.lemmas.List.Elements.{Contains-push, Contains-push_cases, Contains-append_left}
use Rattle.std.proofs.lemmas.List.Sorted.{Contains-permutation, IsPermutation-sym}
use Rattle.std.proofs.lemmas.Slice.Eq.{bytes_eq-Decides}
use Rattle.tz_specs.specs.Value.{is_exactly}
use Rattle.tz_script.specs.Holds.{is_hold, without_hold, holds_after}
use Rattle.tz_script.specs.declared.holds.OpenHold.{OpenHold}
use Rattle.tz_script.specs.declared.operation.Op.{Op}
use Rattle.tz_script.specs.declared.operation.Op.TheVariants as ops
use Rattle.tz_script.specs.declared.operation.Operation.{Operation}
use Rattle.pin_book.specs.Replay.{Edition}
use Rattle.tz_batch.specs.Batch.{Answered}
use Rattle.tz_batch.specs.Round.{Round, newest_at}
use Rattle.tz_batch.specs.Held.{holds_in, open_holds, IsOpenHold, IsHeldAs}
use Rattle.tz_batch.specs.PassedOver.{IsHeldSlot}
use Rattle.tz_lane.specs.Holding.{names_of, LaneHoldsAs, HoldsSlot, HoldsAfter}
use Rattle.tz_lane.specs.declared.lane_hold.LaneHold.{LaneHold}
use Rattle.tz_lane.proofs.Names.{none_counted}

-- a lane's hold as an open one
abbrev pub open_of : ℕ → LaneHold → OpenHold
open_of lane hold = record { lane = lane; name = hold.name; line = hold.line }

-- one of these operations began the hold, at the position of its handle
pub record HasBegun (those : List Answered) (hold : LaneHold) : Type 0 where
  pub begun : Answered
  pub is_before : Contains those begun
  pub line : begun.operation.line ≡ hold.line
  pub position : begun.reply.w ≡ hold.handle.position

-- the operation is of that lane and round
abbrev pub IsOf : ℕ → ℕ → Answered → Type 0
IsOf lane number here = (here.operation.lane ≡ lane) × (here.operation.round ≡ number)

-- Each hold is open and has begun, and each open hold is one of them. No two operations stand at one line.
pub record Mirrors (lane number : ℕ) (those : List Answered) (holds : List LaneHold) : Type 0 where
  pub is_open : (hold : LaneHold) → Contains holds hold → Contains (open_holds number those) (open_of lane hold)
  pub begun : (hold : LaneHold) → Contains holds hold → HasBegun those hold
  pub held : (it : OpenHold) → Contains (open_holds number those) it → (hold : LaneHold) × Contains holds hold × (open_of lane hold ≡ it)
  pub alone : (a b : Answered) → Contains those a → Contains those b → a.operation.line ≡ b.operation.line → a ≡ b

none_there : {A : Type 0} (x : A) → Contains [] x → ⊥
none_there x (k, low, at) = omega (arith, low)

-- before any operation
pub mirrors_first : (lane number : ℕ) → Mirrors lane number [] []
mirrors_first lane number = record {
  is_open = λ hold has. absurd (none_there hold has);
  begun = λ hold has. absurd (none_there hold has);
  held = λ it has. absurd (none_there it has);
  alone = λ a b has. absurd (none_there a has);
}

-- ---- one operation more ----

open_push : (number : ℕ) (those : List Answered) (here : Answered) → here.operation.round ≡ number
    → open_holds number (those ++ here ∷ []) ≡ holds_after here.operation.line here.operation.lane here.operation.op (open_holds number those)
open_push number those here round =
    fold-append (holds_in number) [] those (here ∷ [])
    ∙ cond-true (here.operation.round == number) (holds_after here.operation.line here.operation.lane here.operation.op (open_holds number those)) (open_holds number those) (eq-eqb here.operation.round number round)

-- what began before began among one operation more
begun_more : (those : List Answered) (here : Answered) (hold : LaneHold) → HasBegun those hold → HasBegun (those ++ here ∷ []) hold
begun_more those here hold has = record {
  begun = has.begun;
  is_before = Contains-append_left those (here ∷ []) has.begun has.is_before;
  line = has.line;
  position = has.position;
}

-- a hold that isn't of a name is left without it
left_one : (lane : ℕ) (name : List ℕ) (holds : List OpenHold) (it : OpenHold) → Contains holds it → is_hold lane name it ≡ false → Contains (without_hold lane name holds) it
left_one lane name [] it has away = absurd (none_there it has)
left_one lane name (first ∷ holds) it (zero, low, at) away =
    let kept : without_hold lane name (first ∷ holds) ≡ first ∷ without_hold lane name holds =
    cond-true (not (is_hold lane name first)) (first ∷ without_hold lane name holds) (without_hold lane name holds) (ap not (ap (is_hold lane name) at ∙ away)) in
    subst (λ (xs : List OpenHold). Contains xs it) (sym kept) (zero, omega arith, at)
left_one lane name (first ∷ holds) it (suc k, low, at) away =
    let rest = left_one lane name holds it (k, omega (arith, low), at) away in
    ⊎_elim
    (λ (out : not (is_hold lane name first) ≡ false). subst (λ (xs : List OpenHold). Contains xs it) (sym (cond-false (not (is_hold lane name first)) (first ∷ without_hold lane name holds) (without_hold lane name holds) out)) rest)
    (λ (in_it : not (is_hold lane name first) ≡ true). subst (λ (xs : List OpenHold). Contains xs it) (sym (cond-true (not (is_hold lane name first)) (first ∷ without_hold lane name holds) (without_hold lane name holds) in_it)) (suc rest.0, omega (arith, rest.1), rest.2))
    (by_cases (not (is_hold lane name first)))
  where
    by_cases : (b : Bool) → (b ≡ false) ⊎ (b ≡ true)
    by_cases false = inl refl
    by_cases true = inr refl

-- an element of a list with one more in front
first_or_later : {A : Type 0} (x : A) (xs : List A) (it : A) → Contains (x ∷ xs) it → (x ≡ it) ⊎ Contains xs it
first_or_later x xs it (zero, low, at) = inl at
first_or_later x xs it (suc k, low, at) = inr (k, omega (arith, low), at)

one_behind : {A : Type 0} (x : A) (xs : List A) (it : A) → Contains xs it → Contains (x ∷ xs) it
one_behind x xs it (k, low, at) = (suc k, omega (arith, low), at)

contains_map : {A B : Type 0} (f : A → B) (xs : List A) (x : A) → Contains xs x → Contains (map f xs) (f x)
contains_map f [] x has = absurd (none_there x has)
contains_map f (y ∷ xs) x (zero, low, at) = (zero, omega arith, ap f at)
contains_map f (y ∷ xs) x (suc k, low, at) = one_behind (f y) (map f xs) (f x) (contains_map f xs x (k, omega (arith, low), at))

at_front : {A : Type 0} (x : A) (xs : List A) → Contains (x ∷ xs) x
at_front x xs = (zero, omega arith, refl)

-- what is left without a name was there, and isn't of it
was_there : (lane : ℕ) (name : List ℕ) (holds : List OpenHold) (it : OpenHold) → Contains (without_hold lane name holds) it → Contains holds it × (is_hold lane name it ≡ false)
was_there lane name [] it has = absurd (none_there it has)
was_there lane name (first ∷ holds) it has =
    ⊎_elim
    (λ (out : is_hold lane name first ≡ true).
    let left : without_hold lane name (first ∷ holds) ≡ without_hold lane name holds = cond-false (not (is_hold lane name first)) (first ∷ without_hold lane name holds) (without_hold lane name holds) (ap not out) in
    let rest = was_there lane name holds it (subst (λ (xs : List OpenHold). Contains xs it) left has) in (one_behind first holds it rest.0, rest.1))
    (λ (kept : is_hold lane name first ≡ false).
    let left : without_hold lane name (first ∷ holds) ≡ first ∷ without_hold lane name holds = cond-true (not (is_hold lane name first)) (first ∷ without_hold lane name holds) (without_hold lane name holds) (ap not kept) in
    ⊎_elim
    (λ (same : first ≡ it). (subst (λ (x : OpenHold). Contains (first ∷ holds) x) same (at_front first holds), ap (is_hold lane name) (sym same) ∙ kept))
    (λ (later : Contains (without_hold lane name holds) it). let rest = was_there lane name holds it later in (one_behind first holds it rest.0, rest.1))
    (first_or_later first (without_hold lane name holds) it (subst (λ (xs : List OpenHold). Contains xs it) left has)))
    (cases_Bool (is_hold lane name first))

-- the name that an operation drops is held no more
abbrev pub IsDropped : Op → List LaneHold → Type 0
IsDropped (ops.Drop name) later = count_by (λ other. is_exactly other name) (names_of later) ≡ 0
IsDropped op later = Unit {0}

-- what an operation makes of holds, and of the open ones
record Moves (lane line : ℕ) (op : Op) (w : ℕ) (open_before : List OpenHold) (holds later : List LaneHold) : Type 0 where
  is_open : (hold : LaneHold) → Contains later hold → Contains (holds_after line lane op open_before) (open_of lane hold)
  begun : (hold : LaneHold) → Contains later hold → Contains holds hold ⊎ ((line ≡ hold.line) × (w ≡ hold.handle.position))
  held : (it : OpenHold) → Contains (holds_after line lane op open_before) it → (hold : LaneHold) × Contains later hold × (open_of lane hold ≡ it)

module _ (lane line w : ℕ) (open_before : List OpenHold) (holds later : List LaneHold) (is_open : (hold : LaneHold) → Contains holds hold → Contains open_before (open_of lane hold)) (held : (it : OpenHold) → Contains open_before it → (hold : LaneHold) × Contains holds hold × (open_of lane hold ≡ it)) where
  begins : (name : List ℕ) → HoldsAfter line (ops.Hold name) w holds later → Moves lane line (ops.Hold name) w open_before holds later
  begins name (hold, begun, s) =
      let new : OpenHold = record { lane = lane; name = name; line = line } in
      let is : open_of lane hold ≡ new = (λ i. record { lane = lane; name = begun.name_is i; line = begun.line_is i }) in
      let back = IsPermutation-sym later (hold ∷ holds) s in
      record {
        is_open = λ one has. (
            ⊎_elim
            (λ (same : hold ≡ one). subst (Contains (open_before ++ new ∷ [])) (sym is ∙ ap (open_of lane) same) (Contains-push open_before new))
            (λ (old : Contains holds one). Contains-append_left open_before (new ∷ []) (open_of lane one) (is_open one old))
            (first_or_later hold holds one (Contains-permutation later (hold ∷ holds) one s has)));
        begun = λ one has. (
            ⊎_elim
            (λ (same : hold ≡ one). inr (sym begun.line_is ∙ ap (λ (h : LaneHold). h.line) same, sym begun.position ∙ ap (λ (h : LaneHold). h.handle.position) same))
            (λ (old : Contains holds one). inl old)
            (first_or_later hold holds one (Contains-permutation later (hold ∷ holds) one s has)));
        held = λ it has. (
            ⊎_elim
            (λ (old : Contains open_before it). let one = held it old in (one.0, Contains-permutation (hold ∷ holds) later one.0 back (one_behind hold holds one.0 one.1), one.2))
            (λ (same : new ≡ it). (hold, Contains-permutation (hold ∷ holds) later hold back (at_front hold holds), is ∙ same))
            (Contains-push_cases open_before new it has));
      }

  drops : (name : List ℕ) → HoldsAfter line (ops.Drop name) w holds later → IsDropped (ops.Drop name) later → Moves lane line (ops.Drop name) w open_before holds later
  drops name (hold, named, s) away =
      let back = IsPermutation-sym holds (hold ∷ later) s in
      let was : (one : LaneHold) → Contains later one → Contains holds one = λ one has. Contains-permutation (hold ∷ later) holds one back (one_behind hold later one has) in
      record {
        is_open = λ one has. (
            let apart : is_exactly one.name name ≡ false = none_counted (λ other. is_exactly other name) (names_of later) one.name away (contains_map (λ (h : LaneHold). h.name) later one has) in
            left_one lane name open_before (open_of lane one) (is_open one (was one has)) (ap (λ (b : Bool). (lane == lane) && b) apart ∙ and_false (lane == lane)));
        begun = λ one has. inl (was one has);
        held = λ it has. (
            let there = was_there lane name open_before it has in
            let one = held it there.0 in
            ⊎_elim
            (λ (same : hold ≡ one.0).
            let named_so : is_exactly it.name name ≡ true = ap (λ (h : OpenHold). is_exactly h.name name) (sym one.2) ∙ ap (λ (h : LaneHold). is_exactly h.name name) (sym same) ∙ (bytes_eq-Decides hold.name name).1 named in
            let in_lane : (it.lane == lane) ≡ true = eq-eqb it.lane lane (ap (λ (h : OpenHold). h.lane) (sym one.2)) in
            absurd (both_ways (is_hold lane name it) there.1 (and_from (it.lane == lane) (is_exactly it.name name) in_lane named_so)))
            (λ (old : Contains later one.0). (one.0, old, one.2))
            (first_or_later hold later one.0 (Contains-permutation holds (hold ∷ later) one.0 s one.1)));
      }
    where
      and_false : (b : Bool) → (b && false) ≡ false
      and_false true = refl
      and_false false = refl

  stays : (op : Op) → holds_after line lane op open_before ≡ open_before → later ≡ holds → Moves lane line op w open_before holds later
  stays op same is = record {
    is_open = λ one has. subst (λ (xs : List OpenHold). Contains xs (open_of lane one)) (sym same) (is_open one (subst (λ (xs : List LaneHold). Contains xs one) is has));
    begun = λ one has. inl (subst (λ (xs : List LaneHold). Contains xs one) is has);
    held = λ it has. (let one = held it (subst (λ (xs : List OpenHold). Contains xs it) same has) in (one.0, subst (λ (xs : List LaneHold). Contains xs one.0) (sym is) one.1, one.2));
  }

  moves : (op : Op) → HoldsAfter line op w holds later → IsDropped op later → Moves lane line op w open_before holds later
  moves (ops.Hold name) after away = begins name after
  moves (ops.Drop name) after away = drops name after away
  moves op after away = stays op refl after

-- One operation more, at a line where none before stands.
pub mirrors_next : (lane number : ℕ) (those : List Answered) (here : Answered) (holds later : List LaneHold) → IsOf lane number here → ((a : Answered) → Contains those a → ¬ (a.operation.line ≡ here.operation.line))
    → Mirrors lane number those holds → HoldsAfter here.operation.line here.operation.op here.reply.w holds later → IsDropped here.operation.op later → Mirrors lane number (those ++ here ∷ []) later
mirrors_next lane number those here holds later of fresh mirrors after away =
    let op = here.operation.op in let line = here.operation.line in
    let moved = moves lane line here.reply.w (open_holds number those) holds later mirrors.is_open mirrors.held op after away in
    let opened : open_holds number (those ++ here ∷ []) ≡ holds_after line lane op (open_holds number those) =
    open_push number those here of.1 ∙ ap (λ (l : ℕ). holds_after line l op (open_holds number those)) of.0 in
    record {
      is_open = λ hold has. subst (λ (xs : List OpenHold). Contains xs (open_of lane hold)) (sym opened) (moved.is_open hold has);
      begun = λ hold has. (
          ⊎_elim
          (λ (old : Contains holds hold). begun_more those here hold (mirrors.begun hold old))
          (λ (new : (line ≡ hold.line) × (here.reply.w ≡ hold.handle.position)). record { begun = here; is_before = Contains-push those here; line = new.0; position = new.1 })
          (moved.begun hold has));
      held = λ it has. moved.held it (subst (λ (xs : List OpenHold). Contains xs it) opened has);
      alone = λ a b has_a has_b same. (
          ⊎_elim
          (λ (old_a : Contains those a).
          ⊎_elim (λ (old_b : Contains those b). mirrors.alone a b old_a old_b same) (λ (is_b : here ≡ b). absurd (fresh a old_a (same ∙ ap (λ (x : Answered). x.operation.line) (sym is_b)))) (Contains-push_cases those here b has_b))
          (λ (is_a : here ≡ a).
          ⊎_elim (λ (old_b : Contains those b). absurd (fresh b old_b (sym same ∙ ap (λ (x : Answered). x.operation.line) (sym is_a)))) (λ (is_b : here ≡ b). sym is_a ∙ is_b) (Contains-push_cases those here b has_b))
          (Contains-push_cases those here a has_a));
    }

-- ---- what is held, by the definition ----

module _ (round : Round) (lane number : ℕ) (those : List Answered) (holds : List LaneHold) (mirrors : Mirrors lane number those holds) (operation : Operation) (in_lane : operation.lane ≡ lane) (in_round : operation.round ≡ number) where
  is_open_hold : (hold : LaneHold) (has : Contains holds hold) → IsOpenHold those operation.round (open_of lane hold) (mirrors.begun hold has).begun
  is_open_hold hold has = record {
    is_open = subst (λ (r : ℕ). Contains (open_holds r those) (open_of lane hold)) (sym in_round) (mirrors.is_open hold has);
    is_before = (mirrors.begun hold has).is_before;
    line = (mirrors.begun hold has).line;
  }

  -- what the lane holds by a name is held so
  pub held_as : (name : List ℕ) (edition : Edition) → LaneHoldsAs round holds name edition → IsHeldAs round those operation name edition
  held_as name edition (hold, has, named, version) = record {
    open_hold = open_of lane hold;
    begun = (mirrors.begun hold has).begun;
    is = is_open_hold hold has;
    lane = sym in_lane;
    name_is = named;
    version = version ∙ ap (newest_at round) (sym (mirrors.begun hold has).position);
  }

  -- a slot of one of its holds is a held one
  pub held_slot : (slot : ℕ) → HoldsSlot round holds slot → IsHeldSlot round those operation slot
  held_slot slot (hold, has, there) = record {
    open_hold = open_of lane hold;
    begun = (mirrors.begun hold has).begun;
    is = is_open_hold hold has;
    in_slot = ap (λ (w : ℕ). (newest_at round w).slot) (mirrors.begun hold has).position ∙ there;
  }

  -- and the other way round
  pub slot_held : (slot : ℕ) → IsHeldSlot round those operation slot → HoldsSlot round holds slot
  slot_held slot held =
      let one = mirrors.held held.open_hold (subst (λ (r : ℕ). Contains (open_holds r those) held.open_hold) in_round held.is.is_open) in
      let begun = mirrors.begun one.0 one.1 in
      let same : begun.begun ≡ held.begun =
      mirrors.alone begun.begun held.begun begun.is_before held.is.is_before (begun.line ∙ ap (λ (h : OpenHold). h.line) one.2 ∙ sym held.is.line) in
      (one.0, one.1, ap (λ (w : ℕ). (newest_at round w).slot) (sym begun.position) ∙ ap (λ (it : Answered). (newest_at round it.reply.w).slot) same ∙ held.in_slot)

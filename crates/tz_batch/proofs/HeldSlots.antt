-- The slot of an open hold was the front's in its round.
use Rattle.std.proofs.Common.{◌≡◌, ℕ, zero, suc, ◌+◌, ◌≤◌, ◌<◌, ◌==◌, ◌⊎◌, true, not, List, [], ◌∷◌, ◌++◌, length, get_or, fold, Contains, refl, sym, ap, subst, ◌∙◌, inl, inr, ⊎_elim, append_assoc, arith}
use Rattle.std.specs.List.{filter}
use Rattle.std.proofs.lemmas.Bool.{and_parts, eqb-true, ltb-true, cond_both}
use Rattle.std.proofs.lemmas.List.Elements.{All-contains, All-contains_itself, All-filter, Contains-push_cases}
use Rattle.tz_types.specs.Order.{ascends, ascends_after}
use Rattle.tz_script.specs.Holds.{is_hold, holds_after}
use Rattle.tz_script.specs.Inside.{stands_before}
use Rattle.tz_script.specs.declared.holds.OpenHold.{OpenHold}
use Rattle.tz_script.specs.declared.operation.Op.{Op}
use Rattle.tz_script.specs.declared.operation.Op.TheVariants as ops
use Rattle.tz_script.specs.declared.operation.Operation.{Operation}
use Rattle.tz_script.specs.declared.script.Script.{Script}
use Rattle.tz_version.specs.declared.sources.Sources.{Sources}
use Rattle.tz_batch.specs.Batch.{Answered, each_answered, answered, start_of}
use Rattle.tz_batch.specs.Held.{holds_in}
use Rattle.tz_batch.specs.Laws.{batch_of, WasFrontInRound}
use Rattle.tz_batch.specs.PassedOver.{IsHeldSlot}
use Rattle.tz_batch.specs.Round.{round_of}
use Rattle.tz_batch.specs.Run.{IsRun}
use Rattle.tz_batch.specs.declared.outcome.Outcome.{Outcome}
use Rattle.tz_batch.specs.declared.reply.Reply.{Reply}
use Rattle.tz_batch.proofs.LanePositions.{from_start}

-- ---- where a hold began ----

-- one of these operations, of the round, has the line of the hold
pub record BeganIn (number : ℕ) (those : List Answered) (hold : OpenHold) : Type 0 where
  pub begun : Answered
  pub has : Contains those begun
  pub round : begun.operation.round ≡ number
  pub line : begun.operation.line ≡ hold.line

-- a hold that is open after an operation was open before it, or has its line
open_after : (line lane : ℕ) (op : Op) (holds : List OpenHold) (hold : OpenHold) → Contains (holds_after line lane op holds) hold → Contains holds hold ⊎ (line ≡ hold.line)
open_after line lane (ops.Hold name) holds hold has =
    let new : OpenHold = record { lane = lane; name = name; line = line } in
    ⊎_elim (λ (old : Contains holds hold). inl old) (λ (same : new ≡ hold). inr (ap (λ (it : OpenHold). it.line) same)) (Contains-push_cases holds new hold has)
open_after line lane (ops.Drop name) holds hold has =
    inl (All-contains (Contains holds) (filter (λ (it : OpenHold). not (is_hold lane name it)) holds) hold (All-filter (λ (it : OpenHold). not (is_hold lane name it)) (Contains holds) holds (All-contains_itself holds)) has)
open_after line lane ops.Look holds hold has = inl has
open_after line lane (ops.Info v zone t) holds hold has = inl has
open_after line lane (ops.Local v zone l) holds hold has = inl has
open_after line lane (ops.Sys v zone l choose) holds hold has = inl has
open_after line lane (ops.Scan v zone from step count) holds hold has = inl has
open_after line lane (ops.Clock v conv x) holds hold has = inl has
open_after line lane (ops.Reload src) holds hold has = inl has
open_after line lane (ops.Erase v) holds hold has = inl has
open_after line lane ops.List holds hold has = inl has

-- the same of an operation in its round
open_in : (number : ℕ) (here : Answered) (holds : List OpenHold) (hold : OpenHold) → Contains (holds_in number holds here) hold → Contains holds hold ⊎ ((here.operation.round ≡ number) × (here.operation.line ≡ hold.line))
open_in number here holds hold =
    cond_both (here.operation.round == number) (holds_after here.operation.line here.operation.lane here.operation.op holds) holds
    (λ (after : List OpenHold). Contains after hold → Contains holds hold ⊎ ((here.operation.round ≡ number) × (here.operation.line ≡ hold.line)))
    (λ yes has. ⊎_elim (λ (old : Contains holds hold). inl old) (λ (line : here.operation.line ≡ hold.line). inr (eqb-true here.operation.round number yes, line))
    (open_after here.operation.line here.operation.lane here.operation.op holds hold has))
    (λ no has. inl has)

-- a hold that is open behind operations was open before them, or began at one
pub began : (number : ℕ) (those : List Answered) (holds : List OpenHold) (hold : OpenHold) → Contains (fold (holds_in number) holds those) hold → Contains holds hold ⊎ BeganIn number those hold
began number [] holds hold has = inl has
began number (here ∷ those) holds hold has =
    ⊎_elim
    (λ (now : Contains (holds_in number holds here) hold).
    ⊎_elim
    (λ (old : Contains holds hold). inl old)
    (λ (new : (here.operation.round ≡ number) × (here.operation.line ≡ hold.line)). inr (record { begun = here; has = (0, omega arith, refl); round = new.0; line = new.1 }))
    (open_in number here holds hold now))
    (λ (later : BeganIn number those hold). inr (record { begun = later.begun; has = (suc later.has.0, omega (arith, later.has.1), later.has.2); round = later.round; line = later.line }))
    (began number those (holds_in number holds here) hold has)

-- ---- lines ----

-- behind an operation lines are greater
line_lower : (operation : Operation) (operations : List Operation) (replies : List Reply) (b : Answered) → ascends_after stands_before operation operations ≡ true → Contains (each_answered operations replies) b → operation.line < b.operation.line
line_lower operation [] replies b up (k, low, at) = absurd (omega (arith, low))
line_lower operation (o ∷ operations) [] b up (k, low, at) = absurd (omega (arith, low))
line_lower operation (o ∷ operations) (r ∷ replies) b up (zero, low, at) =
    let parts = and_parts (stands_before operation o) (ascends_after stands_before o operations) up in
    omega (arith, ltb-true operation.line o.line parts.0, ap (λ (it : Answered). it.operation.line) at)
line_lower operation (o ∷ operations) (r ∷ replies) b up (suc k, low, at) =
    let parts = and_parts (stands_before operation o) (ascends_after stands_before o operations) up in
    let later = line_lower o operations replies b parts.1 (k, omega (arith, low), at) in
    omega (arith, ltb-true operation.line o.line parts.0, later)

-- so operations with one line are of one round
pub one_round : (operations : List Operation) (replies : List Reply) (a b : Answered) → ascends stands_before operations ≡ true → Contains (each_answered operations replies) a → Contains (each_answered operations replies) b → a.operation.line ≡ b.operation.line → a.operation.round ≡ b.operation.round
one_round [] replies a b up (k, low, at) has same = absurd (omega (arith, low))
one_round (o ∷ operations) [] a b up (k, low, at) has same = absurd (omega (arith, low))
one_round (o ∷ operations) (r ∷ replies) a b up (zero, low, at) (zero, low', at') same = ap (λ (it : Answered). it.operation.round) (sym at ∙ at')
one_round (o ∷ operations) (r ∷ replies) a b up (zero, low, at) (suc k, low', at') same =
    let later = line_lower o operations replies b up (k, omega (arith, low'), at') in
    absurd (omega (arith, later, ap (λ (it : Answered). it.operation.line) at, same))
one_round (o ∷ operations) (r ∷ replies) a b up (suc k, low, at) (zero, low', at') same =
    let later = line_lower o operations replies a up (k, omega (arith, low), at) in
    absurd (omega (arith, later, ap (λ (it : Answered). it.operation.line) at', same))
one_round (o ∷ operations) (r ∷ replies) a b up (suc k, low, at) (suc j, low', at') same =
    one_round operations replies a b (tail_ascends o operations up) (k, omega (arith, low), at) (j, omega (arith, low'), at') same
  where
    tail_ascends : (o : Operation) (operations : List Operation) → ascends_after stands_before o operations ≡ true → ascends stands_before operations ≡ true
    tail_ascends o [] up = refl
    tail_ascends o (next ∷ operations) up = (and_parts (stands_before o next) (ascends_after stands_before next operations) up).1

-- ---- runs ----

-- an element parts the others
split_at : (those : List Answered) (here : Answered) → Contains those here → (front : List Answered) × (behind : List Answered) × (those ≡ front ++ here ∷ behind)
split_at [] here (k, low, at) = absurd (omega (arith, low))
split_at (first ∷ those) here (zero, low, at) = ([], those, ap (λ (it : Answered). it ∷ those) at)
split_at (first ∷ those) here (suc k, low, at) =
    let rest = split_at those here (k, omega (arith, low), at) in
    (first ∷ rest.0, rest.1, ap (λ (xs : List Answered). first ∷ xs) rest.2)

contains_front : (xs ys : List Answered) (it : Answered) → Contains xs it → Contains (xs ++ ys) it
contains_front xs ys it has = split_contains xs ys it has.0 has.1 has.2
  where
    split_contains : (xs ys : List Answered) (it : Answered) (k : ℕ) → k < length xs → get_or xs k it ≡ it → Contains (xs ++ ys) it
    split_contains [] ys it k low at = absurd (omega (arith, low))
    split_contains (x ∷ xs) ys it zero low at = (0, omega arith, at)
    split_contains (x ∷ xs) ys it (suc k) low at = let rest = split_contains xs ys it k (omega (arith, low)) at in (suc rest.0, omega (arith, rest.1), rest.2)

module _ (script : Script) (sources : Sources) (slots : ℕ) (outcome : Outcome) (run : IsRun script sources slots outcome) where
  -- the slot of a hold that is open was the front's in the operation's round
  pub held_was_front : (before later : List Answered) (here : Answered) (slot : ℕ) → answered (batch_of script sources slots outcome) ≡ before ++ here ∷ later
      → IsHeldSlot (round_of (batch_of script sources slots outcome) here.operation.round) before here.operation slot
      → WasFrontInRound (round_of (batch_of script sources slots outcome) here.operation.round) slot
  held_was_front before later here slot is held =
      let batch = batch_of script sources slots outcome in
      let number = here.operation.round in
      let place = split_at before held.begun held.is.is_before in
      let split : answered batch ≡ place.0 ++ held.begun ∷ (place.1 ++ here ∷ later) =
      is ∙ ap (λ (xs : List Answered). xs ++ here ∷ later) place.2 ∙ append_assoc place.0 (held.begun ∷ place.1) (here ∷ later) in
      let round : held.begun.operation.round ≡ number = begun_round before later here held is in
      let P : ℕ → Type 0 = λ r. (start_of batch r ≤ held.begun.reply.w) × (held.begun.reply.w ≤ start_of batch (r + 1)) in
      let within : P number = subst P round (from_start batch run.positions place.0 (place.1 ++ here ∷ later) held.begun split, (run.positions place.0 (place.1 ++ here ∷ later) held.begun split).high) in
      (held.begun.reply.w, within.0, within.1, held.in_slot)
    where
      begun_round : (before later : List Answered) (here : Answered) {slot : ℕ} (held : IsHeldSlot (round_of (batch_of script sources slots outcome) here.operation.round) before here.operation slot) → answered (batch_of script sources slots outcome) ≡ before ++ here ∷ later → held.begun.operation.round ≡ here.operation.round
      begun_round before later here held is =
          ⊎_elim
          (λ (none : Contains [] held.open_hold). absurd (omega (arith, none.1)))
          (λ (it : BeganIn here.operation.round before held.open_hold).
          let P : List Answered → Type 0 = λ those. Contains those it.begun in
          let Q : List Answered → Type 0 = λ those. Contains those held.begun in
          one_round script.operations outcome.replies held.begun it.begun script.sound.rising
          (subst Q (sym is) (contains_front before (here ∷ later) held.begun held.is.is_before))
          (subst P (sym is) (contains_front before (here ∷ later) it.begun it.has))
          (held.is.line ∙ sym it.line) ∙ it.round)
          (began here.operation.round before [] held.open_hold held.is.is_open)

-- The holds of a lane among those of all lanes.
use Rattle.std.proofs.Common.{◌≡◌, ℕ, ◌==◌, Bool, true, false, not, cond, List, [], ◌∷◌, ◌++◌, fold, refl, sym, ap, ◌∙◌, append-nil}
use Rattle.std.specs.Prelude.{All}
use Rattle.std.specs.List.{filter}
use Rattle.std.proofs.lemmas.Bool.{cond-true, cond-false, cond_both, eqb-true, ne_eqb, and_left, not_from_false}
use Rattle.std.proofs.lemmas.List.Elements.{All-head, All-tail, filter-append}
use Rattle.tz_specs.specs.Value.{is_exactly}
use Rattle.tz_script.specs.Holds.{is_hold, holds_after}
use Rattle.tz_script.specs.declared.holds.OpenHold.{OpenHold}
use Rattle.tz_script.specs.declared.operation.Op.{Op}
use Rattle.tz_script.specs.declared.operation.Op.TheVariants as ops
use Rattle.tz_batch.specs.Batch.{Answered}
use Rattle.tz_batch.specs.Held.{holds_in}
use Rattle.tz_rounds.specs.Rounds.{of_lane}
use Rattle.tz_rounds.proofs.Lists.{filters_swap, filter_covers}

-- the hold is of that lane
abbrev pub is_of : ℕ → OpenHold → Bool
is_of lane hold = hold.lane == lane

-- an operation of the lane changes its holds
after_own : (line own lane : ℕ) (op : Op) (holds : List OpenHold) → (own == lane) ≡ true → filter (is_of lane) (holds_after line own op holds) ≡ holds_after line own op (filter (is_of lane) holds)
after_own line own lane (ops.Hold name) holds pass =
    let new : OpenHold = record { lane = own; name = name; line = line } in
    filter-append (is_of lane) holds (new ∷ [])
    ∙ ap (λ (more : List OpenHold). filter (is_of lane) holds ++ more) (cond-true (own == lane) (new ∷ []) [] pass)
after_own line own lane (ops.Drop name) holds pass = filters_swap (is_of lane) (λ (hold : OpenHold). not (is_hold own name hold)) holds
after_own line own lane ops.Look holds pass = refl
after_own line own lane (ops.Info v zone t) holds pass = refl
after_own line own lane (ops.Local v zone l) holds pass = refl
after_own line own lane (ops.Sys v zone l choose) holds pass = refl
after_own line own lane (ops.Scan v zone from step count) holds pass = refl
after_own line own lane (ops.Clock v conv x) holds pass = refl
after_own line own lane (ops.Reload src) holds pass = refl
after_own line own lane (ops.Erase v) holds pass = refl
after_own line own lane ops.List holds pass = refl

-- a hold of one lane is none of another
not_dropped : (other lane : ℕ) (name : List ℕ) → (other == lane) ≡ false → (hold : OpenHold) → is_of lane hold ≡ true → not (is_hold other name hold) ≡ true
not_dropped other lane name fail hold of =
    let is : hold.lane ≡ lane = eqb-true hold.lane lane of in
    let apart : (hold.lane == other) ≡ false =
    ne_eqb hold.lane other (λ same. let both : (other == lane) ≡ true = ap (λ (n : ℕ). n == lane) (sym same) ∙ of in cc) in
    not_from_false (is_hold other name hold) (and_left (hold.lane == other) (is_exactly hold.name name) apart)

-- one of another lane doesn't
after_other : (line other lane : ℕ) (op : Op) (holds : List OpenHold) → (other == lane) ≡ false → filter (is_of lane) (holds_after line other op holds) ≡ filter (is_of lane) holds
after_other line other lane (ops.Hold name) holds fail =
    let new : OpenHold = record { lane = other; name = name; line = line } in
    filter-append (is_of lane) holds (new ∷ [])
    ∙ ap (λ (more : List OpenHold). filter (is_of lane) holds ++ more) (cond-false (other == lane) (new ∷ []) [] fail)
    ∙ append-nil (filter (is_of lane) holds)
after_other line other lane (ops.Drop name) holds fail =
    filter_covers (is_of lane) (λ (hold : OpenHold). not (is_hold other name hold)) holds (not_dropped other lane name fail)
after_other line other lane ops.Look holds fail = refl
after_other line other lane (ops.Info v zone t) holds fail = refl
after_other line other lane (ops.Local v zone l) holds fail = refl
after_other line other lane (ops.Sys v zone l choose) holds fail = refl
after_other line other lane (ops.Scan v zone from step count) holds fail = refl
after_other line other lane (ops.Clock v conv x) holds fail = refl
after_other line other lane (ops.Reload src) holds fail = refl
after_other line other lane (ops.Erase v) holds fail = refl
after_other line other lane ops.List holds fail = refl

-- the same in a round
own_in : (lane number : ℕ) (here : Answered) (holds : List OpenHold) → (here.operation.lane == lane) ≡ true → filter (is_of lane) (holds_in number holds here) ≡ holds_in number (filter (is_of lane) holds) here
own_in lane number here holds pass = by_round (here.operation.round == number)
  where
    by_round : (b : Bool) → filter (is_of lane) (cond b (holds_after here.operation.line here.operation.lane here.operation.op holds) holds)
        ≡ cond b (holds_after here.operation.line here.operation.lane here.operation.op (filter (is_of lane) holds)) (filter (is_of lane) holds)
    by_round true = after_own here.operation.line here.operation.lane lane here.operation.op holds pass
    by_round false = refl

other_in : (lane number : ℕ) (here : Answered) (holds : List OpenHold) → (here.operation.lane == lane) ≡ false → filter (is_of lane) (holds_in number holds here) ≡ filter (is_of lane) holds
other_in lane number here holds fail = by_round (here.operation.round == number)
  where
    by_round : (b : Bool) → filter (is_of lane) (cond b (holds_after here.operation.line here.operation.lane here.operation.op holds) holds) ≡ filter (is_of lane) holds
    by_round true = after_other here.operation.line here.operation.lane lane here.operation.op holds fail
    by_round false = refl

-- The open holds of a lane are those that its own operations leave open.
pub lane_holds : (lane number : ℕ) (those : List Answered) (holds : List OpenHold) → filter (is_of lane) (fold (holds_in number) holds those) ≡ fold (holds_in number) (filter (is_of lane) holds) (of_lane lane those)
lane_holds lane number [] holds = refl
lane_holds lane number (here ∷ those) holds =
    lane_holds lane number those (holds_in number holds here)
    ∙ cond_both (here.operation.lane == lane) (here ∷ of_lane lane those) (of_lane lane those)
    (λ (kept : List Answered). fold (holds_in number) (filter (is_of lane) (holds_in number holds here)) (of_lane lane those) ≡ fold (holds_in number) (filter (is_of lane) holds) kept)
    (λ pass. ap (λ (first : List OpenHold). fold (holds_in number) first (of_lane lane those)) (own_in lane number here holds pass))
    (λ fail. ap (λ (first : List OpenHold). fold (holds_in number) first (of_lane lane those)) (other_in lane number here holds fail))

-- Operations of other rounds leave the holds of a round as they are.
pub holds_stay : (number : ℕ) (those : List Answered) (holds : List OpenHold) → All (λ (here : Answered). (here.operation.round == number) ≡ false) those → fold (holds_in number) holds those ≡ holds
holds_stay number [] holds apart = refl
holds_stay number (here ∷ those) holds apart =
    ap (λ (first : List OpenHold). fold (holds_in number) first those)
    (cond-false (here.operation.round == number) (holds_after here.operation.line here.operation.lane here.operation.op holds) holds (All-head (λ (it : Answered). (it.operation.round == number) ≡ false) here those apart))
    ∙ holds_stay number those holds (All-tail (λ (it : Answered). (it.operation.round == number) ≡ false) here those apart)

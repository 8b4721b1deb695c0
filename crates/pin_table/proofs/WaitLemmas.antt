-- A reader that waits for the turn.
use Rattle.std.proofs.Common.{◌≡◌, ℕ, ◌+◌, ap, ◌∙◌, arith, Some}
use Rattle.pin_core.specs.declared.view.View.{View}
use Rattle.pin_core.specs.Step.{was_refused}
use Rattle.pin_table.specs.declared.sitting.Plan.{Plan}
use Rattle.pin_table.specs.Turns.{WaitsForTurn, MeetsTurn}

-- before the first try
pub not_yet : (v : View) → WaitsForTurn v v
not_yet v = let same : v.refused ≡ v.refused + 0 = omega arith in record { often = 0; holder = v.holder; view = λ i. record v { refused = same i } }

-- one try more
pub once_more : {P : Type 0} (plan : Plan P) (number holder : ℕ) (v w u : View) → WaitsForTurn v w → MeetsTurn plan number w u holder → WaitsForTurn v u
once_more plan number holder v w u h met = let more : v.refused + h.often + 1 ≡ v.refused + (h.often + 1) = omega arith in record {
  often = h.often + 1;
  holder = Some holder;
  view = met.view ∙ (ap (was_refused (Some holder)) h.view ∙ (λ i. record v { refused = more i; holder = Some holder }));
}

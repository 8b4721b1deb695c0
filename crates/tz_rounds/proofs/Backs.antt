-- Readers come back one after another.
use Rattle.std.proofs.Common.{◌≡◌, ℕ, ◌<◌, List, [], ◌∷◌, ◌++◌, length, map, sym, ap, subst, ◌∙◌, arith}
use Rattle.std.proofs.lemmas.List.{length-map, map-append}
use Rattle.pin_core.specs.declared.view.View.{View}
use Rattle.pin_core.specs.Step.{taken_in}
use Rattle.pin_table.specs.Parting.{AreFronts}
use Rattle.tz_rounds.specs.Backs.{back_view, IsJoinable}
use Rattle.tz_rounds.specs.Sending.{HasBack, OwnsOnly}
use Rattle.tz_rounds.specs.declared.joining.LaneRun.{LaneRun}
use Rattle.tz_rounds.proofs.OutAndBack.{comes_back}

-- One more reader is back.
pub back_more : (readers : ℕ) (first now later : View) (runs : List LaneRun) (run : LaneRun) → HasBack readers first (map back_view runs) now → length runs < readers → later ≡ taken_in now (back_view run) → AreFronts now.seen (back_view run).seen → IsJoinable (length runs) (back_view run)
    → HasBack readers first (map back_view (runs ++ run ∷ [])) later
back_more readers first now later runs run has low is fronts joinable =
    let long : length (map back_view runs) ≡ length runs = length-map runs back_view in
    subst (λ (backs : List View). HasBack readers first backs later) (sym (map-append back_view runs (run ∷ [])))
    (comes_back readers first (map back_view runs) now later (back_view run) has (omega (arith, long, low)) is fronts
    (joinable.numbers ∙ ap (λ (n : ℕ). n ∷ []) (sym long)) (subst (λ (n : ℕ). OwnsOnly n (back_view run)) (sym long) joinable.own))

use Rattle.std.proofs.Common.{arith, ◌≡◌, subst, ◌∙◌, rules, map, FitsSigned, ℤ, ◌-ℤ◌, pos, List, ◌≤ℤ◌}
use Rattle.std.specs.Prelude.{IfOk}
use Rattle.std.specs.Int.{w64, int_max}
use Rattle.std.proofs.lemmas.Int.{ints, to_z-of_z}
use Rattle.tz_specs.specs.Expansion.{first_instant}
use Rattle.tz_moves.specs.declared.moves.Move.{Move}
use Rattle.tz_moves.specs.Moves.{moved_ranges}
use Rattle.tz_moves.specs.Move.{move_to, moves_between}
use Rattle.tz_moves.proofs.StretchLemmas.{made_told}
use Rattle.tz_moves.proofs.moves.moves_between.Goals as goal

fits_before : (from : ℤ) → FitsSigned w64 from → first_instant ≤ℤ from → FitsSigned w64 (from -ℤ pos 1)
fits_before from fits begins = search rules

pub returns : goal.returns
returns c =
    let zone = c.args.zone.now in
    let from = c.args.from in
    let to = c.args.to in
    let from_fits : FitsSigned w64 from = c.ranges.from in
    let to_fits : FitsSigned w64 to = c.ranges.to in
    let begins : first_instant ≤ℤ from = c.requires.begins in
    let before_fits : FitsSigned w64 (from -ℤ pos 1) = fits_before from from_fits begins in
    let since_fits : FitsSigned w64 c.max-since.result = search rules in
    let since : c.max-since.result ≡ int_max first_instant (from -ℤ pos 1) = simp to_z-of_z at c.max-since.ensures.value in
    let told : map move_to (moved_ranges c.as_slice.result.now) ≡ moves_between zone from to =
    made_told zone _ from _ to c.as_slice.result.now (c.as_slice.ensures.value ∙ c.in_ok-ranges.ensures) (to_z-of_z w64 c.max-since.result since_fits ∙ since) (omega (arith, ints)) c.requires in
    subst (λ (ms : List Move). IfOk c.moves_among.result (λ moves. moves.items ≡ ms)) told c.moves_among.ensures

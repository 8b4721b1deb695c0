-- How the lines of days come one after another.
use Rattle.std.proofs.Common.{◌≡◌, ℕ, zero, suc, ◌+◌, ◌<◌, List, [], ◌∷◌, ◌++◌, refl, sym, ap, ◌∙◌, subst, arith, inl, inr, Err, ℤ, pos, ◌+ℤ◌}
use Rattle.std.specs.List.{flat_map}
use Rattle.std.proofs.lemmas.Bool.{cases_lt}
use Rattle.jiff_core.proofs.SignedLemmas.{signed_arith}
use Rattle.tz_expand.specs.declared.compiled_zone.CompiledZone.{CompiledZone}
use Rattle.tz_expand.specs.Zone.{expansion_of}
use Rattle.tz_moves.specs.Day.{IsDay, day_seconds}
use Rattle.tz_cli.specs.Line.{day_line}
use Rattle.tz_cli.specs.Days.{days_from, AreDays, AreDaysOf, day_lines}
use Rattle.tz_cli.specs.Refusal.{RefusesRange}
use Rattle.tz_cli.specs.ZoneAnswer.{GivesOfZone}
use Rattle.tz_cli.specs.declared.refusal.Refusal.{Refusal}
use Rattle.tz_cli.specs.declared.refusal.Refusal.TheVariants as refusals
use Rattle.tz_cli.proofs.Dumps.{flat_one}

-- one more day stands behind the others
days_more : (first : ℤ) (count : ℕ) → days_from first (suc count) ≡ days_from first count ++ (first +ℤ pos count) ∷ []
unfolding days_from
days_more first zero =
    let same : first ≡ (first +ℤ pos 0) = omega (arith, signed_arith) in
    ap (λ day. day ∷ []) same
days_more first (suc count) =
    let same : ((first +ℤ pos 1) +ℤ pos count) ≡ (first +ℤ pos (suc count)) = omega (arith, signed_arith) in
    ap (λ days. first ∷ days) (days_more (first +ℤ pos 1) count ∙ ap (λ day. days_from (first +ℤ pos 1) count ++ day ∷ []) same)

pub no_days : (zone : CompiledZone) (first : ℤ) → day_lines zone (days_from first 0) ≡ []
unfolding days_from
no_days zone first = refl

pub next_day : (zone : CompiledZone) (first : ℤ) (count : ℕ) (text now : List ℕ) → text ≡ day_lines zone (days_from first count) → now ≡ text ++ day_line (first +ℤ pos count) (day_seconds (first +ℤ pos count) (expansion_of zone)) → now ≡ day_lines zone (days_from first (count + 1))
next_day zone first count text now before more =
    let line : ℤ → List ℕ = λ day. day_line day (day_seconds day (expansion_of zone)) in
    let one : count + 1 ≡ suc count = omega arith in
    more ∙ ap (λ text. text ++ line (first +ℤ pos count)) before ∙ sym (flat_one line (days_from first count) (first +ℤ pos count)) ∙ ap (flat_map line) (sym (days_more first count) ∙ ap (days_from first) (sym one))

-- one more day is in range
pub day_more : (first : ℤ) (count : ℕ) → AreDays first count → IsDay (first +ℤ pos count) → AreDays first (count + 1)
day_more first count all last later low =
    elim (cases_lt later count) [
      | inl below ↦ all later below
      | inr reached ↦
          let same : count ≡ later = omega (arith, reached, low) in subst (λ (place : ℕ). IsDay (first +ℤ pos place)) same last
    ]

-- a day that is out of range is the reason
pub day_refused : (first : ℤ) (count later : ℕ) (zone : CompiledZone) (refusal : Refusal) → later < count → RefusesRange (IsDay (first +ℤ pos later) → ⊥) refusal → GivesOfZone (AreDays first count) (AreDaysOf first count zone) (Err refusal)
day_refused first count later zone refusals.Memory low refused = tt
day_refused first count later zone refusals.Range low refused = λ all. refused (all later low)
day_refused first count later zone refusal low refused = absurd refused

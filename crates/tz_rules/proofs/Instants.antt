-- Where the instants of occurrences lie.
use Rattle.std.proofs.Common.{◌≡◌, inl, inr, arith, ℤ, pos, neg_ℤ, ◌+ℤ◌, ◌-ℤ◌, ◌<ℤ◌, ◌≤ℤ◌, Option, Some, None}
use Rattle.std.proofs.lemmas.Int.{ints}
use Rattle.jiff_core.proofs.SignedLemmas.{signed_arith}
use Rattle.tz_types.specs.declared.limit.TheConstants.{LONGEST_OFFSET}
use Rattle.tz_types.specs.Amount.{IsShift}
use Rattle.tz_types.specs.declared.rule.Rule.{Rule}
use Rattle.tz_types.specs.declared.rule_set.RuleSet.{RuleSet}
use Rattle.tz_specs.specs.Occurrence.{Occurrence, nominal_of, nominal_second}
use Rattle.tz_specs.specs.State.{shift}
use Rattle.tz_specs.specs.Standing.{IsOccurrence}
use Rattle.tz_specs.specs.Effect.{ComesAt}
use Rattle.tz_specs.proofs.EffectLemmas.{comes_near}
use Rattle.tz_specs.proofs.ExpansionLemmas.{begin_of_time-midnight, end_of_time-midnight}
use Rattle.tz_rules.specs.declared.placed.Placed.{Placed}
use Rattle.tz_rules.specs.Occurs.{OccursIn}
use Rattle.tz_rules.specs.Search.{IsPreviousOf}
use Rattle.tz_rules.specs.InEffect.{saved_by}
use Rattle.tz_rules.proofs.YearBounds.{starts_apart, near_start}
use Rattle.tz_rules.proofs.BeforeMark.{occurs_of_is}

-- nominal seconds lie well inside of time
pub nominal_in_time : (rule : Rule) (year : ℤ) → OccursIn rule year → (neg_ℤ (pos 377_677_800_000) <ℤ nominal_second year rule.moment) × (nominal_second year rule.moment <ℤ pos 253_377_800_000)
nominal_in_time rule year occurs =
    let near = near_start rule year occurs in
    let first = starts_apart (neg_ℤ (pos 9999)) year (omega (arith, signed_arith)) (omega (arith, signed_arith, occurs.year_in)) in
    let last = starts_apart (year +ℤ pos 1) (pos 10_000) (omega (arith, signed_arith, occurs.year_in)) (omega (arith, signed_arith, occurs.year_in)) in
    (omega (arith, signed_arith, near.0, first, begin_of_time-midnight), omega (arith, signed_arith, near.1, last, end_of_time-midnight))

pub nominal_bounds : (set : RuleSet) (other : Occurrence) → IsOccurrence set other → (neg_ℤ (pos 377_677_800_000) <ℤ nominal_of other) × (nominal_of other <ℤ pos 253_377_800_000)
nominal_bounds set other is = nominal_in_time other.rule other.year (occurs_of_is set other is)

-- an occurrence comes at most two days off its nominal second
pub comes_after : (set : RuleSet) (stdoff : ℤ) (other : Occurrence) (instant low : ℤ) → IsShift stdoff → ComesAt set stdoff other instant → low <ℤ (nominal_of other -ℤ pos LONGEST_OFFSET) → low <ℤ instant
comes_after set stdoff other instant low within comes above =
    let near = comes_near set stdoff other instant within comes in
    omega (arith, ints, near)

pub comes_by : (set : RuleSet) (stdoff : ℤ) (other : Occurrence) (instant high : ℤ) → IsShift stdoff → ComesAt set stdoff other instant → (nominal_of other +ℤ pos LONGEST_OFFSET) ≤ℤ high → instant ≤ℤ high
comes_by set stdoff other instant high within comes below =
    let near = comes_near set stdoff other instant within comes in
    omega (arith, ints, near)

-- and so strictly inside of time
pub comes_in_time : (set : RuleSet) (stdoff : ℤ) (other : Occurrence) (instant : ℤ) → IsShift stdoff → IsOccurrence set other → ComesAt set stdoff other instant → (neg_ℤ (pos 377_678_000_000) <ℤ instant) × (instant <ℤ pos 253_378_000_000)
comes_in_time set stdoff other instant within is comes =
    let near = comes_near set stdoff other instant within comes in
    let bounds = nominal_bounds set other is in
    (omega (arith, ints, near, bounds.0), omega (arith, ints, near, bounds.1))

-- the instant read under the save of the one before
pub comes_under : (set : RuleSet) (stdoff : ℤ) (occurrence : Occurrence) (previous : Option Placed) (save instant : ℤ) → IsPreviousOf set occurrence previous → save ≡ saved_by previous → instant ≡ (nominal_of occurrence -ℤ shift occurrence.rule.moment.kind stdoff save) → ComesAt set stdoff occurrence instant
comes_under set stdoff occurrence None save instant is save_is instant_is =
    record { save = save; save_before = inl (save_is, is); on_its_clock = instant_is }
comes_under set stdoff occurrence (Some previous) save instant is save_is instant_is =
    record { save = save; save_before = inr (previous.occurrence, is.1, save_is); on_its_clock = instant_is }

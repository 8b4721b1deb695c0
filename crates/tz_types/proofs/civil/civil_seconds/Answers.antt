use Rattle.std.proofs.Common.{◌≡◌, ◌≤◌, ◌+◌, ◌*◌, ℕ, ℤ, pos, neg_ℤ, ◌+ℤ◌, ◌*ℤ◌, arith, rules, to_z, of_z, FitsSigned}
use Rattle.std.specs.Int.{w32, w64}
use Rattle.std.proofs.lemmas.Int.{ints, to_z-of_z}
use Rattle.jiff_core.specs.Calendar.{days_from_civil, IsBetween}
use Rattle.tz_types.proofs.civil.civil_seconds.Goals as goal

-- the seconds of whole days and of the last one, kept in 64 bits
sum_kept : (day number rest : ℤ) (past : ℕ) → day ≡ number → rest ≡ pos past → past ≤ 86_399 → IsBetween (neg_ℤ (pos 4_371_587)) (pos 2_932_896) day → to_z w64 (of_z w64 (to_z w64 (of_z w64 (pos 86400 *ℤ to_z w64 (of_z w64 day))) +ℤ to_z w64 (of_z w64 rest))) ≡ (pos 86400 *ℤ number) +ℤ pos past
sum_kept day number rest past day_is rest_is few within = omega (arith, ints)

pub returns-clause-value : goal.returns-clause-value
returns-clause-value c =
    let year_fits : FitsSigned w32 c.args.year = c.ranges.year in
    let day = simp to_z-of_z at c.day_number.ensures.value in
    sum_kept c.day_number.result (days_from_civil c.args.year c.args.month c.args.day) c.from.result (3_600 * c.args.hour + 60 * c.args.minute + c.args.second) day (rw (← c.second_of_day.ensures.value) (search rules)) (omega (arith, c.second_of_day.ensures.value, c.second_of_day.ensures.bound)) c.day_number.ensures.bound

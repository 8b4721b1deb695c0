use Rattle.std.proofs.Common.{◌≡◌, rules, arith, refl, to_z, of_z, FitsSigned, ℤ, pos, neg_ℤ, ◌+ℤ◌, ◌-ℤ◌, ◌*ℤ◌, ◌≤ℤ◌}
use Rattle.std.specs.Int.{w64, int_max, int_min}
use Rattle.std.proofs.lemmas.Int.{ints, to_z-of_z, clamps}
use Rattle.jiff_core.specs.Calendar.{IsBetween}
use Rattle.jiff_core.proofs.SignedLemmas.{signed_arith}
use Rattle.tz_moves.specs.Day.{midnight, seconds_in}
use Rattle.tz_moves.proofs.DayLemmas.{fits_small, shared_low, shared_high, day_long}
use Rattle.tz_moves.proofs.day.seconds_in.Goals as goal

first_is : (c : goal.After-min-last) → c.max-first.result ≡ int_max (c.args.range.now.begin +ℤ c.args.range.now.offset) (midnight c.args.day)
first_is c =
    let range = c.args.range.now in
    let day = c.args.day in
    let day_fits : FitsSigned w64 day = c.ranges.day in
    let begin_fits : FitsSigned w64 range.begin = search rules in
    let offset_fits : FitsSigned w64 range.offset = search rules in
    let begun_fits : FitsSigned w64 (range.begin +ℤ range.offset) = fits_small (range.begin +ℤ range.offset) (omega (arith, ints, c.requires.in_time, c.requires.near)) (omega (arith, ints, c.requires.in_time, c.requires.near)) in
    let midnight_fits : FitsSigned w64 (day *ℤ pos 86_400) = fits_small (midnight day) (omega (arith, ints, signed_arith, c.requires.inside)) (omega (arith, ints, signed_arith, c.requires.inside)) in
    simp to_z-of_z at c.max-first.ensures.value

last_is : (c : goal.After-min-last) → c.min-last.result ≡ int_min (c.args.range.now.end +ℤ c.args.range.now.offset) (midnight (c.args.day +ℤ pos 1))
last_is c =
    let range = c.args.range.now in
    let day = c.args.day in
    let day_fits : FitsSigned w64 day = c.ranges.day in
    let end_fits : FitsSigned w64 range.end = search rules in
    let offset_fits : FitsSigned w64 range.offset = search rules in
    let ended_fits : FitsSigned w64 (range.end +ℤ range.offset) = fits_small (range.end +ℤ range.offset) (omega (arith, ints, c.requires.in_time, c.requires.near)) (omega (arith, ints, c.requires.in_time, c.requires.near)) in
    let next_fits : FitsSigned w64 (day +ℤ pos 1) = fits_small (day +ℤ pos 1) (omega (arith, ints, signed_arith, c.requires.inside)) (omega (arith, ints, signed_arith, c.requires.inside)) in
    let midnight_fits : FitsSigned w64 ((day +ℤ pos 1) *ℤ pos 86_400) = fits_small (midnight (day +ℤ pos 1)) (omega (arith, ints, signed_arith, c.requires.inside)) (omega (arith, ints, signed_arith, c.requires.inside)) in
    simp to_z-of_z at c.min-last.ensures.value

length_small : (begin end low high first last : ℤ) → first ≡ int_max begin low → last ≡ int_min end high → IsBetween (neg_ℤ (pos 400_000_000_000)) (pos 400_000_000_000) begin → IsBetween (neg_ℤ (pos 400_000_000_000)) (pos 400_000_000_000) end → IsBetween (neg_ℤ (pos 400_000_000_000)) (pos 400_000_000_000) low → IsBetween (neg_ℤ (pos 400_000_000_000)) (pos 400_000_000_000) high → FitsSigned w64 (last -ℤ first)
length_small begin end low high first last first_is last_is begins ends lowest highest =
    fits_small (last -ℤ first) (omega (arith, ints, clamps, first_is, last_is, begins, ends, lowest, highest)) (omega (arith, ints, clamps, first_is, last_is, begins, ends, lowest, highest))

length_fits : (c : goal.After-min-last) → FitsSigned w64 (c.min-last.result -ℤ c.max-first.result)
length_fits c =
    let range = c.args.range.now in
    let day = c.args.day in
    length_small (range.begin +ℤ range.offset) (range.end +ℤ range.offset) (midnight day) (midnight (day +ℤ pos 1)) c.max-first.result c.min-last.result (first_is c) (last_is c)
    (omega (arith, ints, c.requires.in_time, c.requires.near), omega (arith, ints, c.requires.in_time, c.requires.near))
    (omega (arith, ints, c.requires.in_time, c.requires.near), omega (arith, ints, c.requires.in_time, c.requires.near))
    (omega (arith, ints, signed_arith, c.requires.inside), omega (arith, ints, signed_arith, c.requires.inside))
    (omega (arith, ints, signed_arith, c.requires.inside), omega (arith, ints, signed_arith, c.requires.inside))

pub overflow_sub-last : goal.overflow_sub-last
overflow_sub-last c =
    let first_fits : FitsSigned w64 c.max-first.result = search rules in
    let last_fits : FitsSigned w64 c.min-last.result = search rules in
    let first_same : to_z w64 (of_z w64 c.max-first.result) ≡ c.max-first.result = to_z-of_z w64 c.max-first.result first_fits in
    let last_same : to_z w64 (of_z w64 c.min-last.result) ≡ c.min-last.result = to_z-of_z w64 c.min-last.result last_fits in
    rw (first_same, last_same) (length_fits c)

told : (c : goal.After-max) → c.max.result ≡ seconds_in c.args.day c.args.range.now
told c =
    let first_fits : FitsSigned w64 c.max-first.result = search rules in
    let last_fits : FitsSigned w64 c.min-last.result = search rules in
    let fits : FitsSigned w64 (c.min-last.result -ℤ c.max-first.result) = length_fits c.before in
    let is : c.max.result ≡ int_max (c.min-last.result -ℤ c.max-first.result) (pos 0) = simp to_z-of_z at c.max.ensures.value in
    rw (is, first_is c.before, last_is c.before) refl

pub returns-clause-value : goal.returns-clause-value
returns-clause-value c =
    let fits : FitsSigned w64 c.max.result = search rules in
    rw to_z-of_z (told c)

pub returns-clause-bound : goal.returns-clause-bound
returns-clause-bound c =
    let range = c.args.range.now in
    let day = c.args.day in
    let fits : FitsSigned w64 c.max.result = search rules in
    let none : pos 0 ≤ℤ seconds_in day range = shared_low (range.begin +ℤ range.offset) (range.end +ℤ range.offset) (midnight day) (midnight (day +ℤ pos 1)) in
    let all : seconds_in day range ≤ℤ (midnight (day +ℤ pos 1) -ℤ midnight day) = shared_high (range.begin +ℤ range.offset) (range.end +ℤ range.offset) (midnight day) (midnight (day +ℤ pos 1)) (omega (arith, ints, signed_arith)) in
    rw to_z-of_z
    (bounded c.max.result (seconds_in day range) (midnight day) (midnight (day +ℤ pos 1)) (told c) none all (day_long day))
  where
    bounded : (s sum low high : ℤ) → s ≡ sum → pos 0 ≤ℤ sum → sum ≤ℤ (high -ℤ low) → high ≡ (low +ℤ pos 86_400) → IsBetween (pos 0) (pos 86_400) s
    bounded s sum low high is none all long = (omega (arith, ints), omega (arith, ints))

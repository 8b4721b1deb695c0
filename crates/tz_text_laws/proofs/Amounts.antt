-- How great amounts may be.
use Rattle.std.proofs.Common.{◌≡◌, ℕ, ◌+◌, ◌*◌, ◌<◌, ◌≤◌, true, false, ◌==◌, nat_le, List, [], ◌∷◌, ℤ, pos, neg_ℤ, Some, option_map, ap, ⊎_elim, arith, subst}
use Rattle.std.proofs.lemmas.Bool.{cases_Bool}
use Rattle.std.proofs.lemmas.Bool.Decides.{nat_tests}
use Rattle.jiff_core.proofs.SignedLemmas.{signed_arith}
use Rattle.tz_types.specs.declared.limit.TheConstants.{LONGEST_TIME}
use Rattle.tz_types.specs.Amount.{IsTimeOfDay}
use Rattle.tz_specs.specs.Choice.{◌>>=◌, only_if}
use Rattle.tz_specs.specs.Parts.{parts_at}
use Rattle.tz_specs.specs.Number.{minus, number_of, are_digits}
use Rattle.tz_specs.specs.Amount.{Length, rounded, part_up_to, seconds_of, clock_of, size_of, suffix_split, unsigned_amount, amount_of}
use Rattle.tz_text_laws.proofs.Choices.{bind_some, only_some, map_some}
use Rattle.tz_text_laws.proofs.Digits.{number_below}

part_below : (most : ℕ) (word : List ℕ) (value : ℕ) → part_up_to most word ≡ Some value → value ≤ most
part_below most word value h =
    let number = bind_some (number_of 1 2 word) (λ value. only_if (nat_le value most) value) value h in
    let test = only_some (nat_le number.0 most) number.0 value number.2 in
    let low : number.0 ≤ most = grind (arith, nat_tests, test.0) in
    let same = test.1 in
    omega (arith, low, same)

whole_below : (parts : List (List ℕ)) (size : Length) → seconds_of parts ≡ Some size → size.whole ≤ 60
whole_below [] size h = absurd (cc)
whole_below (seconds ∷ []) size h =
    let value = map_some (λ value. record { whole = value; fraction = [] }) (part_up_to 60 seconds) size h in
    let low = part_below 60 seconds value.0 value.1 in
    let same : value.0 ≡ size.whole = ap (λ (it : Length). it.whole) value.2 in
    omega (arith, low, same)
whole_below (seconds ∷ fraction ∷ []) size h =
    let value = bind_some (part_up_to 60 seconds) (λ value. only_if (are_digits 1 12 fraction) (record { whole = value; fraction = fraction })) size h in
    let test = only_some (are_digits 1 12 fraction) (record { whole = value.0; fraction = fraction }) size value.2 in
    let low = part_below 60 seconds value.0 value.1 in
    let same : value.0 ≡ size.whole = ap (λ (it : Length). it.whole) test.1 in
    omega (arith, low, same)
whole_below (seconds ∷ fraction ∷ other ∷ parts) size h = absurd (cc)

clock_below : (parts : List (List ℕ)) (size : Length) → clock_of parts ≡ Some size → size.whole ≤ 3_600_000
clock_below [] size h = absurd (cc)
clock_below (hours ∷ []) size h =
    let value = map_some (λ h. record { whole = 3600 * h; fraction = [] }) (number_of 1 3 hours) size h in
    let low : value.0 < 1000 = number_below 1 3 hours value.0 value.1 in
    let same : 3600 * value.0 ≡ size.whole = ap (λ (it : Length). it.whole) value.2 in
    omega (arith, low, same)
clock_below (hours ∷ minutes ∷ []) size h =
    let first = bind_some (number_of 1 3 hours) (λ h. part_up_to 59 minutes >>= λ m. Some (record { whole = 3600 * h + 60 * m; fraction = [] })) size h in
    let second = bind_some (part_up_to 59 minutes) (λ m. Some (record { whole = 3600 * first.0 + 60 * m; fraction = [] })) size first.2 in
    let low : first.0 < 1000 = number_below 1 3 hours first.0 first.1 in
    let few = part_below 59 minutes second.0 second.1 in
    let is : Some (record { whole = 3600 * first.0 + 60 * second.0; fraction = [] }) ≡ Some size = second.2 in
    let same : record { whole = 3600 * first.0 + 60 * second.0; fraction = [] } ≡ size = cc in
    let whole : 3600 * first.0 + 60 * second.0 ≡ size.whole = ap (λ (it : Length). it.whole) same in
    omega (arith, low, few, whole)
clock_below (hours ∷ minutes ∷ seconds ∷ []) size h =
    let first = bind_some (number_of 1 3 hours) (λ h. part_up_to 59 minutes >>= λ m. seconds_of (parts_at 0x2e seconds) >>= λ s. Some (record { whole = 3600 * h + 60 * m + s.whole; fraction = s.fraction })) size h in
    let second = bind_some (part_up_to 59 minutes) (λ m. seconds_of (parts_at 0x2e seconds) >>= λ s. Some (record { whole = 3600 * first.0 + 60 * m + s.whole; fraction = s.fraction })) size first.2 in
    let third = bind_some (seconds_of (parts_at 0x2e seconds)) (λ s. Some (record { whole = 3600 * first.0 + 60 * second.0 + s.whole; fraction = s.fraction })) size second.2 in
    let low : first.0 < 1000 = number_below 1 3 hours first.0 first.1 in
    let few = part_below 59 minutes second.0 second.1 in
    let last = whole_below (parts_at 0x2e seconds) third.0 third.1 in
    let is : Some (record { whole = 3600 * first.0 + 60 * second.0 + third.0.whole; fraction = third.0.fraction }) ≡ Some size = third.2 in
    let same : record { whole = 3600 * first.0 + 60 * second.0 + third.0.whole; fraction = third.0.fraction } ≡ size = cc in
    let whole : 3600 * first.0 + 60 * second.0 + third.0.whole ≡ size.whole = ap (λ (it : Length). it.whole) same in
    omega (arith, low, few, last, whole)
clock_below (hours ∷ minutes ∷ seconds ∷ other ∷ parts) size h = absurd (cc)

rounded_below : (size : Length) → rounded size ≤ size.whole + 1
rounded_below size = grind arith

size_below : (word : List ℕ) (size : ℕ) → size_of word ≡ Some size → size ≤ LONGEST_TIME
unfolding size_of
size_below word size h =
    let clock = map_some rounded (clock_of (parts_at 0x3a word)) size h in
    let low = clock_below (parts_at 0x3a word) clock.0 clock.1 in
    let near = rounded_below clock.0 in
    let same = clock.2 in
    omega (arith, low, near, same)

unsigned_below : (letters word : List ℕ) (amount : ℕ × ℕ) → unsigned_amount letters word ≡ Some amount → amount.0 ≤ LONGEST_TIME
unsigned_below letters word amount h =
    let size = map_some (λ size. (size, (suffix_split letters word).1)) (size_of (suffix_split letters word).0) amount h in
    let low = size_below (suffix_split letters word).0 size.0 size.1 in
    let same : size.0 ≡ amount.0 = ap (λ (it : ℕ × ℕ). it.0) size.2 in
    omega (arith, low, same)

plus_within : (letters word : List ℕ) (amount : ℤ × ℕ) → option_map (λ amount. (pos amount.0, amount.1)) (unsigned_amount letters word) ≡ Some amount → IsTimeOfDay amount.0
plus_within letters word amount h =
    let size = map_some (λ amount. (pos amount.0, amount.1)) (unsigned_amount letters word) amount h in
    let low = unsigned_below letters word size.0 size.1 in
    let same : pos size.0.0 ≡ amount.0 = ap (λ (it : ℤ × ℕ). it.0) size.2 in
    subst IsTimeOfDay same (omega (arith, signed_arith), omega (arith, signed_arith, low))

minus_within : (letters word : List ℕ) (amount : ℤ × ℕ) → option_map (λ amount. (neg_ℤ (pos amount.0), amount.1)) (unsigned_amount letters word) ≡ Some amount → IsTimeOfDay amount.0
minus_within letters word amount h =
    let size = map_some (λ amount. (neg_ℤ (pos amount.0), amount.1)) (unsigned_amount letters word) amount h in
    let low = unsigned_below letters word size.0 size.1 in
    let same : neg_ℤ (pos size.0.0) ≡ amount.0 = ap (λ (it : ℤ × ℕ). it.0) size.2 in
    subst IsTimeOfDay same (omega (arith, signed_arith, low), omega (arith, signed_arith))

zero_within : (amount : ℤ × ℕ) → Some (pos 0, 0) ≡ Some amount → IsTimeOfDay amount.0
zero_within amount h =
    let is : (pos 0, 0) ≡ amount = cc in
    let same : pos 0 ≡ amount.0 = ap (λ (it : ℤ × ℕ). it.0) is in
    subst IsTimeOfDay same (omega (arith, signed_arith), omega (arith, signed_arith))

-- an amount is at most 3,600,001 seconds in size
pub amount_within : (letters field : List ℕ) (amount : ℤ × ℕ) → amount_of letters field ≡ Some amount → IsTimeOfDay amount.0
unfolding amount_of
amount_within letters [] amount h = absurd (cc)
amount_within letters (byte ∷ []) amount h =
    ⊎_elim (λ (sign : (byte == minus) ≡ true). zero_within amount (rw sign at h))
    (λ (none : (byte == minus) ≡ false). plus_within letters (byte ∷ []) amount (rw none at h))
    (cases_Bool (byte == minus))
amount_within letters (byte ∷ next ∷ rest) amount h =
    ⊎_elim (λ (sign : (byte == minus) ≡ true). minus_within letters (next ∷ rest) amount (rw sign at h))
    (λ (none : (byte == minus) ≡ false). plus_within letters (byte ∷ next ∷ rest) amount (rw none at h))
    (cases_Bool (byte == minus))

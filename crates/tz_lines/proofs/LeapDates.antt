-- The date of the last leap second.
use Rattle.std.proofs.Common.{◌≡◌, ◌-◌, suc, List, [], ◌∷◌, length, Some, ap, arith, slice_get}
use Rattle.tz_lines.specs.declared.leap_contents.WrittenLeap.{WrittenLeap}
use Rattle.tz_lines.specs.LeapFaults.{last_date}

pub last_is : (leaps : List WrittenLeap) (leap : WrittenLeap) → slice_get leaps (length leaps - 1) ≡ Some leap → last_date leaps ≡ Some leap.date
last_is [] leap e = cc
last_is (first ∷ []) leap e =
    let same : first ≡ leap = cc in
    ap (λ (it : WrittenLeap). Some it.date) same
last_is (first ∷ next ∷ leaps) leap e =
    let place : length (first ∷ next ∷ leaps) - 1 ≡ suc (length (next ∷ leaps) - 1) = omega arith in
    last_is (next ∷ leaps) leap (rw place at e)

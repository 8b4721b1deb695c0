-- A time of day by the parts round its colons.
use Rattle.std.proofs.Common.{◌≡◌, ℕ, ◌+◌, ◌*◌, ◌<◌, List, [], ◌∷◌, Option, Some, None, length, refl, ap, arith}
use Rattle.tz_specs.specs.Choice.{◌>>=◌}
use Rattle.tz_specs.specs.Parts.{parts_at}
use Rattle.tz_specs.specs.LeapLine.{two_digits_of, seconds_of_parts}
use Rattle.tz_text.proofs.Marks.{parts_are}
use Rattle.tz_text.specs.SecondOfDay.{last_second_of, minutes_of}

none_of : (second : List ℕ) (parts : List (List ℕ)) → 0 < length parts → last_second_of (second ∷ parts) ≡ None
none_of second [] more = absurd (omega arith)
none_of second (part ∷ parts) more = refl

pub second_none : (mark : ℕ) (second behind : List ℕ) → last_second_of (second ∷ parts_at mark behind) ≡ None
second_none mark second behind = none_of second (parts_at mark behind) (parts_are mark behind)

whole : (hour minute second : Option ℕ) → (hour >>= λ h. minute >>= λ m. second >>= λ s. Some (3_600 * h + 60 * m + s)) ≡ ((second >>= λ s. minute >>= λ m. Some (60 * m + s)) >>= λ later. hour >>= λ h. Some (3_600 * h + later))
whole None None None = refl
whole None None (Some s) = refl
whole None (Some m) None = refl
whole None (Some m) (Some s) = refl
whole (Some h) None None = refl
whole (Some h) None (Some s) = refl
whole (Some h) (Some m) None = refl
whole (Some h) (Some m) (Some s) =
    let same : 3_600 * h + 60 * m + s ≡ 3_600 * h + (60 * m + s) = omega arith in
    ap Some same

nothing : (minute : Option ℕ) (hour : Option ℕ) → None ≡ ((None >>= λ (s : ℕ). minute >>= λ m. Some (60 * m + s)) >>= λ later. hour >>= λ h. Some (3_600 * h + later))
nothing minute hour = refl

-- the hours, and the seconds of what follows them
pub parts_of_day : (hours : List ℕ) (parts : List (List ℕ)) → seconds_of_parts (hours ∷ parts) ≡ (minutes_of parts >>= λ later. two_digits_of 23 hours >>= λ hour. Some (3_600 * hour + later))
parts_of_day hours [] = refl
parts_of_day hours (minutes ∷ []) = refl
parts_of_day hours (minutes ∷ seconds ∷ []) = whole (two_digits_of 23 hours) (two_digits_of 59 minutes) (two_digits_of 59 seconds)
parts_of_day hours (minutes ∷ seconds ∷ other ∷ parts) = refl

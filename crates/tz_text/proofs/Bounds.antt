-- A bounded weekday, apart from the form that it stands for.
use Rattle.std.proofs.Common.{◌≡◌, ℕ, List, [], ◌∷◌, Option, Some, None, option_map, refl, ◌<◌, length, arith}
use Rattle.tz_types.specs.declared.calendar.Weekday.{Weekday}
use Rattle.tz_types.specs.declared.calendar.On.{On}
use Rattle.tz_specs.specs.Choice.{◌>>=◌}
use Rattle.tz_specs.specs.Day.{weekday_of, bound_of, bounded_weekday_of}
use Rattle.tz_specs.specs.Parts.{parts_at}
use Rattle.tz_text.proofs.Marks.{parts_are}
use Rattle.tz_text.specs.Bounds.{last_bound_of, bounded_of}

formed : (form : Weekday → ℕ → On) (weekday : Option Weekday) (day : Option ℕ) → (weekday >>= λ w. day >>= λ d. Some (form w d)) ≡ option_map (λ (bounded : Weekday × ℕ). form bounded.0 bounded.1) (weekday >>= λ w. day >>= λ d. Some (w, d))
formed form None day = refl
formed form (Some w) None = refl
formed form (Some w) (Some d) = refl

nothing : (form : Weekday → ℕ → On) (weekday : Option Weekday) → None ≡ option_map (λ (bounded : Weekday × ℕ). form bounded.0 bounded.1) (weekday >>= λ w. None >>= λ d. Some (w, d))
nothing form None = refl
nothing form (Some w) = refl

pub bounded_form : (form : Weekday → ℕ → On) (parts : List (List ℕ)) → bounded_weekday_of form parts ≡ option_map (λ (bounded : Weekday × ℕ). form bounded.0 bounded.1) (bounded_of parts)
bounded_form form [] = refl
bounded_form form (name ∷ []) = refl
bounded_form form (name ∷ bound ∷ []) = formed form (weekday_of name) (bound_of bound)
bounded_form form (name ∷ bound ∷ other ∷ parts) = nothing form (weekday_of name)

none_of : (bound : List ℕ) (parts : List (List ℕ)) → 0 < length parts → last_bound_of (bound ∷ parts) ≡ None
none_of bound [] more = absurd (omega arith)
none_of bound (part ∷ parts) more = refl

pub bound_none : (mark : ℕ) (bound behind : List ℕ) → last_bound_of (bound ∷ parts_at mark behind) ≡ None
bound_none mark bound behind = none_of bound (parts_at mark behind) (parts_are mark behind)

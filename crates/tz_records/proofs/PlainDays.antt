-- A day of a month is a number alone exactly where it is written so.
use Rattle.std.proofs.Common.{◌≡◌, ℕ, Bool, true, false, nat_eq, List, [], ◌∷◌, drop, codes, Option, Some, None, option_map, if◌then◌else◌, refl}
use Rattle.std.specs.List.{starts_with}
use Rattle.tz_types.specs.declared.calendar.Weekday.{Weekday}
use Rattle.tz_types.specs.declared.calendar.On.{On}
use Rattle.tz_types.specs.declared.calendar.On.TheVariants.{Day, Last, From, UpTo}
use Rattle.tz_specs.specs.Choice.{◌>>=◌}
use Rattle.tz_specs.specs.Parts.{parts_at}
use Rattle.tz_specs.specs.Word.{lowered}
use Rattle.tz_specs.specs.Day.{weekday_of, day_number_of, last_weekday_of, bound_of, bounded_weekday_of, or_else, on_of}
use Rattle.tz_records.specs.PlainDay.{number_alone}

last_by : (b : Bool) (weekday : Option Weekday) → number_alone (if b then option_map Last weekday else None) ≡ None
last_by true None = refl
last_by true (Some weekday) = refl
last_by false weekday = refl

from_steps : (weekday : Option Weekday) (day : Option ℕ) → number_alone (weekday >>= λ w. day >>= λ d. Some (From w d)) ≡ None
from_steps None day = refl
from_steps (Some w) None = refl
from_steps (Some w) (Some d) = refl

up_to_steps : (weekday : Option Weekday) (day : Option ℕ) → number_alone (weekday >>= λ w. day >>= λ d. Some (UpTo w d)) ≡ None
up_to_steps None day = refl
up_to_steps (Some w) None = refl
up_to_steps (Some w) (Some d) = refl

from_by : (parts : List (List ℕ)) → number_alone (bounded_weekday_of From parts) ≡ None
from_by [] = refl
from_by (name ∷ []) = refl
from_by (name ∷ bound ∷ []) = from_steps (weekday_of name) (bound_of bound)
from_by (name ∷ bound ∷ other ∷ parts) = refl

up_to_by : (parts : List (List ℕ)) → number_alone (bounded_weekday_of UpTo parts) ≡ None
up_to_by [] = refl
up_to_by (name ∷ []) = refl
up_to_by (name ∷ bound ∷ []) = up_to_steps (weekday_of name) (bound_of bound)
up_to_by (name ∷ bound ∷ other ∷ parts) = refl

neither : (a b : Option On) → number_alone a ≡ None → number_alone b ≡ None → number_alone (or_else a b) ≡ None
neither None b h k = k
neither (Some on) b h k = h

first_alone : (day : Option ℕ) (other : Option On) → number_alone other ≡ None → number_alone (or_else (option_map Day day) other) ≡ day
first_alone None other h = h
first_alone (Some day) other h = refl

pub alone : (word : List ℕ) → number_alone (on_of word) ≡ day_number_of word
unfolding on_of
alone word =
    first_alone (day_number_of word) (or_else (last_weekday_of word) (or_else (bounded_weekday_of From (parts_at 0x3e word)) (bounded_weekday_of UpTo (parts_at 0x3c word)))) (neither (last_weekday_of word) (or_else (bounded_weekday_of From (parts_at 0x3e word)) (bounded_weekday_of UpTo (parts_at 0x3c word))) (last_by (starts_with nat_eq (lowered word) (codes "last")) (weekday_of (drop 4 word))) (neither (bounded_weekday_of From (parts_at 0x3e word)) (bounded_weekday_of UpTo (parts_at 0x3c word)) (from_by (parts_at 0x3e word)) (up_to_by (parts_at 0x3c word))))

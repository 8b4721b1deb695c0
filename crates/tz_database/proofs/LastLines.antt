-- The last line of a zone.
use Rattle.std.proofs.Common.{◌≡◌, List, [], ◌∷◌, ◌-◌, length, map, Option, Some, None, is_some, option_map, suc, refl, sym, ap, ◌∙◌, arith, ℕ}
use Rattle.std.specs.List.{last_or, slice_get}
use Rattle.tz_types.specs.declared.until.Until.{Until}
use Rattle.tz_types.specs.declared.zone.Zone.{Zone}
use Rattle.tz_types.specs.declared.zone_line.ZoneLine.{ZoneLine}
use Rattle.tz_types.specs.declared.cause.Cause.TheVariants as causes
use Rattle.tz_specs.specs.Written.{written_until, written_line, written_zone}
use Rattle.tz_specs.specs.Whole.{fault_where, missing_continuation}

pub last_at : {X : Type 0} (xs : List X) → slice_get xs (length xs - 1) ≡ last_or None xs
last_at [] = refl
last_at (x ∷ []) = refl
last_at (x ∷ y ∷ xs) =
    let step : length (x ∷ y ∷ xs) - 1 ≡ suc (length (y ∷ xs) - 1) = omega arith in
    rw step (last_at (y ∷ xs))

pub last_map : {X Y : Type 0} (f : X → Y) (before : Option X) (xs : List X) → last_or (option_map f before) (map f xs) ≡ option_map f (last_or before xs)
last_map f before [] = refl
last_map f before (x ∷ xs) = last_map f (Some x) xs

-- the last element, by what `last` answers
pub last_is : {X Y : Type 0} (f : X → Y) (xs : List X) (x : X) → Some x ≡ slice_get xs (length xs - 1) → last_or None (map f xs) ≡ Some (f x)
last_is f xs x e = last_map f None xs ∙ ap (option_map f) (sym (last_at xs) ∙ sym e)

pub until_some : (until : Option Until) → is_some until ≡ is_some (option_map written_until until)
until_some None = refl
until_some (Some until) = refl

-- what a zone has by its last line
pub missing_after : (names : List (List ℕ)) (zone : Zone) (line : ZoneLine) → Some line ≡ slice_get zone.lines (length zone.lines - 1) → missing_continuation (written_zone names zone) ≡ fault_where (is_some line.until) line.line causes.NoContinuation
missing_after names zone line is =
    rw (last_is (written_line names) zone.lines line is, ← until_some line.until) refl

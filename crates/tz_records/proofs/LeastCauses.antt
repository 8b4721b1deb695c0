-- The least cause of rows of causes, and of rows in two parts.
use Rattle.std.proofs.Common.{◌≡◌, ℕ, zero, suc, Bool, true, false, ◌||◌, List, [], ◌∷◌, ◌++◌, Option, Some, None, Result, Ok, Err, if◌then◌else◌, refl, sym, ap, ◌∙◌}
use Rattle.std.specs.List.{slice_get}
use Rattle.std.proofs.lemmas.Option.{same_Some}
use Rattle.tz_types.specs.declared.cause.Cause.{Cause}
use Rattle.tz_types.specs.declared.cause.Cause.TheVariants as causes
use Rattle.tz_specs.specs.Causes.{least_cause}
use Rattle.tz_records.specs.Tells.{Tells}

step_before : (holds : Bool) (first cause : Cause) (a b : Option Cause) → (a ≡ Some cause → b ≡ Some cause) → (if holds then Some first else a) ≡ Some cause → (if holds then Some first else b) ≡ Some cause
step_before true first cause a b next h = h
step_before false first cause a b next h = next h

step_after : (holds : Bool) (first : Cause) (a b c : Option Cause) → (a ≡ None → b ≡ c) → (if holds then Some first else a) ≡ None → (if holds then Some first else b) ≡ c
step_after true first a b c next h = cc
step_after false first a b c next h = next h

-- a cause of the first part is the least of both
pub least_before : (rows later : List (Cause × Bool)) (cause : Cause) → least_cause rows ≡ Some cause → least_cause (rows ++ later) ≡ Some cause
least_before [] later cause h = cc
least_before (row ∷ rows) later cause h =
    step_before row.1 row.0 cause (least_cause rows) (least_cause (rows ++ later)) (λ e. least_before rows later cause e) h

-- where the first part has no cause, the least of both is that of the second
pub least_after : (rows later : List (Cause × Bool)) → least_cause rows ≡ None → least_cause (rows ++ later) ≡ least_cause later
least_after [] later h = refl
least_after (row ∷ rows) later h =
    step_after row.1 row.0 (least_cause rows) (least_cause (rows ++ later)) (least_cause later) (λ e. least_after rows later e) h

-- rows without a cause

no_cause : (holds : Bool) (cause : Cause) (rest : Option Cause) → (if holds then Some cause else rest) ≡ None → (holds ≡ false) × (rest ≡ None)
no_cause true cause rest h = cc
no_cause false cause rest h = (refl, h)

-- the first row, and those behind it
pub row_false : (row : Cause × Bool) (rows : List (Cause × Bool)) → least_cause (row ∷ rows) ≡ None → row.1 ≡ false
row_false row rows h = (no_cause row.1 row.0 (least_cause rows) h).0

pub rows_false : (row : Cause × Bool) (rows : List (Cause × Bool)) → least_cause (row ∷ rows) ≡ None → least_cause rows ≡ None
rows_false row rows h = (no_cause row.1 row.0 (least_cause rows) h).1

pub front_false : (rows later : List (Cause × Bool)) → least_cause (rows ++ later) ≡ None → least_cause rows ≡ None
front_false [] later h = refl
front_false (row ∷ rows) later h =
    let first = row_false row (rows ++ later) h in
    rw first (front_false rows later (rows_false row (rows ++ later) h))

-- the first of two causes that there is
first_found : Option Cause → Option Cause → Option Cause
first_found None later = later
first_found (Some cause) later = Some cause

least_append : (rows later : List (Cause × Bool)) (found : Option Cause) → least_cause rows ≡ found → least_cause (rows ++ later) ≡ first_found found (least_cause later)
unfolding first_found
least_append rows later None h = least_after rows later h
least_append rows later (Some cause) h = least_before rows later cause h

-- rows that have the same least cause have it in front of others too
pub least_same : (rows others later : List (Cause × Bool)) → least_cause rows ≡ least_cause others → least_cause (rows ++ later) ≡ least_cause (others ++ later)
least_same rows others later h =
    least_append rows later (least_cause others) h ∙ sym (least_append others later (least_cause others) refl)

-- Rows whose last is the limit, which holds where a name is too long, or where that or the count of something exceeds it.

by_count : (long exceeds late : Bool) → (long || exceeds) ≡ late → least_cause ((causes.Limit, long) ∷ []) ≡ None → least_cause ((causes.Limit, late) ∷ []) ≡ least_cause ((causes.Limit, exceeds) ∷ [])
by_count true exceeds late is h = cc
by_count false exceeds late is h = rw is refl

pub counted_none : (rows : List (Cause × Bool)) (long exceeds late : Bool) → (long || exceeds) ≡ late → least_cause (rows ++ (causes.Limit, long) ∷ []) ≡ None → least_cause (rows ++ (causes.Limit, late) ∷ []) ≡ least_cause ((causes.Limit, exceeds) ∷ [])
counted_none rows long exceeds late is h =
    let none = front_false rows ((causes.Limit, long) ∷ []) h in
    let short = sym (least_after rows ((causes.Limit, long) ∷ []) none) ∙ h in
    least_after rows ((causes.Limit, late) ∷ []) none ∙ by_count long exceeds late is short

still_limit : (long exceeds late : Bool) (cause : Cause) → (long || exceeds) ≡ late → least_cause ((causes.Limit, long) ∷ []) ≡ Some cause → least_cause ((causes.Limit, late) ∷ []) ≡ Some cause
still_limit true exceeds late cause is h = rw (← is) h
still_limit false exceeds late cause is h = cc

by_found : (rows : List (Cause × Bool)) (found : Option Cause) (long exceeds late : Bool) (cause : Cause) → (long || exceeds) ≡ late → least_cause rows ≡ found → least_cause (rows ++ (causes.Limit, long) ∷ []) ≡ Some cause → least_cause (rows ++ (causes.Limit, late) ∷ []) ≡ Some cause
by_found rows None long exceeds late cause is none h =
    let limit = sym (least_after rows ((causes.Limit, long) ∷ []) none) ∙ h in
    least_after rows ((causes.Limit, late) ∷ []) none ∙ still_limit long exceeds late cause is limit
by_found rows (Some other) long exceeds late cause is found h =
    let same = sym (least_before rows ((causes.Limit, long) ∷ []) other found) ∙ h in
    least_before rows ((causes.Limit, late) ∷ []) other found ∙ same

pub counted_some : (rows : List (Cause × Bool)) (long exceeds late : Bool) (cause : Cause) → (long || exceeds) ≡ late → least_cause (rows ++ (causes.Limit, long) ∷ []) ≡ Some cause → least_cause (rows ++ (causes.Limit, late) ∷ []) ≡ Some cause
counted_some rows long exceeds late cause is h = by_found rows (least_cause rows) long exceeds late cause is refl h

pub row_at : (rows : List (Cause × Bool)) → least_cause rows ≡ None → (place : ℕ) (row : Cause × Bool) → slice_get rows place ≡ Some row → row.1 ≡ false
row_at [] h place row e = cc
row_at (first ∷ rows) h zero row e =
    let same = same_Some first row e in
    ap (λ (it : Cause × Bool). it.1) (sym same) ∙ row_false first rows h
row_at (first ∷ rows) h (suc place) row e = row_at rows (rows_false first rows h) place row e

-- what is told by one table of rows is told by another that has the same least cause
pub same_tells : {A B : Type 0} (written : B → A) (rows others : List (Cause × Bool)) (said other : Option A) (told : Result B Cause) → least_cause others ≡ least_cause rows → other ≡ said → Tells written rows said told → Tells written others other told
same_tells written rows others said other (Ok here) e is tells = (e ∙ tells.0, is ∙ tells.1)
same_tells written rows others said other (Err cause) e is tells = e ∙ tells

-- How the reading of a line goes on from a place of it.
use Rattle.std.proofs.Common.{◌≡◌, ℕ, ◌+◌, ◌-◌, ◌<◌, ◌≤◌, true, false, List, [], ◌∷◌, ◌++◌, length, drop, get_or, Some, None, arith, refl, ◌≢◌, ne_eqb, eq-eqb, append_assoc, length-drop}
use mathlib.Core.Logic.{⊎_elim}
use Rattle.std.proofs.lemmas.Bool.{cases_Bool}
use Rattle.std.proofs.lemmas.Bool.Decides.{nat_tests}
use Rattle.std.specs.Option.{option_map}
use Rattle.std.specs.Prelude.{Result, Ok, Err, OnErr}
use Rattle.std.specs.List.{slice_range}
use Rattle.std.proofs.lemmas.List.{drop_more, take_more, drop_all, get_or-drop, append-nil, take_rest}
use Rattle.tz_specs.specs.Field.{is_white, is_plain, hash, quote, Between, Inside, Quoted, fields_from}
use Rattle.tz_specs.proofs.Heads.{white_head, plain_head, quoted_head, closing_head, opening_head, field_head, ending_white, ending_hash, ending_nil}

-- what holds at all holds of an error
pub on_err : {T E : Type 0} (P : Type 0) (r : Result T E) → P → OnErr r P
on_err P (Ok x) p = tt
on_err P (Err e) p = p

pub range_more :
    (line : List ℕ) (from to : ℕ) → from ≤ to → to < length line
    → slice_range line from (to + 1) ≡ slice_range line from to ++ get_or line to 0 ∷ []
range_more line from to order within =
    let counts : to + 1 - from ≡ to - from + 1 = omega arith in
    let place : from + (to - from) ≡ to = omega arith in
    let fits : to - from < length (drop from line) = rw length-drop (omega arith) in
    rw (counts, take_more (drop from line) (to - from) 0 fits, get_or-drop, place)

pub range_none : (line : List ℕ) (from : ℕ) → slice_range line from from ≡ []
range_none line from = let none : from - from ≡ 0 = omega arith in rw none

-- a step of the reading at a place of the line
pub white_at :
    (line : List ℕ) (index : ℕ) → index < length line → is_white (get_or line index 0) ≡ true
    → fields_from Between [] (drop index line) ≡ fields_from Between [] (drop (index + 1) line)
white_at line index within w = rw (drop_more line index 0 within) (white_head _ _ _ w)

pub plain_at :
    (line field : List ℕ) (from to : ℕ) → from ≤ to → to < length line → is_white (get_or line to 0) ≡ false
    → get_or line to 0 ≢ hash → get_or line to 0 ≢ quote
    → fields_from Inside (field ++ slice_range line from to) (drop to line)
    ≡ fields_from Inside (field ++ slice_range line from (to + 1)) (drop (to + 1) line)
plain_at line field from to order within w h q =
    rw
    (drop_more line to 0 within, range_more line from to order within, ← append_assoc)
    (plain_head _ _ _ w (ne_eqb _ _ h) (ne_eqb _ _ q))

-- the same, where the byte is known to be plain

plain_byte : (byte : ℕ) → is_plain byte ≡ true → (is_white byte ≡ false) × ((byte ≢ hash) × (byte ≢ quote))
plain_byte byte plain = grind (arith, nat_tests)

pub plain_more :
    (line field : List ℕ) (from to : ℕ) → from ≤ to → to < length line → is_plain (get_or line to 0) ≡ true
    → fields_from Inside (field ++ slice_range line from to) (drop to line)
    ≡ fields_from Inside (field ++ slice_range line from (to + 1)) (drop (to + 1) line)
plain_more line field from to order within plain =
    let parts = plain_byte (get_or line to 0) plain in
    plain_at line field from to order within parts.0 parts.1.0 parts.1.1

pub plain_first :
    (line field : List ℕ) (from : ℕ) → from < length line → is_white (get_or line from 0) ≡ false
    → get_or line from 0 ≢ hash → get_or line from 0 ≢ quote
    → fields_from Inside field (drop from line)
    ≡ fields_from Inside (field ++ slice_range line from (from + 1)) (drop (from + 1) line)
plain_first line field from within w h q =
    let step = plain_at line field from from (omega arith) within w h q in
    rw (range_none line from, append-nil field) at step

pub quoted_none :
    (line field : List ℕ) (from : ℕ)
    → fields_from Quoted field (drop from line) ≡ fields_from Quoted (field ++ slice_range line from from) (drop from line)
quoted_none line field from = rw (range_none line from, append-nil field)

pub quoted_at :
    (line field : List ℕ) (from to : ℕ) → from ≤ to → to < length line → get_or line to 0 ≢ quote
    → fields_from Quoted (field ++ slice_range line from to) (drop to line)
    ≡ fields_from Quoted (field ++ slice_range line from (to + 1)) (drop (to + 1) line)
quoted_at line field from to order within q =
    rw
    (drop_more line to 0 within, range_more line from to order within, ← append_assoc)
    (quoted_head _ _ _ (ne_eqb _ _ q))

pub closing_at :
    (line field : List ℕ) (to : ℕ) → to < length line → get_or line to 0 ≡ quote
    → fields_from Quoted field (drop to line) ≡ fields_from Inside field (drop (to + 1) line)
closing_at line field to within q = rw (drop_more line to 0 within) (closing_head _ _ _ (eq-eqb _ _ q))

pub opening_at :
    (line field : List ℕ) (to : ℕ) → to < length line → is_white (get_or line to 0) ≡ false
    → get_or line to 0 ≢ hash → get_or line to 0 ≡ quote
    → fields_from Inside field (drop to line) ≡ fields_from Quoted field (drop (to + 1) line)
opening_at line field to within w h q =
    rw (drop_more line to 0 within) (opening_head _ _ _ w (ne_eqb _ _ h) (eq-eqb _ _ q))

pub open_at : (line field : List ℕ) (to : ℕ) → length line ≤ to → fields_from Quoted field (drop to line) ≡ None
unfolding fields_from
open_at line field to past = rw (drop_all to line past)

pub field_at :
    (line : List ℕ) (index : ℕ) → index < length line → is_white (get_or line index 0) ≡ false
    → get_or line index 0 ≢ hash
    → fields_from Between [] (drop index line) ≡ fields_from Inside [] (drop index line)
field_at line index within w h =
    rw (drop_more line index 0 within) (field_head _ _ _ w (ne_eqb _ _ h))

pub ending_at_end :
    (line field : List ℕ) (index : ℕ) → length line ≤ index
    → fields_from Inside field (drop index line)
    ≡ option_map (λ fields. field ∷ fields) (fields_from Between [] (drop index line))
ending_at_end line field index past = rw (drop_all index line past) (ending_nil field)

pub ending_at_white :
    (line field : List ℕ) (index : ℕ) → index < length line → is_white (get_or line index 0) ≡ true
    → fields_from Inside field (drop index line)
    ≡ option_map (λ fields. field ∷ fields) (fields_from Between [] (drop index line))
ending_at_white line field index within w = rw (drop_more line index 0 within) (ending_white _ _ _ w)

pub ending_at_hash :
    (line field : List ℕ) (index : ℕ) → index < length line → get_or line index 0 ≡ hash
    → fields_from Inside field (drop index line)
    ≡ option_map (λ fields. field ∷ fields) (fields_from Between [] (drop index line))
ending_at_hash line field index within h =
    rw (drop_more line index 0 within, h) (ending_hash hash field _ refl refl)

other_byte : (byte : ℕ) → is_plain byte ≡ false → byte ≢ quote → is_white byte ≡ false → byte ≡ hash
other_byte byte other q w = grind (arith, nat_tests)

-- what is neither plain nor a quote ends a field
pub ending_unquoted :
    (line field : List ℕ) (index : ℕ) → index < length line → is_plain (get_or line index 0) ≡ false
    → get_or line index 0 ≢ quote
    → fields_from Inside field (drop index line)
    ≡ option_map (λ fields. field ∷ fields) (fields_from Between [] (drop index line))
ending_unquoted line field index within other q =
    ⊎_elim
    (λ (w : is_white (get_or line index 0) ≡ true). ending_at_white line field index within w)
    (λ (w : is_white (get_or line index 0) ≡ false). ending_at_hash line field index within (other_byte (get_or line index 0) other q w))
    (cases_Bool (is_white (get_or line index 0)))

pub no_more_at_end : (line : List ℕ) (index : ℕ) → length line ≤ index → fields_from Between [] (drop index line) ≡ Some []
unfolding fields_from
no_more_at_end line index past = rw (drop_all index line past)

pub no_more_at_hash :
    (line : List ℕ) (index : ℕ) → index < length line → get_or line index 0 ≡ hash
    → fields_from Between [] (drop index line) ≡ Some []
unfolding fields_from
no_more_at_hash line index within h = rw (drop_more line index 0 within, h)

pub range_rest : (line : List ℕ) (from to : ℕ) → to ≡ length line → slice_range line from to ≡ drop from line
range_rest line from to end = rw end (take_rest line from)

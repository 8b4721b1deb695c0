-- The pieces that a field is made of.
use Rattle.std.specs.Prelude.{◌≡◌, ◌≢◌, ℕ, ◌<◌, ◌≤◌, false, List, [], ◌∷◌, ◌++◌, length, drop, slice_index, IsTrue}
use Rattle.std.specs.List.{slice_range}
use Rattle.std.specs.Option.{option_map}
use Rattle.tz_specs.specs.Field.{is_white, hash, fields_from, Between, Inside}
use Rattle.tz_text.specs.declared.cut.scan.Piece.{Piece}

-- no field goes on here: the line ends, or white space or a comment begins
abbrev pub EndsField : List ℕ → ℕ → Type 0
EndsField line index =
    (field : List ℕ)
    → fields_from Inside field (drop index line)
    ≡ option_map (λ fields. field ∷ fields) (fields_from Between [] (drop index line))

-- the field that is open goes on with these bytes of the line, and then with what stands from `after` on
pub record IsPiece (line : List ℕ) (index : ℕ) (piece : Piece) : Type 0 where
  pub from : index ≤ piece.start
  pub order : piece.start ≤ piece.end
  pub closed : piece.end ≤ piece.after
  pub onwards : index < piece.after
  pub within : piece.after ≤ length line
  pub goes_on :
      (field : List ℕ)
      → fields_from Inside field (drop index line)
      ≡ fields_from Inside (field ++ slice_range line piece.start piece.end) (drop piece.after line)
  pub ends : IsTrue piece.last → EndsField line piece.after

-- a byte that is part of a field stands here
pub record BeginsPiece (line : List ℕ) (index : ℕ) : Type 0 where
  pub within : index < length line
  pub no_white : is_white (slice_index line index) ≡ false
  pub no_hash : slice_index line index ≢ hash

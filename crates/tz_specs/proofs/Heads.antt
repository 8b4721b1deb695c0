-- How the reading of a line goes on by its first byte.
use Rattle.std.proofs.Common.{◌≡◌, ℕ, true, false, ◌==◌, List, [], ◌∷◌, ◌++◌, Some}
use Rattle.std.specs.Option.{option_map}
use Rattle.tz_specs.specs.Field.{is_white, hash, quote, Between, Inside, Quoted, fields_from}

pub white_head : (byte : ℕ) (field rest : List ℕ) → is_white byte ≡ true → fields_from Between field (byte ∷ rest) ≡ fields_from Between [] rest
unfolding fields_from
white_head byte field rest w = rw w

pub comment_head :
    (byte : ℕ) (field rest : List ℕ) → is_white byte ≡ false → (byte == hash) ≡ true
    → fields_from Between field (byte ∷ rest) ≡ Some []
unfolding fields_from
comment_head byte field rest w h = rw (w, h)

pub plain_head :
    (byte : ℕ) (field rest : List ℕ) → is_white byte ≡ false → (byte == hash) ≡ false → (byte == quote) ≡ false
    → fields_from Inside field (byte ∷ rest) ≡ fields_from Inside (field ++ byte ∷ []) rest
unfolding fields_from
plain_head byte field rest w h q = rw (w, h, q)

pub quoted_head :
    (byte : ℕ) (field rest : List ℕ) → (byte == quote) ≡ false
    → fields_from Quoted field (byte ∷ rest) ≡ fields_from Quoted (field ++ byte ∷ []) rest
unfolding fields_from
quoted_head byte field rest q = rw q

pub closing_head :
    (byte : ℕ) (field rest : List ℕ) → (byte == quote) ≡ true
    → fields_from Quoted field (byte ∷ rest) ≡ fields_from Inside field rest
unfolding fields_from
closing_head byte field rest q = rw q

pub opening_head :
    (byte : ℕ) (field rest : List ℕ) → is_white byte ≡ false → (byte == hash) ≡ false → (byte == quote) ≡ true
    → fields_from Inside field (byte ∷ rest) ≡ fields_from Quoted field rest
unfolding fields_from
opening_head byte field rest w h q = rw (w, h, q)

pub field_head :
    (byte : ℕ) (field rest : List ℕ) → is_white byte ≡ false → (byte == hash) ≡ false
    → fields_from Between field (byte ∷ rest) ≡ fields_from Inside [] (byte ∷ rest)
unfolding fields_from
field_head byte field rest w h = rw (w, h)

pub ending_white :
    (byte : ℕ) (field rest : List ℕ) → is_white byte ≡ true
    → fields_from Inside field (byte ∷ rest) ≡ option_map (λ fields. field ∷ fields) (fields_from Between [] (byte ∷ rest))
unfolding fields_from
ending_white byte field rest w = rw w

pub ending_hash :
    (byte : ℕ) (field rest : List ℕ) → is_white byte ≡ false → (byte == hash) ≡ true
    → fields_from Inside field (byte ∷ rest) ≡ option_map (λ fields. field ∷ fields) (fields_from Between [] (byte ∷ rest))
unfolding fields_from
ending_hash byte field rest w h = rw (w, h)

pub ending_nil : (field : List ℕ) → fields_from Inside field [] ≡ option_map (λ fields. field ∷ fields) (fields_from Between [] [])
unfolding fields_from
ending_nil field = λ i. Some (field ∷ [])

-- What a file means is what it spells.
use Rattle.std.proofs.Common.{◌≡◌, ℕ, ◌+◌, ◌*◌, ◌^◌, ◌<◌, Bool, true, false, cond, ◌==◌, inl, inr, ⊎_elim, refl, sym, ap, ◌∙◌, arith, List, [], ◌∷◌, ◌++◌, length, take, drop, get_or, map, Some, ℤ, ◌<ℤ◌, ◌≤ℤ◌, pos, negsuc, FitsSigned}
use Rattle.std.specs.Prelude.{slice_get, slice_index, take_while}
use Rattle.std.specs.Int.{w32, w64, to_be_bytes, from_be_bytes, cast_unsigned, cast_signed}
use Rattle.std.specs.List.{flat_map}
use Rattle.std.proofs.lemmas.Int.{ints, to_z-of_z}
use Rattle.std.proofs.lemmas.Bool.{cases_order}
use Rattle.std.proofs.lemmas.List.{append_assoc, drop_at, take_at, drop-drop, get_or-drop, length-map}
use Rattle.std.proofs.lemmas.Nat.{from_be_bytes-to_be_bytes_4, from_be_bytes-to_be_bytes_8}
use Rattle.std.proofs.Math.Facts.{Fits-of_z}
use Rattle.std.specs.List.{list_all}
use Rattle.jiff_core.specs.Calendar.{IsWithin}
use Rattle.tz_types.specs.declared.limit.TheConstants.{LONGEST_OFFSET}
use Rattle.tz_types.specs.Text.{is_printable}
use Rattle.tz_specs.specs.Expansion.{first_instant, end_of_time}
use Rattle.tz_specs.proofs.ListLemmas.{In, In-from_get}
use Rattle.tz_types.specs.declared.range.SysInfo.{SysInfo}
use Rattle.tz_tzif.specs.declared.local_type.LocalType.{LocalType}
use Rattle.tz_tzif.specs.Types.{type_of, number_in}
use Rattle.tz_tzif.specs.Designations.{designation_octets, index_in}
use Rattle.tz_tzif.specs.File.{header, first_block, time_octets, type_octets, file_of}
use Rattle.tz_tzif.specs.Meaning.{offset_at, time_count, type_count, transition_time, transition_type, type_place, designation_place, type_at, IsLatest, IsTypeNumber, IsMeaning}
use Rattle.tz_tzif.proofs.DistinctLemmas.{same_fields}
use Rattle.tz_tzif.proofs.PlaceLemmas.{length_pieces, piece_at, get_at, get-map, get_some, some_within, is_letter, text_before, at_index}
use Rattle.tz_tzif.proofs.MergedLemmas.{AllAfter, IsLast, HasLast, InForce, Rising, after_at, rising_at}

-- the parts of the data, each before the ones behind it
abbrev footer : List ℕ
footer = 10 ∷ 10 ∷ []

abbrev texts_part : List (List ℕ) → List ℕ
texts_part designations = designation_octets designations ++ footer

abbrev types_part : List LocalType → List (List ℕ) → List ℕ
types_part types designations = flat_map (type_octets designations) types ++ texts_part designations

abbrev numbers_part : List SysInfo → List LocalType → List (List ℕ) → List ℕ
numbers_part transitions types designations =
    map (λ range. number_in types (type_of range)) transitions ++ types_part types designations

abbrev times_part : List SysInfo → List LocalType → List (List ℕ) → List ℕ
times_part transitions types designations =
    flat_map time_octets transitions ++ numbers_part transitions types designations

parts : (a b c d e : List ℕ) → (((a ++ b) ++ c) ++ d) ++ e ≡ a ++ (b ++ (c ++ (d ++ e)))
parts a b c d e = simp append_assoc

pub data_from : (transitions : List SysInfo) (types : List LocalType) (designations : List (List ℕ)) → drop 95 (file_of transitions types designations) ≡ times_part transitions types designations
unfolding file_of first_block header
data_from transitions types designations =
    parts (flat_map time_octets transitions) (map (λ range. number_in types (type_of range)) transitions) (flat_map (type_octets designations) types) (designation_octets designations) footer

pub time_count_is : (transitions : List SysInfo) (types : List LocalType) (designations : List (List ℕ)) → length transitions < 2 ^ 32 → time_count (file_of transitions types designations) ≡ length transitions
unfolding file_of first_block header
time_count_is transitions types designations small = from_be_bytes-to_be_bytes_4 (length transitions) small

pub type_count_is : (transitions : List SysInfo) (types : List LocalType) (designations : List (List ℕ)) → length types < 2 ^ 32 → type_count (file_of transitions types designations) ≡ length types
unfolding file_of first_block header
type_count_is transitions types designations small = from_be_bytes-to_be_bytes_4 (length types) small

-- a file with these parts behind its headers, which count them
pub record IsFile (file : List ℕ) (transitions : List SysInfo) (types : List LocalType) (designations : List (List ℕ)) : Type 0 where
  pub behind : drop 95 file ≡ times_part transitions types designations
  pub times : time_count file ≡ length transitions
  pub kinds : type_count file ≡ length types

pub is_file : (transitions : List SysInfo) (types : List LocalType) (designations : List (List ℕ)) → length transitions < 2 ^ 32 → length types < 2 ^ 32 → IsFile (file_of transitions types designations) transitions types designations
is_file transitions types designations many few =
    record {
      behind = data_from transitions types designations;
      times = time_count_is transitions types designations many;
      kinds = type_count_is transitions types designations few;
    }

-- ---- one meaning
-- the times of a file's transitions rise
abbrev pub TimesRise : List ℕ → Type 0
TimesRise file =
    (number other : ℕ) → number < other → other < time_count file → transition_time file number <ℤ transition_time file other

one_latest : (file : List ℕ) (t : ℤ) (number other : ℕ) → TimesRise file → IsLatest file t number → IsLatest file t other → number ≡ other
one_latest file t number other rise is has =
    ⊎_elim (λ (same : number ≡ other). same)
    (⊎_elim
    (λ (before : number < other). absurd (omega (arith, ints, rise number other before has.inside, is.greatest other has.inside has.come)))
    (λ (after : other < number). absurd (omega (arith, ints, rise other number after is.inside, has.greatest number is.inside is.come))))
    (cases_order number other)

not_before : {P : Type 0} (file : List ℕ) (t : ℤ) (number : ℕ) → IsLatest file t number → ((other : ℕ) → other < time_count file → t <ℤ transition_time file other) → P
not_before file t number is none = absurd (omega (arith, ints, is.come, none number is.inside))

abbrev HasLatest : List ℕ → ℤ → ℕ → Type 0
HasLatest file t number = (place : ℕ) × IsLatest file t place × (number ≡ transition_type file place)

abbrev HasNone : List ℕ → ℤ → ℕ → Type 0
HasNone file t number =
    ((place : ℕ) → place < time_count file → t <ℤ transition_time file place) × (number ≡ 0)

one_number : (file : List ℕ) (t : ℤ) (number other : ℕ) → TimesRise file → IsTypeNumber file t number → IsTypeNumber file t other → number ≡ other
one_number file t number other rise is has =
    ⊎_elim
    (λ (some : HasLatest file t number).
    ⊎_elim
    (λ (too : HasLatest file t other). some.2 ∙ ap (λ place. transition_type file place) (one_latest file t some.0 too.0 rise some.1 too.1) ∙ sym too.2)
    (λ (none : HasNone file t other). not_before file t some.0 some.1 none.0)
    has)
    (λ (none : HasNone file t number).
    ⊎_elim (λ (some : HasLatest file t other). not_before file t some.0 some.1 none.0)
    (λ (too : HasNone file t other). none.1 ∙ sym too.1)
    has)
    is

pub one_meaning : (file : List ℕ) (t : ℤ) (x y : LocalType) → TimesRise file → IsMeaning file t x → IsMeaning file t y → x ≡ y
one_meaning file t x y rise is has =
    sym is.2 ∙ ap (λ number. type_at file number) (one_number file t is.0 has.0 rise is.1 has.1) ∙ has.2

-- ---- signed numbers
pub fits_offset : (z : ℤ) → IsWithin LONGEST_OFFSET z → FitsSigned w32 z
fits_offset (pos n) near = record { sfits = omega (arith, ints) }
fits_offset (negsuc n) near = record { sfits = omega (arith, ints) }

pub fits_time : (z : ℤ) → first_instant ≤ℤ z → z ≤ℤ end_of_time → FitsSigned w64 z
fits_time (pos n) low high = record { sfits = omega (arith, ints) }
fits_time (negsuc n) low high = record { sfits = omega (arith, ints) }

read_four : (z : ℤ) → FitsSigned w32 z → cast_signed w32 (from_be_bytes w32 (to_be_bytes w32 (cast_unsigned w32 z))) ≡ z
read_four z fits =
    let bits = Fits-of_z {w = w32} {z = z} fits in
    ap (λ n. cast_signed w32 n) (from_be_bytes-to_be_bytes_4 (cast_unsigned w32 z) bits.fits) ∙ to_z-of_z w32 z fits

read_eight : (z : ℤ) → FitsSigned w64 z → cast_signed w64 (from_be_bytes w64 (to_be_bytes w64 (cast_unsigned w64 z))) ≡ z
read_eight z fits =
    let bits = Fits-of_z {w = w64} {z = z} fits in
    ap (λ n. cast_signed w64 n) (from_be_bytes-to_be_bytes_8 (cast_unsigned w64 z) bits.fits) ∙ to_z-of_z w64 z fits

-- ---- where the parts begin
lt_trans : (a b c : ℕ) → a < b → b < c → a < c
lt_trans a b c h k = omega arith

nine : (n : ℕ) → 95 + 9 * n ≡ (95 + 8 * n) + n
nine n = omega arith

-- the mark of daylight saving time
abbrev mark_of : Bool → ℕ
mark_of is_daylight = cond is_daylight 1 0

marked : (is_daylight : Bool) → (mark_of is_daylight == 1) ≡ is_daylight
marked true = refl
marked false = refl

eight_long : (range : SysInfo) → length (time_octets range) ≡ 8
eight_long range = refl

six_long : (designations : List (List ℕ)) (x : LocalType) → length (type_octets designations x) ≡ 6
six_long designations x = refl

module _ (file : List ℕ) (transitions : List SysInfo) (types : List LocalType) (designations : List (List ℕ)) (is : IsFile file transitions types designations) where
  behind : (place : ℕ) → drop (95 + place) file ≡ drop place (times_part transitions types designations)
  behind place = sym (drop-drop place 95 file) ∙ ap (λ xs. drop place xs) is.behind

  numbers_from : drop (95 + 8 * time_count file) file ≡ numbers_part transitions types designations
  numbers_from =
      behind (8 * time_count file)
      ∙ drop_at (flat_map time_octets transitions) (numbers_part transitions types designations) (8 * time_count file) (length_pieces time_octets 8 eight_long transitions ∙ ap (λ n. 8 * n) (sym is.times))

  types_from : drop (95 + 9 * time_count file) file ≡ types_part types designations
  types_from =
      ap (λ n. drop n file) (nine (time_count file))
      ∙ sym (drop-drop (time_count file) (95 + 8 * time_count file) file)
      ∙ ap (λ xs. drop (time_count file) xs) numbers_from
      ∙ drop_at (map (λ range. number_in types (type_of range)) transitions) (types_part types designations) (time_count file) (length-map transitions (λ range. number_in types (type_of range)) ∙ sym is.times)

  texts_from : drop (designation_place file) file ≡ texts_part designations
  texts_from =
      sym (drop-drop (6 * type_count file) (95 + 9 * time_count file) file)
      ∙ ap (λ xs. drop (6 * type_count file) xs) types_from
      ∙ drop_at (flat_map (type_octets designations) types) (texts_part designations) (6 * type_count file) (length_pieces (type_octets designations) 6 (six_long designations) types ∙ ap (λ n. 6 * n) (sym is.kinds))

  -- ---- transitions
  pub time_is : (place : ℕ) (range : SysInfo) → slice_get transitions place ≡ Some range → FitsSigned w64 range.begin → transition_time file place ≡ range.begin
  time_is place range there fits =
      let piece = piece_at time_octets 8 eight_long transitions (numbers_part transitions types designations) place range there in
      let octets : take 8 (drop (95 + 8 * place) file) ≡ time_octets range = ap (λ xs. take 8 xs) (behind (8 * place) ∙ piece.1) ∙ take_at (time_octets range) piece.0 8 (eight_long range) in
      ap (λ xs. cast_signed w64 (from_be_bytes w64 xs)) octets ∙ read_eight range.begin fits

  pub number_is : (place : ℕ) (range : SysInfo) → slice_get transitions place ≡ Some range → transition_type file place ≡ number_in types (type_of range)
  number_is place range there =
      sym (get_or-drop (95 + 8 * time_count file) file place 0)
      ∙ ap (λ xs. get_or xs place 0) numbers_from
      ∙ get_at (map (λ r. number_in types (type_of r)) transitions) (types_part types designations) place (number_in types (type_of range)) (get-map (λ r. number_in types (type_of r)) transitions place range there)

  -- ---- types
  pub type_is : (number : ℕ) (x : LocalType) → slice_get types number ≡ Some x → FitsSigned w32 x.offset → In x.designation designations → list_all is_printable x.designation ≡ true → type_at file number ≡ x
  type_is number x there fits has printable =
      let place = type_place file number in
      let piece = piece_at (type_octets designations) 6 (six_long designations) types (texts_part designations) number x there in
      let here : drop place file ≡ type_octets designations x ++ piece.0 =
      sym (drop-drop (6 * number) (95 + 9 * time_count file) file) ∙ ap (λ xs. drop (6 * number) xs) types_from ∙ piece.1 in
      let offset : offset_at file place ≡ x.offset = ap (λ xs. cast_signed w32 (from_be_bytes w32 (take 4 xs))) here ∙ read_four x.offset fits in
      let mark : slice_index file (place + 4) ≡ mark_of x.is_daylight = sym (get_or-drop place file 4 0) ∙ ap (λ xs. get_or xs 4 0) here in
      let index : slice_index file (place + 5) ≡ index_in designations x.designation = sym (get_or-drop place file 5 0) ∙ ap (λ xs. get_or xs 5 0) here in
      let text = at_index designations x.designation footer has in
      let texts : drop (designation_place file + slice_index file (place + 5)) file ≡ x.designation ++ 0 ∷ text.0 =
      ap (λ n. drop (designation_place file + n) file) index
      ∙ sym (drop-drop (index_in designations x.designation) (designation_place file) file)
      ∙ ap (λ xs. drop (index_in designations x.designation) xs) texts_from
      ∙ text.1 in
      same_fields (type_at file number) x offset (ap (λ n. n == 1) mark ∙ marked x.is_daylight)
      (ap (λ xs. take_while is_letter xs) texts ∙ text_before x.designation text.0 printable)

  pub times_rise : Rising transitions → ((place : ℕ) (range : SysInfo) → slice_get transitions place ≡ Some range → FitsSigned w64 range.begin) → TimesRise file
  times_rise rising fits number other before within =
      let one = get_some transitions number (rw is.times at (lt_trans number other (time_count file) before within)) in
      let later = get_some transitions other (rw is.times at within) in
      rw (time_is number one.0 one.1 (fits number one.0 one.1), time_is other later.0 later.1 (fits other later.0 later.1))
      (rising_at transitions number other one.0 later.0 rising before one.1 later.1)

  -- ---- the whole
  pub means : (t : ℤ) (first now : LocalType) → InForce t first transitions now → ((place : ℕ) (range : SysInfo) → slice_get transitions place ≡ Some range → FitsSigned w64 range.begin) → slice_get types 0 ≡ Some first → ((range : SysInfo) → In range transitions → slice_get types (number_in types (type_of range)) ≡ Some (type_of range)) → ((number : ℕ) → slice_get types number ≡ Some now → type_at file number ≡ now) → IsMeaning file t now
  means t first now force fits at_first numbered said =
      ⊎_elim
      (λ (none : AllAfter t transitions × (now ≡ first)). (
        0,
        inr ((λ number inside. later number (get_some transitions number (rw is.times at inside)) none.0), refl),
        said 0 (at_first ∙ ap (λ x. Some x) (sym none.1)),
      ))
      (λ (some : HasLast t transitions now).
      let place = some.0 in
      let range = some.1 in
      let last = some.2 in
      let time = time_is place range last.there (fits place range last.there) in
      let inside : place < time_count file = rw is.times (some_within transitions place range last.there) in (
        number_in types (type_of range),
        inl (place, record { inside = inside; come = rw time last.begun; greatest = λ other within come. greatest_is place range last other (get_some transitions other (rw is.times at within)) time come }, sym (number_is place range last.there)),
        said (number_in types (type_of range)) (numbered range (In-from_get transitions place range last.there) ∙ ap (λ x. Some x) (sym some.3)),
      ))
      force
    where
      later : (number : ℕ) → (r : SysInfo) × (slice_get transitions number ≡ Some r) → AllAfter t transitions → t <ℤ transition_time file number
      later number found after =
          rw (time_is number found.0 found.1 (fits number found.0 found.1)) (after_at t transitions number found.0 after found.1)

      greatest_is : (place : ℕ) (range : SysInfo) → IsLast t transitions place range → (other : ℕ) → (r : SysInfo) × (slice_get transitions other ≡ Some r) → transition_time file place ≡ range.begin → transition_time file other ≤ℤ t → transition_time file other ≤ℤ transition_time file place
      greatest_is place range last other found time come =
          let its = time_is other found.0 found.1 (fits other found.0 found.1) in
          let begun : found.0.begin ≤ℤ t = rw its at come in
          rw (its, time) (last.last other found.0 found.1 begun)

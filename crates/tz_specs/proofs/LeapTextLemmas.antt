-- A leap text is read in one way, or refused in one way, and not both.
use Rattle.std.proofs.Common.{◌≡◌, ℕ, zero, suc, ◌+◌, ◌<◌, ◌≤◌, ◌⊎◌, inl, inr, ⊎_elim, Bool, true, false, ◌&&◌, ◌||◌, nat_le, nat_lt, if◌then◌else◌, IsTrue, List, [], ◌∷◌, ◌++◌, length, map, drop, slice_get, filter_map, int_lt, ℤ, pos, ◌<ℤ◌, Option, Some, None, option_map, Result, Ok, Err, refl, sym, ap, ◌∙◌, subst, arith}
use mathlib.Core.HLevel.{is_prop→PathP}
use Rattle.std.proofs.Props.{props}
use Rattle.std.specs.List.{Contains, list_any}
use Rattle.std.specs.List.Sorted.{IsPermutation}
use Rattle.std.specs.Ordering.{int_eq}
use Rattle.std.proofs.lemmas.Int.{ints}
use Rattle.std.proofs.lemmas.Bool.{cases_Bool}
use Rattle.std.proofs.lemmas.Bool.Decides.{nat_tests}
use Rattle.std.proofs.lemmas.List.{length-map, length-append}
use Rattle.std.proofs.lemmas.List.Sorted.{IsPermutation-refl, IsPermutation-sym, IsPermutation-trans, IsPermutation-cons, IsPermutation-middle, Contains-permutation, length_permutation}
use Rattle.tz_types.specs.Order.{ascends, ascends_after}
use Rattle.tz_types.specs.declared.limit.TheConstants.{MOST_LEAPS, MOST_TEXT_LINES}
use Rattle.tz_types.specs.Leap.{running_sums}
use Rattle.tz_types.specs.declared.cause.Cause.{Cause}
use Rattle.tz_types.specs.declared.cause.Cause.TheVariants as causes
use Rattle.tz_types.specs.declared.fault.LineFault.{LineFault}
use Rattle.tz_types.specs.declared.leap_entry.LeapEntry.{LeapEntry}
use Rattle.tz_types.specs.declared.leaps.Leaps.{Leaps}
use Rattle.tz_specs.specs.Line.{lines_of}
use Rattle.tz_specs.specs.Field.{fields_of}
use Rattle.tz_specs.specs.Choice.{◌>>=◌}
use Rattle.tz_specs.specs.Causes.{least_cause, unless_cause}
use Rattle.tz_specs.specs.Contents.{fields_or_none}
use Rattle.tz_specs.specs.Whole.{IsLeast}
use Rattle.tz_specs.specs.LeapLine.{LeapRecord, SecondRecord, ExpiryRecord, LeapKind, SecondLine, ExpiryLine, leap_kind_of, moment_of, entry_causes, leap_record_of, leap_kind_causes, leap_field_causes, leap_line_causes, leap_record_of_fields, leap_line_says}
use Rattle.tz_specs.specs.LeapText.{WrittenLeap, WrittenExpiry, LeapContents, no_leap_contents, with_leap_record, leap_fault, leap_contents_after, leap_contents_of, leap_fault_where, repeated_leap, repeated_expiry, early_expiry, leap_faults, first_moment, ReadsLeaps, RefusesWholeLeaps, RefusesLeaps}
use Rattle.tz_specs.proofs.AscendingLemmas.{both_hold, first_or_later, is_first, is_later, never_in_none}
use Rattle.tz_specs.proofs.TextLemmas.{least_is_one, none_is_least}
use Rattle.tz_specs.proofs.ListLemmas.{none_first}
use Rattle.tz_specs.proofs.FaultOrder.{least_exists}
use Rattle.tz_specs.proofs.LeapLemmas.{above_first, ascends_later, place_of}

abbrev dates : List LeapEntry → List ℤ
dates entries = map (λ entry. entry.date) entries

abbrev entries_of : List WrittenLeap → List LeapEntry
entries_of leaps = map (λ written. written.entry) leaps

-- ---- at most one

same_leap_contents : (text : List ℕ) (a b : LeapContents) → leap_contents_of text ≡ Ok a → leap_contents_of text ≡ Ok b → a ≡ b
same_leap_contents text a b first second = let both : Ok a ≡ Ok b = sym first ∙ second in cc

given_or_refused : (text : List ℕ) (a : LeapContents) (fault : LineFault) → leap_contents_of text ≡ Ok a → leap_contents_of text ≡ Err fault → ⊥
given_or_refused text a fault first second = let both : Ok a ≡ Err fault = sym first ∙ second in cc

whole_fault_is_one : (text : List ℕ) (a b : LineFault) → RefusesWholeLeaps text a → RefusesWholeLeaps text b → a ≡ b
whole_fault_is_one text a b first second =
    let contents = same_leap_contents text first.contents second.contents first.given second.given in
    least_is_one (leap_faults first.contents) a b first.least (subst (λ it. IsLeast (leap_faults it) b) (sym contents) second.least)

pub one_leap_fault : (text : List ℕ) (a b : LineFault) → RefusesLeaps text a → RefusesLeaps text b → a ≡ b
one_leap_fault text a b (inl first) (inl second) = let both : Err a ≡ Err b = sym first ∙ second in cc
one_leap_fault text a b (inl first) (inr second) = absurd (given_or_refused text second.contents a second.given first)
one_leap_fault text a b (inr first) (inl second) = absurd (given_or_refused text first.contents b first.given second)
one_leap_fault text a b (inr first) (inr second) = whole_fault_is_one text a b first second

pub read_leaps_are_not_refused : (text : List ℕ) (leaps : Leaps) (fault : LineFault) → ReadsLeaps text leaps → RefusesLeaps text fault → ⊥
read_leaps_are_not_refused text leaps fault reads (inl line) = given_or_refused text reads.contents fault reads.given line
read_leaps_are_not_refused text leaps fault reads (inr whole) =
    let contents = same_leap_contents text reads.contents whole.contents reads.given whole.given in
    none_is_least (leap_faults whole.contents) fault (subst (λ it. leap_faults it ≡ []) contents reads.no_fault) whole.least

before_all : (x : LeapEntry) (xs : List LeapEntry) (z : LeapEntry) → IsTrue (ascends_after int_lt x.date (dates xs)) → Contains xs z → x.date <ℤ z.date
before_all x xs z h is =
    let place = place_of xs z is in
    subst (λ (it : LeapEntry). x.date <ℤ it.date) place.2 (above_first x.date xs h place.0 place.1)

same_first : (x y : LeapEntry) (xs ys : List LeapEntry) → IsTrue (ascends_after int_lt x.date (dates xs)) → IsTrue (ascends_after int_lt y.date (dates ys)) → Contains (y ∷ ys) x → Contains (x ∷ xs) y → x ≡ y
same_first x y xs ys first second here there =
    ⊎_elim (λ (same : y ≡ x). sym same)
    (λ (later : Contains ys x).
    ⊎_elim (λ (same : x ≡ y). same)
    (λ (also : Contains xs y). absurd (omega (arith, ints, before_all x xs y first also, before_all y ys x second later)))
    (first_or_later x y xs there))
    (first_or_later y x ys here)

in_rest : (x y : LeapEntry) (xs ys : List LeapEntry) → x ≡ y → IsTrue (ascends_after int_lt x.date (dates xs)) → ((z : LeapEntry) → Contains (x ∷ xs) z → Contains (y ∷ ys) z) → (z : LeapEntry) → Contains xs z → Contains ys z
in_rest x y xs ys same ascend into z is =
    ⊎_elim (λ (first : y ≡ z).
    let one : x.date ≡ z.date = ap (λ (it : LeapEntry). it.date) (same ∙ first) in
    absurd (omega (arith, ints, one, before_all x xs z ascend is)))
    (λ (later : Contains ys z). later)
    (first_or_later y z ys (into z (is_later x z xs is)))

same_ascending : (xs ys : List LeapEntry) → IsTrue (ascends int_lt (dates xs)) → IsTrue (ascends int_lt (dates ys)) → ((z : LeapEntry) → Contains xs z → Contains ys z) → ((z : LeapEntry) → Contains ys z → Contains xs z) → xs ≡ ys
same_ascending [] [] first second into back = refl
same_ascending [] (y ∷ ys) first second into back = absurd (never_in_none y (back y (is_first y ys)))
same_ascending (x ∷ xs) [] first second into back = absurd (never_in_none x (into x (is_first x xs)))
same_ascending (x ∷ xs) (y ∷ ys) first second into back =
    let same = same_first x y xs ys first second (into x (is_first x xs)) (back y (is_first y ys)) in
    let rest = same_ascending xs ys (ascends_later x.date xs first) (ascends_later y.date ys second) (in_rest x y xs ys same first into) (in_rest y x ys xs (sym same) second back) in
    λ i. same i ∷ rest i

same_leaps : (a b : Leaps) → a.entries ≡ b.entries → a.expires ≡ b.expires → a ≡ b
same_leaps a b entries expires =
    let sums : a.sums ≡ b.sums = a.summed ∙ ap (running_sums (pos 0)) entries ∙ sym b.summed in
    λ i. record {
      entries = entries i;
      expires = expires i;
      sums = sums i;
      ascending = is_prop→PathP (λ j. IsTrue (ascends int_lt (dates (entries j)))) (λ j. hlevel props) a.ascending b.ascending i;
      few_enough = is_prop→PathP (λ j. length (entries j) ≤ MOST_LEAPS) (λ j. hlevel props) a.few_enough b.few_enough i;
      summed = is_prop→PathP (λ j. sums j ≡ running_sums (pos 0) (entries j)) (λ j. hlevel props) a.summed b.summed i;
    }

pub one_leap_table : (text : List ℕ) (a b : Leaps) → ReadsLeaps text a → ReadsLeaps text b → a ≡ b
one_leap_table text a b first second =
    let contents = same_leap_contents text first.contents second.contents first.given second.given in
    let written = entries_of first.contents.leaps in
    let one : IsPermutation written a.entries = first.entries in
    let other : IsPermutation written b.entries = subst (λ it. IsPermutation (entries_of it.leaps) b.entries) (sym contents) second.entries in
    let entries : a.entries ≡ b.entries =
    same_ascending a.entries b.entries a.ascending b.ascending
    (λ z is. Contains-permutation written b.entries z other (Contains-permutation a.entries written z (IsPermutation-sym written a.entries one) is))
    (λ z is. Contains-permutation written a.entries z one (Contains-permutation b.entries written z (IsPermutation-sym written b.entries other) is)) in
    same_leaps a b entries (first.expires ∙ ap (λ (it : LeapContents). first_moment it.expiries) contents ∙ sym second.expires)

-- ---- what lines leave room for

first_clear : (row : Cause × Bool) (rows : List (Cause × Bool)) → least_cause (row ∷ rows) ≡ None → row.1 ≡ false
first_clear row rows h = by_test row.1 row.0 (least_cause rows) h
  where
    by_test : (holds : Bool) (cause : Cause) (rest : Option Cause) → (if holds then Some cause else rest) ≡ None → holds ≡ false
    by_test true cause rest e = cc
    by_test false cause rest e = refl

rest_clear : (row : Cause × Bool) (rows : List (Cause × Bool)) → least_cause (row ∷ rows) ≡ None → least_cause rows ≡ None
rest_clear row rows h = by_test row.1 row.0 (least_cause rows) h
  where
    by_test : (holds : Bool) (cause : Cause) (rest : Option Cause) → (if holds then Some cause else rest) ≡ None → rest ≡ None
    by_test true cause rest e = cc
    by_test false cause rest e = e

front_clear : (rows later : List (Cause × Bool)) → least_cause (rows ++ later) ≡ None → least_cause rows ≡ None
front_clear [] later h = refl
front_clear (row ∷ rows) later h =
    rw (first_clear row (rows ++ later) h) (front_clear rows later (rest_clear row (rows ++ later) h))

-- the rows behind some, and the row at a place
clear_after : (count : ℕ) (rows : List (Cause × Bool)) → least_cause rows ≡ None → least_cause (drop count rows) ≡ None
clear_after zero rows h = h
clear_after (suc count) [] h = refl
clear_after (suc count) (row ∷ rows) h = clear_after count rows (rest_clear row rows h)

clear_at : (place : ℕ) (rows : List (Cause × Bool)) (row : Cause × Bool) → least_cause rows ≡ None → slice_get rows place ≡ Some row → row.1 ≡ false
clear_at place [] row h e = cc
clear_at zero (first ∷ rows) row h e =
    let same : first ≡ row = cc in
    ap (λ (it : Cause × Bool). it.1) (sym same) ∙ first_clear first rows h
clear_at (suc place) (first ∷ rows) row h e = clear_at place rows row (rest_clear first rows h) e

pub nothing_said : {A : Type 0} (cause : Option Cause) (said told : A) → unless_cause cause said ≡ Ok told → (cause ≡ None) × (said ≡ told)
nothing_said None said told h = (refl, cc)
nothing_said (Some cause) said told h = cc

entry_room : (earlier : ℕ) (fields : List (List ℕ)) → least_cause (entry_causes earlier fields) ≡ None → earlier < MOST_LEAPS
unfolding entry_causes
entry_room earlier fields h =
    let room : nat_le MOST_LEAPS earlier ≡ false = clear_at 6 (entry_causes earlier fields) (causes.Limit, nat_le MOST_LEAPS earlier) h refl in
    grind (arith, nat_tests)

pub no_expiry : (entry : LeapEntry) (moment : Option ℤ) → option_map ExpiryRecord moment ≡ Some (SecondRecord entry) → ⊥
no_expiry entry None h = cc
no_expiry entry (Some moment) h = cc

kind_room : (earlier : ℕ) (kind : Option LeapKind) (fields : List (List ℕ)) (entry : LeapEntry) → (kind >>= λ it. leap_record_of it fields) ≡ Some (SecondRecord entry) → least_cause (leap_kind_causes earlier kind fields) ≡ None → earlier < MOST_LEAPS
kind_room earlier None fields entry e h = cc
kind_room earlier (Some SecondLine) fields entry e h = entry_room earlier fields (clear_after 1 (leap_kind_causes earlier (Some SecondLine) fields) h)
kind_room earlier (Some ExpiryLine) fields entry e h = absurd (no_expiry entry (moment_of fields) e)

fields_room : (earlier : ℕ) (fields : List (List ℕ)) (entry : LeapEntry) → leap_record_of_fields fields ≡ Some (SecondRecord entry) → least_cause (leap_field_causes earlier fields) ≡ None → earlier < MOST_LEAPS
unfolding leap_record_of_fields leap_field_causes
fields_room earlier [] entry e h = cc
fields_room earlier (keyword ∷ fields) entry e h = kind_room earlier (leap_kind_of keyword) (keyword ∷ fields) entry e h

-- a leap second that a line says is one for which there is room
pub leap_room : (number earlier : ℕ) (line : List ℕ) (entry : LeapEntry) → leap_line_says number earlier line ≡ Ok (Some (SecondRecord entry)) → earlier < MOST_LEAPS
unfolding leap_line_says
leap_room number earlier line entry h =
    let said = nothing_said (least_cause (leap_line_causes number earlier line)) (leap_record_of_fields (fields_or_none (fields_of line))) (Some (SecondRecord entry)) h in
    let fields_clear = clear_after 3 (leap_line_causes number earlier line) said.0 in
    fields_room earlier (fields_or_none (fields_of line)) entry said.1 (front_clear (leap_field_causes earlier (fields_or_none (fields_of line))) ((causes.Limit, nat_lt MOST_TEXT_LINES number) ∷ []) fields_clear)

-- ---- the lines of leap seconds rise, and those of expiries, and there are few leap seconds

abbrev pub LinesRise : {X : Type 0} → (X → ℕ) → ℕ → List X → ℕ → Type 0
LinesRise line low [] next = low ≤ next
LinesRise line low (x ∷ xs) next = (low ≤ line x) × LinesRise line (line x + 1) xs next

abbrev pub leap_line : WrittenLeap → ℕ
leap_line leap = leap.line

abbrev pub expiry_line : WrittenExpiry → ℕ
expiry_line expiry = expiry.line

pub record GoodLeaps (contents : LeapContents) (next : ℕ) : Type 0 where
  pub rise : LinesRise leap_line 0 contents.leaps next
  pub expiries_rise : LinesRise expiry_line 0 contents.expiries next
  pub few : length contents.leaps ≤ MOST_LEAPS

rise_on : {X : Type 0} (line : X → ℕ) (low : ℕ) (xs : List X) (next : ℕ) → LinesRise line low xs next → LinesRise line low xs (next + 1)
rise_on line low [] next h = omega (arith, h)
rise_on line low (x ∷ xs) next h = (h.0, rise_on line (line x + 1) xs next h.1)

rise_with : {X : Type 0} (line : X → ℕ) (low : ℕ) (xs : List X) (next : ℕ) (x : X) → line x ≡ next → LinesRise line low xs next → LinesRise line low (xs ++ x ∷ []) (next + 1)
rise_with line low [] next x is h = (omega (arith, is, h), omega (arith, is))
rise_with line low (y ∷ xs) next x is h = (h.0, rise_with line (line y + 1) xs next x is h.1)

pub good_with : (contents : LeapContents) (number : ℕ) (line : List ℕ) (said : Option LeapRecord) → leap_line_says number (length contents.leaps) line ≡ Ok said → GoodLeaps contents number → GoodLeaps (with_leap_record number said contents) (number + 1)
good_with contents number line None is good =
    record { rise = rise_on leap_line 0 contents.leaps number good.rise; expiries_rise = rise_on expiry_line 0 contents.expiries number good.expiries_rise; few = good.few }
good_with contents number line (Some (SecondRecord entry)) is good =
    record {
      rise = rise_with leap_line 0 contents.leaps number (record { entry = entry; line = number }) refl good.rise;
      expiries_rise = rise_on expiry_line 0 contents.expiries number good.expiries_rise;
      few = omega (arith, length-append contents.leaps (record { entry = entry; line = number } ∷ []), leap_room number (length contents.leaps) line entry is);
    }
good_with contents number line (Some (ExpiryRecord moment)) is good =
    record {
      rise = rise_on leap_line 0 contents.leaps number good.rise;
      expiries_rise = rise_with expiry_line 0 contents.expiries number (record { moment = moment; line = number }) refl good.expiries_rise;
      few = good.few;
    }

-- what lines give, by what the first of them says
abbrev pub given_by : LeapContents → ℕ → List (List ℕ) → Result (Option LeapRecord) Cause → Result LeapContents LineFault
given_by contents number lines (Ok said) = leap_contents_after (with_leap_record number said contents) (number + 1) lines
given_by contents number lines (Err cause) = Err (leap_fault number cause)

pub contents_step : (contents : LeapContents) (number : ℕ) (line : List ℕ) (lines : List (List ℕ)) → leap_contents_after contents number (line ∷ lines) ≡ given_by contents number lines (leap_line_says number (length contents.leaps) line)
unfolding leap_contents_after
contents_step contents number line lines = refl

pub contents_end : (contents : LeapContents) (number : ℕ) → leap_contents_after contents number [] ≡ Ok contents
unfolding leap_contents_after
contents_end contents number = refl

by_said : (contents found : LeapContents) (number : ℕ) (line : List ℕ) (lines : List (List ℕ)) (said : Result (Option LeapRecord) Cause) → leap_line_says number (length contents.leaps) line ≡ said → GoodLeaps contents number → ((next : LeapContents) → GoodLeaps next (number + 1) → leap_contents_after next (number + 1) lines ≡ Ok found → (last : ℕ) × GoodLeaps found last) → given_by contents number lines said ≡ Ok found → (last : ℕ) × GoodLeaps found last
by_said contents found number line lines (Ok told) is good next h =
    next (with_leap_record number told contents) (good_with contents number line told is good) h
by_said contents found number line lines (Err cause) is good next h = cc

good_after : (contents found : LeapContents) (number : ℕ) (lines : List (List ℕ)) → GoodLeaps contents number → leap_contents_after contents number lines ≡ Ok found → (last : ℕ) × GoodLeaps found last
good_after contents found number [] good h =
    let both : Ok contents ≡ Ok found = sym (contents_end contents number) ∙ h in
    let same : contents ≡ found = cc in
    (number, subst (λ it. GoodLeaps it number) same good)
good_after contents found number (line ∷ lines) good h =
    by_said contents found number line lines (leap_line_says number (length contents.leaps) line) refl good
    (λ next is e. good_after next found (number + 1) lines is e) (sym (contents_step contents number line lines) ∙ h)

pub text_good : (text : List ℕ) (contents : LeapContents) → leap_contents_of text ≡ Ok contents → (last : ℕ) × GoodLeaps contents last
unfolding leap_contents_of
text_good text contents h =
    good_after no_leap_contents contents 1 (lines_of text) (record { rise = omega arith; expiries_rise = omega arith; few = omega arith }) h

-- ---- and where none repeats a date, their dates differ

abbrev pub Each : {X : Type 0} → (X → Type 0) → List X → Type 0
Each P [] = Unit {0}
Each P (x ∷ xs) = P x × Each P xs

abbrev Away : ℤ → LeapEntry → Type 0
Away date entry = int_eq date entry.date ≡ false

abbrev Apart : List LeapEntry → Type 0
Apart [] = Unit {0}
Apart (x ∷ xs) = Each (Away x.date) xs × Apart xs

none_each : {X Y : Type 0} (f : X → Option Y) (xs : List X) (x : X) → filter_map f xs ≡ [] → Contains xs x → f x ≡ None
none_each f [] x h is = absurd (never_in_none x is)
none_each {Y = Y} f (y ∷ ys) x h is =
    let parts = split (f y) refl h in
    ⊎_elim (λ (here : y ≡ x). subst (λ it. f it ≡ None) here parts.0)
    (λ (later : Contains ys x). none_each f ys x parts.1 later)
    (first_or_later y x ys is)
  where
    split : (value : Option Y) → f y ≡ value → filter_map f (y ∷ ys) ≡ [] → (f y ≡ None) × (filter_map f ys ≡ [])
    split None is h = (is, rw is at h)
    split (Some z) is h = let bad : z ∷ filter_map f ys ≡ [] = rw is at h in absurd (cc)

any_each : {X : Type 0} (p : X → Bool) (xs : List X) (x : X) → list_any p xs ≡ false → Contains xs x → p x ≡ false
any_each p [] x h is = absurd (never_in_none x is)
any_each p (y ∷ ys) x h is =
    let parts = neither (p y) (list_any p ys) h in
    ⊎_elim (λ (here : y ≡ x). subst (λ it. p it ≡ false) here parts.0)
    (λ (later : Contains ys x). any_each p ys x parts.1 later)
    (first_or_later y x ys is)
  where
    neither : (a b : Bool) → (a || b) ≡ false → (a ≡ false) × (b ≡ false)
    neither true b h = absurd (cc)
    neither false b h = (refl, h)

no_fault_where : (holds : Bool) (number : ℕ) (cause : Cause) → leap_fault_where holds number cause ≡ None → holds ≡ false
no_fault_where true number cause h = cc
no_fault_where false number cause h = refl

no_repeat : (all : List WrittenLeap) (a b : WrittenLeap) → filter_map (repeated_leap all) all ≡ [] → Contains all a → Contains all b → (int_eq a.entry.date b.entry.date && nat_lt a.line b.line) ≡ false
no_repeat all a b none first second =
    let here = none_each (repeated_leap all) all b none second in
    any_each (λ (other : WrittenLeap). int_eq other.entry.date b.entry.date && nat_lt other.line b.line) all a (no_fault_where (list_any (λ (other : WrittenLeap). int_eq other.entry.date b.entry.date && nat_lt other.line b.line) all) b.line causes.LeapRepeat here) first

away_one : (same before : Bool) → before ≡ true → (same && before) ≡ false → same ≡ false
away_one true before h k = let bad : true ≡ false = sym h ∙ k in absurd (cc)
away_one false before h k = refl

away_each : (all : List WrittenLeap) (a : WrittenLeap) (rest : List WrittenLeap) (low next : ℕ) → a.line < low → LinesRise leap_line low rest next → filter_map (repeated_leap all) all ≡ [] → Contains all a → ((z : WrittenLeap) → Contains rest z → Contains all z) → Each (Away a.entry.date) (entries_of rest)
away_each all a [] low next below rise none is into = tt
away_each all a (b ∷ rest) low next below rise none is into =
    let before : nat_lt a.line b.line ≡ true = on_numbers a.line b.line low below rise.0 in (
      away_one (int_eq a.entry.date b.entry.date) (nat_lt a.line b.line) before (no_repeat all a b none is (into b (is_first b rest))),
      away_each all a rest (b.line + 1) next (omega (arith, rise.0)) rise.1 none is (λ z there. into z (is_later b z rest there)),
    )
  where
    on_numbers : (a b low : ℕ) → a < low → low ≤ b → nat_lt a b ≡ true
    on_numbers a b low below upto = grind (arith, nat_tests)

apart_all : (all rest : List WrittenLeap) (low next : ℕ) → LinesRise leap_line low rest next → filter_map (repeated_leap all) all ≡ [] → ((z : WrittenLeap) → Contains rest z → Contains all z) → Apart (entries_of rest)
apart_all all [] low next rise none into = tt
apart_all all (a ∷ rest) low next rise none into = (
  away_each all a rest (a.line + 1) next (omega arith) rise.1 none (into a (is_first a rest)) (λ z there. into z (is_later a z rest there)),
  apart_all all rest (a.line + 1) next rise.1 none (λ z there. into z (is_later a z rest there)),
)

-- ---- entries put in the order of their dates

abbrev put : LeapEntry → List LeapEntry → List LeapEntry
put x [] = x ∷ []
put x (y ∷ ys) = if int_lt x.date y.date then x ∷ y ∷ ys else y ∷ put x ys

abbrev sorted : List LeapEntry → List LeapEntry
sorted [] = []
sorted (x ∷ xs) = put x (sorted xs)

put_permutes : (x : LeapEntry) (ys : List LeapEntry) → IsPermutation (x ∷ ys) (put x ys)
put_permutes x [] = IsPermutation-refl (x ∷ [])
put_permutes x (y ∷ ys) =
    ⊎_elim (λ (before : int_lt x.date y.date ≡ true). rw before (IsPermutation-refl (x ∷ y ∷ ys)))
    (λ (after : int_lt x.date y.date ≡ false).
    rw after (IsPermutation-trans (x ∷ y ∷ ys) (y ∷ x ∷ ys) (y ∷ put x ys) (IsPermutation-middle (x ∷ []) y ys) (IsPermutation-cons y (x ∷ ys) (put x ys) (put_permutes x ys))))
    (cases_Bool (int_lt x.date y.date))

sorted_permutes : (xs : List LeapEntry) → IsPermutation xs (sorted xs)
sorted_permutes [] = IsPermutation-refl []
sorted_permutes (x ∷ xs) =
    IsPermutation-trans (x ∷ xs) (x ∷ sorted xs) (put x (sorted xs)) (IsPermutation-cons x xs (sorted xs) (sorted_permutes xs)) (put_permutes x (sorted xs))

each_put : (P : LeapEntry → Type 0) (x : LeapEntry) (ys : List LeapEntry) → P x → Each P ys → Each P (put x ys)
each_put P x [] here each = (here, tt)
each_put P x (y ∷ ys) here each =
    ⊎_elim (λ (before : int_lt x.date y.date ≡ true). rw before (here, each))
    (λ (after : int_lt x.date y.date ≡ false). rw after (each.0, each_put P x ys here each.1))
    (cases_Bool (int_lt x.date y.date))

each_sorted : (P : LeapEntry → Type 0) (xs : List LeapEntry) → Each P xs → Each P (sorted xs)
each_sorted P [] each = tt
each_sorted P (x ∷ xs) each = each_put P x (sorted xs) each.0 (each_sorted P xs each.1)

else_before : (a b : ℤ) → int_lt a b ≡ false → int_eq a b ≡ false → IsTrue (int_lt b a)
else_before a b h k = grind (arith, ints)

put_after : (first : ℤ) (x : LeapEntry) (ys : List LeapEntry) → IsTrue (int_lt first x.date) → Each (Away x.date) ys → IsTrue (ascends_after int_lt first (dates ys)) → IsTrue (ascends_after int_lt first (dates (put x ys)))
put_after first x [] before away h = rw before refl
put_after first x (y ∷ ys) before away h =
    let both = both_hold (int_lt first y.date) (ascends_after int_lt y.date (dates ys)) h in
    ⊎_elim (λ (here : int_lt x.date y.date ≡ true). rw (here, before, here) both.1)
    (λ (after : int_lt x.date y.date ≡ false).
    rw (after, both.0) (put_after y.date x ys (else_before x.date y.date after away.0) away.1 both.1))
    (cases_Bool (int_lt x.date y.date))

put_ascends : (x : LeapEntry) (ys : List LeapEntry) → Each (Away x.date) ys → IsTrue (ascends int_lt (dates ys)) → IsTrue (ascends int_lt (dates (put x ys)))
put_ascends x [] away h = refl
put_ascends x (y ∷ ys) away h =
    ⊎_elim (λ (here : int_lt x.date y.date ≡ true). rw (here, here) h)
    (λ (after : int_lt x.date y.date ≡ false).
    rw after (put_after y.date x ys (else_before x.date y.date after away.0) away.1 h))
    (cases_Bool (int_lt x.date y.date))

sorted_ascends : (xs : List LeapEntry) → Apart xs → IsTrue (ascends int_lt (dates (sorted xs)))
sorted_ascends [] apart = refl
sorted_ascends (x ∷ xs) apart = put_ascends x (sorted xs) (each_sorted (Away x.date) xs apart.0) (sorted_ascends xs apart.1)

-- ---- at least one

no_repeats : (contents : LeapContents) → leap_faults contents ≡ [] → filter_map (repeated_leap contents.leaps) contents.leaps ≡ []
unfolding leap_faults
no_repeats contents h =
    let repeats = filter_map (repeated_leap contents.leaps) contents.leaps in
    let twice = filter_map (repeated_expiry contents.expiries) contents.expiries in
    let early = filter_map (early_expiry contents.leaps) contents.expiries in
    none_first repeats twice (none_first (repeats ++ twice) early h)

table : (text : List ℕ) (contents : LeapContents) (last : ℕ) → leap_contents_of text ≡ Ok contents → GoodLeaps contents last → leap_faults contents ≡ [] → (leaps : Leaps) × ReadsLeaps text leaps
table text contents last given good none =
    let written = entries_of contents.leaps in
    let entries = sorted written in
    let apart = apart_all contents.leaps contents.leaps 0 last good.rise (no_repeats contents none) (λ z is. is) in
    let count : length written ≡ length contents.leaps = length-map contents.leaps (λ (it : WrittenLeap). it.entry) in (
      record {
        entries = entries;
        expires = first_moment contents.expiries;
        sums = running_sums (pos 0) entries;
        ascending = sorted_ascends written apart;
        few_enough = omega (arith, length_permutation written entries (sorted_permutes written), count, good.few);
        summed = refl;
      },
      record { contents = contents; given = given; no_fault = none; entries = sorted_permutes written; expires = refl },
    )

by_faults : (text : List ℕ) (contents : LeapContents) (last : ℕ) → leap_contents_of text ≡ Ok contents → GoodLeaps contents last → (faults : List LineFault) → leap_faults contents ≡ faults → ((leaps : Leaps) × ReadsLeaps text leaps) ⊎ ((fault : LineFault) × RefusesLeaps text fault)
by_faults text contents last given good [] is = inl (table text contents last given good is)
by_faults text contents last given good (fault ∷ faults) is =
    let found = least_exists fault faults in
    let whole : RefusesWholeLeaps text found.0 =
    record { contents = contents; given = given; least = subst (λ it. IsLeast it found.0) (sym is) found.1 } in
    inr (found.0, inr whole)

by_contents : (text : List ℕ) (outcome : Result LeapContents LineFault) → leap_contents_of text ≡ outcome → ((leaps : Leaps) × ReadsLeaps text leaps) ⊎ ((fault : LineFault) × RefusesLeaps text fault)
by_contents text (Err fault) is = inr (fault, inl is)
by_contents text (Ok contents) is =
    let good = text_good text contents is in
    by_faults text contents good.0 is good.1 (leap_faults contents) refl

pub leaps_read_or_refused : (text : List ℕ) → ((leaps : Leaps) × ReadsLeaps text leaps) ⊎ ((fault : LineFault) × RefusesLeaps text fault)
leaps_read_or_refused text = by_contents text (leap_contents_of text) refl

-- What a further range adds to what is found of a local time.
use Rattle.std.proofs.Common.{◌≡◌, true, false, refl, sym, ap, ◌∙◌, List, [], ◌∷◌, ◌++◌, ℤ}
use Rattle.std.proofs.lemmas.Bool.{cond-true, cond-false}
use Rattle.std.proofs.lemmas.List.{append-nil}
use Rattle.std.proofs.lemmas.List.Elements.{filter-append}
use Rattle.tz_types.specs.declared.range.SysInfo.{SysInfo}
use Rattle.tz_types.specs.declared.range.LocalInfo.{LocalInfo}
use Rattle.tz_types.specs.declared.range.LocalInfo.TheVariants.{Unique, Nonexistent, Ambiguous}
use Rattle.tz_specs.specs.Local.{shows_local, candidates, begins_by, from_last_begun, last_from}
use Rattle.tz_specs.proofs.Tests.{by_test}
use Rattle.tz_local.specs.declared.findings.Findings.TheVariants.{Begun, Told}
use Rattle.tz_local.specs.Findings.{AreFindings}

by_list : {P X : Type 0} (xs : List X) → (xs ≡ [] → P) → ((x : X) (ys : List X) → xs ≡ x ∷ ys → P) → P
by_list [] none more = none refl
by_list (x ∷ ys) none more = more x ys refl

-- ---- candidates
candidates-shown : (seen : List SysInfo) (l : ℤ) (range : SysInfo) → shows_local l range ≡ true → candidates (seen ++ range ∷ []) l ≡ candidates seen l ++ range ∷ []
candidates-shown seen l range shows =
    filter-append (shows_local l) seen (range ∷ [])
    ∙ ap (λ (rs : List SysInfo). candidates seen l ++ rs) (cond-true (shows_local l range) (range ∷ []) [] shows)

candidates-hidden : (seen : List SysInfo) (l : ℤ) (range : SysInfo) → shows_local l range ≡ false → candidates (seen ++ range ∷ []) l ≡ candidates seen l
candidates-hidden seen l range hidden =
    filter-append (shows_local l) seen (range ∷ [])
    ∙ ap (λ (rs : List SysInfo). candidates seen l ++ rs) (cond-false (shows_local l range) (range ∷ []) [] hidden)
    ∙ append-nil (candidates seen l)

-- ---- the list from the last range that has begun
begun-later : (l : ℤ) (range begun : SysInfo) (later others : List SysInfo) → from_last_begun later l ≡ begun ∷ others → from_last_begun (range ∷ later) l ≡ begun ∷ others
begun-later l range begun later others e = rw e

begun-here : (l : ℤ) (range : SysInfo) (later : List SysInfo) → from_last_begun later l ≡ [] → begins_by l range ≡ true → from_last_begun (range ∷ later) l ≡ range ∷ later
begun-here l range later e begins = rw e (cond-true (begins_by l range) (range ∷ later) [] begins)

begun-none : (l : ℤ) (range : SysInfo) (later : List SysInfo) → from_last_begun later l ≡ [] → begins_by l range ≡ false → from_last_begun (range ∷ later) l ≡ []
begun-none l range later e begins = rw e (cond-false (begins_by l range) (range ∷ later) [] begins)

from_last_begun-begun : (seen : List SysInfo) (l : ℤ) (range : SysInfo) → begins_by l range ≡ true → from_last_begun (seen ++ range ∷ []) l ≡ range ∷ []
from_last_begun-begun [] l range begins = begun-here l range [] refl begins
from_last_begun-begun (first ∷ seen) l range begins =
    begun-later l first range (seen ++ range ∷ []) [] (from_last_begun-begun seen l range begins)

from_last_begun-none : (seen : List SysInfo) (l : ℤ) (range : SysInfo) → from_last_begun seen l ≡ [] → begins_by l range ≡ false → from_last_begun (seen ++ range ∷ []) l ≡ []
from_last_begun-none [] l range none late = begun-none l range [] refl late
from_last_begun-none (first ∷ seen) l range none late =
    by_list (from_last_begun seen l)
    (λ nothing.
    by_test (begins_by l first) (λ begins. let here = begun-here l first seen nothing begins in cc)
    (λ early. begun-none l first (seen ++ range ∷ []) (from_last_begun-none seen l range nothing late) early))
    (λ begun others is. let more = begun-later l first begun seen others is in cc)

from_last_begun-kept : (seen : List SysInfo) (l : ℤ) (range first : SysInfo) (others : List SysInfo) → from_last_begun seen l ≡ first ∷ others → begins_by l range ≡ false → from_last_begun (seen ++ range ∷ []) l ≡ first ∷ (others ++ range ∷ [])
from_last_begun-kept [] l range first others e late = cc
from_last_begun-kept (other ∷ seen) l range first others e late =
    by_list (from_last_begun seen l)
    (λ nothing.
    by_test (begins_by l other)
    (λ begins.
    let here = begun-here l other seen nothing begins in
    let rest = from_last_begun-none seen l range nothing late in
    let made = begun-here l other (seen ++ range ∷ []) rest begins in
    let heads : other ≡ first = cc in
    let tails : seen ≡ others = cc in
    made ∙ ap (λ (r : SysInfo). r ∷ (seen ++ range ∷ [])) heads ∙ ap (λ (rs : List SysInfo). first ∷ (rs ++ range ∷ [])) tails)
    (λ early. let none = begun-none l other seen nothing early in cc))
    (λ begun rest is.
    let more = begun-later l other begun seen rest is in
    let there : from_last_begun seen l ≡ first ∷ others = is ∙ (sym more ∙ e) in
    begun-later l other first (seen ++ range ∷ []) (others ++ range ∷ []) (from_last_begun-kept seen l range first others there late))

last_from-end : (first : SysInfo) (later : List SysInfo) (range : SysInfo) → last_from first (later ++ range ∷ []) ≡ range
last_from-end first [] range = refl
last_from-end first (next ∷ later) range = last_from-end next later range

-- ---- a range that shows l
pub second_candidate : (seen : List SysInfo) (l : ℤ) (range first : SysInfo) → shows_local l range ≡ true → candidates seen l ≡ first ∷ [] → AreFindings (seen ++ range ∷ []) l (Told (Ambiguous first range))
second_candidate seen l range first shows one = (
  range,
  [],
  candidates-shown seen l range shows ∙ ap (λ (rs : List SysInfo). rs ++ range ∷ []) one,
  refl,
)

pub further_candidate : (seen : List SysInfo) (l : ℤ) (range first second : SysInfo) → shows_local l range ≡ true → AreFindings seen l (Told (Ambiguous first second)) → AreFindings (seen ++ range ∷ []) l (Told (Ambiguous first range))
further_candidate seen l range first second shows found = (
  found.0,
  found.1 ++ range ∷ [],
  candidates-shown seen l range shows ∙ ap (λ (rs : List SysInfo). rs ++ range ∷ []) found.2,
  last_from-end found.0 found.1 range,
)

-- ---- one that doesn't, but has begun
pub one_more_begun : (seen : List SysInfo) (l : ℤ) (range : SysInfo) → shows_local l range ≡ false → begins_by l range ≡ true → candidates seen l ≡ [] → AreFindings (seen ++ range ∷ []) l (Begun range)
one_more_begun seen l range hidden begins none =
    (candidates-hidden seen l range hidden ∙ none, from_last_begun-begun seen l range begins)

pub still_unique : (seen : List SysInfo) (l : ℤ) (range only : SysInfo) → shows_local l range ≡ false → AreFindings seen l (Told (Unique only)) → AreFindings (seen ++ range ∷ []) l (Told (Unique only))
still_unique seen l range only hidden found = candidates-hidden seen l range hidden ∙ found

pub still_ambiguous : (seen : List SysInfo) (l : ℤ) (range first second : SysInfo) → shows_local l range ≡ false → AreFindings seen l (Told (Ambiguous first second)) → AreFindings (seen ++ range ∷ []) l (Told (Ambiguous first second))
still_ambiguous seen l range first second hidden found =
    (found.0, found.1, candidates-hidden seen l range hidden ∙ found.2, found.3)

-- ---- one that has not begun
pub gap_opens : (seen : List SysInfo) (l : ℤ) (range first : SysInfo) → shows_local l range ≡ false → begins_by l range ≡ false → AreFindings seen l (Begun first) → AreFindings (seen ++ range ∷ []) l (Told (Nonexistent first range))
gap_opens seen l range first hidden late found =
    ([], candidates-hidden seen l range hidden ∙ found.0, from_last_begun-kept seen l range first [] found.1 late)

pub still_told : (seen : List SysInfo) (l : ℤ) (range : SysInfo) (info : LocalInfo) → shows_local l range ≡ false → begins_by l range ≡ false → AreFindings seen l (Told info) → AreFindings (seen ++ range ∷ []) l (Told info)
still_told seen l range (Unique only) hidden late found =
    still_unique seen l range only hidden found
still_told seen l range (Ambiguous first second) hidden late found =
    still_ambiguous seen l range first second hidden found
still_told seen l range (Nonexistent first second) hidden late found = (
  found.0 ++ range ∷ [],
  candidates-hidden seen l range hidden ∙ found.1,
  from_last_begun-kept seen l range first (second ∷ found.0) found.2 late,
)

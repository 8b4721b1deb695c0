-- What local times stand for.
use Rattle.std.proofs.Common.{◌≡◌, ℕ, zero, suc, ◌<◌, true, false, ◌⊎◌, inl, inr, ⊎_elim, refl, sym, ap, subst, ◌∙◌, arith, List, [], ◌∷◌, ℤ, pos, ◌+ℤ◌, ◌-ℤ◌, ◌<ℤ◌, ◌≤ℤ◌, Option, Some, None, IsSome, Contains}
use Rattle.std.specs.Prelude.{slice_get, int_le, int_lt}
use Rattle.std.proofs.lemmas.Int.{ints, by_lt_z}
use Rattle.std.proofs.lemmas.Bool.{cond-true, cond-false, and_parts, and_from, false_from_ne_true}
use Rattle.std.proofs.lemmas.Option.{same_Some, none-some}
use Rattle.jiff_core.specs.Calendar.{IsWithin}
use Rattle.tz_types.specs.declared.limit.TheConstants.{LONGEST_OFFSET}
use Rattle.tz_types.specs.declared.range.SysInfo.{SysInfo}
use Rattle.tz_types.specs.declared.range.LocalInfo.{LocalInfo}
use Rattle.tz_types.specs.declared.range.LocalInfo.TheVariants.{Unique, Nonexistent, Ambiguous}
use Rattle.tz_specs.specs.Local.{shows_local, candidates, begins_by, from_last_begun, gap_between, last_from, local_info}
use Rattle.tz_specs.specs.Cover.{Covers}
use Rattle.tz_specs.specs.Shown.{IsShownOnce, IsShownTwice, IsInGap}
use Rattle.tz_specs.proofs.Tests.{by_test, not_both, int_le-true, int_le-false, int_lt-true, le-int_le, lt-int_lt}
use Rattle.tz_specs.proofs.ListLemmas.{In, In-from_Contains, Contains-from_In, In-filter, In-filter_back, In-from_get, Pairs, Pairs-filter}

pub by_length : {P X : Type 0} (xs : List X) → (xs ≡ [] → P) → ((x : X) → xs ≡ x ∷ [] → P) → ((x y : X) (zs : List X) → xs ≡ x ∷ y ∷ zs → P) → P
by_length [] none one more = none refl
by_length (x ∷ []) none one more = one x refl
by_length (x ∷ y ∷ zs) none one more = more x y zs refl

by_list : {P X : Type 0} (xs : List X) → (xs ≡ [] → P) → ((x : X) (ys : List X) → xs ≡ x ∷ ys → P) → P
by_list [] none more = none refl
by_list (x ∷ ys) none more = more x ys refl

-- ---- the three answers
pub local_info-none : (ranges : List SysInfo) (l : ℤ) → candidates ranges l ≡ [] → local_info ranges l ≡ gap_between (from_last_begun ranges l)
unfolding local_info
local_info-none ranges l e = rw e

pub local_info-one : (ranges : List SysInfo) (l : ℤ) (range : SysInfo) → candidates ranges l ≡ range ∷ [] → local_info ranges l ≡ Some (Unique range)
unfolding local_info
local_info-one ranges l range e = rw e

pub local_info-more : (ranges : List SysInfo) (l : ℤ) (range next : SysInfo) (later : List SysInfo) → candidates ranges l ≡ range ∷ next ∷ later → local_info ranges l ≡ Some (Ambiguous range (last_from next later))
unfolding local_info
local_info-more ranges l range next later e = rw e

-- ---- being shown, and having begun
pub shows-true : (l : ℤ) (range : SysInfo) → shows_local l range ≡ true → (range.begin ≤ℤ (l -ℤ range.offset)) × ((l -ℤ range.offset) <ℤ range.end)
shows-true l range h =
    let parts = and_parts (int_le range.begin (l -ℤ range.offset)) (int_lt (l -ℤ range.offset) range.end) h in
    (int_le-true range.begin (l -ℤ range.offset) parts.0, int_lt-true (l -ℤ range.offset) range.end parts.1)

pub true-shows : (l : ℤ) (range : SysInfo) → range.begin ≤ℤ (l -ℤ range.offset) → (l -ℤ range.offset) <ℤ range.end → shows_local l range ≡ true
true-shows l range low high =
    and_from (int_le range.begin (l -ℤ range.offset)) (int_lt (l -ℤ range.offset) range.end) (le-int_le range.begin (l -ℤ range.offset) low) (lt-int_lt (l -ℤ range.offset) range.end high)

pub begins-true : (l : ℤ) (range : SysInfo) → begins_by l range ≡ true → (range.begin +ℤ range.offset) ≤ℤ l
begins-true l range h = int_le-true (range.begin +ℤ range.offset) l h

pub begins-false : (l : ℤ) (range : SysInfo) → begins_by l range ≡ false → l <ℤ (range.begin +ℤ range.offset)
begins-false l range h = int_le-false (range.begin +ℤ range.offset) l h

-- ---- the list from the last range that has begun
begun-later : (l : ℤ) (range begun : SysInfo) (later others : List SysInfo) → from_last_begun later l ≡ begun ∷ others → from_last_begun (range ∷ later) l ≡ begun ∷ others
begun-later l range begun later others e = rw e

begun-here : (l : ℤ) (range : SysInfo) (later : List SysInfo) → from_last_begun later l ≡ [] → begins_by l range ≡ true → from_last_begun (range ∷ later) l ≡ range ∷ later
begun-here l range later e begins = rw e (cond-true (begins_by l range) (range ∷ later) [] begins)

begun-none : (l : ℤ) (range : SysInfo) (later : List SysInfo) → from_last_begun later l ≡ [] → begins_by l range ≡ false → from_last_begun (range ∷ later) l ≡ []
begun-none l range later e begins = rw e (cond-false (begins_by l range) (range ∷ later) [] begins)

cons-nil : {P X : Type 0} (xs : List X) (x : X) (ys : List X) → xs ≡ [] → xs ≡ x ∷ ys → P
cons-nil xs x ys none more = cc

-- where the list is empty, no range has begun
pub none_begun : (ranges : List SysInfo) (l : ℤ) (range : SysInfo) → from_last_begun ranges l ≡ [] → In range ranges → begins_by l range ≡ false
none_begun [] l range e has = absurd has
none_begun (first ∷ later) l range e has =
    by_list (from_last_begun later l)
    (λ none.
    ⊎_elim
    (λ (same : first ≡ range).
    by_test (begins_by l first) (λ begins. cons-nil (from_last_begun (first ∷ later) l) first later e (begun-here l first later none begins))
    (λ begins. rw (← same) begins))
    (λ (rest : In range later). none_begun later l range none rest) has)
    (λ begun others is. cons-nil (from_last_begun (first ∷ later) l) begun others e (begun-later l first begun later others is))

-- where it is not, its first range has begun, and stands in the list right before the next one, which hasn't
pub record IsLastBegun (ranges : List SysInfo) (l : ℤ) (begun : SysInfo) (others : List SysInfo) : Type 0 where
  pub place : ℕ
  pub here : slice_get ranges place ≡ Some begun
  pub next : slice_get ranges (suc place) ≡ slice_get others 0
  pub begins : begins_by l begun ≡ true
  pub later : (range : SysInfo) → In range others → begins_by l range ≡ false
  pub after : (k : ℕ) (range : SysInfo) → place < k → slice_get ranges k ≡ Some range → begins_by l range ≡ false

cons-parts : {X : Type 0} (x y : X) (xs ys : List X) → x ∷ xs ≡ y ∷ ys → (x ≡ y) × (xs ≡ ys)
cons-parts x y xs ys e = (cc, cc)

beyond_first : (first : SysInfo) (later : List SysInfo) (l : ℤ) → ((k : ℕ) (range : SysInfo) → slice_get later k ≡ Some range → begins_by l range ≡ false) → (k : ℕ) (range : SysInfo) → 0 < k → slice_get (first ∷ later) k ≡ Some range → begins_by l range ≡ false
beyond_first first later l rest zero range below there = absurd (omega (arith, below))
beyond_first first later l rest (suc k) range below there = rest k range there

beyond : (first : SysInfo) (later : List SysInfo) (l : ℤ) (place : ℕ) → ((k : ℕ) (range : SysInfo) → place < k → slice_get later k ≡ Some range → begins_by l range ≡ false) → (k : ℕ) (range : SysInfo) → suc place < k → slice_get (first ∷ later) k ≡ Some range → begins_by l range ≡ false
beyond first later l place rest zero range below there = absurd (omega (arith, below))
beyond first later l place rest (suc k) range below there = rest k range (omega (arith, below)) there

pub last_begun : (ranges : List SysInfo) (l : ℤ) (begun : SysInfo) (others : List SysInfo) → from_last_begun ranges l ≡ begun ∷ others → IsLastBegun ranges l begun others
last_begun [] l begun others e = cons-nil [] begun others refl e
last_begun (first ∷ later) l begun others e =
    by_list (from_last_begun later l)
    (λ none.
    by_test (begins_by l first)
    (λ begins.
    let parts = cons-parts first begun later others (sym (begun-here l first later none begins) ∙ e) in
    let at_first : IsLastBegun (first ∷ later) l first later =
    record {
      place = 0;
      here = refl;
      next = refl;
      begins = begins;
      later = λ range has. none_begun later l range none has;
      after = beyond_first first later l (λ k range there. none_begun later l range none (In-from_get later k range there));
    } in
    subst (λ (r : SysInfo). IsLastBegun (first ∷ later) l r others) parts.0
    (subst (λ (rs : List SysInfo). IsLastBegun (first ∷ later) l first rs) parts.1 at_first))
    (λ begins. cons-nil (from_last_begun (first ∷ later) l) begun others (begun-none l first later none begins) e))
    (λ other rest is.
    let rest_is : from_last_begun later l ≡ begun ∷ others = is ∙ (sym (begun-later l first other later rest is) ∙ e) in
    let found = last_begun later l begun others rest_is in
    record {
      place = suc found.place;
      here = found.here;
      next = found.next;
      begins = found.begins;
      later = found.later;
      after = beyond first later l found.place found.after;
    })

-- ---- the last range shows what is before its end
pub last_end : (a b : ℤ) (ranges : List SysInfo) (place : ℕ) (range : SysInfo) → Covers a b ranges → slice_get ranges place ≡ Some range → slice_get ranges (suc place) ≡ None → range.end ≡ b
last_end a b [] place range covers here past = absurd (none-some range here)
last_end a b (first ∷ []) zero range covers here past =
    let same : first ≡ range = same_Some first range here in
    let ends : first.end ≡ b = covers.2 in
    rw (← same) ends
last_end a b (first ∷ next ∷ later) zero range covers here past = absurd (none-some next (sym past))
last_end a b (first ∷ later) (suc place) range covers here past = last_end first.end b later place range covers.2 here past

-- a neighbour begins where the one before it ends
pub neighbours : (a b : ℤ) (ranges : List SysInfo) (place : ℕ) (range next : SysInfo) → Covers a b ranges → slice_get ranges place ≡ Some range → slice_get ranges (suc place) ≡ Some next → next.begin ≡ range.end
neighbours a b [] place range next covers here there = absurd (none-some range here)
neighbours a b (first ∷ []) zero range next covers here there = absurd (none-some next there)
neighbours a b (first ∷ second ∷ later) zero range next covers here there =
    let same : first ≡ range = same_Some first range here in
    let same_next : second ≡ next = same_Some second next there in
    let begins : second.begin ≡ first.end = covers.2.0 in
    rw (← same) (rw (← same_next) begins)
neighbours a b (first ∷ later) (suc place) range next covers here there =
    neighbours first.end b later place range next covers.2 here there

-- ---- where none shows l, a range that has begun has ended
pub not_shown : (ranges : List SysInfo) (l : ℤ) (range : SysInfo) → candidates ranges l ≡ [] → In range ranges → shows_local l range ≡ false
not_shown ranges l range none has =
    false_from_ne_true (shows_local l range)
    (λ shows.
    let there : In range (candidates ranges l) = In-filter (shows_local l) ranges range has shows in
    let there' : In range [] = rw none at there in
    there')

pub has_ended : (l : ℤ) (range : SysInfo) → begins_by l range ≡ true → shows_local l range ≡ false → (range.end +ℤ range.offset) ≤ℤ l
has_ended l range begins hidden =
    let low : (range.begin +ℤ range.offset) ≤ℤ l = begins-true l range begins in
    by_lt_z l (range.end +ℤ range.offset)
    (λ before. not_both (shows_local l range) (true-shows l range (omega (arith, ints)) (omega (arith, ints))) hidden)
    (λ after. after)

pub some_is : {X : Type 0} (o : Option X) (x : X) → o ≡ Some x → IsSome o
some_is o x e = rw e

-- ---- inside the margins each local time is told
pub told_inside : (a b l : ℤ) (ranges : List SysInfo) → Covers a b ranges → ((range : SysInfo) → In range ranges → IsWithin LONGEST_OFFSET range.offset) → (a +ℤ pos LONGEST_OFFSET) ≤ℤ l → l <ℤ (b -ℤ pos LONGEST_OFFSET) → IsSome (local_info ranges l)
told_inside a b l ranges covers small low high =
    by_length (candidates ranges l)
    (λ none. gap_inside a b l ranges covers small low high none)
    (λ range one. some_is (local_info ranges l) (Unique range) (local_info-one ranges l range one))
    (λ range next later more. some_is (local_info ranges l) (Ambiguous range (last_from next later)) (local_info-more ranges l range next later more))
  where
    gap_inside : (a b l : ℤ) (ranges : List SysInfo) → Covers a b ranges → ((range : SysInfo) → In range ranges → IsWithin LONGEST_OFFSET range.offset) → (a +ℤ pos LONGEST_OFFSET) ≤ℤ l → l <ℤ (b -ℤ pos LONGEST_OFFSET) → candidates ranges l ≡ [] → IsSome (local_info ranges l)
    gap_inside a b l [] covers small low high none = absurd (omega (arith, ints))
    gap_inside a b l (first ∷ later) covers small low high none =
        let ranges : List SysInfo = first ∷ later in
        by_length (from_last_begun ranges l)
        (λ nothing.
        let begins : first.begin ≡ a = covers.0 in
        let late = begins-false l first (none_begun ranges l first nothing (inl refl)) in
        let offset = small first (inl refl) in
        absurd (omega (arith, ints, late, offset)))
        (λ begun alone.
        let last = last_begun ranges l begun [] alone in
        let among : In begun ranges = In-from_get ranges last.place begun last.here in
        let ended = has_ended l begun last.begins (not_shown ranges l begun none among) in
        let ends : begun.end ≡ b = last_end a b ranges last.place begun covers last.here last.next in
        let offset = small begun among in
        absurd (omega (arith, ints, ended, offset)))
        (λ begun next others both.
        let gap : gap_between (from_last_begun ranges l) ≡ Some (Nonexistent begun next) = rw both in
        some_is (local_info ranges l) (Nonexistent begun next) (local_info-none ranges l none ∙ gap))

-- ---- what each answer says
abbrev Rank : LocalInfo → ℕ
Rank (Unique range) = 0
Rank (Ambiguous first second) = 1
Rank (Nonexistent first second) = 2

gap-cases : {P : Type 0} (ranges : List SysInfo) (l : ℤ) (info : LocalInfo) → candidates ranges l ≡ [] → local_info ranges l ≡ Some info → ((begun next : SysInfo) (others : List SysInfo) → from_last_begun ranges l ≡ begun ∷ next ∷ others → Nonexistent begun next ≡ info → P) → P
gap-cases ranges l info none told gap =
    by_length (from_last_begun ranges l)
    (λ nothing.
    let is : gap_between (from_last_begun ranges l) ≡ None = rw nothing in
    absurd (none-some info (sym is ∙ sym (local_info-none ranges l none) ∙ told)))
    (λ begun alone.
    let is : gap_between (from_last_begun ranges l) ≡ None = rw alone in
    absurd (none-some info (sym is ∙ sym (local_info-none ranges l none) ∙ told)))
    (λ begun next others both.
    let is : gap_between (from_last_begun ranges l) ≡ Some (Nonexistent begun next) = rw both in
    gap begun next others both
    (same_Some (Nonexistent begun next) info (sym is ∙ sym (local_info-none ranges l none) ∙ told)))

ranks-apart : {P : Type 0} (first second : LocalInfo) → first ≡ second → (Rank first ≡ Rank second → ⊥) → P
ranks-apart first second same apart = absurd (apart (ap Rank same))

unique-candidates : (ranges : List SysInfo) (l : ℤ) (range : SysInfo) → local_info ranges l ≡ Some (Unique range) → candidates ranges l ≡ range ∷ []
unique-candidates ranges l range told =
    by_length (candidates ranges l)
    (λ none. gap-cases ranges l (Unique range) none told (λ begun next others both same. ranks-apart (Nonexistent begun next) (Unique range) same (λ e. omega arith)))
    (λ other one.
    let same : Unique other ≡ Unique range = same_Some (Unique other) (Unique range) (sym (local_info-one ranges l other one) ∙ told) in
    let equal : other ≡ range = cc in
    one ∙ ap (λ (r : SysInfo). r ∷ []) equal)
    (λ other next later more.
    let same : Ambiguous other (last_from next later) ≡ Unique range = same_Some (Ambiguous other (last_from next later)) (Unique range) (sym (local_info-more ranges l other next later more) ∙ told) in
    ranks-apart (Ambiguous other (last_from next later)) (Unique range) same (λ e. omega arith))

pub told_unique : (ranges : List SysInfo) (l : ℤ) (range : SysInfo) → local_info ranges l ≡ Some (Unique range) → IsShownOnce ranges l range
told_unique ranges l range told =
    let one = unique-candidates ranges l range told in
    let has : In range (candidates ranges l) = rw one (inl refl) in
    let kept = In-filter_back (shows_local l) ranges range has in
    record {
      among = Contains-from_In ranges range kept.0;
      shown = kept.1;
      alone = λ other among shows.
          let there : In other (candidates ranges l) = In-filter (shows_local l) ranges other (In-from_Contains ranges other among) shows in
          let there' : In other (range ∷ []) = rw one at there in
          ⊎_elim (λ (same : range ≡ other). sym same) (λ (nothing : ⊥). absurd nothing) there';
    }

In-last : (range : SysInfo) (later : List SysInfo) → In (last_from range later) (range ∷ later)
In-last range [] = inl refl
In-last range (next ∷ later) = inr (In-last next later)

-- an earlier range ends before a later one begins
abbrev pub Before : SysInfo → SysInfo → Type 0
Before first second = first.end ≤ℤ second.begin

-- a range that takes time inside from a on
covers-from : (a b : ℤ) (ranges : List SysInfo) (range : SysInfo) → Covers a b ranges → In range ranges → (a ≤ℤ range.begin) × (range.begin <ℤ range.end)
covers-from a b [] range covers has = absurd has
covers-from a b (first ∷ later) range covers has =
    let begins : first.begin ≡ a = covers.0 in
    let takes : first.begin <ℤ first.end = covers.1 in
    ⊎_elim
    (λ (same : first ≡ range).
    let at_first : (a ≤ℤ first.begin) × (first.begin <ℤ first.end) = (omega (arith, ints), takes) in
    rw (← same) at_first)
    (λ (rest : In range later).
    let there = covers-from first.end b later range covers.2 rest in
    (omega (arith, ints, there.0), there.1))
    has

pub covers_before : (a b : ℤ) (ranges : List SysInfo) → Covers a b ranges → Pairs Before ranges
covers_before a b [] covers = tt
covers_before a b (first ∷ later) covers =
    (λ range has. (covers-from first.end b later range covers.2 has).0, covers_before first.end b later covers.2)

last_is_late : (range : SysInfo) (later : List SysInfo) (other : SysInfo) → Pairs Before (range ∷ later) → In other (range ∷ later) → (other ≡ last_from range later) ⊎ Before other (last_from range later)
last_is_late range [] other pairs has =
    ⊎_elim (λ (same : range ≡ other). inl (sym same)) (λ (nothing : ⊥). absurd nothing) has
last_is_late range (next ∷ later) other pairs has =
    ⊎_elim
    (λ (same : range ≡ other).
    let before : Before range (last_from next later) = pairs.0 (last_from next later) (In-last next later) in
    inr (rw (← same) before))
    (λ (rest : In other (next ∷ later)). last_is_late next later other pairs.1 rest)
    has

ambiguous-made : (ranges : List SysInfo) (l : ℤ) (range next : SysInfo) (later : List SysInfo) → Pairs Before ranges → candidates ranges l ≡ range ∷ next ∷ later → IsShownTwice ranges l range (last_from next later)
ambiguous-made ranges l range next later before more =
    let last = last_from next later in
    let kept : Pairs Before (candidates ranges l) = Pairs-filter Before (shows_local l) ranges before in
    let pairs : Pairs Before (range ∷ next ∷ later) = rw more at kept in
    let in_first : In range (candidates ranges l) = rw more (inl refl) in
    let in_last : In last (candidates ranges l) = rw more (inr (In-last next later)) in
    let first = In-filter_back (shows_local l) ranges range in_first in
    let second = In-filter_back (shows_local l) ranges last in_last in
    record {
      first_among = Contains-from_In ranges range first.0;
      second_among = Contains-from_In ranges last second.0;
      first_shown = first.1;
      second_shown = second.1;
      apart = pairs.0 last (In-last next later);
      from_first = λ other among shows.
          let there : In other (candidates ranges l) = In-filter (shows_local l) ranges other (In-from_Contains ranges other among) shows in
          let there' : In other (range ∷ next ∷ later) = rw more at there in
          ⊎_elim (λ (same : range ≡ other). inl (sym same)) (λ (rest : In other (next ∷ later)). inr (pairs.0 other rest)) there';
      to_second = λ other among shows.
          let there : In other (candidates ranges l) = In-filter (shows_local l) ranges other (In-from_Contains ranges other among) shows in
          let there' : In other (range ∷ next ∷ later) = rw more at there in
          ⊎_elim
          (λ (same : range ≡ other).
          let first_before : Before range last = pairs.0 last (In-last next later) in
          inr (rw (← same) first_before))
          (λ (rest : In other (next ∷ later)). last_is_late next later other pairs.1 rest)
          there';
    }

pub told_ambiguous : (a b : ℤ) (ranges : List SysInfo) (l : ℤ) (first second : SysInfo) → Covers a b ranges → local_info ranges l ≡ Some (Ambiguous first second) → IsShownTwice ranges l first second
told_ambiguous a b ranges l first second covers told =
    by_length (candidates ranges l)
    (λ none. gap-cases ranges l (Ambiguous first second) none told (λ begun next others both same. ranks-apart (Nonexistent begun next) (Ambiguous first second) same (λ e. omega arith)))
    (λ other one.
    let same : Unique other ≡ Ambiguous first second = same_Some (Unique other) (Ambiguous first second) (sym (local_info-one ranges l other one) ∙ told) in
    ranks-apart (Unique other) (Ambiguous first second) same (λ e. omega arith))
    (λ other next later more.
    let same : Ambiguous other (last_from next later) ≡ Ambiguous first second = same_Some (Ambiguous other (last_from next later)) (Ambiguous first second) (sym (local_info-more ranges l other next later more) ∙ told) in
    let firsts : other ≡ first = cc in
    let seconds : last_from next later ≡ second = cc in
    let made = ambiguous-made ranges l other next later (covers_before a b ranges covers) more in
    subst (λ (r : SysInfo). IsShownTwice ranges l r second) firsts
    (subst (λ (r : SysInfo). IsShownTwice ranges l other r) seconds made))

gap-made : (a b : ℤ) (ranges : List SysInfo) (l : ℤ) (begun next : SysInfo) (others : List SysInfo) → Covers a b ranges → candidates ranges l ≡ [] → from_last_begun ranges l ≡ begun ∷ next ∷ others → IsInGap ranges l begun next
gap-made a b ranges l begun next others covers none both =
    let last = last_begun ranges l begun (next ∷ others) both in
    let second_at : slice_get ranges (suc last.place) ≡ Some next = last.next in
    record {
      place = last.place;
      first_at = last.here;
      second_at = second_at;
      after_first = has_ended l begun last.begins (not_shown ranges l begun none (In-from_get ranges last.place begun last.here));
      before_later = λ later range after there. begins-false l range (last.after later range after there);
      meet = neighbours a b ranges last.place begun next covers last.here second_at;
      not_shown = λ other among. not_shown ranges l other none (In-from_Contains ranges other among);
    }

pub told_gap : (a b : ℤ) (ranges : List SysInfo) (l : ℤ) (first second : SysInfo) → Covers a b ranges → local_info ranges l ≡ Some (Nonexistent first second) → IsInGap ranges l first second
told_gap a b ranges l first second covers told =
    by_length (candidates ranges l)
    (λ none.
    gap-cases ranges l (Nonexistent first second) none told
    (λ begun next others both same.
    let firsts : begun ≡ first = cc in
    let seconds : next ≡ second = cc in
    let made = gap-made a b ranges l begun next others covers none both in
    subst (λ (r : SysInfo). IsInGap ranges l r second) firsts (subst (λ (r : SysInfo). IsInGap ranges l begun r) seconds made)))
    (λ other one.
    let same : Unique other ≡ Nonexistent first second = same_Some (Unique other) (Nonexistent first second) (sym (local_info-one ranges l other one) ∙ told) in
    ranks-apart (Unique other) (Nonexistent first second) same (λ e. omega arith))
    (λ other next later more.
    let same : Ambiguous other (last_from next later) ≡ Nonexistent first second = same_Some (Ambiguous other (last_from next later)) (Nonexistent first second) (sym (local_info-more ranges l other next later more) ∙ told) in
    ranks-apart (Ambiguous other (last_from next later)) (Nonexistent first second) same (λ e. omega arith))

-- ---- and each answer comes where its relation holds
takes_time : {P : Type 0} (a b : ℤ) (ranges : List SysInfo) (range : SysInfo) → Covers a b ranges → In range ranges → range.end ≤ℤ range.begin → P
takes_time a b ranges range covers has late =
    let inside = covers-from a b ranges range covers has in
    absurd (omega (arith, ints, inside.1, late))

shown_among : (ranges : List SysInfo) (l : ℤ) (range : SysInfo) → Contains ranges range → shows_local l range ≡ true → In range (candidates ranges l)
shown_among ranges l range among shows = In-filter (shows_local l) ranges range (In-from_Contains ranges range among) shows

only_one : (range other : SysInfo) → In range (other ∷ []) → other ≡ range
only_one range other has = ⊎_elim (λ (same : other ≡ range). same) (λ (nothing : ⊥). absurd nothing) has

pub shown_once_is_unique : (a b : ℤ) (ranges : List SysInfo) (l : ℤ) (range : SysInfo) → Covers a b ranges → IsShownOnce ranges l range → local_info ranges l ≡ Some (Unique range)
shown_once_is_unique a b ranges l range covers once =
    let has : In range (candidates ranges l) = shown_among ranges l range once.among once.shown in
    by_length (candidates ranges l)
    (λ none. let nowhere : In range [] = rw none at has in absurd nowhere)
    (λ other one.
    let there : In range (other ∷ []) = rw one at has in
    local_info-one ranges l other one ∙ ap (λ (r : SysInfo). Some (Unique r)) (only_one range other there))
    (λ other next later more.
    let twice = ambiguous-made ranges l other next later (covers_before a b ranges covers) more in
    let first : other ≡ range = once.alone other twice.first_among twice.first_shown in
    let second : last_from next later ≡ range = once.alone (last_from next later) twice.second_among twice.second_shown in
    let apart : other.end ≤ℤ (last_from next later).begin = twice.apart in
    let one_end : range.end ≤ℤ (last_from next later).begin = subst (λ (r : SysInfo). r.end ≤ℤ (last_from next later).begin) first apart in
    let one_begin : range.end ≤ℤ range.begin = subst (λ (r : SysInfo). range.end ≤ℤ r.begin) second one_end in
    takes_time a b ranges range covers (In-from_Contains ranges range once.among) one_begin)

same_or_apart : {P : Type 0} (a b : ℤ) (ranges : List SysInfo) (x y : SysInfo) → Covers a b ranges → Contains ranges x → Contains ranges y → x.end ≤ℤ y.begin → y.end ≤ℤ x.begin → P
same_or_apart a b ranges x y covers has_x has_y one other =
    let inside_x = covers-from a b ranges x covers (In-from_Contains ranges x has_x) in
    let inside_y = covers-from a b ranges y covers (In-from_Contains ranges y has_y) in
    absurd (omega (arith, ints, inside_x.1, inside_y.1, one, other))

pub shown_twice_is_ambiguous : (a b : ℤ) (ranges : List SysInfo) (l : ℤ) (first second : SysInfo) → Covers a b ranges → IsShownTwice ranges l first second → local_info ranges l ≡ Some (Ambiguous first second)
shown_twice_is_ambiguous a b ranges l first second covers twice =
    let has_first : In first (candidates ranges l) = shown_among ranges l first twice.first_among twice.first_shown in
    let has_second : In second (candidates ranges l) = shown_among ranges l second twice.second_among twice.second_shown in
    by_length (candidates ranges l)
    (λ none. let nowhere : In first [] = rw none at has_first in absurd nowhere)
    (λ other one.
    let there : In first (other ∷ []) = rw one at has_first in
    let there' : In second (other ∷ []) = rw one at has_second in
    let same : second ≡ first = sym (only_one second other there') ∙ only_one first other there in
    let late : first.end ≤ℤ first.begin = subst (λ (r : SysInfo). first.end ≤ℤ r.begin) same twice.apart in
    takes_time a b ranges first covers (In-from_Contains ranges first twice.first_among) late)
    (λ other next later more.
    let last = last_from next later in
    let made = ambiguous-made ranges l other next later (covers_before a b ranges covers) more in
    let firsts : other ≡ first =
    ⊎_elim (λ (same : other ≡ first). same)
    (λ (after : first.end ≤ℤ other.begin).
    ⊎_elim (λ (same : first ≡ other). sym same)
    (λ (before : other.end ≤ℤ first.begin). same_or_apart a b ranges other first covers made.first_among twice.first_among before after)
    (made.from_first first twice.first_among twice.first_shown))
    (twice.from_first other made.first_among made.first_shown) in
    let seconds : last ≡ second =
    ⊎_elim (λ (same : last ≡ second). same)
    (λ (before : last.end ≤ℤ second.begin).
    ⊎_elim (λ (same : second ≡ last). sym same)
    (λ (after : second.end ≤ℤ last.begin). same_or_apart a b ranges last second covers made.second_among twice.second_among before after)
    (made.to_second second twice.second_among twice.second_shown))
    (twice.to_second last made.second_among made.second_shown) in
    local_info-more ranges l other next later more ∙ ap (λ (r : SysInfo). Some (Ambiguous r last)) firsts ∙ ap (λ (r : SysInfo). Some (Ambiguous first r)) seconds)

nothing_begun : (ranges : List SysInfo) (l : ℤ) → ((k : ℕ) (range : SysInfo) → slice_get ranges k ≡ Some range → begins_by l range ≡ false) → from_last_begun ranges l ≡ []
nothing_begun [] l none = refl
nothing_begun (first ∷ later) l none =
    begun-none l first later (nothing_begun later l (λ k range there. none (suc k) range there)) (none 0 first refl)

gap_found : (ranges : List SysInfo) (l : ℤ) (place : ℕ) (first second : SysInfo) → slice_get ranges place ≡ Some first → slice_get ranges (suc place) ≡ Some second → begins_by l first ≡ true → ((k : ℕ) (range : SysInfo) → place < k → slice_get ranges k ≡ Some range → begins_by l range ≡ false) → (others : List SysInfo) × (from_last_begun ranges l ≡ first ∷ second ∷ others)
gap_found [] l place first second here next begins after = absurd (none-some first here)
gap_found (range ∷ []) l zero first second here next begins after = absurd (none-some second next)
gap_found (range ∷ other ∷ later) l zero first second here next begins after =
    let firsts : range ≡ first = same_Some range first here in
    let seconds : other ≡ second = same_Some other second next in
    let none : from_last_begun (other ∷ later) l ≡ [] = nothing_begun (other ∷ later) l (λ k it there. after (suc k) it (omega arith) there) in
    let begun : begins_by l range ≡ true = subst (λ (r : SysInfo). begins_by l r ≡ true) (sym firsts) begins in
    (later, begun-here l range (other ∷ later) none begun ∙ ap (λ (r : SysInfo). r ∷ other ∷ later) firsts ∙ ap (λ (r : SysInfo). first ∷ r ∷ later) seconds)
gap_found (range ∷ later) l (suc place) first second here next begins after =
    let rest = gap_found later l place first second here next begins (λ k it below there. after (suc k) it (omega (arith, below)) there) in
    (rest.0, begun-later l range first later (second ∷ rest.0) rest.1)

pub gap_is_nonexistent : (a b : ℤ) (ranges : List SysInfo) (l : ℤ) (first second : SysInfo) → Covers a b ranges → IsInGap ranges l first second → local_info ranges l ≡ Some (Nonexistent first second)
gap_is_nonexistent a b ranges l first second covers gap =
    let inside = covers-from a b ranges first covers (In-from_get ranges gap.place first gap.first_at) in
    let begun : (first.begin +ℤ first.offset) ≤ℤ l = omega (arith, ints, inside.1, gap.after_first) in
    let found = gap_found ranges l gap.place first second gap.first_at gap.second_at (le-int_le (first.begin +ℤ first.offset) l begun) (λ k range below there. later-false l range (gap.before_later k range below there)) in
    let between : gap_between (from_last_begun ranges l) ≡ Some (Nonexistent first second) = rw found.1 in
    by_list (candidates ranges l)
    (λ none. local_info-none ranges l none ∙ between)
    (λ shown others more.
    let has : In shown (candidates ranges l) = rw more (inl refl) in
    let kept = In-filter_back (shows_local l) ranges shown has in
    not_both (shows_local l shown) kept.1 (gap.not_shown shown (Contains-from_In ranges shown kept.0)))
  where
    later-false : (l : ℤ) (range : SysInfo) → l <ℤ (range.begin +ℤ range.offset) → begins_by l range ≡ false
    later-false l range late =
        false_from_ne_true (begins_by l range) (λ begins. let early = begins-true l range begins in omega (arith, ints, late, early))

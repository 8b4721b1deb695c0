-- Ranges of a line told from the last one to the first, and that this tells all that meet a stretch.
use Rattle.std.proofs.Common.{◌≡◌, ℕ, zero, suc, ◌<◌, ◌≤◌, true, false, inl, inr, ⊎_elim, refl, sym, ap, subst, ◌∙◌, arith, List, [], ◌∷◌, ◌++◌, length, Some, ℤ, pos, ◌<ℤ◌, ◌≤ℤ◌, append_assoc}
use Rattle.std.specs.Prelude.{slice_get, filter, int_lt, reverse}
use Rattle.std.specs.Int.{int_max, int_min}
use Rattle.std.proofs.lemmas.Int.{ints, clamps, by_lt_z}
use Rattle.std.proofs.lemmas.Bool.{and_parts, and_from, cases_lt, cases_order}
use Rattle.std.proofs.lemmas.List.{reverse-append, reverse-reverse, append-nil}
use mathlib.Core.List.{reverse-cons}
use Rattle.std.proofs.lemmas.Option.{same_Some}
use Rattle.tz_types.specs.declared.range.SysInfo.{SysInfo}
use Rattle.tz_types.specs.declared.rule_set.RuleSet.{RuleSet}
use Rattle.tz_specs.specs.Occurrence.{Occurrence, occurrences}
use Rattle.tz_types.specs.declared.rule.Rule.{Rule}
use Rattle.tz_specs.specs.State.{InForce, instants, instants_from, put_in_force, before_first, first_letters}
use Rattle.tz_specs.specs.Before.{letters_before}
use Rattle.tz_expand.specs.declared.compiled_line.CompiledLine.{CompiledLine}
use Rattle.tz_expand.specs.Followed.{followed_by}
use Rattle.tz_specs.specs.Until.{Rules}
use Rattle.tz_specs.specs.Expansion.{Period, state_in, range_of, ranges_of}
use Rattle.tz_specs.specs.Standing.{IsCut, IsRangeOf}
use Rattle.tz_specs.proofs.Tests.{int_lt-true, lt-int_lt}
use Rattle.tz_specs.proofs.ListLemmas.{In, In-filter, In-filter_back, Pairs, Pairs-filter}
use Rattle.tz_specs.proofs.RangeLemmas.{In-ranges, In-ranges_back}
use Rattle.tz_specs.proofs.CutLemmas.{ranges_cover_line}
use Rattle.tz_specs.specs.Cover.{Covers}
use Rattle.tz_specs.proofs.EffectLemmas.{instants-get}
use Rattle.tz_types.specs.Amount.{IsShift}
use Rattle.tz_expand.specs.Stretch.{meets}
use Rattle.tz_expand.specs.Looks.{AreLooksOf}
use Rattle.tz_expand.proofs.Gathered.{looks_rise, looks_gather}
use Rattle.tz_expand.proofs.Section.{Section, NoneBy, BaseAt, base_cases, AtBase, computed_near}
use Rattle.tz_expand.proofs.Changes.{EndsAt, Changes, change_here, start_here}

-- ---- two lists of ranges in order that have the same members are one
abbrev pub BeginsBefore : SysInfo → SysInfo → Type 0
BeginsBefore x y = x.begin <ℤ y.begin

into_rest : (x y : SysInfo) (xs ys : List SysInfo) → x ≡ y → Pairs BeginsBefore (x ∷ xs) → ((r : SysInfo) → In r (x ∷ xs) → In r (y ∷ ys)) → (r : SysInfo) → In r xs → In r ys
into_rest x y xs ys same rises into r has =
    let later : x.begin <ℤ r.begin = rises.0 r has in
    ⊎_elim
    (λ (is : y ≡ r).
    let equal : x ≡ r = same ∙ is in
    let again : x.begin ≡ r.begin = ap (λ (range : SysInfo). range.begin) equal in
    absurd (omega (arith, ints)))
    (λ (rest : In r ys). rest)
    (into r (inr has))

pub same_members : (xs ys : List SysInfo) → Pairs BeginsBefore xs → Pairs BeginsBefore ys → ((r : SysInfo) → In r xs → In r ys) → ((r : SysInfo) → In r ys → In r xs) → xs ≡ ys
same_members [] [] rises other_rises into back = refl
same_members [] (y ∷ ys) rises other_rises into back = absurd (back y (inl refl))
same_members (x ∷ xs) [] rises other_rises into back = absurd (into x (inl refl))
same_members (x ∷ xs) (y ∷ ys) rises other_rises into back =
    let same : x ≡ y =
    ⊎_elim (λ (is : y ≡ x). sym is)
    (λ (in_ys : In x ys).
    ⊎_elim (λ (is : x ≡ y). is)
    (λ (in_xs : In y xs).
    let first : y.begin <ℤ x.begin = other_rises.0 x in_ys in
    let second : x.begin <ℤ y.begin = rises.0 y in_xs in
    absurd (omega (arith, ints)))
    (back y (inl refl)))
    (into x (inl refl)) in
    let rest = same_members xs ys rises.1 other_rises.1 (into_rest x y xs ys same rises into) (into_rest y x ys xs (sym same) other_rises back) in
    λ i. same i ∷ rest i

-- ranges that cover a line begin one after another
covers_begin : (a b : ℤ) (ranges : List SysInfo) → Covers a b ranges → (r : SysInfo) → In r ranges → a ≤ℤ r.begin
covers_begin a b [] covers r has = absurd has
covers_begin a b (first ∷ later) covers r has =
    let begins : first.begin ≡ a = covers.0 in
    let takes : first.begin <ℤ first.end = covers.1 in
    ⊎_elim (λ (same : first ≡ r). let begin : first.begin ≡ r.begin = ap (λ (range : SysInfo). range.begin) same in omega (arith, ints))
    (λ (rest : In r later). let after = covers_begin first.end b later covers.2 r rest in omega (arith, ints))
    has

covers_rise : (a b : ℤ) (ranges : List SysInfo) → Covers a b ranges → Pairs BeginsBefore ranges
covers_rise a b [] covers = tt
covers_rise a b (first ∷ later) covers = (
  λ r has.
      let takes : first.begin <ℤ first.end = covers.1 in
      let after = covers_begin first.end b later covers.2 r has in
      omega (arith, ints),
  covers_rise first.end b later covers.2,
)

-- ---- ranges of one line
pub meets-parts : (from to : ℤ) (r : SysInfo) → meets from to r ≡ true → (r.begin <ℤ to) × (from <ℤ r.end)
meets-parts from to r h =
    let parts = and_parts (int_lt r.begin to) (int_lt from r.end) h in
    (int_lt-true r.begin to parts.0, int_lt-true from r.end parts.1)

pub meets-from : (from to : ℤ) (r : SysInfo) → r.begin <ℤ to → from <ℤ r.end → meets from to r ≡ true
meets-from from to r low high =
    and_from (int_lt r.begin to) (int_lt from r.end) (lt-int_lt r.begin to low) (lt-int_lt from r.end high)

pub begins_inside : (period : Period) (r : SysInfo) → IsRangeOf period r → period.start ≤ℤ r.begin
begins_inside period r is =
    ⊎_elim (λ (same : r.begin ≡ period.start). omega (arith, ints)) (λ (cut : IsCut period r.begin). let after = cut.after_start in omega (arith, ints)) is.begins

pub ends_inside : (period : Period) (r : SysInfo) → IsRangeOf period r → r.end ≤ℤ period.finish
ends_inside period r is =
    ⊎_elim (λ (same : r.end ≡ period.finish). omega (arith, ints)) (λ (cut : IsCut period r.end). let before = cut.before_finish in omega (arith, ints)) is.ends

pub ranges_apart : (period : Period) (r other : SysInfo) → IsRangeOf period r → IsRangeOf period other → r.begin <ℤ other.begin → r.end ≤ℤ other.begin
ranges_apart period r other is other_is before =
    by_lt_z other.begin r.end
    (λ inside.
    let begun = begins_inside period r is in
    ⊎_elim (λ (same : other.begin ≡ period.start). absurd (omega (arith, ints))) (λ (cut : IsCut period other.begin). absurd (is.uncut other.begin before inside cut)) other_is.begins)
    (λ le. le)

not_longer : (period : Period) (r other : SysInfo) → IsRangeOf period r → IsRangeOf period other → r.begin ≡ other.begin → r.end <ℤ other.end → ⊥
not_longer period r other is other_is begins shorter =
    let inside = ends_inside period other other_is in
    let takes = is.takes_time in
    ⊎_elim (λ (same : r.end ≡ period.finish). omega (arith, ints)) (λ (cut : IsCut period r.end). other_is.uncut r.end (omega (arith, ints)) shorter cut) is.ends

pub same_range : (period : Period) (r other : SysInfo) → IsRangeOf period r → IsRangeOf period other → r.begin ≡ other.begin → r ≡ other
same_range period r other is other_is begins =
    let ends : r.end ≡ other.end =
    by_lt_z r.end other.end (λ lt. absurd (not_longer period r other is other_is begins lt))
    (λ le.
    by_lt_z other.end r.end (λ gt. absurd (not_longer period other r other_is is (sym begins) gt)) (λ ge. omega (arith, ints))) in
    is.told ∙ (λ i. range_of period (begins i) (ends i)) ∙ sym other_is.told

-- ---- the ranges told so far, that from an instant on meet the stretch
pub record TellsFrom (period : Period) (from to end : ℤ) (told : List SysInfo) : Type 0 where
  pub rises : Pairs BeginsBefore told
  pub sound : (r : SysInfo) → In r told → IsRangeOf period r × (meets from to r ≡ true) × (end ≤ℤ r.begin)
  pub complete : (r : SysInfo) → IsRangeOf period r → meets from to r ≡ true → end ≤ℤ r.begin → In r told

pub tells_none : (period : Period) (from to : ℤ) → TellsFrom period from to period.finish []
tells_none period from to =
    record {
      rises = tt;
      sound = λ r has. absurd has;
      complete = λ r is meeting late.
          let inside = ends_inside period r is in
          let takes = is.takes_time in
          absurd (omega (arith, ints));
    }

pub tells_range : (period : Period) (from to begin end : ℤ) (told : List SysInfo) → TellsFrom period from to end told → IsRangeOf period (range_of period begin end) → begin <ℤ end → begin <ℤ to → from <ℤ end → TellsFrom period from to begin (range_of period begin end ∷ told)
tells_range period from to begin end told tells is takes low high =
    let range = range_of period begin end in
    record {
      rises = (λ r has. let later = (tells.sound r has).2 in omega (arith, ints), tells.rises);
      sound = λ r has.
          ⊎_elim
          (λ (same : range ≡ r).
          let here : IsRangeOf period range × (meets from to range ≡ true) × (begin ≤ℤ range.begin) =
          (is, meets-from from to range low high, omega (arith, ints)) in
          subst (λ (other : SysInfo). IsRangeOf period other × (meets from to other ≡ true) × (begin ≤ℤ other.begin)) same here)
          (λ (rest : In r told). let its = tells.sound r rest in (its.0, its.1, omega (arith, ints, its.2)))
          has;
      complete = λ r r_is meeting after.
          by_lt_z r.begin end
          (λ inside.
          by_lt_z begin r.begin
          (λ later. let apart = ranges_apart period range r is r_is later in absurd (omega (arith, ints)))
          (λ not_later. let same : begin ≡ r.begin = omega (arith, ints) in inl (same_range period range r is r_is same)))
          (λ behind. inr (tells.complete r r_is meeting behind));
    }

pub tells_behind : (period : Period) (from to begin end : ℤ) (told : List SysInfo) → TellsFrom period from to end told → begin <ℤ end → to ≤ℤ begin → TellsFrom period from to begin told
tells_behind period from to begin end told tells takes behind =
    record {
      rises = tells.rises;
      sound = λ r has. let its = tells.sound r has in (its.0, its.1, omega (arith, ints, its.2));
      complete = λ r is meeting after. let parts = meets-parts from to r meeting in absurd (omega (arith, ints, parts.0));
    }

-- all that meet the stretch are told
pub told_all : (period : Period) (from to end : ℤ) (told : List SysInfo) → period.start <ℤ period.finish → TellsFrom period from to end told → ((r : SysInfo) → IsRangeOf period r → meets from to r ≡ true → In r told) → told ≡ filter (meets from to) (ranges_of period)
told_all period from to end told takes tells all =
    let covers = ranges_cover_line period takes in
    same_members told (filter (meets from to) (ranges_of period)) tells.rises
    (Pairs-filter BeginsBefore (meets from to) (ranges_of period) (covers_rise period.start period.finish (ranges_of period) covers))
    (λ r has. let its = tells.sound r has in In-filter (meets from to) (ranges_of period) r (In-ranges period r takes its.0) its.1)
    (λ r has.
    let its = In-filter_back (meets from to) (ranges_of period) r has in
    all r (In-ranges_back period r takes its.0) its.1)

-- where the first range told holds the begin of what the line and the stretch share
pub told_to_begin : (period : Period) (from to begin : ℤ) (range : SysInfo) (told : List SysInfo) → period.start <ℤ period.finish → TellsFrom period from to begin told → IsRangeOf period range → range.begin ≡ begin → begin ≤ℤ int_max from period.start → told ≡ filter (meets from to) (ranges_of period)
told_to_begin period from to begin range told takes tells is begins early =
    told_all period from to begin told takes tells
    (λ r r_is meeting.
    by_lt_z r.begin begin
    (λ before.
    let apart = ranges_apart period r range r_is is (omega (arith, ints)) in
    let parts = meets-parts from to r meeting in
    let begun = begins_inside period r r_is in
    absurd (omega (arith, ints, clamps, parts.1)))
    (λ after. tells.complete r r_is meeting after))

-- ---- the turns of the loop
pub record Telling (period : Period) (from to : ℤ) (list : List Occurrence) (place : ℕ) (before ranges : List SysInfo) (end : ℤ) : Type 0 where
  pub told : List SysInfo
  pub is : ranges ≡ before ++ reverse told
  pub tells : TellsFrom period from to end told
  pub ends : EndsAt (instants period.stdoff list) place period.finish end
  pub late : int_max from period.start <ℤ end

past_end : {X : Type 0} (xs : List X) (j : ℕ) (x : X) → slice_get xs j ≡ Some x → length xs ≤ j → ⊥
past_end [] j x there high = cc
past_end (y ∷ ys) zero x there high = omega arith
past_end (y ∷ ys) (suc j) x there high = past_end ys j x there (omega arith)

length-instants : (stdoff save : ℤ) (list : List Occurrence) → length (instants_from stdoff save list) ≡ length list
length-instants stdoff save [] = refl
length-instants stdoff save (first ∷ later) = ap suc (length-instants stdoff first.rule.save later)

pub telling_none : (period : Period) (from to : ℤ) (list : List Occurrence) (place : ℕ) (before : List SysInfo) → place ≡ length list → period.start <ℤ period.finish → from <ℤ period.finish → Telling period from to list place before before period.finish
telling_none period from to list place before all takes meeting =
    record {
      told = [];
      is = sym (append-nil before);
      tells = tells_none period from to;
      ends = record {
        high = omega (arith, ints);
        each = λ j w behind there. absurd (past_end (instants period.stdoff list) j w there (omega (arith, length-instants period.stdoff (pos 0) list)));
        is = inl refl;
      };
      late = omega (arith, ints, clamps);
    }

-- an instant more
ends_earlier : (us : List ℤ) (i : ℕ) (u finish end begin : ℤ) → EndsAt us (suc i) finish end → slice_get us i ≡ Some u → begin ≡ u → begin <ℤ end → EndsAt us i finish begin
ends_earlier us i u finish end begin ends there same before =
    let high = ends.high in
    record {
      high = omega (arith, ints);
      each = λ j w behind at.
          ⊎_elim
          (λ (is : i ≡ j).
          let at_i : slice_get us i ≡ Some w = rw is at in
          let equal = same_Some u w (sym there ∙ at_i) in
          omega (arith, ints))
          (⊎_elim (λ (lt : i < j). let by = ends.each j w (omega arith) at in omega (arith, ints)) (λ (gt : j < i). absurd (omega arith)))
          (cases_order i j);
      is = inr (i, omega arith, rw same there);
    }

ends_kept : (us : List ℤ) (i : ℕ) (u finish end : ℤ) → EndsAt us (suc i) finish end → slice_get us i ≡ Some u → end ≤ℤ u → EndsAt us i finish end
ends_kept us i u finish end ends there later =
    record {
      high = ends.high;
      each = λ j w behind at.
          ⊎_elim
          (λ (is : i ≡ j).
          let at_i : slice_get us i ≡ Some w = rw is at in
          let equal = same_Some u w (sym there ∙ at_i) in
          omega (arith, ints))
          (⊎_elim (λ (lt : i < j). ends.each j w (omega arith) at) (λ (gt : j < i). absurd (omega arith)))
          (cases_order i j);
      is = ⊎_elim (λ (same : end ≡ finish). inl same) (λ (here : (j : ℕ) × (suc i ≤ j) × (slice_get us j ≡ Some end)). inr (here.0, omega (arith, here.1), here.2)) ends.is;
    }

at_base_by : (set : RuleSet) (stdoff from to : ℤ) (list : List Occurrence) (i : ℕ) (finish end : ℤ) → Section set stdoff from to list → EndsAt (instants stdoff list) (suc i) finish end → from <ℤ end → AtBase list from i
at_base_by set stdoff from to list i finish end section ends late =
    ⊎_elim (λ (none : NoneBy list from). inl none)
    (λ (base : BaseAt list from).
    ⊎_elim
    (λ (above : i < base.place).
    let its = instants-get stdoff (pos 0) list base.place base.occurrence base.there in
    let by = ends.each base.place _ (omega arith) its.2 in
    let near = computed_near stdoff list base.place base.occurrence _ section.stdoff_in base.there its.2 in
    let come = base.come in
    absurd (omega (arith, ints)))
    (λ (not_above : base.place ≤ i). inr (base, not_above))
    (cases_lt i base.place))
    (base_cases list from)

pushed : (before ranges after told : List SysInfo) (range : SysInfo) → ranges ≡ before ++ reverse told → after ≡ ranges ++ range ∷ [] → after ≡ before ++ reverse (range ∷ told)
pushed before ranges after told range is push =
    push ∙ ap (λ (z : List SysInfo). z ++ range ∷ []) is ∙ append_assoc before (reverse told) (range ∷ []) ∙ ap (λ (z : List SysInfo). before ++ z) (sym (reverse-cons range told))

turned : (before after told : List SysInfo) → after ≡ before ++ reverse told → reverse after ≡ told ++ reverse before
turned before after told is =
    ap reverse is ∙ reverse-append before (reverse told) ∙ ap (λ (z : List SysInfo). z ++ reverse before) (reverse-reverse told)

-- what a turn meets: the stretch that the line shares, and the occurrence at the place before
pub record Turn (period : Period) (from to : ℤ) (list : List Occurrence) (i : ℕ) (x : Occurrence) (u begin : ℤ) : Type 0 where
  pub set : RuleSet
  pub follows : period.following ≡ Rules set
  pub section : Section set period.stdoff (int_max from period.start) (int_min to period.finish) list
  pub takes : period.start <ℤ period.finish
  pub here : slice_get list i ≡ Some x
  pub there : slice_get (instants period.stdoff list) i ≡ Some u
  pub begin_is : begin ≡ int_max u period.start

turn_changes : (period : Period) (from to : ℤ) (list : List Occurrence) (i place : ℕ) (x : Occurrence) (u begin end : ℤ) (before ranges : List SysInfo) → Turn period from to list i x u begin → place ≡ suc i → Telling period from to list place before ranges end → begin <ℤ end → begin <ℤ to → Changes period x begin end
turn_changes period from to list i place x u begin end before ranges turn place_is telling rises inside =
    let ends : EndsAt (instants period.stdoff list) (suc i) period.finish end = rw place_is at telling.ends in
    let high = telling.ends.high in
    let late = telling.late in
    change_here turn.set period (int_max from period.start) (int_min to period.finish) list i x u begin end turn.follows turn.section
    (at_base_by turn.set period.stdoff (int_max from period.start) (int_min to period.finish) list i period.finish end turn.section ends late)
    turn.here turn.there ends turn.begin_is rises (omega (arith, ints, clamps))

pub turn_in_force : (period : Period) (from to : ℤ) (list : List Occurrence) (i place : ℕ) (x : Occurrence) (u begin end : ℤ) (before ranges : List SysInfo) → Turn period from to list i x u begin → place ≡ suc i → Telling period from to list place before ranges end → begin <ℤ end → begin <ℤ to → state_in period begin ≡ put_in_force x
turn_in_force period from to list i place x u begin end before ranges turn place_is telling rises inside =
    (turn_changes period from to list i place x u begin end before ranges turn place_is telling rises inside).in_force_then

pub turn_range : (period : Period) (from to : ℤ) (list : List Occurrence) (i place : ℕ) (x : Occurrence) (u begin end : ℤ) (before ranges after : List SysInfo) → Turn period from to list i x u begin → place ≡ suc i → Telling period from to list place before ranges end → begin <ℤ end → begin <ℤ to → after ≡ ranges ++ range_of period begin end ∷ [] → int_max from period.start <ℤ begin → Telling period from to list i before after begin
turn_range period from to list i place x u begin end before ranges after turn place_is telling rises inside push late =
    let changes = turn_changes period from to list i place x u begin end before ranges turn place_is telling rises inside in
    let ends : EndsAt (instants period.stdoff list) (suc i) period.finish end = rw place_is at telling.ends in
    let begin_is = turn.begin_is in
    let is_u : begin ≡ u = omega (arith, ints, clamps) in
    record {
      told = range_of period begin end ∷ telling.told;
      is = pushed before ranges after telling.told (range_of period begin end) telling.is push;
      tells = tells_range period from to begin end telling.told telling.tells changes.range rises inside (omega (arith, ints, clamps));
      ends = ends_earlier (instants period.stdoff list) i u period.finish end begin ends turn.there is_u rises;
      late = late;
    }

pub turn_last : (period : Period) (from to : ℤ) (list : List Occurrence) (i place : ℕ) (x : Occurrence) (u begin end : ℤ) (before ranges after : List SysInfo) → Turn period from to list i x u begin → place ≡ suc i → Telling period from to list place before ranges end → begin <ℤ end → begin <ℤ to → after ≡ ranges ++ range_of period begin end ∷ [] → begin ≤ℤ int_max from period.start → reverse after ≡ filter (meets from to) (ranges_of period) ++ reverse before
turn_last period from to list i place x u begin end before ranges after turn place_is telling rises inside push early =
    let changes = turn_changes period from to list i place x u begin end before ranges turn place_is telling rises inside in
    let range = range_of period begin end in
    let late = telling.late in
    let tells = tells_range period from to begin end telling.told telling.tells changes.range rises inside (omega (arith, ints, clamps)) in
    let all = told_to_begin period from to begin range (range ∷ telling.told) turn.takes tells changes.range refl early in
    turned before after (range ∷ telling.told) (pushed before ranges after telling.told range telling.is push)
    ∙ ap (λ (z : List SysInfo). z ++ reverse before) all

pub turn_behind : (period : Period) (from to : ℤ) (list : List Occurrence) (i place : ℕ) (x : Occurrence) (u begin end : ℤ) (before ranges : List SysInfo) → Turn period from to list i x u begin → place ≡ suc i → Telling period from to list place before ranges end → begin <ℤ end → to ≤ℤ begin → int_max from period.start <ℤ begin → Telling period from to list i before ranges begin
turn_behind period from to list i place x u begin end before ranges turn place_is telling rises behind late =
    let ends : EndsAt (instants period.stdoff list) (suc i) period.finish end = rw place_is at telling.ends in
    let begin_is = turn.begin_is in
    let is_u : begin ≡ u = omega (arith, ints, clamps) in
    record {
      told = telling.told;
      is = telling.is;
      tells = tells_behind period from to begin end telling.told telling.tells rises behind;
      ends = ends_earlier (instants period.stdoff list) i u period.finish end begin ends turn.there is_u rises;
      late = late;
    }

pub turn_none : (period : Period) (from to : ℤ) (list : List Occurrence) (i place : ℕ) (x : Occurrence) (u begin end : ℤ) (before ranges : List SysInfo) → Turn period from to list i x u begin → place ≡ suc i → Telling period from to list place before ranges end → end ≤ℤ begin → Telling period from to list i before ranges end
turn_none period from to list i place x u begin end before ranges turn place_is telling later =
    let ends : EndsAt (instants period.stdoff list) (suc i) period.finish end = rw place_is at telling.ends in
    let begin_is = turn.begin_is in
    let late = telling.late in
    let by_u : end ≤ℤ u = omega (arith, ints, clamps) in
    record {
      told = telling.told;
      is = telling.is;
      tells = telling.tells;
      ends = ends_kept (instants period.stdoff list) i u period.finish end ends turn.there by_u;
      late = late;
    }

-- no occurrence has come where the line and the stretch begin
pub rest_in_force : (set : RuleSet) (period : Period) (from to : ℤ) (list : List Occurrence) (place : ℕ) (end : ℤ) (before ranges : List SysInfo) → period.following ≡ Rules set → Section set period.stdoff (int_max from period.start) (int_min to period.finish) list → place ≡ 0 → Telling period from to list place before ranges end → state_in period period.start ≡ before_first (occurrences set)
rest_in_force set period from to list place end before ranges follows section none telling =
    let ends : EndsAt (instants period.stdoff list) 0 period.finish end = rw none at telling.ends in
    (start_here set period (int_max from period.start) (int_min to period.finish) list end follows section ends (omega (arith, ints, clamps)) telling.late).in_force_then

pub rest_told : (set : RuleSet) (period : Period) (from to : ℤ) (list : List Occurrence) (place : ℕ) (end : ℤ) (before ranges after : List SysInfo) → period.following ≡ Rules set → Section set period.stdoff (int_max from period.start) (int_min to period.finish) list → period.start <ℤ period.finish → period.start <ℤ to → place ≡ 0 → Telling period from to list place before ranges end → after ≡ ranges ++ range_of period period.start end ∷ [] → reverse after ≡ filter (meets from to) (ranges_of period) ++ reverse before
rest_told set period from to list place end before ranges after follows section takes begun none telling push =
    let ends : EndsAt (instants period.stdoff list) 0 period.finish end = rw none at telling.ends in
    let starts = start_here set period (int_max from period.start) (int_min to period.finish) list end follows section ends (omega (arith, ints, clamps)) telling.late in
    let range = range_of period period.start end in
    let late = telling.late in
    let tells = tells_range period from to period.start end telling.told telling.tells starts.range (omega (arith, ints, clamps)) begun (omega (arith, ints, clamps)) in
    let all = told_to_begin period from to period.start range (range ∷ telling.told) takes tells starts.range refl (omega (arith, ints, clamps)) in
    turned before after (range ∷ telling.told) (pushed before ranges after telling.told range telling.is push)
    ∙ ap (λ (z : List SysInfo). z ++ reverse before) all

-- ---- what the code has
pub section_of : (period : Period) (from to : ℤ) (list : List Occurrence) → (looked : AreLooksOf period from to list) → IsShift period.stdoff → period.start <ℤ period.finish → period.start <ℤ to → from <ℤ period.finish → from <ℤ to → Section looked.set period.stdoff (int_max from period.start) (int_min to period.finish) list
section_of period from to list looked stdoff_in takes begins ends ordered =
    record {
      order = looks_rise looked.set (int_max from period.start) (int_min to period.finish) list looked.looked;
      gathers = looks_gather looked.set (int_max from period.start) (int_min to period.finish) list looked.looked;
      stdoff_in = stdoff_in;
      ordered = omega (arith, ints, clamps);
    }

pub turn_of : (period : Period) (from to : ℤ) (list : List Occurrence) (i : ℕ) (x : Occurrence) (u begin : ℤ) → AreLooksOf period from to list → IsShift period.stdoff → period.start <ℤ period.finish → period.start <ℤ to → from <ℤ period.finish → from <ℤ to → slice_get list i ≡ Some x → slice_get (instants period.stdoff list) i ≡ Some u → begin ≡ int_max u period.start → Turn period from to list i x u begin
turn_of period from to list i x u begin looked stdoff_in takes begins ends ordered here there begin_is =
    record {
      set = looked.set;
      follows = looked.follows;
      section = section_of period from to list looked stdoff_in takes begins ends ordered;
      takes = takes;
      here = here;
      there = there;
      begin_is = begin_is;
    }

pub telling_as : (period : Period) (from to : ℤ) (list : List Occurrence) (place other_place : ℕ) (before ranges other_ranges : List SysInfo) (end other_end : ℤ) → place ≡ other_place → ranges ≡ other_ranges → end ≡ other_end → Telling period from to list place before ranges end → Telling period from to list other_place before other_ranges other_end
telling_as period from to list place other_place before ranges other_ranges end other_end places same_ranges ends telling =
    rw (← places, ← same_ranges, ← ends) telling

pub put_by_is : (x : Occurrence) (rule : Rule) (kept : InForce) → kept ≡ put_in_force (record { rule = rule; year = x.year }) → rule ≡ x.rule → put_in_force x ≡ kept
put_by_is x rule kept is same = rw (is, same) refl

pub letters_followed : (line : CompiledLine) (set : RuleSet) → followed_by line.rules ≡ Rules set → line.letters ≡ first_letters (occurrences set)
letters_followed line set follows = line.letters_are ∙ ap letters_before follows

pub standard_is : (line : CompiledLine) (set : RuleSet) (kept : InForce) → followed_by line.rules ≡ Rules set → kept ≡ record { save = pos 0; daylight = false; letters = line.letters } → before_first (occurrences set) ≡ kept
standard_is line set kept follows is =
    let letters = letters_followed line set follows in
    is_standard (first_letters (occurrences set)) line.letters kept letters is
  where
    is_standard : (first own : List ℕ) (kept : InForce) → own ≡ first → kept ≡ record { save = pos 0; daylight = false; letters = own } → record { save = pos 0; daylight = false; letters = first } ≡ kept
    is_standard first own kept same is = rw (is, same) refl

pub range_is : (period : Period) (begin end from to : ℤ) (kept : InForce) (range : SysInfo) → from ≡ begin → to ≡ end → (state_in period from ≡ kept → range ≡ range_of period from to) → state_in period begin ≡ kept → range ≡ range_of period begin end
range_is period begin end from to kept range begins ends told in_force =
    let at_begin : state_in period from ≡ kept = rw begins in_force in
    told at_begin ∙ (λ i. range_of period (begins i) (ends i))

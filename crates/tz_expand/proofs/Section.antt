-- The looks near a stretch tell each change of it, the one before it and the one after it.
use Rattle.std.proofs.Common.{◌≡◌, ℕ, zero, suc, ◌<◌, ◌≤◌, true, ◌⊎◌, inl, inr, ⊎_elim, refl, sym, ap, ◌∙◌, arith, List, [], ◌∷◌, length, get_or, Some, ℤ, pos, ◌+ℤ◌, ◌-ℤ◌, ◌<ℤ◌, ◌≤ℤ◌}
use Rattle.std.specs.Prelude.{slice_get}
use Rattle.std.proofs.lemmas.Int.{ints, by_lt_z}
use Rattle.std.proofs.lemmas.Bool.{cases_order, cases_lt, false_from_ne_true}
use Rattle.std.proofs.lemmas.Option.{same_Some, slice_get_read}
use Rattle.jiff_core.specs.Calendar.{IsWithin}
use Rattle.tz_types.specs.declared.limit.TheConstants.{LONGEST_OFFSET}
use Rattle.tz_types.specs.Amount.{IsShift}
use Rattle.tz_types.specs.declared.moment.AtKind.{AtKind}
use Rattle.tz_types.specs.declared.moment.AtKind.TheVariants as kinds
use Rattle.tz_types.specs.declared.rule_set.RuleSet.{RuleSet}
use Rattle.tz_specs.specs.Occurrence.{Occurrence, nominal_of, precedes}
use Rattle.tz_specs.specs.State.{shift, instants}
use Rattle.tz_specs.specs.Effect.{HasSaveBefore, ComesAt}
use Rattle.tz_specs.proofs.ListLemmas.{In, In-from_get, get_from_In, Pairs, Pairs-get}
use Rattle.tz_specs.proofs.OrderLemmas.{precedes-true, precedes_trans}
use Rattle.tz_specs.proofs.EffectLemmas.{HasSave, instants-get}
use Rattle.tz_expand.specs.Looks.{IsSaveBefore}
use Rattle.tz_expand.proofs.Strict.{Before, place_before}
use Rattle.tz_expand.proofs.Gathered.{Earlier, Later, Gathers}

abbrev pub early : ℤ → ℤ
early from = from -ℤ pos LONGEST_OFFSET

abbrev pub late : ℤ → ℤ
late to = to +ℤ pos LONGEST_OFFSET

-- the occurrences of a set near a stretch, strictly in order
pub record Section (set : RuleSet) (stdoff from to : ℤ) (list : List Occurrence) : Type 0 where
  pub order : Pairs Before list
  pub gathers : Gathers set from to list
  pub stdoff_in : IsShift stdoff
  pub ordered : from <ℤ to

nominals_rise : (x y : Occurrence) → Before x y → nominal_of x ≤ℤ nominal_of y
nominals_rise x y before =
    ⊎_elim (λ (lt : nominal_of x <ℤ nominal_of y). omega (arith, ints))
    (λ (same : (nominal_of x ≡ nominal_of y) × (x.rule.line < y.rule.line)). omega (arith, ints, same.0))
    (precedes-true x y before)

-- ---- the last one that has come for sure, and the first one that hasn't
abbrev pub NoneBy : List Occurrence → ℤ → Type 0
NoneBy list from = (y : Occurrence) → In y list → early from <ℤ nominal_of y

pub record BaseAt (list : List Occurrence) (from : ℤ) : Type 0 where
  pub place : ℕ
  pub occurrence : Occurrence
  pub there : slice_get list place ≡ Some occurrence
  pub come : nominal_of occurrence ≤ℤ early from
  pub last : (j : ℕ) (y : Occurrence) → place < j → slice_get list j ≡ Some y → early from <ℤ nominal_of y

pub base_cases : (list : List Occurrence) (from : ℤ) → NoneBy list from ⊎ BaseAt list from
base_cases [] from = inl (λ y has. absurd has)
base_cases (x ∷ xs) from =
    ⊎_elim
    (λ (none : NoneBy xs from).
    by_lt_z (early from) (nominal_of x)
    (λ after. inl (λ y has. ⊎_elim (λ (same : x ≡ y). rw (← same) after) (λ (later : In y xs). none y later) has))
    (λ come.
    inr (record {
      place = zero;
      occurrence = x;
      there = refl;
      come = come;
      last = λ j y above at. later_in xs j y none above at;
    })))
    (λ (base : BaseAt xs from).
    inr (record {
      place = suc base.place;
      occurrence = base.occurrence;
      there = base.there;
      come = base.come;
      last = λ j y above at. later_than xs j y base above at;
    }))
    (base_cases xs from)
  where
    later_in : (xs : List Occurrence) (j : ℕ) (y : Occurrence) → NoneBy xs from → zero < j → slice_get (x ∷ xs) j ≡ Some y → early from <ℤ nominal_of y
    later_in xs zero y none above at = absurd (omega arith)
    later_in xs (suc j) y none above at = none y (In-from_get xs j y at)

    later_than : (xs : List Occurrence) (j : ℕ) (y : Occurrence) (base : BaseAt xs from) → suc base.place < j → slice_get (x ∷ xs) j ≡ Some y → early from <ℤ nominal_of y
    later_than xs zero y base above at = absurd (omega arith)
    later_than xs (suc j) y base above at = base.last j y (omega arith) at

abbrev pub AllBy : List Occurrence → ℤ → Type 0
AllBy list to = (y : Occurrence) → In y list → nominal_of y ≤ℤ late to

pub record FirstAfter (list : List Occurrence) (to : ℤ) : Type 0 where
  pub place : ℕ
  pub occurrence : Occurrence
  pub there : slice_get list place ≡ Some occurrence
  pub after : late to <ℤ nominal_of occurrence
  pub first : (y : Occurrence) → In y list → late to <ℤ nominal_of y → nominal_of occurrence ≤ℤ nominal_of y

pub after_cases : (list : List Occurrence) (to : ℤ) → Pairs Before list → AllBy list to ⊎ FirstAfter list to
after_cases [] to order = inl (λ y has. absurd has)
after_cases (x ∷ xs) to order =
    by_lt_z (late to) (nominal_of x)
    (λ after.
    inr (record {
      place = zero;
      occurrence = x;
      there = refl;
      after = after;
      first = λ y has later.
          ⊎_elim (λ (same : x ≡ y). rw (← same) (omega (arith, ints))) (λ (rest : In y xs). nominals_rise x y (order.0 y rest)) has;
    }))
    (λ by.
    ⊎_elim
    (λ (all : AllBy xs to). inl (λ y has. ⊎_elim (λ (same : x ≡ y). rw (← same) by) (λ (rest : In y xs). all y rest) has))
    (λ (found : FirstAfter xs to).
    inr (record {
      place = suc found.place;
      occurrence = found.occurrence;
      there = found.there;
      after = found.after;
      first = λ y has later.
          ⊎_elim
          (λ (same : x ≡ y).
          let by_y : nominal_of y ≤ℤ late to = rw (← same) by in
          absurd (omega (arith, ints)))
          (λ (rest : In y xs). found.first y rest later)
          has;
    }))
    (after_cases xs to order.1))

-- at that place or behind it
abbrev pub AtBase : List Occurrence → ℤ → ℕ → Type 0
AtBase list from i = NoneBy list from ⊎ ((base : BaseAt list from) × (base.place ≤ i))

pub at_base_more : (list : List Occurrence) (from : ℤ) (i j : ℕ) → i ≤ j → AtBase list from i → AtBase list from j
at_base_more list from i j more at =
    ⊎_elim (λ (none : NoneBy list from). inl none) (λ (base : (base : BaseAt list from) × (base.place ≤ i)). inr (base.0, omega (arith, base.1))) at

-- what is left out before has one behind it that stands before the place
pub earlier_by : (list : List Occurrence) (from : ℤ) (i : ℕ) (o : Occurrence) → Pairs Before list → AtBase list from i → (left : Earlier list from o) → (k : ℕ) × (slice_get list k ≡ Some left.first) × (k < i)
earlier_by list from i o order at left =
    let first = get_from_In list left.first left.first_in in
    let second = get_from_In list left.second left.second_in in
    let below : first.0 < second.0 = place_before list first.0 second.0 left.first left.second order first.1 second.1 left.rising in
    let come = left.come in
    ⊎_elim
    (λ (none : NoneBy list from). let after = none left.second left.second_in in absurd (omega (arith, ints)))
    (λ (base : (base : BaseAt list from) × (base.place ≤ i)).
    ⊎_elim
    (λ (above : base.0.place < second.0).
    let after = base.0.last second.0 left.second above second.1 in
    absurd (omega (arith, ints)))
    (λ (not_above : second.0 ≤ base.0.place). (first.0, first.1, omega (arith, base.1)))
    (cases_lt base.0.place second.0))
    at

-- no rule has an occurrence behind the stretch that this one follows by a year
abbrev IsNear : List Occurrence → ℤ → Occurrence → Type 0
IsNear list to x =
    (f : Occurrence) → In f list → late to <ℤ nominal_of f → nominal_of x <ℤ (nominal_of f +ℤ pos 30_240_000)

not_later : (list : List Occurrence) (to : ℤ) (o x : Occurrence) → IsNear list to x → Later list to o → Before o x → ⊥
not_later list to o x near left before =
    let apart = left.apart in
    let near_it = near left.first left.first_in left.after in
    let rise = nominals_rise o x before in
    omega (arith, ints)

-- ---- the save before
save_is : (set : RuleSet) (stdoff from to : ℤ) (list : List Occurrence) (i : ℕ) (x : Occurrence) (save : ℤ) → Section set stdoff from to list → AtBase list from i → slice_get list i ≡ Some x → IsNear list to x → HasSave (pos 0) list i save → HasSaveBefore set x save
save_is set stdoff from to list zero x save section at here near has =
    inl (
      has,
      λ o is.
          false_from_ne_true (precedes o x)
          (λ before.
          ⊎_elim
          (λ (among : In o list).
          let place = get_from_In list o among in
          let low : place.0 < zero = place_before list place.0 zero o x section.order place.1 here before in
          omega arith)
          (⊎_elim
          (λ (left : Earlier list from o).
          let by = earlier_by list from zero o section.order at left in
          let low : by.0 < zero = by.2 in
          omega arith)
          (λ (left : Later list to o). not_later list to o x near left before))
          (section.gathers.told o is)),
    )
save_is set stdoff from to list (suc k) x save section at here near has =
    let previous = has.0 in
    inr (
      previous,
      record {
        is = section.gathers.known previous (In-from_get list k previous has.1);
        before = Pairs-get Before list k (suc k) previous x section.order (omega arith) has.1 here;
        last = λ o is before.
            ⊎_elim
            (λ (among : In o list).
            let place = get_from_In list o among in
            let low : place.0 < suc k = place_before list place.0 (suc k) o x section.order place.1 here before in
            ⊎_elim
            (λ (same : place.0 ≡ k).
            let there : slice_get list k ≡ Some o = rw (← same) place.1 in
            inl (same_Some o previous (sym there ∙ has.1)))
            (⊎_elim (λ (lt : place.0 < k). inr (Pairs-get Before list place.0 k o previous section.order lt place.1 has.1))
            (λ (gt : k < place.0). absurd (omega arith)))
            (cases_order place.0 k))
            (⊎_elim
            (λ (left : Earlier list from o).
            let by = earlier_by list from (suc k) o section.order at left in
            let low : by.0 < suc k = by.2 in
            ⊎_elim
            (λ (same : by.0 ≡ k).
            let there : slice_get list k ≡ Some left.first = rw (← same) by.1 in
            let equal : left.first ≡ previous = same_Some left.first previous (sym there ∙ has.1) in
            let before_it : precedes o previous ≡ true = rw (← equal) left.before in
            inr before_it)
            (⊎_elim
            (λ (lt : by.0 < k).
            inr (precedes_trans o left.first previous left.before (Pairs-get Before list by.0 k left.first previous section.order lt by.1 has.1)))
            (λ (gt : k < by.0). absurd (omega arith)))
            (cases_order by.0 k))
            (λ (left : Later list to o). absurd (not_later list to o x near left before)))
            (section.gathers.told o is);
      },
      has.2,
    )

shift_near : (kind : AtKind) (stdoff save : ℤ) → IsShift stdoff → IsShift save → IsWithin LONGEST_OFFSET (shift kind stdoff save)
shift_near kinds.Universal stdoff save here there = (omega (arith, ints), omega (arith, ints))
shift_near kinds.Standard stdoff save here there = (omega (arith, ints, here), omega (arith, ints, here))
shift_near kinds.Wall stdoff save here there = (omega (arith, ints, here, there), omega (arith, ints, here, there))

save_near : (list : List Occurrence) (i : ℕ) (save : ℤ) → HasSave (pos 0) list i save → IsShift save
save_near list zero save has = (omega (arith, ints, has), omega (arith, ints, has))
save_near list (suc k) save has =
    let previous = has.0 in
    let within : IsShift previous.rule.save = previous.rule.save_in in
    rw has.2 within

-- the instant at a place lies within two days of the nominal second there
pub computed_near : (stdoff : ℤ) (list : List Occurrence) (i : ℕ) (x : Occurrence) (u : ℤ) → IsShift stdoff → slice_get list i ≡ Some x → slice_get (instants stdoff list) i ≡ Some u → IsWithin LONGEST_OFFSET (u -ℤ nominal_of x)
computed_near stdoff list i x u within here there =
    let its = instants-get stdoff (pos 0) list i x here in
    let near = shift_near x.rule.moment.kind stdoff its.0 within (save_near list i its.0 its.1) in
    let is = same_Some u (nominal_of x -ℤ shift x.rule.moment.kind stdoff its.0) (sym there ∙ its.2) in
    (omega (arith, ints, near, is), omega (arith, ints, near, is))

comes_here : (set : RuleSet) (stdoff from to : ℤ) (list : List Occurrence) (i : ℕ) (x : Occurrence) (u : ℤ) → Section set stdoff from to list → AtBase list from i → slice_get list i ≡ Some x → slice_get (instants stdoff list) i ≡ Some u → IsNear list to x → ComesAt set stdoff x u
comes_here set stdoff from to list i x u section at here there near =
    let its = instants-get stdoff (pos 0) list i x here in
    record {
      save = its.0;
      save_before = save_is set stdoff from to list i x its.0 section at here near its.1;
      on_its_clock = same_Some u (nominal_of x -ℤ shift x.rule.moment.kind stdoff its.0) (sym there ∙ its.2);
    }

-- an instant at a place from the base on is that of its occurrence, or a year behind the first one after the stretch
abbrev pub IsFar : List Occurrence → ℤ → Occurrence → Type 0
IsFar list to x =
    (found : FirstAfter list to) × ((nominal_of found.occurrence +ℤ pos 30_240_000) ≤ℤ nominal_of x)

pub comes_or_far : (set : RuleSet) (stdoff from to : ℤ) (list : List Occurrence) (i : ℕ) (x : Occurrence) (u : ℤ) → Section set stdoff from to list → AtBase list from i → slice_get list i ≡ Some x → slice_get (instants stdoff list) i ≡ Some u → ComesAt set stdoff x u ⊎ IsFar list to x
comes_or_far set stdoff from to list i x u section at here there =
    ⊎_elim
    (λ (all : AllBy list to).
    inl (comes_here set stdoff from to list i x u section at here there (λ f among after. let by = all f among in absurd (omega (arith, ints)))))
    (λ (found : FirstAfter list to).
    by_lt_z (nominal_of x) (nominal_of found.occurrence +ℤ pos 30_240_000)
    (λ near.
    inl (comes_here set stdoff from to list i x u section at here there (λ f among after. let first = found.first f among after in omega (arith, ints))))
    (λ far. inr (found, far)))
    (after_cases list to section.order)

-- the first one after the stretch comes at its instant
pub record ComesFirst (set : RuleSet) (stdoff : ℤ) (list : List Occurrence) (to : ℤ) (found : FirstAfter list to) : Type 0 where
  pub instant : ℤ
  pub there : slice_get (instants stdoff list) found.place ≡ Some instant
  pub comes : ComesAt set stdoff found.occurrence instant
  pub near : IsWithin LONGEST_OFFSET (instant -ℤ nominal_of found.occurrence)

first_at_base : (set : RuleSet) (stdoff from to : ℤ) (list : List Occurrence) → Section set stdoff from to list → (found : FirstAfter list to) → AtBase list from found.place
first_at_base set stdoff from to list section found =
    ⊎_elim (λ (none : NoneBy list from). inl none)
    (λ (base : BaseAt list from).
    ⊎_elim
    (λ (below : found.place < base.place).
    let rise = nominals_rise found.occurrence base.occurrence (Pairs-get Before list found.place base.place found.occurrence base.occurrence section.order below found.there base.there) in
    let come = base.come in
    let after = found.after in
    let ordered = section.ordered in
    absurd (omega (arith, ints)))
    (λ (not_below : base.place ≤ found.place). inr (base, not_below))
    (cases_lt found.place base.place))
    (base_cases list from)

pub first_comes : (set : RuleSet) (stdoff from to : ℤ) (list : List Occurrence) → Section set stdoff from to list → (found : FirstAfter list to) → ComesFirst set stdoff list to found
first_comes set stdoff from to list section found =
    let its = instants-get stdoff (pos 0) list found.place found.occurrence found.there in
    let u = nominal_of found.occurrence -ℤ shift found.occurrence.rule.moment.kind stdoff its.0 in
    record {
      instant = u;
      there = its.2;
      comes = comes_here set stdoff from to list found.place found.occurrence u section (first_at_base set stdoff from to list section found) found.there its.2
          (λ f among after. let first = found.first f among after in omega (arith, ints));
      near = computed_near stdoff list found.place found.occurrence u section.stdoff_in found.there its.2;
    }

-- ---- what the code reads at a place
pub save_after : (list : List Occurrence) (place earlier : ℕ) (previous : Occurrence) (save : ℤ) → place ≡ suc earlier → earlier < length list → previous ≡ get_or list earlier previous → save ≡ previous.rule.save → IsSaveBefore list place save
save_after list place earlier previous save is low read save_is =
    let there : slice_get list earlier ≡ Some previous = slice_get_read list (length list) earlier previous refl low read in
    let made : IsSaveBefore list (suc earlier) save = (previous, there, save_is) in
    rw is made

same_save_before : (list : List Occurrence) (place : ℕ) (save other : ℤ) → IsSaveBefore list place save → HasSave (pos 0) list place other → other ≡ save
same_save_before list zero save other first second = second ∙ sym first
same_save_before list (suc place) save other first second =
    let same : second.0 ≡ first.0 = same_Some second.0 first.0 (sym second.1 ∙ first.1) in
    second.2 ∙ ap (λ (o : Occurrence). o.rule.save) same ∙ sym first.2

pub instant_there : (stdoff save instant : ℤ) (list : List Occurrence) (place : ℕ) (x : Occurrence) → place < length list → x ≡ get_or list place x → IsSaveBefore list place save → instant ≡ (nominal_of x -ℤ shift x.rule.moment.kind stdoff save) → slice_get (instants stdoff list) place ≡ Some instant
instant_there stdoff save instant list place x low read has is =
    let here : slice_get list place ≡ Some x = slice_get_read list (length list) place x refl low read in
    let its = instants-get stdoff (pos 0) list place x here in
    let same = same_save_before list place save its.0 has its.1 in
    its.2 ∙ ap (λ (v : ℤ). Some (nominal_of x -ℤ shift x.rule.moment.kind stdoff v)) same ∙ ap (λ (u : ℤ). Some u) (sym is)

-- Numbers of occurrences and their instants against the relations without numbers.
use Rattle.std.proofs.Common.{◌≡◌, ℕ, zero, suc, ◌<◌, ◌≤◌, true, ◌⊎◌, inl, inr, ⊎_elim, refl, sym, ap, ◌∙◌, arith, List, [], ◌∷◌, length, ℤ, pos, ◌-ℤ◌, Some, None}
use Rattle.std.specs.Prelude.{slice_get, find}
use Rattle.std.specs.Ordering.{int_eq}
use Rattle.std.proofs.lemmas.Bool.Decides.{Decides-int_eq}
use Rattle.jiff_core.specs.Calendar.{IsWithin}
use Rattle.tz_types.specs.Amount.{IsShift}
use Rattle.tz_types.specs.declared.moment.AtKind.{AtKind}
use Rattle.tz_types.specs.declared.moment.AtKind.TheVariants as kinds
use Rattle.std.proofs.lemmas.Int.{ints}
use Rattle.std.proofs.lemmas.Bool.{cases_order, false_from_ne_true}
use Rattle.std.proofs.lemmas.Option.{same_Some, none-some}
use Rattle.tz_types.specs.declared.limit.TheConstants.{LONGEST_OFFSET}
use Rattle.tz_types.specs.declared.rule_set.RuleSet.{RuleSet}
use Rattle.tz_specs.specs.Occurrence.{Occurrence, nominal_of, precedes, occurrences}
use Rattle.tz_specs.specs.State.{shift, instants, instants_from, state_at, in_force, put_in_force, before_first, first_letters}
use Rattle.tz_specs.specs.Until.{Rules}
use Rattle.tz_specs.specs.Standing.{IsOccurrence, TakesEffect}
use Rattle.tz_specs.specs.Effect.{IsFirst, IsPrevious, HasSaveBefore, ComesAt, IsInEffect, NoneInEffect, IsFirstStandard}
use Rattle.tz_specs.proofs.Tests.{not_both}
use Rattle.tz_specs.proofs.ListLemmas.{In-from_get, get_from_In, Pairs, Pairs-both, find-first, find-none}
use Rattle.tz_specs.proofs.OrderLemmas.{NotAfter, Differs, precedes_asym}
use Rattle.tz_specs.proofs.StateLemmas.{by_get, state_has_come, later_has_not_come, state_is, state_is_none, state_at_bound}
use Rattle.tz_specs.proofs.OccurrenceLemmas.{In-occurrences, In-occurrences_back, occurrences_strict, occurrences_places, occurrences_ordered, occurrences_differ}

-- ---- instants by place
abbrev pub HasSave : ℤ → List Occurrence → ℕ → ℤ → Type 0
HasSave save list zero v = v ≡ save
HasSave save list (suc place) v = (previous : Occurrence) × (slice_get list place ≡ Some previous) × (v ≡ previous.rule.save)

save_on : (save : ℤ) (first : Occurrence) (later : List Occurrence) (place : ℕ) (v : ℤ) → HasSave first.rule.save later place v → HasSave save (first ∷ later) (suc place) v
save_on save first later zero v has = (first, refl, has)
save_on save first later (suc place) v has = has

abbrev instant_with : ℤ → Occurrence → ℤ → ℤ
instant_with stdoff occurrence save = nominal_of occurrence -ℤ shift occurrence.rule.moment.kind stdoff save

pub instants-get : (stdoff save : ℤ) (list : List Occurrence) (place : ℕ) (occurrence : Occurrence) → slice_get list place ≡ Some occurrence → (v : ℤ) × HasSave save list place v × (slice_get (instants_from stdoff save list) place ≡ Some (instant_with stdoff occurrence v))
instants-get stdoff save [] place occurrence there = absurd (none-some occurrence there)
instants-get stdoff save (first ∷ later) zero occurrence there =
    let same : first ≡ occurrence = same_Some first occurrence there in
    (save, refl, ap (λ (o : Occurrence). Some (instant_with stdoff o save)) same)
instants-get stdoff save (first ∷ later) (suc place) occurrence there =
    let rest = instants-get stdoff first.rule.save later place occurrence there in
    (rest.0, save_on save first later place rest.0 rest.1, rest.2)

-- an instant is that of an occurrence
pub instants-back : (stdoff save : ℤ) (list : List Occurrence) (place : ℕ) (instant : ℤ) → slice_get (instants_from stdoff save list) place ≡ Some instant → (occurrence : Occurrence) × (slice_get list place ≡ Some occurrence)
instants-back stdoff save [] place instant there = absurd (none-some instant there)
instants-back stdoff save (first ∷ later) zero instant there = (first, refl)
instants-back stdoff save (first ∷ later) (suc place) instant there =
    instants-back stdoff first.rule.save later place instant there

-- what stands at a place stands in the set, and the other way round
pub at_place : (set : RuleSet) (place : ℕ) (occurrence : Occurrence) → slice_get (occurrences set) place ≡ Some occurrence → IsOccurrence set occurrence
at_place set place occurrence there =
    In-occurrences_back set occurrence (In-from_get (occurrences set) place occurrence there)

pub place_of : (set : RuleSet) (occurrence : Occurrence) → IsOccurrence set occurrence → (place : ℕ) × (slice_get (occurrences set) place ≡ Some occurrence)
place_of set occurrence is = get_from_In (occurrences set) occurrence (In-occurrences set occurrence is)

pub earlier_exists : {X : Type 0} (xs : List X) (place : ℕ) (x : X) → slice_get xs (suc place) ≡ Some x → (y : X) × (slice_get xs place ≡ Some y)
earlier_exists [] place x there = absurd (none-some x there)
earlier_exists (y ∷ ys) zero x there = (y, refl)
earlier_exists (y ∷ ys) (suc place) x there = earlier_exists ys place x there

pub same_place : (set : RuleSet) (place other : ℕ) (x : Occurrence) → slice_get (occurrences set) place ≡ Some x → slice_get (occurrences set) other ≡ Some x → place ≡ other
same_place set place other x here there =
    ⊎_elim (λ (same : place ≡ other). same)
    (⊎_elim
    (λ (lt : place < other). absurd (lt_irrefl place (occurrences_places set place place x x here here (occurrences_strict set place other x x lt here there))))
    (λ (gt : other < place). absurd (lt_irrefl place (occurrences_places set place place x x here here (occurrences_strict set other place x x gt there here)))))
    (cases_order place other)
  where
    lt_irrefl : (n : ℕ) → n < n → ⊥
    lt_irrefl n h = omega arith

pub previous_at : (set : RuleSet) (place : ℕ) (previous occurrence : Occurrence) → slice_get (occurrences set) place ≡ Some previous → slice_get (occurrences set) (suc place) ≡ Some occurrence → IsPrevious set previous occurrence
previous_at set place previous occurrence here there =
    record {
      is = at_place set place previous here;
      before = occurrences_strict set place (suc place) previous occurrence (omega arith) here there;
      last = λ other is before.
          let its = place_of set other is in
          let low : its.0 < suc place = occurrences_places set its.0 (suc place) other occurrence its.1 there before in
          ⊎_elim
          (λ (same : its.0 ≡ place).
          let its_too : slice_get (occurrences set) place ≡ Some other = rw (← same) its.1 in
          inl (same_Some other previous (sym its_too ∙ here)))
          (⊎_elim (λ (lt : its.0 < place). inr (occurrences_strict set its.0 place other previous lt its.1 here))
          (λ (gt : place < its.0). absurd (omega arith)))
          (cases_order its.0 place);
    }

pub previous_is : (set : RuleSet) (place : ℕ) (previous occurrence : Occurrence) → IsPrevious set previous occurrence → slice_get (occurrences set) (suc place) ≡ Some occurrence → slice_get (occurrences set) place ≡ Some previous
previous_is set place previous occurrence is there =
    let its = place_of set previous is.is in
    let low : its.0 < suc place = occurrences_places set its.0 (suc place) previous occurrence its.1 there is.before in
    let here = earlier_exists (occurrences set) place occurrence there in
    let stands = at_place set place here.0 here.1 in
    let before = occurrences_strict set place (suc place) here.0 occurrence (omega arith) here.1 there in
    ⊎_elim (λ (same : here.0 ≡ previous). rw same at here.1)
    (λ (earlier : precedes here.0 previous ≡ true).
    let lower : place < its.0 = occurrences_places set place its.0 here.0 previous here.1 its.1 earlier in
    absurd (omega arith))
    (is.last here.0 stands before)

pub first_at : (set : RuleSet) (occurrence : Occurrence) → slice_get (occurrences set) zero ≡ Some occurrence → IsFirst set occurrence
first_at set occurrence there other is =
    false_from_ne_true (precedes other occurrence)
    (λ before.
    let its = place_of set other is in
    let low : its.0 < zero = occurrences_places set its.0 zero other occurrence its.1 there before in
    omega arith)

-- the save before, by place and without
save_from_place : (set : RuleSet) (place : ℕ) (occurrence : Occurrence) (v : ℤ) → slice_get (occurrences set) place ≡ Some occurrence → HasSave (pos 0) (occurrences set) place v → HasSaveBefore set occurrence v
save_from_place set zero occurrence v there has = inl (has, first_at set occurrence there)
save_from_place set (suc place) occurrence v there has =
    inr (has.0, previous_at set place has.0 occurrence has.1 there, has.2)

pub place_from_save : (set : RuleSet) (place : ℕ) (occurrence : Occurrence) (v : ℤ) → slice_get (occurrences set) place ≡ Some occurrence → HasSaveBefore set occurrence v → HasSave (pos 0) (occurrences set) place v
place_from_save set zero occurrence v there has =
    ⊎_elim (λ (first : (v ≡ pos 0) × IsFirst set occurrence). first.0)
    (λ (later : (previous : Occurrence) × IsPrevious set previous occurrence × (v ≡ previous.rule.save)).
    not_both (precedes later.0 occurrence) later.1.before (first_at set occurrence there later.0 later.1.is))
    has
place_from_save set (suc place) occurrence v there has =
    ⊎_elim
    (λ (first : (v ≡ pos 0) × IsFirst set occurrence).
    let here = earlier_exists (occurrences set) place occurrence there in
    let before = occurrences_strict set place (suc place) here.0 occurrence (omega arith) here.1 there in
    not_both (precedes here.0 occurrence) before (first.1 here.0 (at_place set place here.0 here.1)))
    (λ (later : (previous : Occurrence) × IsPrevious set previous occurrence × (v ≡ previous.rule.save)).
    (later.0, previous_is set place later.0 occurrence later.1 there, later.2))
    has

pub same_save : (save : ℤ) (list : List Occurrence) (place : ℕ) (v w : ℤ) → HasSave save list place v → HasSave save list place w → v ≡ w
same_save save list zero v w first second = first ∙ sym second
same_save save list (suc place) v w first second =
    let same : first.0 ≡ second.0 = same_Some first.0 second.0 (sym first.1 ∙ second.1) in
    first.2 ∙ ap (λ (o : Occurrence). o.rule.save) same ∙ sym second.2

-- ---- the instant of an occurrence
pub comes_at_place : (set : RuleSet) (stdoff : ℤ) (place : ℕ) (occurrence : Occurrence) (instant : ℤ) → slice_get (occurrences set) place ≡ Some occurrence → slice_get (instants stdoff (occurrences set)) place ≡ Some instant → ComesAt set stdoff occurrence instant
comes_at_place set stdoff place occurrence instant here there =
    let its = instants-get stdoff (pos 0) (occurrences set) place occurrence here in
    record {
      save = its.0;
      save_before = save_from_place set place occurrence its.0 here its.1;
      on_its_clock = same_Some instant (instant_with stdoff occurrence its.0) (sym there ∙ its.2);
    }

pub place_comes_at : (set : RuleSet) (stdoff : ℤ) (place : ℕ) (occurrence : Occurrence) (instant : ℤ) → slice_get (occurrences set) place ≡ Some occurrence → ComesAt set stdoff occurrence instant → slice_get (instants stdoff (occurrences set)) place ≡ Some instant
place_comes_at set stdoff place occurrence instant here comes =
    let its = instants-get stdoff (pos 0) (occurrences set) place occurrence here in
    let save : its.0 ≡ comes.save = same_save (pos 0) (occurrences set) place its.0 comes.save its.1 (place_from_save set place occurrence comes.save here comes.save_before) in
    let instant_is : instant_with stdoff occurrence its.0 ≡ instant = ap (instant_with stdoff occurrence) save ∙ sym comes.on_its_clock in
    its.2 ∙ ap (λ (u : ℤ). Some u) instant_is

-- each occurrence comes at one instant
pub comes_somewhen : (set : RuleSet) (stdoff : ℤ) (occurrence : Occurrence) → IsOccurrence set occurrence → (instant : ℤ) × ComesAt set stdoff occurrence instant
comes_somewhen set stdoff occurrence is =
    let here = place_of set occurrence is in
    let its = instants-get stdoff (pos 0) (occurrences set) here.0 occurrence here.1 in
    (instant_with stdoff occurrence its.0, comes_at_place set stdoff here.0 occurrence (instant_with stdoff occurrence its.0) here.1 its.2)

pub comes_once : (set : RuleSet) (stdoff : ℤ) (occurrence : Occurrence) (first second : ℤ) → IsOccurrence set occurrence → ComesAt set stdoff occurrence first → ComesAt set stdoff occurrence second → first ≡ second
comes_once set stdoff occurrence first second is here there =
    let place = place_of set occurrence is in
    same_Some first second
    (sym (place_comes_at set stdoff place.0 occurrence first place.1 here) ∙ place_comes_at set stdoff place.0 occurrence second place.1 there)

-- ---- the state
pub in_effect_from_state : (set : RuleSet) (stdoff t : ℤ) (place : ℕ) (occurrence : Occurrence) → slice_get (occurrences set) place ≡ Some occurrence → state_at (instants stdoff (occurrences set)) t ≡ suc place → IsInEffect set stdoff t occurrence
in_effect_from_state set stdoff t place occurrence here state =
    let us = instants stdoff (occurrences set) in
    let is = at_place set place occurrence here in
    let comes = comes_somewhen set stdoff occurrence is in
    let at = place_comes_at set stdoff place occurrence comes.0 here comes.1 in
    record {
      is = is;
      instant = comes.0;
      comes = comes.1;
      come = state_has_come us t place comes.0 state at;
      none_later = λ other its_instant other_is after other_comes.
          let its = place_of set other other_is in
          let higher : place < its.0 = occurrences_places set place its.0 occurrence other here its.1 after in
          later_has_not_come us t its.0 its_instant (omega arith) (place_comes_at set stdoff its.0 other its_instant its.1 other_comes);
    }

pub state_from_in_effect : (set : RuleSet) (stdoff t : ℤ) (place : ℕ) (occurrence : Occurrence) → slice_get (occurrences set) place ≡ Some occurrence → IsInEffect set stdoff t occurrence → state_at (instants stdoff (occurrences set)) t ≡ suc place
state_from_in_effect set stdoff t place occurrence here effect =
    let us = instants stdoff (occurrences set) in
    state_is us t place effect.instant (place_comes_at set stdoff place occurrence effect.instant here effect.comes) effect.come
    (λ later other_instant after there.
    let other = instants-back stdoff (pos 0) (occurrences set) later other_instant there in
    effect.none_later other.0 other_instant (at_place set later other.0 other.1) (occurrences_strict set place later occurrence other.0 after here other.1)
    (comes_at_place set stdoff later other.0 other_instant other.1 there))

pub none_from_state : (set : RuleSet) (stdoff t : ℤ) → state_at (instants stdoff (occurrences set)) t ≡ 0 → NoneInEffect set stdoff t
none_from_state set stdoff t state other its_instant is comes =
    let its = place_of set other is in
    later_has_not_come (instants stdoff (occurrences set)) t its.0 its_instant (omega arith) (place_comes_at set stdoff its.0 other its_instant its.1 comes)

pub state_from_none : (set : RuleSet) (stdoff t : ℤ) → NoneInEffect set stdoff t → state_at (instants stdoff (occurrences set)) t ≡ 0
state_from_none set stdoff t none =
    state_is_none (instants stdoff (occurrences set)) t
    (λ place instant there.
    let other = instants-back stdoff (pos 0) (occurrences set) place instant there in
    none other.0 instant (at_place set place other.0 other.1) (comes_at_place set stdoff place other.0 instant other.1 there))

-- ---- what is in force
pub in_force-at : (list : List Occurrence) (place : ℕ) (occurrence : Occurrence) → slice_get list place ≡ Some occurrence → in_force list (suc place) ≡ put_in_force occurrence
unfolding in_force
in_force-at list place occurrence there = rw there

pub in_force-zero : (list : List Occurrence) → in_force list 0 ≡ before_first list
unfolding in_force
in_force-zero list = refl

pub in_force_in_effect : (set : RuleSet) (stdoff t : ℤ) (occurrence : Occurrence) → IsInEffect set stdoff t occurrence → in_force (occurrences set) (state_at (instants stdoff (occurrences set)) t) ≡ put_in_force occurrence
in_force_in_effect set stdoff t occurrence effect =
    let here = place_of set occurrence effect.is in
    ap (in_force (occurrences set)) (state_from_in_effect set stdoff t here.0 occurrence here.1 effect) ∙ in_force-at (occurrences set) here.0 occurrence here.1

pub in_force_before : (set : RuleSet) (stdoff t : ℤ) → NoneInEffect set stdoff t → in_force (occurrences set) (state_at (instants stdoff (occurrences set)) t) ≡ before_first (occurrences set)
in_force_before set stdoff t none =
    ap (in_force (occurrences set)) (state_from_none set stdoff t none) ∙ in_force-zero (occurrences set)

-- ---- cuts
pub effect_from_takes : (set : RuleSet) (stdoff instant : ℤ) → TakesEffect (Rules set) stdoff instant → (occurrence : Occurrence) × ComesAt set stdoff occurrence instant × IsInEffect set stdoff instant occurrence
effect_from_takes set stdoff instant takes =
    let other = instants-back stdoff (pos 0) (occurrences set) takes.0 instant takes.1 in
    (other.0, comes_at_place set stdoff takes.0 other.0 instant other.1 takes.1, in_effect_from_state set stdoff instant takes.0 other.0 other.1 takes.2)

pub takes_from_effect : (set : RuleSet) (stdoff instant : ℤ) (occurrence : Occurrence) → ComesAt set stdoff occurrence instant → IsInEffect set stdoff instant occurrence → TakesEffect (Rules set) stdoff instant
takes_from_effect set stdoff instant occurrence comes effect =
    let here = place_of set occurrence effect.is in
    (here.0, place_comes_at set stdoff here.0 occurrence instant here.1 comes, state_from_in_effect set stdoff instant here.0 occurrence here.1 effect)

-- ---- how far an instant lies from its nominal second
pub shift_near : (kind : AtKind) (stdoff save : ℤ) → IsShift stdoff → IsShift save → IsWithin LONGEST_OFFSET (shift kind stdoff save)
shift_near kinds.Universal stdoff save here there = (omega (arith, ints), omega (arith, ints))
shift_near kinds.Standard stdoff save here there = (omega (arith, ints, here), omega (arith, ints, here))
shift_near kinds.Wall stdoff save here there = (omega (arith, ints, here, there), omega (arith, ints, here, there))

save_near : (set : RuleSet) (occurrence : Occurrence) (save : ℤ) → HasSaveBefore set occurrence save → IsShift save
save_near set occurrence save has =
    ⊎_elim (λ (first : (save ≡ pos 0) × IsFirst set occurrence). (omega (arith, ints, first.0), omega (arith, ints, first.0)))
    (λ (later : (previous : Occurrence) × IsPrevious set previous occurrence × (save ≡ previous.rule.save)).
    let within : IsShift later.0.rule.save = later.0.rule.save_in in
    rw later.2 within)
    has

pub comes_near : (set : RuleSet) (stdoff : ℤ) (occurrence : Occurrence) (instant : ℤ) → IsShift stdoff → ComesAt set stdoff occurrence instant → IsWithin LONGEST_OFFSET (instant -ℤ nominal_of occurrence)
comes_near set stdoff occurrence instant within comes =
    let near = shift_near occurrence.rule.moment.kind stdoff comes.save within (save_near set occurrence comes.save comes.save_before) in
    let is = comes.on_its_clock in
    (omega (arith, ints, near, is), omega (arith, ints, near, is))

-- ---- there is one in effect, or none
pub not_within : {X : Type 0} (us : List X) (place : ℕ) → slice_get us place ≡ None → suc place ≤ length us → ⊥
not_within [] place gone within = omega arith
not_within (u ∷ us) zero gone within = none-some u (sym gone)
not_within (u ∷ us) (suc place) gone within = not_within us place gone (omega arith)

pub in_effect_cases : (set : RuleSet) (stdoff t : ℤ) → NoneInEffect set stdoff t ⊎ ((occurrence : Occurrence) × IsInEffect set stdoff t occurrence)
in_effect_cases set stdoff t = by_state (state_at (instants stdoff (occurrences set)) t) refl
  where
    by_state : (state : ℕ) → state_at (instants stdoff (occurrences set)) t ≡ state → NoneInEffect set stdoff t ⊎ ((occurrence : Occurrence) × IsInEffect set stdoff t occurrence)
    by_state zero is = inl (none_from_state set stdoff t is)
    by_state (suc place) is =
        let us = instants stdoff (occurrences set) in
        by_get us place
        (λ instant there.
        let here = instants-back stdoff (pos 0) (occurrences set) place instant there in
        inr (here.0, in_effect_from_state set stdoff t place here.0 here.1 is))
        (λ gone. absurd (not_within us place gone (omega (arith, state_at_bound us t))))

pub in_effect_once : (set : RuleSet) (stdoff t : ℤ) (first second : Occurrence) → IsInEffect set stdoff t first → IsInEffect set stdoff t second → first ≡ second
in_effect_once set stdoff t first second here there =
    let place = place_of set first here.is in
    let other = place_of set second there.is in
    let state = state_from_in_effect set stdoff t place.0 first place.1 here in
    let state_too = state_from_in_effect set stdoff t other.0 second other.1 there in
    let same : place.0 ≡ other.0 = omega (arith, state, state_too) in
    let second_there : slice_get (occurrences set) place.0 ≡ Some second = rw same other.1 in
    same_Some first second (sym place.1 ∙ second_there)

-- ---- the letters before the first
letters-some : (list : List Occurrence) (occurrence : Occurrence) → find (λ (o : Occurrence). int_eq o.rule.save (pos 0)) list ≡ Some occurrence → first_letters list ≡ occurrence.rule.letters
letters-some list occurrence e = rw e

letters-none : (list : List Occurrence) → find (λ (o : Occurrence). int_eq o.rule.save (pos 0)) list ≡ None → first_letters list ≡ []
letters-none list e = rw e

pub occurrences_strictly : (set : RuleSet) → Pairs (λ (x y : Occurrence). precedes x y ≡ true) (occurrences set)
occurrences_strictly set =
    Pairs-both NotAfter Differs (λ (x y : Occurrence). precedes x y ≡ true) (occurrences set)
    (λ x y not_after differs. ⊎_elim (λ (first : precedes x y ≡ true). first) (λ (second : precedes y x ≡ true). not_both (precedes y x) second not_after) differs)
    (occurrences_ordered set) (occurrences_differ set)

pub letters_of_first : (set : RuleSet) (occurrence : Occurrence) → IsFirstStandard set occurrence → first_letters (occurrences set) ≡ occurrence.rule.letters
letters_of_first set occurrence is =
    letters-some (occurrences set) occurrence
    (find-first (λ (x y : Occurrence). precedes x y ≡ true) (λ (o : Occurrence). int_eq o.rule.save (pos 0)) (occurrences set) occurrence (occurrences_strictly set) (In-occurrences set occurrence is.is)
    ((Decides-int_eq occurrence.rule.save (pos 0)).1 is.standard)
    (λ other among standard before.
    ⊎_elim
    (λ (same : other ≡ occurrence).
    let itself : precedes occurrence occurrence ≡ true = rw same at before in
    not_both (precedes occurrence occurrence) itself (precedes_asym occurrence occurrence itself))
    (λ (after : precedes occurrence other ≡ true). not_both (precedes occurrence other) after (precedes_asym other occurrence before))
    (is.first other (In-occurrences_back set other among) ((Decides-int_eq other.rule.save (pos 0)).0 standard))))

pub no_letters : (set : RuleSet) → ((other : Occurrence) → IsOccurrence set other → ¬ (other.rule.save ≡ pos 0)) → first_letters (occurrences set) ≡ []
no_letters set none =
    letters-none (occurrences set)
    (find-none (λ (o : Occurrence). int_eq o.rule.save (pos 0)) (occurrences set)
    (λ other among.
    false_from_ne_true (int_eq other.rule.save (pos 0))
    (λ standard. none other (In-occurrences_back set other among) ((Decides-int_eq other.rule.save (pos 0)).0 standard))))

-- Each range of the stretch runs from where the occurrence in effect comes to the least instant of later ones.
use Rattle.std.proofs.Common.{◌≡◌, ℕ, suc, ◌<◌, ◌≤◌, true, ◌⊎◌, inl, inr, ⊎_elim, refl, ◌∙◌, arith, List, Some, ℤ, pos, ◌<ℤ◌, ◌≤ℤ◌}
use Rattle.std.specs.Prelude.{slice_get}
use Rattle.std.specs.Int.{int_max}
use Rattle.std.proofs.lemmas.Int.{ints, clamps, by_lt_z}
use Rattle.tz_types.specs.declared.rule_set.RuleSet.{RuleSet}
use Rattle.tz_specs.specs.Occurrence.{Occurrence, precedes, occurrences}
use Rattle.tz_specs.specs.State.{instants, in_force, state_at, put_in_force, before_first}
use Rattle.tz_specs.specs.Until.{Rules}
use Rattle.tz_specs.specs.Expansion.{Period, state_in, range_of}
use Rattle.tz_specs.specs.Standing.{IsOccurrence, IsRangeOf}
use Rattle.tz_specs.specs.Effect.{ComesAt, IsInEffect, NoneInEffect}
use Rattle.tz_specs.specs.Around.{IsToCome, IsBeginAround, IsEndAround}
use Rattle.tz_specs.proofs.Tests.{not_both}
use Rattle.tz_specs.proofs.ListLemmas.{In, In-from_get, get_from_In, Pairs-get}
use Rattle.tz_specs.proofs.OrderLemmas.{true-precedes, precedes_asym, precedes_trans}
use Rattle.tz_specs.proofs.EffectLemmas.{instants-get, instants-back, comes_once, comes_near, in_effect_once, in_force_in_effect, in_force_before}
use Rattle.tz_specs.proofs.AroundLemmas.{range_around}
use Rattle.tz_expand.proofs.Strict.{Before, place_before}
use Rattle.tz_expand.proofs.Gathered.{Earlier, Later}
use Rattle.tz_expand.proofs.Section.{Section, NoneBy, BaseAt, base_cases, AllBy, FirstAfter, after_cases, AtBase, at_base_more, earlier_by, IsFar, comes_or_far, computed_near, first_comes}

-- the least of the instants from a place on, and of the line's end
pub record EndsAt (us : List ℤ) (place : ℕ) (finish end : ℤ) : Type 0 where
  pub high : end ≤ℤ finish
  pub each : (j : ℕ) (w : ℤ) → place ≤ j → slice_get us j ≡ Some w → end ≤ℤ w
  pub is : (end ≡ finish) ⊎ ((j : ℕ) × (place ≤ j) × (slice_get us j ≡ Some end))

-- an occurrence that stands in the list from a place on, or is left out behind it
abbrev pub StandsFrom : List Occurrence → ℤ → ℕ → Occurrence → Type 0
StandsFrom list to q o = ((j : ℕ) × (q ≤ j) × (slice_get list j ≡ Some o)) ⊎ Later list to o

-- what the place is: from the base on, and not behind the first one after the stretch
pub record IsPlace (list : List Occurrence) (from to : ℤ) (q : ℕ) : Type 0 where
  pub base : AtBase list from q
  pub first : (found : FirstAfter list to) → q ≤ found.place

-- what comes a year behind the first one after the stretch doesn't come before the end
far_ends : (set : RuleSet) (stdoff from to : ℤ) (list : List Occurrence) (q : ℕ) (finish end : ℤ) (o : Occurrence) (w : ℤ) → Section set stdoff from to list → IsPlace list from to q → EndsAt (instants stdoff list) q finish end → ComesAt set stdoff o w → IsFar list to o → end <ℤ w
far_ends set stdoff from to list q finish end o w section place ends comes far =
    let found = far.0 in
    let apart = far.1 in
    let first = first_comes set stdoff from to list section found in
    let by = ends.each found.place first.instant (place.first found) first.there in
    let near = first.near in
    let its_near = comes_near set stdoff o w section.stdoff_in comes in
    omega (arith, ints)

later_is_far : (set : RuleSet) (stdoff from to : ℤ) (list : List Occurrence) (o : Occurrence) → Section set stdoff from to list → Later list to o → IsFar list to o
later_is_far set stdoff from to list o section left =
    let after = left.after in
    let apart = left.apart in
    ⊎_elim (λ (all : AllBy list to). let by = all left.first left.first_in in absurd (omega (arith, ints)))
    (λ (found : FirstAfter list to).
    let first = found.first left.first left.first_in after in
    (found, omega (arith, ints)))
    (after_cases list to section.order)

-- no later occurrence comes before the end
ends_before : (set : RuleSet) (stdoff from to : ℤ) (list : List Occurrence) (q : ℕ) (finish end : ℤ) (o : Occurrence) (w : ℤ) → Section set stdoff from to list → IsPlace list from to q → EndsAt (instants stdoff list) q finish end → IsOccurrence set o → ComesAt set stdoff o w → StandsFrom list to q o → end ≤ℤ w
ends_before set stdoff from to list q finish end o w section place ends is comes stands =
    ⊎_elim
    (λ (here : (j : ℕ) × (q ≤ j) × (slice_get list j ≡ Some o)).
    let its = instants-get stdoff (pos 0) list here.0 o here.2 in
    let by = ends.each here.0 _ here.1 its.2 in
    ⊎_elim
    (λ (its_comes : ComesAt set stdoff o _). let same = comes_once set stdoff o _ w is its_comes comes in rw (← same) by)
    (λ (far : IsFar list to o). let less = far_ends set stdoff from to list q finish end o w section place ends comes far in omega (arith, ints))
    (comes_or_far set stdoff from to list here.0 o _ section (at_base_more list from q here.0 here.1 place.base) here.2 its.2))
    (λ (left : Later list to o).
    let less = far_ends set stdoff from to list q finish end o w section place ends comes (later_is_far set stdoff from to list o section left) in
    omega (arith, ints))
    stands

-- the end is the line's, or the instant of a later occurrence
pub record ComesAtEnd (set : RuleSet) (stdoff : ℤ) (list : List Occurrence) (q : ℕ) (end : ℤ) : Type 0 where
  pub occurrence : Occurrence
  pub is : IsOccurrence set occurrence
  pub place : ℕ
  pub behind : q ≤ place
  pub there : slice_get list place ≡ Some occurrence
  pub comes : ComesAt set stdoff occurrence end

end_is : (set : RuleSet) (stdoff from to : ℤ) (list : List Occurrence) (q : ℕ) (finish end : ℤ) → Section set stdoff from to list → IsPlace list from to q → EndsAt (instants stdoff list) q finish end → (end ≡ finish) ⊎ ComesAtEnd set stdoff list q end
end_is set stdoff from to list q finish end section place ends =
    ⊎_elim (λ (same : end ≡ finish). inl same)
    (λ (here : (j : ℕ) × (q ≤ j) × (slice_get (instants stdoff list) j ≡ Some end)).
    let o = instants-back stdoff (pos 0) list here.0 end here.2 in
    ⊎_elim
    (λ (comes : ComesAt set stdoff o.0 end).
    inr (record {
      occurrence = o.0;
      is = section.gathers.known o.0 (In-from_get list here.0 o.0 o.1);
      place = here.0;
      behind = here.1;
      there = o.1;
      comes = comes;
    }))
    (λ (far : IsFar list to o.0).
    let apart = far.1 in
    let first = first_comes set stdoff from to list section far.0 in
    let by = ends.each far.0.place first.instant (place.first far.0) first.there in
    let near = first.near in
    let its_near = computed_near stdoff list here.0 o.0 end section.stdoff_in o.1 here.2 in
    absurd (omega (arith, ints)))
    (comes_or_far set stdoff from to list here.0 o.0 end section (at_base_more list from q here.0 here.1 place.base) o.1 here.2))
    ends.is

state_in-rules : (set : RuleSet) (period : Period) (t : ℤ) → period.following ≡ Rules set → state_in period t ≡ in_force (occurrences set) (state_at (instants period.stdoff (occurrences set)) t)
state_in-rules set period t e = rw e

-- what a change is: a range of the line begins there, with what the occurrence puts in force
pub record Changes (period : Period) (x : Occurrence) (begin end : ℤ) : Type 0 where
  pub range : IsRangeOf period (range_of period begin end)
  pub in_force_then : state_in period begin ≡ put_in_force x

-- an occurrence whose instant lies before all later ones is in effect from then on to the least of them
pub change_here : (set : RuleSet) (period : Period) (from to : ℤ) (list : List Occurrence) (i : ℕ) (x : Occurrence) (u begin end : ℤ) → period.following ≡ Rules set → Section set period.stdoff from to list → AtBase list from i → slice_get list i ≡ Some x → slice_get (instants period.stdoff list) i ≡ Some u → EndsAt (instants period.stdoff list) (suc i) period.finish end → begin ≡ int_max u period.start → begin <ℤ end → begin <ℤ to → Changes period x begin end
change_here set period from to list i x u begin end follows section at here there ends begin_is rises inside =
    let stdoff = period.stdoff in
    let from_u : u ≤ℤ begin = omega (arith, ints, clamps) in
    let from_start : period.start ≤ℤ begin = omega (arith, ints, clamps) in
    let is = section.gathers.known x (In-from_get list i x here) in
    let its_near = computed_near stdoff list i x u section.stdoff_in here there in
    let comes : ComesAt set stdoff x u =
    ⊎_elim (λ (comes : ComesAt set stdoff x u). comes)
    (λ (far : IsFar list to x).
    let apart = far.1 in
    let after = far.0.after in
    absurd (omega (arith, ints)))
    (comes_or_far set stdoff from to list i x u section at here there) in
    let place : IsPlace list from to (suc i) =
    record {
      base = at_base_more list from i (suc i) (omega arith) at;
      first = λ found.
          let after = found.after in
          let before : Before x found.occurrence = true-precedes x found.occurrence (inl (omega (arith, ints))) in
          let low : i < found.place = place_before list i found.place x found.occurrence section.order here found.there before in
          omega arith;
    } in
    let stands : (o : Occurrence) → IsOccurrence set o → Before x o → StandsFrom list to (suc i) o = λ o o_is before.
    ⊎_elim
    (λ (among : In o list).
    let its = get_from_In list o among in
    let low : i < its.0 = place_before list i its.0 x o section.order here its.1 before in
    inl (its.0, omega arith, its.1))
    (⊎_elim
    (λ (left : Earlier list from o).
    let by = earlier_by list from i o section.order at left in
    let first_before : Before left.first x = Pairs-get Before list by.0 i left.first x section.order by.2 by.1 here in
    let itself : Before o x = precedes_trans o left.first x left.before first_before in
    not_both (precedes o x) itself (precedes_asym x o before))
    (λ (left : Later list to o). inr left))
    (section.gathers.told o o_is) in
    let later : (o : Occurrence) (w : ℤ) → IsOccurrence set o → Before x o → ComesAt set stdoff o w → end ≤ℤ w = λ o w o_is before its_comes.
    ends_before set stdoff from to list (suc i) period.finish end o w section place ends o_is its_comes (stands o o_is before) in
    let effect : IsInEffect set stdoff begin x =
    record {
      is = is;
      instant = u;
      comes = comes;
      come = from_u;
      none_later = λ o w o_is before its_comes. let by = later o w o_is before its_comes in omega (arith, ints);
    } in
    let to_come : (o : Occurrence) → IsToCome set stdoff begin o → Before x o = λ o coming.
    ⊎_elim (λ (none : NoneInEffect set stdoff begin). let not_yet = none x u is comes in absurd (omega (arith, ints)))
    (λ (now : (now : Occurrence) × IsInEffect set stdoff begin now × (precedes now o ≡ true)).
    let same = in_effect_once set stdoff begin now.0 x now.1 effect in
    rw same at now.2)
    coming.1 in
    let begins : IsBeginAround set period begin begin =
    by_lt_z period.start u
    (λ lt.
    let same : u ≡ begin = omega (arith, ints, clamps) in
    inl (x, effect, rw same at comes, omega (arith, ints)))
    (λ le.
    let same : begin ≡ period.start = omega (arith, ints, clamps) in
    inr (
      same,
      λ now w its_effect its_comes.
          let x_now = in_effect_once set stdoff begin now x its_effect effect in
          let its : ComesAt set stdoff x w = rw x_now at its_comes in
          let equal = comes_once set stdoff x w u is its comes in
          omega (arith, ints),
    )) in
    let others : (o : Occurrence) (w : ℤ) → IsToCome set stdoff begin o → ComesAt set stdoff o w → end ≤ℤ w = λ o w coming its_comes. later o w coming.0 (to_come o coming) its_comes in
    let high = ends.high in
    let at_finish : end ≡ period.finish → IsEndAround set period begin end = λ same. inr (same, λ o w coming its_comes. let by = others o w coming its_comes in omega (arith, ints)) in
    let ends_there : IsEndAround set period begin end =
    ⊎_elim at_finish
    (λ (found : ComesAtEnd set stdoff list (suc i) end).
    by_lt_z end period.finish
    (λ lt.
    inl (
      record {
        occurrence = found.occurrence;
        to_come = (found.is, inr (x, effect, Pairs-get Before list i found.place x found.occurrence section.order (omega (arith, found.behind)) here found.there));
        comes = found.comes;
        soonest = others;
      },
      lt,
    ))
    (λ ge. at_finish (omega (arith, ints))))
    (end_is set stdoff from to list (suc i) period.finish end section place ends) in
    record {
      range = (range_around set period begin begin end follows from_start (omega (arith, ints)) begins ends_there).0;
      in_force_then = state_in-rules set period begin follows ∙ in_force_in_effect set stdoff begin x effect;
    }

-- where no occurrence has come by the stretch, the line's first range runs to the least instant
pub record Starts (set : RuleSet) (period : Period) (end : ℤ) : Type 0 where
  pub range : IsRangeOf period (range_of period period.start end)
  pub in_force_then : state_in period period.start ≡ before_first (occurrences set)

pub start_here : (set : RuleSet) (period : Period) (from to : ℤ) (list : List Occurrence) (end : ℤ) → period.following ≡ Rules set → Section set period.stdoff from to list → EndsAt (instants period.stdoff list) 0 period.finish end → period.start ≤ℤ from → from <ℤ end → Starts set period end
start_here set period from to list end follows section ends started inside =
    let stdoff = period.stdoff in
    let none_by : NoneBy list from =
    ⊎_elim (λ (none : NoneBy list from). none)
    (λ (base : BaseAt list from).
    let its = instants-get stdoff (pos 0) list base.place base.occurrence base.there in
    let by = ends.each base.place _ (omega arith) its.2 in
    let near = computed_near stdoff list base.place base.occurrence _ section.stdoff_in base.there its.2 in
    let come = base.come in
    absurd (omega (arith, ints)))
    (base_cases list from) in
    let place : IsPlace list from to 0 = record { base = inl none_by; first = λ found. omega arith } in
    let later : (o : Occurrence) (w : ℤ) → IsOccurrence set o → ComesAt set stdoff o w → end ≤ℤ w = λ o w o_is its_comes.
    ends_before set stdoff from to list 0 period.finish end o w section place ends o_is its_comes
    (⊎_elim (λ (among : In o list). let its = get_from_In list o among in inl (its.0, omega arith, its.1))
    (⊎_elim
    (λ (left : Earlier list from o).
    let after = none_by left.second left.second_in in
    let come = left.come in
    absurd (omega (arith, ints)))
    (λ (left : Later list to o). inr left))
    (section.gathers.told o o_is)) in
    let none : NoneInEffect set stdoff period.start = λ o w o_is its_comes. let by = later o w o_is its_comes in omega (arith, ints) in
    let begins : IsBeginAround set period period.start period.start =
    inr (refl, λ now w effect comes. let not_yet = none now w effect.is comes in let at = effect.come in let same = comes_once set stdoff now w effect.instant effect.is comes effect.comes in absurd (omega (arith, ints))) in
    let others : (o : Occurrence) (w : ℤ) → IsToCome set stdoff period.start o → ComesAt set stdoff o w → end ≤ℤ w = λ o w coming its_comes. later o w coming.0 its_comes in
    let high = ends.high in
    let at_finish : end ≡ period.finish → IsEndAround set period period.start end = λ same. inr (same, λ o w coming its_comes. let by = others o w coming its_comes in omega (arith, ints)) in
    let ends_there : IsEndAround set period period.start end =
    ⊎_elim at_finish
    (λ (found : ComesAtEnd set stdoff list 0 end).
    by_lt_z end period.finish
    (λ lt.
    inl (record { occurrence = found.occurrence; to_come = (found.is, inl none); comes = found.comes; soonest = others }, lt))
    (λ ge. at_finish (omega (arith, ints))))
    (end_is set stdoff from to list 0 period.finish end section place ends) in
    record {
      range = (range_around set period period.start period.start end follows (omega (arith, ints)) (omega (arith, ints)) begins ends_there).0;
      in_force_then = state_in-rules set period period.start follows ∙ in_force_before set stdoff period.start none;
    }

-- The range around an instant.
use Rattle.std.proofs.Common.{◌≡◌, ℕ, zero, suc, ◌<◌, ◌≤◌, Bool, true, ◌⊎◌, inl, inr, ⊎_elim, refl, sym, ap, ◌∙◌, arith, List, [], ◌∷◌, ℤ, pos, ◌<ℤ◌, ◌≤ℤ◌, Some, None}
use Rattle.std.specs.Prelude.{slice_get}
use Rattle.std.proofs.lemmas.Int.{ints, by_lt_z}
use Rattle.std.proofs.lemmas.Option.{same_Some, none-some}
use Rattle.tz_types.specs.declared.rule_set.RuleSet.{RuleSet}
use Rattle.tz_types.specs.declared.range.SysInfo.{SysInfo}
use Rattle.tz_specs.specs.Occurrence.{Occurrence, precedes, occurrences}
use Rattle.tz_specs.specs.State.{instants, state_at, in_force}
use Rattle.tz_specs.specs.Until.{Nothing, Fixed, Rules}
use Rattle.tz_specs.specs.Expansion.{Period, state_in, range_of, ranges_of, full_expansion, holds_instant, range_at, periods_from, finish_of}
use Rattle.tz_specs.specs.Cover.{Chains, end_from}
use Rattle.tz_specs.specs.Standing.{TakesEffect, IsCut, IsRangeOf}
use Rattle.tz_specs.specs.Effect.{ComesAt, IsInEffect, NoneInEffect}
use Rattle.tz_specs.specs.Around.{IsToCome, IsNextChange, IsBeginAround, IsEndAround}
use Rattle.tz_specs.proofs.ListLemmas.{In, get_from_In}
use Rattle.tz_specs.proofs.StateLemmas.{by_number, by_get, soonest_takes_effect, takes_effect_later, none_between, state_kept, state_kept_none, state_has_come, later_has_not_come, state_at_bound, state_at_own}
use Rattle.tz_specs.proofs.OccurrenceLemmas.{occurrences_strict, occurrences_places}
use Rattle.tz_specs.proofs.EffectLemmas.{instants-back, at_place, place_of, comes_at_place, place_comes_at, in_effect_from_state, state_from_in_effect, none_from_state, state_from_none, not_within}
use Rattle.tz_specs.proofs.CoverLemmas.{true-holds, range_at_only}
use Rattle.tz_specs.proofs.CutLemmas.{expansion_covers}
use Rattle.tz_specs.proofs.ExpansionLemmas.{ranges_of_plain, ranges_of_fixed}
use Rattle.tz_types.specs.declared.zone_line.ZoneLine.{ZoneLine}
use Rattle.tz_specs.proofs.RangeLemmas.{In-ranges, In-ranges_back, In-expansion, chain_takes_time}

-- ---- to come, by place and without
pub to_come-place : (set : RuleSet) (stdoff t : ℤ) (place : ℕ) (occurrence : Occurrence) → slice_get (occurrences set) place ≡ Some occurrence → IsToCome set stdoff t occurrence → state_at (instants stdoff (occurrences set)) t ≤ place
to_come-place set stdoff t place occurrence here is =
    ⊎_elim (λ (none : NoneInEffect set stdoff t). omega (arith, state_from_none set stdoff t none))
    (λ (later : (now : Occurrence) × IsInEffect set stdoff t now × (precedes now occurrence ≡ true)).
    let its = place_of set later.0 later.1.is in
    let below : its.0 < place = occurrences_places set its.0 place later.0 occurrence its.1 here later.2 in
    omega (arith, state_from_in_effect set stdoff t its.0 later.0 its.1 later.1))
    is.1

no_gap : {X : Type 0} (xs : List X) (first later : ℕ) (x : X) → slice_get xs first ≡ None → slice_get xs later ≡ Some x → first < later → ⊥
no_gap [] first later x gone there below = none-some x there
no_gap (y ∷ ys) zero later x gone there below = none-some y (sym gone)
no_gap (y ∷ ys) (suc first) zero x gone there below = omega arith
no_gap (y ∷ ys) (suc first) (suc later) x gone there below = no_gap ys first later x gone there (omega arith)

pub place-to_come : (set : RuleSet) (stdoff t : ℤ) (place : ℕ) (occurrence : Occurrence) → slice_get (occurrences set) place ≡ Some occurrence → state_at (instants stdoff (occurrences set)) t ≤ place → IsToCome set stdoff t occurrence
place-to_come set stdoff t place occurrence here after =
    let list = occurrences set in
    let us = instants stdoff list in (
      at_place set place occurrence here,
      by_number (state_at us t) (λ none. inl (none_from_state set stdoff t none))
          (λ now_place state.
          by_get list now_place
          (λ now there.
          inr (now, in_effect_from_state set stdoff t now_place now there state, occurrences_strict set now_place place now occurrence (omega arith) there here))
          (λ gone. absurd (no_gap list now_place place occurrence gone here (omega arith)))),
    )

-- ---- the next change
pub change_takes_effect : (set : RuleSet) (stdoff t change : ℤ) → IsNextChange set stdoff t change → TakesEffect (Rules set) stdoff change
change_takes_effect set stdoff t change next =
    let list = occurrences set in
    let its = place_of set next.occurrence next.to_come.0 in
    soonest_takes_effect (instants stdoff list) t its.0 change (to_come-place set stdoff t its.0 next.occurrence its.1 next.to_come) (place_comes_at set stdoff its.0 next.occurrence change its.1 next.comes)
    (λ other w after there.
    let o = instants-back stdoff (pos 0) list other w there in
    next.soonest o.0 w (place-to_come set stdoff t other o.0 o.1 after) (comes_at_place set stdoff other o.0 w o.1 there))

pub change_is_later : (set : RuleSet) (stdoff t change : ℤ) → IsNextChange set stdoff t change → t <ℤ change
change_is_later set stdoff t change next =
    let its = place_of set next.occurrence next.to_come.0 in
    later_has_not_come (instants stdoff (occurrences set)) t its.0 change (to_come-place set stdoff t its.0 next.occurrence its.1 next.to_come)
    (place_comes_at set stdoff its.0 next.occurrence change its.1 next.comes)

-- what takes effect after t is to come
pub later_is_to_come : (set : RuleSet) (stdoff t w : ℤ) → TakesEffect (Rules set) stdoff w → t <ℤ w → (occurrence : Occurrence) × IsToCome set stdoff t occurrence × ComesAt set stdoff occurrence w
later_is_to_come set stdoff t w takes later =
    let list = occurrences set in
    let o = instants-back stdoff (pos 0) list takes.0 w takes.1 in
    (o.0, place-to_come set stdoff t takes.0 o.0 o.1 (takes_effect_later (instants stdoff list) t takes.0 w takes.1 takes.2 later), comes_at_place set stdoff takes.0 o.0 w o.1 takes.1)

-- the place of what is in effect
pub now_at : (set : RuleSet) (stdoff t : ℤ) (now : Occurrence) (instant : ℤ) → IsInEffect set stdoff t now → ComesAt set stdoff now instant → (place : ℕ) × (slice_get (instants stdoff (occurrences set)) place ≡ Some instant) × (state_at (instants stdoff (occurrences set)) t ≡ suc place)
now_at set stdoff t now instant effect comes =
    let its = place_of set now effect.is in
    (its.0, place_comes_at set stdoff its.0 now instant its.1 comes, state_from_in_effect set stdoff t its.0 now its.1 effect)

-- ---- the range
begin_come : (set : RuleSet) (period : Period) (t begin : ℤ) → period.start ≤ℤ t → IsBeginAround set period t begin → begin ≤ℤ t
begin_come set period t begin started is =
    ⊎_elim
    (λ (inner : (now : Occurrence) × IsInEffect set period.stdoff t now × ComesAt set period.stdoff now begin × (period.start <ℤ begin)).
    let its = now_at set period.stdoff t inner.0 begin inner.1 inner.2 in
    state_has_come (instants period.stdoff (occurrences set)) t its.0 begin its.2 its.1)
    (λ (outer : (begin ≡ period.start) × ((now : Occurrence) (its_instant : ℤ) → IsInEffect set period.stdoff t now → ComesAt set period.stdoff now its_instant → its_instant ≤ℤ period.start)).
    omega (arith, ints, outer.0))
    is

end_later : (set : RuleSet) (period : Period) (t end : ℤ) → t <ℤ period.finish → IsEndAround set period t end → t <ℤ end
end_later set period t end inside is =
    ⊎_elim (λ (inner : IsNextChange set period.stdoff t end × (end <ℤ period.finish)). change_is_later set period.stdoff t end inner.0)
    (λ (outer : (end ≡ period.finish) × ((other : Occurrence) (its_instant : ℤ) → IsToCome set period.stdoff t other → ComesAt set period.stdoff other its_instant → period.finish ≤ℤ its_instant)).
    omega (arith, ints, outer.0))
    is

begin_is : (set : RuleSet) (period : Period) (t begin : ℤ) → period.following ≡ Rules set → period.start ≤ℤ t → t <ℤ period.finish → IsBeginAround set period t begin → (begin ≡ period.start) ⊎ IsCut period begin
begin_is set period t begin follows started inside is =
    ⊎_elim
    (λ (inner : (now : Occurrence) × IsInEffect set period.stdoff t now × ComesAt set period.stdoff now begin × (period.start <ℤ begin)).
    let us = instants period.stdoff (occurrences set) in
    let its = now_at set period.stdoff t inner.0 begin inner.1 inner.2 in
    let come : begin ≤ℤ t = begin_come set period t begin started is in
    let takes : TakesEffect (Rules set) period.stdoff begin = (its.0, its.1, state_at_own us t its.0 begin its.2 its.1) in
    inr (record { after_start = inner.3; before_finish = omega (arith, ints); takes_effect = rw follows takes }))
    (λ (outer : (begin ≡ period.start) × ((now : Occurrence) (its_instant : ℤ) → IsInEffect set period.stdoff t now → ComesAt set period.stdoff now its_instant → its_instant ≤ℤ period.start)).
    inl outer.0)
    is

end_is : (set : RuleSet) (period : Period) (t end : ℤ) → period.following ≡ Rules set → period.start ≤ℤ t → IsEndAround set period t end → (end ≡ period.finish) ⊎ IsCut period end
end_is set period t end follows started is =
    ⊎_elim
    (λ (inner : IsNextChange set period.stdoff t end × (end <ℤ period.finish)).
    let later : t <ℤ end = change_is_later set period.stdoff t end inner.0 in
    let takes : TakesEffect (Rules set) period.stdoff end = change_takes_effect set period.stdoff t end inner.0 in
    inr (record { after_start = omega (arith, ints); before_finish = inner.1; takes_effect = rw follows takes }))
    (λ (outer : (end ≡ period.finish) × ((other : Occurrence) (its_instant : ℤ) → IsToCome set period.stdoff t other → ComesAt set period.stdoff other its_instant → period.finish ≤ℤ its_instant)).
    inl outer.0)
    is

-- no cut between the begin and t
none_before : (set : RuleSet) (period : Period) (t begin w : ℤ) → IsBeginAround set period t begin → TakesEffect (Rules set) period.stdoff w → begin <ℤ w → w ≤ℤ t → ⊥
none_before set period t begin w is takes after before =
    let list = occurrences set in
    let us = instants period.stdoff list in
    ⊎_elim
    (λ (inner : (now : Occurrence) × IsInEffect set period.stdoff t now × ComesAt set period.stdoff now begin × (period.start <ℤ begin)).
    let its = now_at set period.stdoff t inner.0 begin inner.1 inner.2 in
    none_between us t its.0 takes.0 begin w its.2 its.1 takes.1 takes.2 after before)
    (λ (outer : (begin ≡ period.start) × ((now : Occurrence) (its_instant : ℤ) → IsInEffect set period.stdoff t now → ComesAt set period.stdoff now its_instant → its_instant ≤ℤ period.start)).
    by_number (state_at us t)
    (λ none.
    let not_yet : t <ℤ w = later_has_not_come us t takes.0 w (omega arith) takes.1 in
    omega (arith, ints))
    (λ place state.
    by_get us place
    (λ u here.
    let now = instants-back period.stdoff (pos 0) list place u here in
    let low : u ≤ℤ period.start = outer.1 now.0 u (in_effect_from_state set period.stdoff t place now.0 now.1 state) (comes_at_place set period.stdoff place now.0 u now.1 here) in
    none_between us t place takes.0 u w state here takes.1 takes.2 (omega (arith, ints, outer.0)) before)
    (λ gone. not_within us place gone (omega (arith, state, state_at_bound us t)))))
    is

-- nor between t and the end
none_after : (set : RuleSet) (period : Period) (t end w : ℤ) → IsEndAround set period t end → TakesEffect (Rules set) period.stdoff w → t <ℤ w → w <ℤ end → ⊥
none_after set period t end w is takes after before =
    let coming = later_is_to_come set period.stdoff t w takes after in
    ⊎_elim
    (λ (inner : IsNextChange set period.stdoff t end × (end <ℤ period.finish)).
    let soonest : end ≤ℤ w = inner.0.soonest coming.0 w coming.1 coming.2 in
    omega (arith, ints))
    (λ (outer : (end ≡ period.finish) × ((other : Occurrence) (its_instant : ℤ) → IsToCome set period.stdoff t other → ComesAt set period.stdoff other its_instant → period.finish ≤ℤ its_instant)).
    let late : period.finish ≤ℤ w = outer.1 coming.0 w coming.1 coming.2 in
    omega (arith, ints, outer.0))
    is

pub range_around : (set : RuleSet) (period : Period) (t begin end : ℤ) → period.following ≡ Rules set → period.start ≤ℤ t → t <ℤ period.finish → IsBeginAround set period t begin → IsEndAround set period t end → IsRangeOf period (range_of period begin end) × (holds_instant t (range_of period begin end) ≡ true)
range_around set period t begin end follows started inside begins ends =
    let come : begin ≤ℤ t = begin_come set period t begin started begins in
    let later : t <ℤ end = end_later set period t end inside ends in (
      record {
        begins = begin_is set period t begin follows started inside begins;
        ends = end_is set period t end follows started ends;
        takes_time = omega (arith, ints);
        uncut = λ w after before cut.
            let takes : TakesEffect (Rules set) period.stdoff w = rw follows at cut.takes_effect in
            by_lt_z t w (λ late. none_after set period t end w ends takes late before)
            (λ early. none_before set period t begin w begins takes after early);
        told = refl;
      },
      true-holds t (range_of period begin end) come later,
    )

-- ---- what is in force there
state_in-rules : (set : RuleSet) (period : Period) (t : ℤ) → period.following ≡ Rules set → state_in period t ≡ in_force (occurrences set) (state_at (instants period.stdoff (occurrences set)) t)
state_in-rules set period t e = rw e

state_kept_around : (set : RuleSet) (period : Period) (t begin : ℤ) → period.start ≤ℤ t → IsBeginAround set period t begin → state_at (instants period.stdoff (occurrences set)) begin ≡ state_at (instants period.stdoff (occurrences set)) t
state_kept_around set period t begin started begins =
    let list = occurrences set in
    let us = instants period.stdoff list in
    let come : begin ≤ℤ t = begin_come set period t begin started begins in
    by_number (state_at us t) (λ none. state_kept_none us t begin none come ∙ sym none)
    (λ place state.
    by_get us place
    (λ u here.
    let now = instants-back period.stdoff (pos 0) list place u here in
    let effect = in_effect_from_state set period.stdoff t place now.0 now.1 state in
    let comes = comes_at_place set period.stdoff place now.0 u now.1 here in
    let low : u ≤ℤ begin =
    ⊎_elim
    (λ (inner : (now : Occurrence) × IsInEffect set period.stdoff t now × ComesAt set period.stdoff now begin × (period.start <ℤ begin)).
    let its = now_at set period.stdoff t inner.0 begin inner.1 inner.2 in
    let same : its.0 ≡ place = omega (arith, its.2, state) in
    let there : slice_get us place ≡ Some begin = rw same at its.1 in
    let equal : u ≡ begin = same_Some u begin (sym here ∙ there) in
    omega (arith, ints))
    (λ (outer : (begin ≡ period.start) × ((now : Occurrence) (its_instant : ℤ) → IsInEffect set period.stdoff t now → ComesAt set period.stdoff now its_instant → its_instant ≤ℤ period.start)).
    omega (arith, ints, outer.0, outer.1 now.0 u effect comes))
    begins in
    state_kept us t begin place u state here low come ∙ sym state)
    (λ gone. absurd (not_within us place gone (omega (arith, state, state_at_bound us t)))))

pub in_force_around : (set : RuleSet) (period : Period) (t begin : ℤ) → period.following ≡ Rules set → period.start ≤ℤ t → IsBeginAround set period t begin → state_in period begin ≡ state_in period t
in_force_around set period t begin follows started begins =
    state_in-rules set period begin follows
    ∙ ap (in_force (occurrences set)) (state_kept_around set period t begin started begins)
    ∙ sym (state_in-rules set period t follows)

-- ---- a range of a line is found where it holds the instant
pub range_at_line : (a b t : ℤ) (periods : List Period) (period : Period) (range : SysInfo) → Chains a b periods → In period periods → IsRangeOf period range → holds_instant t range ≡ true → range_at (full_expansion periods) t ≡ Some range
range_at_line a b t periods period range chain here is holds =
    let takes = chain_takes_time a b periods period chain here in
    let among = In-expansion periods period range here (In-ranges period range takes is) in
    let place = get_from_In (full_expansion periods) range among in
    range_at_only a b t (full_expansion periods) place.0 range (expansion_covers a b periods chain) place.1 holds

pub plain_is_range : (period : Period) → period.start <ℤ period.finish → period.following ≡ Nothing → IsRangeOf period (range_of period period.start period.finish)
plain_is_range period takes plain =
    let range = range_of period period.start period.finish in
    let among : In range (ranges_of period) = rw (ranges_of_plain period plain) (inl refl) in
    In-ranges_back period range takes among

pub fixed_is_range : (period : Period) (save : ℤ) (daylight : Bool) → period.start <ℤ period.finish → period.following ≡ Fixed save daylight → IsRangeOf period (range_of period period.start period.finish)
fixed_is_range period save daylight takes fixed =
    let range = range_of period period.start period.finish in
    let among : In range (ranges_of period) = rw (ranges_of_fixed period save daylight fixed) (inl refl) in
    In-ranges_back period range takes among

-- ---- lines follow one another by themselves
pub lines_chain : (sets : List RuleSet) (start : ℤ) (lines : List ZoneLine) → ((period : Period) → In period (periods_from sets start lines) → period.start <ℤ period.finish) → Chains start (end_from start (periods_from sets start lines)) (periods_from sets start lines)
lines_chain sets start [] takes = refl
lines_chain sets start (line ∷ lines) takes =
    (refl, takes _ (inl refl), lines_chain sets (finish_of sets line) lines (λ period among. takes period (inr among)))

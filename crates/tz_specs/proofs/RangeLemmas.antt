-- Which ranges a line has.
use Rattle.std.proofs.Common.{◌≡◌, ℕ, Bool, zero, suc, ◌+◌, ◌<◌, ◌≤◌, ◌⊎◌, inl, inr, ⊎_elim, refl, sym, subst, ◌∙◌, arith, List, [], ◌∷◌, length, ℤ, ◌<ℤ◌, ◌≤ℤ◌, Option, Some}
use Rattle.std.specs.Prelude.{filter_map}
use Rattle.std.specs.List.{range_with_len}
use Rattle.std.proofs.lemmas.Int.{ints}
use Rattle.std.proofs.lemmas.Bool.{cases_order}
use Rattle.std.proofs.lemmas.Option.{slice_get_within}
use Rattle.tz_types.specs.declared.range.SysInfo.{SysInfo}
use Rattle.tz_specs.specs.Occurrence.{occurrences}
use Rattle.tz_specs.specs.State.{instants}
use Rattle.tz_specs.specs.Until.{Following, Nothing, Fixed, Rules}
use Rattle.tz_specs.specs.Expansion.{Period, cut_at, cuts_of, range_of, pieces_of, ranges_of, full_expansion}
use Rattle.tz_specs.specs.Cover.{Chains, Rises}
use Rattle.tz_specs.specs.Standing.{TakesEffect, IsCut, IsRangeOf}
use Rattle.tz_specs.proofs.ListLemmas.{In, In-flat_map, In-flat_map_back}
use Rattle.tz_specs.proofs.CutLemmas.{by_option, cut_parts, cut_from, cuts_rise, filter_map-some, filter_map-none, cuts_of-plain, cuts_of-fixed, cuts_of-rules, by_following}

-- ---- values of a function at places
In-filter_map : (f : ℕ → Option ℤ) (count first place : ℕ) (u : ℤ) → first ≤ place → place < first + count → f place ≡ Some u → In u (filter_map f (range_with_len first count))
In-filter_map f zero first place u low high is = absurd (omega arith)
In-filter_map f (suc count) first place u low high is =
    ⊎_elim
    (λ (same : first ≡ place).
    let here : f first ≡ Some u = rw same is in
    rw (filter_map-some f count first u here) (inl refl))
    (⊎_elim
    (λ (lt : first < place).
    let rest = In-filter_map f count (first + 1) place u (omega arith) (omega arith) is in
    by_option (f first) (λ v e. rw (filter_map-some f count first v e) (inr rest)) (λ e. rw (filter_map-none f count first e) rest))
    (λ (gt : place < first). absurd (omega arith)))
    (cases_order first place)

In-filter_map_back : (f : ℕ → Option ℤ) (count first : ℕ) (u : ℤ) → In u (filter_map f (range_with_len first count)) → (place : ℕ) × (f place ≡ Some u)
In-filter_map_back f zero first u has = absurd has
In-filter_map_back f (suc count) first u has =
    by_option (f first)
    (λ v e.
    let has' : In u (v ∷ filter_map f (range_with_len (first + 1) count)) = rw (filter_map-some f count first v e) at has in
    ⊎_elim (λ (same : v ≡ u). (first, rw (← same) e))
    (λ (rest : In u (filter_map f (range_with_len (first + 1) count))). In-filter_map_back f count (first + 1) u rest)
    has')
    (λ e.
    let has' : In u (filter_map f (range_with_len (first + 1) count)) = rw (filter_map-none f count first e) at has in
    In-filter_map_back f count (first + 1) u has')

-- ---- the cuts of a line
takes_effect-plain : (following : Following) (stdoff t : ℤ) → following ≡ Nothing → TakesEffect following stdoff t → ⊥
takes_effect-plain following stdoff t e h = let h' : TakesEffect Nothing stdoff t = rw e at h in h'

takes_effect-fixed : (following : Following) (save : ℤ) (daylight : Bool) (stdoff t : ℤ) → following ≡ Fixed save daylight → TakesEffect following stdoff t → ⊥
takes_effect-fixed following save daylight stdoff t e h =
    let h' : TakesEffect (Fixed save daylight) stdoff t = rw e at h in h'

pub In-cuts : (period : Period) (t : ℤ) → IsCut period t → In t (cuts_of period)
In-cuts period t cut =
    by_following period.following
    (λ e. absurd (takes_effect-plain period.following period.stdoff t e cut.takes_effect))
    (λ save daylight e. absurd (takes_effect-fixed period.following save daylight period.stdoff t e cut.takes_effect))
    (λ set e.
    let us = instants period.stdoff (occurrences set) in
    let effect : TakesEffect (Rules set) period.stdoff t = rw e at cut.takes_effect in
    let within : effect.0 < length us = slice_get_within us effect.0 t effect.1 in
    rw (cuts_of-rules period set e)
    (In-filter_map (cut_at period us) (length us) 0 effect.0 t (omega arith) (omega arith)
    (cut_from period us effect.0 t effect.1 cut.after_start cut.before_finish effect.2)))

pub In-cuts_back : (period : Period) (t : ℤ) → In t (cuts_of period) → IsCut period t
In-cuts_back period t has =
    by_following period.following
    (λ e. let has' : In t [] = rw (cuts_of-plain period e) at has in absurd has')
    (λ save daylight e. let has' : In t [] = rw (cuts_of-fixed period save daylight e) at has in absurd has')
    (λ set e.
    let us = instants period.stdoff (occurrences set) in
    let has' : In t (filter_map (cut_at period us) (range_with_len 0 (length us))) = rw (cuts_of-rules period set e) at has in
    let there = In-filter_map_back (cut_at period us) (length us) 0 t has' in
    let parts = cut_parts period us there.0 t there.1 in
    let effect : TakesEffect (Rules set) period.stdoff t = (there.0, parts.0, parts.3) in
    record { after_start = parts.1; before_finish = parts.2; takes_effect = rw e effect })

-- ---- the pieces between cuts
pub rises_ordered : (a b : ℤ) (cuts : List ℤ) → Rises a b cuts → a <ℤ b
rises_ordered a b [] rises = rises
rises_ordered a b (cut ∷ cuts) rises =
    let first : a <ℤ cut = rises.0 in
    let rest : cut <ℤ b = rises_ordered cut b cuts rises.1 in
    omega (arith, ints)

pub rises_each : (a b : ℤ) (cuts : List ℤ) (u : ℤ) → Rises a b cuts → In u cuts → (a <ℤ u) × (u <ℤ b)
rises_each a b [] u rises has = absurd has
rises_each a b (cut ∷ cuts) u rises has =
    let first : a <ℤ cut = rises.0 in
    ⊎_elim
    (λ (same : cut ≡ u).
    let rest : cut <ℤ b = rises_ordered cut b cuts rises.1 in
    (omega (arith, ints), omega (arith, ints)))
    (λ (later : In u cuts).
    let rest = rises_each cut b cuts u rises.1 later in
    (omega (arith, ints, rest.0), rest.1))
    has

-- from the begin or a cut to the next cut or the line's end
pub record IsPiece (period : Period) (begin : ℤ) (cuts : List ℤ) (range : SysInfo) : Type 0 where
  pub begins : (range.begin ≡ begin) ⊎ In range.begin cuts
  pub ends : (range.end ≡ period.finish) ⊎ In range.end cuts
  pub takes_time : range.begin <ℤ range.end
  pub uncut : (u : ℤ) → In u cuts → range.begin <ℤ u → u <ℤ range.end → ⊥
  pub told : range ≡ range_of period range.begin range.end

last_piece : (period : Period) (begin : ℤ) → begin <ℤ period.finish → IsPiece period begin [] (range_of period begin period.finish)
last_piece period begin takes =
    record { begins = inl refl; ends = inl refl; takes_time = takes; uncut = λ u has low high. has; told = refl }

first_piece : (period : Period) (begin cut : ℤ) (cuts : List ℤ) → Rises begin period.finish (cut ∷ cuts) → IsPiece period begin (cut ∷ cuts) (range_of period begin cut)
first_piece period begin cut cuts rises =
    record {
      begins = inl refl;
      ends = inr (inl refl);
      takes_time = rises.0;
      uncut = λ u has low high.
          ⊎_elim (λ (same : cut ≡ u). omega (arith, ints, same))
          (λ (later : In u cuts). omega (arith, ints, rises_each cut period.finish cuts u rises.1 later))
          has;
      told = refl;
    }

begun_late : (period : Period) (cut : ℤ) (cuts : List ℤ) (range : SysInfo) → Rises cut period.finish cuts → (range.begin ≡ cut) ⊎ In range.begin cuts → cut ≤ℤ range.begin
begun_late period cut cuts range rises begins =
    ⊎_elim (λ (same : range.begin ≡ cut). omega (arith, ints))
    (λ (later : In range.begin cuts). omega (arith, ints, rises_each cut period.finish cuts range.begin rises later))
    begins

later_piece : (period : Period) (begin cut : ℤ) (cuts : List ℤ) (range : SysInfo) → Rises begin period.finish (cut ∷ cuts) → IsPiece period cut cuts range → IsPiece period begin (cut ∷ cuts) range
later_piece period begin cut cuts range rises piece =
    record {
      begins = ⊎_elim (λ (same : range.begin ≡ cut). inr (inl (sym same))) (λ (later : In range.begin cuts). inr (inr later)) piece.begins;
      ends = ⊎_elim (λ (same : range.end ≡ period.finish). inl same) (λ (later : In range.end cuts). inr (inr later)) piece.ends;
      takes_time = piece.takes_time;
      uncut = λ u has low high.
          ⊎_elim (λ (same : cut ≡ u). omega (arith, ints, same, begun_late period cut cuts range rises.1 piece.begins))
          (λ (later : In u cuts). piece.uncut u later low high)
          has;
      told = piece.told;
    }

pub pieces-back : (period : Period) (begin : ℤ) (cuts : List ℤ) (range : SysInfo) → Rises begin period.finish cuts → In range (pieces_of period begin cuts) → IsPiece period begin cuts range
pieces-back period begin [] range rises has =
    ⊎_elim
    (λ (same : range_of period begin period.finish ≡ range). subst (λ (r : SysInfo). IsPiece period begin [] r) same (last_piece period begin rises))
    (λ (none : ⊥). absurd none)
    has
pieces-back period begin (cut ∷ cuts) range rises has =
    ⊎_elim
    (λ (same : range_of period begin cut ≡ range). subst (λ (r : SysInfo). IsPiece period begin (cut ∷ cuts) r) same (first_piece period begin cut cuts rises))
    (λ (later : In range (pieces_of period cut cuts)). later_piece period begin cut cuts range rises (pieces-back period cut cuts range rises.1 later))
    has

range_of-same : (period : Period) (range : SysInfo) (begin end : ℤ) → range ≡ range_of period range.begin range.end → range.begin ≡ begin → range.end ≡ end → range_of period begin end ≡ range
range_of-same period range begin end told begins ends =
    let same : range_of period range.begin range.end ≡ range_of period begin end = λ i. range_of period (begins i) (ends i) in
    sym (told ∙ same)

pub pieces-in : (period : Period) (begin : ℤ) (cuts : List ℤ) (range : SysInfo) → Rises begin period.finish cuts → IsPiece period begin cuts range → In range (pieces_of period begin cuts)
pieces-in period begin [] range rises piece =
    ⊎_elim
    (λ (begins : range.begin ≡ begin).
    ⊎_elim (λ (ends : range.end ≡ period.finish). inl (range_of-same period range begin period.finish piece.told begins ends))
    (λ (none : ⊥). absurd none) piece.ends)
    (λ (none : ⊥). absurd none)
    piece.begins
pieces-in period begin (cut ∷ cuts) range rises piece =
    let finish_later : cut <ℤ period.finish = rises_ordered cut period.finish cuts rises.1 in
    let cut_later : begin <ℤ cut = rises.0 in
    let rest : (range.begin ≡ cut) ⊎ In range.begin cuts → In range (pieces_of period cut cuts) = λ begins.
    let late : cut ≤ℤ range.begin = begun_late period cut cuts range rises.1 begins in
    pieces-in period cut cuts range rises.1
    (record {
      begins = begins;
      ends = ⊎_elim (λ (same : range.end ≡ period.finish). inl same)
          (λ (has : In range.end (cut ∷ cuts)).
          ⊎_elim (λ (same : cut ≡ range.end). absurd (omega (arith, ints, piece.takes_time)))
          (λ (later : In range.end cuts). inr later) has)
          piece.ends;
      takes_time = piece.takes_time;
      uncut = λ u later low high. piece.uncut u (inr later) low high;
      told = piece.told;
    }) in
    ⊎_elim
    (λ (begins : range.begin ≡ begin).
    let early : range.begin <ℤ cut = omega (arith, ints) in
    ⊎_elim (λ (ends : range.end ≡ period.finish). absurd (piece.uncut cut (inl refl) early (omega (arith, ints))))
    (λ (has : In range.end (cut ∷ cuts)).
    ⊎_elim (λ (same : cut ≡ range.end). inl (range_of-same period range begin cut piece.told begins (sym same)))
    (λ (later : In range.end cuts). absurd (piece.uncut cut (inl refl) early (rises_each cut period.finish cuts range.end rises.1 later).0))
    has)
    piece.ends)
    (λ (has : In range.begin (cut ∷ cuts)).
    inr (rest (⊎_elim (λ (same : cut ≡ range.begin). inl (sym same)) (λ (later : In range.begin cuts). inr later) has)))
    piece.begins

-- ---- a line's ranges
pub In-ranges_back : (period : Period) (range : SysInfo) → period.start <ℤ period.finish → In range (ranges_of period) → IsRangeOf period range
unfolding ranges_of
In-ranges_back period range takes has =
    let piece = pieces-back period period.start (cuts_of period) range (cuts_rise period takes) has in
    record {
      begins = ⊎_elim (λ (same : range.begin ≡ period.start). inl same) (λ (at : In range.begin (cuts_of period)). inr (In-cuts_back period range.begin at)) piece.begins;
      ends = ⊎_elim (λ (same : range.end ≡ period.finish). inl same) (λ (at : In range.end (cuts_of period)). inr (In-cuts_back period range.end at)) piece.ends;
      takes_time = piece.takes_time;
      uncut = λ instant low high cut. piece.uncut instant (In-cuts period instant cut) low high;
      told = piece.told;
    }

pub In-ranges : (period : Period) (range : SysInfo) → period.start <ℤ period.finish → IsRangeOf period range → In range (ranges_of period)
unfolding ranges_of
In-ranges period range takes is =
    pieces-in period period.start (cuts_of period) range (cuts_rise period takes)
    (record {
      begins = ⊎_elim (λ (same : range.begin ≡ period.start). inl same) (λ (cut : IsCut period range.begin). inr (In-cuts period range.begin cut)) is.begins;
      ends = ⊎_elim (λ (same : range.end ≡ period.finish). inl same) (λ (cut : IsCut period range.end). inr (In-cuts period range.end cut)) is.ends;
      takes_time = is.takes_time;
      uncut = λ u has low high. is.uncut u low high (In-cuts_back period u has);
      told = is.told;
    })

-- ---- the ranges of all lines
pub In-expansion : (periods : List Period) (period : Period) (range : SysInfo) → In period periods → In range (ranges_of period) → In range (full_expansion periods)
unfolding full_expansion
In-expansion periods period range here inner = In-flat_map ranges_of periods period range here inner

pub In-expansion_back : (periods : List Period) (range : SysInfo) → In range (full_expansion periods) → (period : Period) × In period periods × In range (ranges_of period)
unfolding full_expansion
In-expansion_back periods range has = In-flat_map_back ranges_of periods range has

-- each line of a chain takes time
pub chain_takes_time : (a b : ℤ) (periods : List Period) (period : Period) → Chains a b periods → In period periods → period.start <ℤ period.finish
chain_takes_time a b [] period chain has = absurd has
chain_takes_time a b (first ∷ later) period chain has =
    ⊎_elim (λ (same : first ≡ period). subst (λ (p : Period). p.start <ℤ p.finish) same chain.1)
    (λ (rest : In period later). chain_takes_time first.finish b later period chain.2 rest)
    has

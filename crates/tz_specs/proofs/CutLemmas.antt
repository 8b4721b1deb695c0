-- Where a line is cut, and that its ranges cover it.
use Rattle.std.proofs.Common.{◌≡◌, ℕ, zero, suc, ◌+◌, ◌<◌, ◌≤◌, Bool, refl, arith, List, [], ◌∷◌, length, Option, Some, None, ℤ, ◌<ℤ◌}
use Rattle.std.specs.Prelude.{int_lt, slice_get, ◌&&◌, ◌==◌, cond, filter_map}
use Rattle.std.specs.List.{range_with_len}
use Rattle.std.proofs.lemmas.Option.{none-some, cond_some}
use Rattle.std.proofs.lemmas.Bool.{cond-true, and_parts, and_from, eqb-true, eq-eqb}
use Rattle.tz_types.specs.declared.rule_set.RuleSet.{RuleSet}
use Rattle.tz_specs.specs.Occurrence.{occurrences}
use Rattle.tz_specs.specs.State.{instants, state_at}
use Rattle.tz_specs.specs.Until.{Following, Nothing, Fixed, Rules}
use Rattle.tz_specs.specs.Expansion.{Period, cut_at, cuts_of, pieces_of, ranges_of, full_expansion}
use Rattle.tz_specs.specs.Cover.{Chains, Covers, Rises}
use Rattle.tz_specs.proofs.Tests.{int_lt-true, lt-int_lt}
use Rattle.tz_specs.proofs.StateLemmas.{by_get, later_has_not_come}
use Rattle.tz_specs.proofs.CoverLemmas.{Covers-append}

pub by_option : {P X : Type 0} (o : Option X) → ((x : X) → o ≡ Some x → P) → (o ≡ None → P) → P
by_option None there gone = gone refl
by_option (Some x) there gone = there x refl

-- what a cut is
pub cut_parts : (period : Period) (us : List ℤ) (place : ℕ) (instant : ℤ) → cut_at period us place ≡ Some instant → (slice_get us place ≡ Some instant) × (period.start <ℤ instant) × (instant <ℤ period.finish) × (state_at us instant ≡ suc place)
cut_parts period us place instant cut =
    by_get us place
    (λ u there.
    let low = int_lt period.start u in
    let high = int_lt u period.finish in
    let own = state_at us u == suc place in
    let computed : cond (low && high && own) (Some u) None ≡ Some instant = rw there at cut in
    let parts = cond_some (low && high && own) u instant computed in
    let same : u ≡ instant = parts.1 in
    let tests = and_parts (low && high) own parts.0 in
    let more = and_parts low high tests.0 in
    let at_u : (slice_get us place ≡ Some u) × (period.start <ℤ u) × (u <ℤ period.finish) × (state_at us u ≡ suc place) =
    (there, int_lt-true period.start u more.0, int_lt-true u period.finish more.1, eqb-true (state_at us u) (suc place) tests.1) in
    rw (← same) at_u)
    (λ gone.
    let computed : None ≡ Some instant = rw gone at cut in
    absurd (none-some instant computed))

pub cut_from : (period : Period) (us : List ℤ) (place : ℕ) (instant : ℤ) → slice_get us place ≡ Some instant → period.start <ℤ instant → instant <ℤ period.finish → state_at us instant ≡ suc place → cut_at period us place ≡ Some instant
cut_from period us place instant there low high own =
    let before = int_lt period.start instant in
    let after = int_lt instant period.finish in
    let its_own = state_at us instant == suc place in
    rw there
    (cond-true (before && after && its_own) (Some instant) None
    (and_from (before && after) its_own
    (and_from before after (lt-int_lt period.start instant low) (lt-int_lt instant period.finish high))
    (eq-eqb (state_at us instant) (suc place) own)))

pub filter_map-some : (f : ℕ → Option ℤ) (n first : ℕ) (u : ℤ) → f first ≡ Some u → filter_map f (range_with_len first (suc n)) ≡ u ∷ filter_map f (range_with_len (first + 1) n)
filter_map-some f n first u e = rw e

pub filter_map-none : (f : ℕ → Option ℤ) (n first : ℕ) → f first ≡ None → filter_map f (range_with_len first (suc n)) ≡ filter_map f (range_with_len (first + 1) n)
filter_map-none f n first e = rw e

-- where f's values rise with the place and stay inside, so does the list of them
filter_rises : (f : ℕ → Option ℤ) (finish : ℤ) → ((place : ℕ) (u : ℤ) → f place ≡ Some u → u <ℤ finish) → ((place later : ℕ) (u v : ℤ) → f place ≡ Some u → place < later → f later ≡ Some v → u <ℤ v) → (n first : ℕ) (lower : ℤ) → lower <ℤ finish → ((place : ℕ) (u : ℤ) → first ≤ place → f place ≡ Some u → lower <ℤ u) → Rises lower finish (filter_map f (range_with_len first n))
filter_rises f finish inside rising zero first lower below above = below
filter_rises f finish inside rising (suc n) first lower below above =
    by_option (f first)
    (λ u e. rw (filter_map-some f n first u e)
    (above first u (omega arith) e, filter_rises f finish inside rising n (first + 1) u (inside first u e) (λ place v from there. rising first place u v e (omega arith) there)))
    (λ e. rw (filter_map-none f n first e)
    (filter_rises f finish inside rising n (first + 1) lower below (λ place v from there. above place v (omega arith) there)))

-- a later cut is later
pub cut_rises : (period : Period) (us : List ℤ) (place later : ℕ) (u v : ℤ) → cut_at period us place ≡ Some u → place < later → cut_at period us later ≡ Some v → u <ℤ v
cut_rises period us place later u v cut before other =
    let own = cut_parts period us place u cut in
    let there = cut_parts period us later v other in
    later_has_not_come us u later v (omega (arith, own.3)) there.0

pub cuts_of-plain : (period : Period) → period.following ≡ Nothing → cuts_of period ≡ []
cuts_of-plain period e = rw e

pub cuts_of-fixed : (period : Period) (save : ℤ) (daylight : Bool) → period.following ≡ Fixed save daylight → cuts_of period ≡ []
cuts_of-fixed period save daylight e = rw e

pub cuts_of-rules : (period : Period) (set : RuleSet) → period.following ≡ Rules set → cuts_of period ≡ filter_map (cut_at period (instants period.stdoff (occurrences set))) (range_with_len 0 (length (instants period.stdoff (occurrences set))))
cuts_of-rules period set e = rw e

pub by_following : {P : Type 0} (following : Following) → (following ≡ Nothing → P) → ((save : ℤ) (daylight : Bool) → following ≡ Fixed save daylight → P) → ((set : RuleSet) → following ≡ Rules set → P) → P
by_following Nothing plain fixed rules = plain refl
by_following (Fixed save daylight) plain fixed rules = fixed save daylight refl
by_following (Rules set) plain fixed rules = rules set refl

-- cuts lie strictly inside, in ascending order
pub cuts_rise : (period : Period) → period.start <ℤ period.finish → Rises period.start period.finish (cuts_of period)
cuts_rise period takes =
    by_following period.following (λ e. rw (cuts_of-plain period e) takes)
    (λ save daylight e. rw (cuts_of-fixed period save daylight e) takes)
    (λ set e.
    let us = instants period.stdoff (occurrences set) in
    rw (cuts_of-rules period set e)
    (filter_rises (cut_at period us) period.finish (λ place u cut. (cut_parts period us place u cut).2) (λ place later u v cut before other. cut_rises period us place later u v cut before other)
    (length us) 0 period.start takes (λ place u from cut. (cut_parts period us place u cut).1)))

-- the pieces between rising cuts cover the line
pub pieces_cover : (period : Period) (begin : ℤ) (cuts : List ℤ) → Rises begin period.finish cuts → Covers begin period.finish (pieces_of period begin cuts)
pieces_cover period begin [] rises = (refl, rises, refl)
pieces_cover period begin (cut ∷ cuts) rises = (refl, rises.0, pieces_cover period cut cuts rises.1)

pub ranges_cover_line : (period : Period) → period.start <ℤ period.finish → Covers period.start period.finish (ranges_of period)
unfolding ranges_of
ranges_cover_line period takes = pieces_cover period period.start (cuts_of period) (cuts_rise period takes)

-- and the ranges of lines that chain cover all of them
pub expansion_covers : (a b : ℤ) (periods : List Period) → Chains a b periods → Covers a b (full_expansion periods)
unfolding full_expansion
expansion_covers a b [] chain = chain
expansion_covers a b (period ∷ later) chain =
    rw (← chain.0)
    (Covers-append period.start period.finish b (ranges_of period) (full_expansion later) (ranges_cover_line period chain.1) (expansion_covers period.finish b later chain.2))

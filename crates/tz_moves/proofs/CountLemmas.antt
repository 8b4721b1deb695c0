-- The seconds of a day, counted by instants.
use Rattle.std.proofs.Common.{cond, ◌≡◌, ℕ, zero, suc, ◌+◌, Bool, true, false, ◌&&◌, refl, sym, ap, ◌∙◌, arith, List, [], ◌∷◌, ◌++◌, Some, ℤ, pos, negsuc, ◌+ℤ◌, ◌-ℤ◌, ◌<ℤ◌, ◌≤ℤ◌}
use Rattle.std.specs.Prelude.{int_le, int_lt}
use Rattle.std.specs.List.{count_by}
use Rattle.std.proofs.lemmas.Bool.{cond-true, cond-false, and_from}
use Rattle.std.proofs.lemmas.Int.{ints, clamps, by_lt_z}
use Rattle.std.proofs.lemmas.List.Sums.{sum_by-append, sum_by-cons}
use Rattle.tz_types.specs.declared.range.SysInfo.{SysInfo}
use Rattle.tz_specs.specs.Expansion.{first_instant, end_of_time, holds_instant, range_at}
use Rattle.tz_specs.specs.Cover.{Covers}
use Rattle.tz_specs.proofs.Tests.{le-int_le, lt-int_le, lt-int_lt, le-int_lt}
use Rattle.tz_specs.proofs.CoverLemmas.{covers_ordered, true-holds, after-holds}
use Rattle.tz_expand.specs.declared.compiled_zone.CompiledZone.{CompiledZone}
use Rattle.tz_expand.specs.Zone.{expansion_of}
use Rattle.tz_local.proofs.InfoLemmas.{zone_covers}
use Rattle.tz_moves.specs.Day.{midnight, seconds_in, day_seconds, seconds_from, shows_day}
use Rattle.tz_moves.proofs.DayLemmas.{shared}

-- ---- instants one after another
instants-more : (t : ℤ) (count : ℕ) → seconds_from t (suc count) ≡ t ∷ seconds_from (t +ℤ pos 1) count
unfolding seconds_from
instants-more t count = refl

instants-none : (t : ℤ) → seconds_from t zero ≡ []
unfolding seconds_from
instants-none t = refl

instants-append : (t : ℤ) (first second : ℕ) → seconds_from t (first + second) ≡ seconds_from t first ++ seconds_from (t +ℤ pos first) second
instants-append t zero second =
    let count : zero + second ≡ second = omega arith in
    let start : t ≡ (t +ℤ pos zero) = omega (arith, ints) in
    ap (seconds_from t) count
    ∙ ap (λ (u : ℤ). seconds_from u second) start
    ∙ ap (λ (is : List ℤ). is ++ seconds_from (t +ℤ pos zero) second) (sym (instants-none t))
instants-append t (suc first) second =
    let count : suc first + second ≡ suc (first + second) = omega arith in
    let start : ((t +ℤ pos 1) +ℤ pos first) ≡ (t +ℤ pos (suc first)) = omega (arith, ints) in
    ap (seconds_from t) count
    ∙ instants-more t (first + second)
    ∙ ap (λ (is : List ℤ). t ∷ is) (instants-append (t +ℤ pos 1) first second)
    ∙ ap (λ (u : ℤ). (t ∷ seconds_from (t +ℤ pos 1) first) ++ seconds_from u second) start
    ∙ ap (λ (is : List ℤ). is ++ seconds_from (t +ℤ pos (suc first)) second) (sym (instants-more t first))

count-more : (test : ℤ → Bool) (t : ℤ) (count : ℕ) (one : ℕ) → one ≡ cond (test t) 1 0 → count_by test (seconds_from t (suc count)) ≡ one + count_by test (seconds_from (t +ℤ pos 1) count)
count-more test t count one is =
    ap (count_by test) (instants-more t count)
    ∙ sum_by-cons (λ u. cond (test u) 1 0) t (seconds_from (t +ℤ pos 1) count)
    ∙ ap (λ (n : ℕ). n + count_by test (seconds_from (t +ℤ pos 1) count)) (sym is)

-- two tests agree on the instants from one up to but excluding another
count-same : (test other : ℤ → Bool) (t : ℤ) (count : ℕ) → ((u : ℤ) → t ≤ℤ u → u <ℤ (t +ℤ pos count) → test u ≡ other u) → count_by test (seconds_from t count) ≡ count_by other (seconds_from t count)
count-same test other t zero same = ap (count_by test) (instants-none t) ∙ sym (ap (count_by other) (instants-none t))
count-same test other t (suc count) same =
    let here : test t ≡ other t = same t (omega (arith, ints)) (omega (arith, ints)) in
    let rest = count-same test other (t +ℤ pos 1) count (λ u low high. same u (omega (arith, ints)) (omega (arith, ints))) in
    count-more test t count (cond (test t) 1 0) refl
    ∙ ap (λ (b : Bool). cond b 1 0 + count_by test (seconds_from (t +ℤ pos 1) count)) here
    ∙ ap (λ (n : ℕ). cond (other t) 1 0 + n) rest
    ∙ sym (count-more other t count (cond (other t) 1 0) refl)

-- ---- one range
in_day : ℤ → ℤ → ℤ → ℤ → Bool
in_day offset low high t = int_le low (t +ℤ offset) && int_lt (t +ℤ offset) high

step_in : (begin end low high : ℤ) → low ≤ℤ begin → begin <ℤ high → begin <ℤ end → shared begin end low high ≡ (pos 1 +ℤ shared (begin +ℤ pos 1) end low high)
step_in begin end low high inside before takes = omega (arith, ints, clamps)

step_early : (begin end low high : ℤ) → begin <ℤ low → shared begin end low high ≡ shared (begin +ℤ pos 1) end low high
step_early begin end low high early = omega (arith, ints, clamps)

step_late : (begin end low high : ℤ) → high ≤ℤ begin → shared begin end low high ≡ shared (begin +ℤ pos 1) end low high
step_late begin end low high late = omega (arith, ints, clamps)

shared_none : (begin end low high : ℤ) → end ≤ℤ begin → shared begin end low high ≡ pos 0
shared_none begin end low high none = omega (arith, ints, clamps)

in_day-from : (offset low high t : ℤ) → low ≤ℤ (t +ℤ offset) → (t +ℤ offset) <ℤ high → in_day offset low high t ≡ true
unfolding in_day
in_day-from offset low high t after before =
    and_from (int_le low (t +ℤ offset)) (int_lt (t +ℤ offset) high) (le-int_le low (t +ℤ offset) after) (lt-int_lt (t +ℤ offset) high before)

in_day-early : (offset low high t : ℤ) → (t +ℤ offset) <ℤ low → in_day offset low high t ≡ false
unfolding in_day
in_day-early offset low high t early = rw (lt-int_le low (t +ℤ offset) early) refl

in_day-late : (offset low high t : ℤ) → low ≤ℤ (t +ℤ offset) → high ≤ℤ (t +ℤ offset) → in_day offset low high t ≡ false
unfolding in_day
in_day-late offset low high t after late = rw (le-int_le low (t +ℤ offset) after, le-int_lt (t +ℤ offset) high late) refl

counted : (offset low high t : ℤ) (count : ℕ) → shared (t +ℤ offset) ((t +ℤ pos count) +ℤ offset) low high ≡ pos (count_by (in_day offset low high) (seconds_from t count))
counted offset low high t zero =
    shared_none (t +ℤ offset) ((t +ℤ pos zero) +ℤ offset) low high (omega (arith, ints))
    ∙ sym (ap (λ (is : List ℤ). pos (count_by (in_day offset low high) is)) (instants-none t))
counted offset low high t (suc count) =
    let test = in_day offset low high in
    let last : ((t +ℤ pos (suc count)) +ℤ offset) ≡ (((t +ℤ pos 1) +ℤ pos count) +ℤ offset) = omega (arith, ints) in
    let next : ((t +ℤ offset) +ℤ pos 1) ≡ ((t +ℤ pos 1) +ℤ offset) = omega (arith, ints) in
    let rest = counted offset low high (t +ℤ pos 1) count in
    let moved : shared ((t +ℤ offset) +ℤ pos 1) ((t +ℤ pos (suc count)) +ℤ offset) low high ≡ pos (count_by test (seconds_from (t +ℤ pos 1) count)) =
    ap (λ (b : ℤ). shared b ((t +ℤ pos (suc count)) +ℤ offset) low high) next ∙ ap (λ (e : ℤ). shared ((t +ℤ pos 1) +ℤ offset) e low high) last ∙ rest in
    let skipped : test t ≡ false → pos (count_by test (seconds_from (t +ℤ pos 1) count)) ≡ pos (count_by test (seconds_from t (suc count))) =
    λ out. ap pos (sym (count-more test t count 0 (sym (cond-false (test t) 1 0 out)) ∙ none_more (count_by test (seconds_from (t +ℤ pos 1) count)))) in
    by_lt_z (t +ℤ offset) low
    (λ early. step_early (t +ℤ offset) ((t +ℤ pos (suc count)) +ℤ offset) low high early ∙ moved ∙ skipped (in_day-early offset low high t early))
    (λ after.
    by_lt_z (t +ℤ offset) high
    (λ before.
    step_in (t +ℤ offset) ((t +ℤ pos (suc count)) +ℤ offset) low high after before (omega (arith, ints))
    ∙ ap (λ (s : ℤ). pos 1 +ℤ s) moved
    ∙ ap pos (sym (count-more test t count 1 (sym (cond-true (test t) 1 0 (in_day-from offset low high t after before))))))
    (λ late. step_late (t +ℤ offset) ((t +ℤ pos (suc count)) +ℤ offset) low high late ∙ moved ∙ skipped (in_day-late offset low high t after late)))
  where
    none_more : (n : ℕ) → 0 + n ≡ n
    none_more n = omega arith

-- ---- the ranges of a list
range_at-head : (t : ℤ) (range : SysInfo) (later : List SysInfo) → holds_instant t range ≡ true → range_at (range ∷ later) t ≡ Some range
unfolding range_at
range_at-head t range later h = cond-true (holds_instant t range) (Some range) (range_at later t) h

range_at-tail : (t : ℤ) (range : SysInfo) (later : List SysInfo) → holds_instant t range ≡ false → range_at (range ∷ later) t ≡ range_at later t
unfolding range_at
range_at-tail t range later h = cond-false (holds_instant t range) (Some range) (range_at later t) h

shown_in_head : (day t : ℤ) (range : SysInfo) (later : List SysInfo) → range.begin ≤ℤ t → t <ℤ range.end → shows_day day (range ∷ later) t ≡ in_day range.offset (midnight day) (midnight (day +ℤ pos 1)) t
unfolding in_day
shown_in_head day t range later begun inside = rw (range_at-head t range later (true-holds t range begun inside)) refl

shown_in_tail : (day t : ℤ) (range : SysInfo) (later : List SysInfo) → range.end ≤ℤ t → shows_day day (range ∷ later) t ≡ shows_day day later t
shown_in_tail day t range later past = rw (range_at-tail t range later (after-holds t range past)) refl

natural : (z : ℤ) → pos 0 ≤ℤ z → (n : ℕ) × (pos n ≡ z)
natural (pos n) low = (n, refl)
natural (negsuc n) low = absurd (omega (arith, ints))

pub day_counted : (day a b : ℤ) (ranges : List SysInfo) (all : ℕ) → Covers a b ranges → pos all ≡ (b -ℤ a) → day_seconds day ranges ≡ pos (count_by (shows_day day ranges) (seconds_from a all))
day_counted day a b [] all covers is =
    let none : all ≡ zero = omega (arith, ints) in
    sym (ap (λ (n : ℕ). pos (count_by (shows_day day []) (seconds_from a n))) none ∙ ap (λ (ts : List ℤ). pos (count_by (shows_day day []) ts)) (instants-none a))
day_counted day a b (range ∷ later) all covers is =
    let begins : range.begin ≡ a = covers.0 in
    let takes : range.begin <ℤ range.end = covers.1 in
    let ordered : range.end ≤ℤ b = covers_ordered range.end b later covers.2 in
    let here = natural (range.end -ℤ range.begin) (omega (arith, ints)) in
    let there = natural (b -ℤ range.end) (omega (arith, ints)) in
    let first = here.0 in
    let second = there.0 in
    let sum : all ≡ first + second = omega (arith, ints, here.1, there.1) in
    let ends : (a +ℤ pos first) ≡ range.end = omega (arith, ints, here.1) in
    let low = midnight day in
    let high = midnight (day +ℤ pos 1) in
    let test = shows_day day (range ∷ later) in
    let head : count_by test (seconds_from a first) ≡ count_by (in_day range.offset low high) (seconds_from a first) =
    count-same test (in_day range.offset low high) a first (λ u after before. shown_in_head day u range later (omega (arith, ints)) (omega (arith, ints, ends))) in
    let tail : count_by test (seconds_from range.end second) ≡ count_by (shows_day day later) (seconds_from range.end second) =
    count-same test (shows_day day later) range.end second (λ u after before. shown_in_tail day u range later after) in
    let in_head : seconds_in day range ≡ pos (count_by (in_day range.offset low high) (seconds_from a first)) =
    ap (λ (t : ℤ). shared (t +ℤ range.offset) (range.end +ℤ range.offset) low high) begins
    ∙ ap (λ (t : ℤ). shared (a +ℤ range.offset) (t +ℤ range.offset) low high) (sym ends)
    ∙ counted range.offset low high a first in
    let in_tail = day_counted day range.end b later second covers.2 there.1 in
    let split : count_by test (seconds_from a all) ≡ count_by test (seconds_from a first) + count_by test (seconds_from range.end second) =
    ap (λ (n : ℕ). count_by test (seconds_from a n)) sum
    ∙ ap (count_by test) (instants-append a first second)
    ∙ ap (λ (t : ℤ). count_by test (seconds_from a first ++ seconds_from t second)) ends
    ∙ sum_by-append (λ t. cond (test t) 1 0) (seconds_from a first) (seconds_from range.end second) in
    added (seconds_in day range) (day_seconds day later) (count_by (in_day range.offset low high) (seconds_from a first)) (count_by (shows_day day later) (seconds_from range.end second)) (count_by test (seconds_from a all)) in_head in_tail (split ∙ ap (λ (n : ℕ). n + count_by test (seconds_from range.end second)) head ∙ ap (λ (n : ℕ). count_by (in_day range.offset low high) (seconds_from a first) + n) tail)
  where
    added : (s rest : ℤ) (m n total : ℕ) → s ≡ pos m → rest ≡ pos n → total ≡ m + n → (s +ℤ rest) ≡ pos total
    added s rest m n total is_m is_n is = omega (arith, ints)

pub zone_day_counted : (zone : CompiledZone) (day : ℤ) (all : ℕ) → pos all ≡ (end_of_time -ℤ first_instant) → day_seconds day (expansion_of zone) ≡ pos (count_by (shows_day day (expansion_of zone)) (seconds_from first_instant all))
zone_day_counted zone day all is =
    day_counted day first_instant end_of_time (expansion_of zone) all (zone_covers zone) is

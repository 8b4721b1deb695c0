-- The walks from range to range, on and back.
use Rattle.std.proofs.Common.{◌≡◌, ℕ, suc, ◌+◌, ◌*◌, ◌≤◌, Bool, true, false, inl, ⊎_elim, refl, sym, ap, subst, ◌∙◌, arith, List, [], ◌∷◌, ◌++◌, append_assoc, length, Some, ℤ, pos, ◌+ℤ◌, ◌-ℤ◌, ◌<ℤ◌, ◌≤ℤ◌}
use Rattle.std.specs.Prelude.{filter, int_lt}
use Rattle.std.specs.Int.{int_gap}
use Rattle.std.proofs.lemmas.Int.{ints, by_lt_z}
use Rattle.std.proofs.lemmas.Bool.{cond-true, cond-false, and_left, and_right, and_from}
use Rattle.std.proofs.lemmas.List.{append-nil, length-append}
use Rattle.std.proofs.lemmas.List.Elements.{filter-append}
use Rattle.std.proofs.lemmas.Option.{same_Some}
use Rattle.tz_types.specs.declared.range.SysInfo.{SysInfo}
use Rattle.tz_specs.specs.Expansion.{first_instant, end_of_time, holds_instant, range_at}
use Rattle.tz_specs.specs.Cover.{Covers}
use Rattle.tz_specs.proofs.Tests.{by_test, lt-int_lt, le-int_lt}
use Rattle.tz_specs.proofs.ListLemmas.{In, In-from_Contains, Contains-from_In, In-append_right, In-append_cases}
use Rattle.tz_specs.proofs.CoverLemmas.{Covers-append, covers_ordered, true-holds, after-holds}
use Rattle.tz_expand.specs.declared.compiled_zone.CompiledZone.{CompiledZone}
use Rattle.tz_expand.specs.Zone.{expansion_of}
use Rattle.tz_expand.specs.Stretch.{meets, ranges_between}
use Rattle.tz_local.proofs.InfoLemmas.{zone_covers, found_among, next_head, range_at-past, begun_from, ended_by}
use Rattle.tz_moves.specs.Moves.{runs_alike, moved_after, moved_ranges, IsMove, IsNextMove, IsPreviousMove, IsInTime}
use Rattle.tz_moves.proofs.ListLemmas.{filter-pass, filter-none, filter-same}
use Rattle.tz_moves.proofs.MoveLemmas.{moved_after-alike, moved_after-differs, moved-append, In-moved_after, In-moved, begun_before, ends_after_begin, none_covered}

pub range_in_time : (zone : CompiledZone) (t : ℤ) (range : SysInfo) → range_at (expansion_of zone) t ≡ Some range → IsInTime range
range_in_time zone t range found =
    let among = found_among first_instant end_of_time t (expansion_of zone) range (zone_covers zone) found in
    let low : first_instant ≤ℤ range.begin = covers_ordered first_instant range.begin among.before among.covered in
    let high : range.end ≤ℤ end_of_time = covers_ordered range.end end_of_time among.later among.covers in
    (low, among.takes, high)

pub range_holds : (zone : CompiledZone) (t : ℤ) (range : SysInfo) → range_at (expansion_of zone) t ≡ Some range → (range.begin ≤ℤ t) × (t <ℤ range.end)
range_holds zone t range found =
    let among = found_among first_instant end_of_time t (expansion_of zone) range (zone_covers zone) found in
    (among.begun, among.ends)

-- ---- how many ranges meet a stretch
pub ends_after : ℤ → SysInfo → Bool
ends_after t range = int_lt t range.end

pub begins_before : ℤ → SysInfo → Bool
begins_before to range = int_lt range.begin to

meets_begun : (from to : ℤ) (range : SysInfo) → range.begin <ℤ to → meets from to range ≡ ends_after from range
unfolding ends_after
meets_begun from to range begun = rw (lt-int_lt range.begin to begun) refl

meets_late : (from to : ℤ) (range : SysInfo) → to ≤ℤ range.begin → meets from to range ≡ false
meets_late from to range late =
    and_left (int_lt range.begin to) (int_lt from range.end) (le-int_lt range.begin to late)

meets_not_ended : (from to : ℤ) (range : SysInfo) → from <ℤ range.end → meets from to range ≡ begins_before to range
unfolding begins_before
meets_not_ended from to range after =
    by_test (int_lt range.begin to)
    (λ begun. and_from (int_lt range.begin to) (int_lt from range.end) begun (lt-int_lt from range.end after) ∙ sym begun)
    (λ late. and_left (int_lt range.begin to) (int_lt from range.end) late ∙ sym late)

meets_early : (from to : ℤ) (range : SysInfo) → range.end ≤ℤ from → meets from to range ≡ false
meets_early from to range early =
    and_right (int_lt range.begin to) (int_lt from range.end) (le-int_lt from range.end early)

-- of ranges of which those ahead begin at the end of the stretch or later, those behind it that meet it have not ended
counted_onward : (from to : ℤ) (seen ahead : List SysInfo) → ((range : SysInfo) → In range seen → range.begin <ℤ to) → ((range : SysInfo) → In range ahead → to ≤ℤ range.begin) → filter (meets from to) (seen ++ ahead) ≡ filter (ends_after from) seen
counted_onward from to seen ahead begun late =
    filter-append (meets from to) seen ahead
    ∙ ap (λ (rs : List SysInfo). filter (meets from to) seen ++ rs) (filter-none (meets from to) ahead (λ range has. meets_late from to range (late range has)))
    ∙ append-nil (filter (meets from to) seen)
    ∙ filter-same (meets from to) (ends_after from) seen (λ range has. meets_begun from to range (begun range has))

-- the same from the other side
counted_backward : (from to : ℤ) (seen ahead : List SysInfo) → ((range : SysInfo) → In range seen → range.end ≤ℤ from) → ((range : SysInfo) → In range ahead → from <ℤ range.end) → filter (meets from to) (seen ++ ahead) ≡ filter (begins_before to) ahead
counted_backward from to seen ahead early after =
    filter-append (meets from to) seen ahead
    ∙ ap (λ (rs : List SysInfo). rs ++ filter (meets from to) ahead) (filter-none (meets from to) seen (λ range has. meets_early from to range (early range has)))
    ∙ filter-same (meets from to) (begins_before to) ahead (λ range has. meets_not_ended from to range (after range has))

-- ---- the walk on from t
pub record IsOnward (zone : CompiledZone) (t : ℤ) (range : SysInfo) (old now each : ℕ) : Type 0 where
  pub seen : List SysInfo
  pub ahead : List SysInfo
  pub split : expansion_of zone ≡ seen ++ range ∷ ahead
  pub covered : Covers first_instant range.begin seen
  pub takes : range.begin <ℤ range.end
  pub covers : Covers range.end end_of_time ahead
  pub passed : (moved : SysInfo) → In moved (moved_ranges (seen ++ range ∷ [])) → moved.begin ≤ℤ t
  pub not_ended : t <ℤ range.end
  pub few : now ≤ old + length (filter (ends_after t) (seen ++ range ∷ [])) * each

-- ranges through the current one begin before it ends
through_begun : (a : ℤ) (seen : List SysInfo) (range other : SysInfo) → Covers a range.begin seen → In other (seen ++ range ∷ []) → other.begin ≤ℤ range.begin
through_begun a seen range other covered has =
    ⊎_elim
    (λ (there : In other seen). let before : other.begin <ℤ range.begin = begun_before a range.begin seen other covered there in omega (arith, ints))
    (λ (last : In other (range ∷ [])).
    ⊎_elim (λ (same : range ≡ other). let here : range.begin ≤ℤ range.begin = omega (arith, ints) in rw (← same) here)
    (λ (none : ⊥). absurd none) last)
    (In-append_cases seen (range ∷ []) other has)

one_more : (t : ℤ) (seen : List SysInfo) (range : SysInfo) → t <ℤ range.end → length (filter (ends_after t) (seen ++ range ∷ [])) ≡ length (filter (ends_after t) seen) + 1
unfolding ends_after
one_more t seen range after =
    ap length (filter-append (ends_after t) seen (range ∷ []) ∙ ap (λ (rs : List SysInfo). filter (ends_after t) seen ++ rs) (filter-pass (ends_after t) range [] (lt-int_lt t range.end after)))
    ∙ length-append (filter (ends_after t) seen) (range ∷ [])

few_more : (old now more each count total : ℕ) → now ≤ old + count * each → more ≤ now + each → total ≡ count + 1 → more ≤ old + total * each
few_more old now more each count total few step is =
    let spread : total * each ≡ count * each + each = rw is (omega arith) in
    omega (arith, spread)

-- before the range that holds t all have ended
none_left : (t : ℤ) (seen : List SysInfo) (range : SysInfo) → Covers first_instant range.begin seen → range.begin ≤ℤ t → filter (ends_after t) seen ≡ []
unfolding ends_after
none_left t seen range covered begun =
    filter-none (ends_after t) seen
    (λ other has.
    let ended : other.end ≤ℤ range.begin = ended_by first_instant range.begin seen other covered has in
    le-int_lt t other.end (omega (arith, ints)))

-- the walk begins with a range that is found at some instant, and has t
pub begin_onward : (zone : CompiledZone) (t found_at : ℤ) (range : SysInfo) (old now each : ℕ) → range_at (expansion_of zone) found_at ≡ Some range → range.begin ≤ℤ t → t <ℤ range.end → now ≤ old + each → IsOnward zone t range old now each
begin_onward zone t found_at range old now each found begun ends step =
    let among = found_among first_instant end_of_time found_at (expansion_of zone) range (zone_covers zone) found in
    record {
      seen = among.before;
      ahead = among.later;
      split = among.split;
      covered = among.covered;
      takes = among.takes;
      covers = among.covers;
      passed = λ moved has.
          let by : moved.begin ≤ℤ range.begin = through_begun first_instant among.before range moved among.covered (In-moved (among.before ++ range ∷ []) moved has) in
          omega (arith, ints);
      not_ended = ends;
      few = few_more old old now each 0 (length (filter (ends_after t) (among.before ++ range ∷ []))) (omega arith) step
          (one_more t among.before range ends ∙ ap (λ (n : ℕ). n + 1) (ap length (none_left t among.before range among.covered begun)));
    }

-- the next range stands right ahead
ahead_next : (zone : CompiledZone) (t : ℤ) (range next : SysInfo) (old now each : ℕ) → (walk : IsOnward zone t range old now each) → range_at (expansion_of zone) range.end ≡ Some next → (later : List SysInfo) × (walk.ahead ≡ next ∷ later) × (next.begin ≡ range.end) × (next.begin <ℤ next.end) × Covers next.end end_of_time later
ahead_next zone t range next old now each walk found =
    let seen = walk.seen ++ range ∷ [] in
    let split : expansion_of zone ≡ seen ++ walk.ahead = walk.split ∙ sym (append_assoc walk.seen (range ∷ []) walk.ahead) in
    let covered : Covers first_instant range.end seen = Covers-append first_instant range.begin range.end walk.seen (range ∷ []) walk.covered (refl, walk.takes, refl) in
    let whole : range_at (seen ++ walk.ahead) range.end ≡ Some next = rw split at found in
    let there : range_at walk.ahead range.end ≡ Some next = sym (range_at-past first_instant range.end range.end seen walk.ahead covered (omega (arith, ints))) ∙ whole in
    next_head end_of_time range.end walk.ahead next walk.covers there

pub step_onward : (zone : CompiledZone) (t : ℤ) (range next : SysInfo) (old now more each : ℕ) → IsOnward zone t range old now each → range_at (expansion_of zone) range.end ≡ Some next → runs_alike range next ≡ true → more ≤ now + each → IsOnward zone t next old more each
step_onward zone t range next old now more each walk found alike step =
    let head = ahead_next zone t range next old now each walk found in
    let seen = walk.seen ++ range ∷ [] in
    let begins : next.begin ≡ range.end = head.2 in
    let takes : next.begin <ℤ next.end = head.3 in
    let not_ended : t <ℤ range.end = walk.not_ended in
    let later : t <ℤ next.end = omega (arith, ints) in
    let covered : Covers first_instant range.end seen = Covers-append first_instant range.begin range.end walk.seen (range ∷ []) walk.covered (refl, walk.takes, refl) in
    record {
      seen = seen;
      ahead = head.0;
      split = walk.split ∙ ap (λ (rs : List SysInfo). walk.seen ++ range ∷ rs) head.1 ∙ sym (append_assoc walk.seen (range ∷ []) (next ∷ head.0));
      covered = rw begins covered;
      takes = takes;
      covers = head.4;
      passed = λ moved has. walk.passed moved (rw same_moves at has);
      not_ended = later;
      few = few_more old now more each (length (filter (ends_after t) seen)) (length (filter (ends_after t) (seen ++ next ∷ []))) walk.few step (one_more t seen next later);
    }
  where
    same_moves : moved_ranges ((walk.seen ++ range ∷ []) ++ next ∷ []) ≡ moved_ranges (walk.seen ++ range ∷ [])
    same_moves =
        ap moved_ranges (append_assoc walk.seen (range ∷ []) (next ∷ []))
        ∙ moved-append walk.seen range (next ∷ [])
        ∙ ap (λ (rs : List SysInfo). moved_ranges (walk.seen ++ range ∷ []) ++ rs) (moved_after-alike range next [] alike)
        ∙ append-nil (moved_ranges (walk.seen ++ range ∷ []))

-- the walk comes to a move
pub record IsFoundOnward (zone : CompiledZone) (t at : ℤ) (old more each : ℕ) : Type 0 where
  pub is : IsNextMove zone t at
  pub few : more ≤ old + length (ranges_between zone t (at +ℤ pos 1)) * each

pub found_onward : (zone : CompiledZone) (t : ℤ) (range next : SysInfo) (old now more each : ℕ) → IsOnward zone t range old now each → range_at (expansion_of zone) range.end ≡ Some next → runs_alike range next ≡ false → more ≤ now + each → IsFoundOnward zone t next.begin old more each
found_onward zone t range next old now more each walk found differs step =
    let head = ahead_next zone t range next old now each walk found in
    let seen = walk.seen ++ range ∷ [] in
    let later = head.0 in
    let begins : next.begin ≡ range.end = head.2 in
    let takes : next.begin <ℤ next.end = head.3 in
    let not_ended : t <ℤ range.end = walk.not_ended in
    let range_takes : range.begin <ℤ range.end = walk.takes in
    let split : expansion_of zone ≡ walk.seen ++ range ∷ next ∷ later = walk.split ∙ ap (λ (rs : List SysInfo). walk.seen ++ range ∷ rs) head.1 in
    let moves : moved_ranges (expansion_of zone) ≡ moved_ranges seen ++ next ∷ moved_after next later =
    ap moved_ranges split
    ∙ moved-append walk.seen range (next ∷ later)
    ∙ ap (λ (rs : List SysInfo). moved_ranges seen ++ rs) (moved_after-differs range next later differs) in
    let all : expansion_of zone ≡ (seen ++ next ∷ []) ++ later =
    split ∙ sym (append_assoc walk.seen (range ∷ []) (next ∷ later)) ∙ sym (append_assoc seen (next ∷ []) later) in
    let covered : Covers first_instant range.end seen = Covers-append first_instant range.begin range.end walk.seen (range ∷ []) walk.covered (refl, range_takes, refl) in
    let covered_next : Covers first_instant next.begin seen = rw begins covered in
    let met : ranges_between zone t (next.begin +ℤ pos 1) ≡ filter (ends_after t) (seen ++ next ∷ []) =
    ap (filter (meets t (next.begin +ℤ pos 1))) all
    ∙ counted_onward t (next.begin +ℤ pos 1) (seen ++ next ∷ []) later
    (λ other has. let begun : other.begin ≤ℤ next.begin = through_begun first_instant seen next other covered_next has in omega (arith, ints))
    (λ other has. let after : next.end ≤ℤ other.begin = begun_from next.end end_of_time later other head.4 has in omega (arith, ints)) in
    record {
      is = record {
        is_move = (next, Contains-from_In (moved_ranges (expansion_of zone)) next (rw moves (In-append_right (moved_ranges seen) (next ∷ moved_after next later) next (inl refl))), refl);
        later = omega (arith, ints);
        least = λ other is after.
            let there : In is.0 (moved_ranges seen ++ next ∷ moved_after next later) = rw moves at (In-from_Contains (moved_ranges (expansion_of zone)) is.0 is.1) in
            let at : is.0.begin ≡ other = is.2 in
            ⊎_elim
            (λ (early : In is.0 (moved_ranges seen)). let by : is.0.begin ≤ℤ t = walk.passed is.0 early in absurd (omega (arith, ints)))
            (λ (on : In is.0 (next ∷ moved_after next later)).
            ⊎_elim (λ (same : next ≡ is.0). let begin_is : next.begin ≡ is.0.begin = ap (λ (r : SysInfo). r.begin) same in omega (arith, ints))
            (λ (far : In is.0 (moved_after next later)).
            let past : next.end ≤ℤ is.0.begin = begun_from next.end end_of_time later is.0 head.4 (In-moved_after next later is.0 far) in
            omega (arith, ints))
            on)
            (In-append_cases (moved_ranges seen) (next ∷ moved_after next later) is.0 there);
      };
      few = few_more old now more each (length (filter (ends_after t) seen)) (length (ranges_between zone t (next.begin +ℤ pos 1))) walk.few step (ap length met ∙ one_more t seen next (omega (arith, ints)));
    }

-- the walk comes to the end of time
pub record IsDoneOnward (zone : CompiledZone) (t : ℤ) (old now each : ℕ) : Type 0 where
  pub none : (other : ℤ) → IsMove zone other → other ≤ℤ t
  pub few : now ≤ old + length (ranges_between zone t end_of_time) * each

pub done_onward : (zone : CompiledZone) (t : ℤ) (range : SysInfo) (old now each : ℕ) → IsOnward zone t range old now each → end_of_time ≤ℤ range.end → IsDoneOnward zone t old now each
done_onward zone t range old now each walk past =
    let seen = walk.seen ++ range ∷ [] in
    let takes : range.begin <ℤ range.end = walk.takes in
    let last : range.end ≤ℤ end_of_time = covers_ordered range.end end_of_time walk.ahead walk.covers in
    let none = none_covered range.end end_of_time walk.ahead walk.covers past in
    let all : expansion_of zone ≡ seen = walk.split ∙ ap (λ (rs : List SysInfo). walk.seen ++ range ∷ rs) none in
    let met : ranges_between zone t end_of_time ≡ filter (ends_after t) seen =
    ap (filter (meets t end_of_time)) (all ∙ sym (append-nil seen))
    ∙ counted_onward t end_of_time seen []
    (λ other has. let begun : other.begin ≤ℤ range.begin = through_begun first_instant walk.seen range other walk.covered has in omega (arith, ints))
    (λ other has. absurd has) in
    record {
      none = λ other is.
          let there : In is.0 (moved_ranges seen) = rw all at (In-from_Contains (moved_ranges (expansion_of zone)) is.0 is.1) in
          let at : is.0.begin ≡ other = is.2 in
          let by : is.0.begin ≤ℤ t = walk.passed is.0 there in
          omega (arith, ints);
      few = rw met walk.few;
    }

pub next_not_none : (zone : CompiledZone) (t at : ℤ) → IsNextMove zone t at → ((other : ℤ) → IsMove zone other → other ≤ℤ t) → ⊥
next_not_none zone t at is none =
    let early : at ≤ℤ t = none at is.is_move in
    let later : t <ℤ at = is.later in
    omega (arith, ints)

-- ---- the walk back from t
pub record IsBackward (zone : CompiledZone) (t : ℤ) (range : SysInfo) (old now each : ℕ) : Type 0 where
  pub seen : List SysInfo
  pub ahead : List SysInfo
  pub split : expansion_of zone ≡ seen ++ range ∷ ahead
  pub covered : Covers first_instant range.begin seen
  pub takes : range.begin <ℤ range.end
  pub covers : Covers range.end end_of_time ahead
  pub to_come : (moved : SysInfo) → In moved (moved_after range ahead) → t <ℤ moved.begin
  pub begun : range.begin ≤ℤ t
  pub few : now ≤ old + length (filter (begins_before (t +ℤ pos 1)) (range ∷ ahead)) * each

-- ranges from the current one on end after it begins
from_ends : (b : ℤ) (range : SysInfo) (ahead : List SysInfo) (other : SysInfo) → range.begin <ℤ range.end → Covers range.end b ahead → In other (range ∷ ahead) → range.end ≤ℤ other.end
from_ends b range ahead other takes covers has =
    ⊎_elim (λ (same : range ≡ other). let here : range.end ≤ℤ range.end = omega (arith, ints) in rw (← same) here)
    (λ (later : In other ahead).
    let after : range.end <ℤ other.end = ends_after_begin range.end b ahead other covers later in
    omega (arith, ints))
    has

one_before : (t : ℤ) (range : SysInfo) (ahead : List SysInfo) → range.begin ≤ℤ t → length (filter (begins_before (t +ℤ pos 1)) (range ∷ ahead)) ≡ length (filter (begins_before (t +ℤ pos 1)) ahead) + 1
unfolding begins_before
one_before t range ahead begun =
    ap length (filter-pass (begins_before (t +ℤ pos 1)) range ahead (lt-int_lt range.begin (t +ℤ pos 1) (omega (arith, ints)))) ∙ omega arith

-- after the range that holds t none has begun
none_begun : (t : ℤ) (range : SysInfo) (ahead : List SysInfo) → Covers range.end end_of_time ahead → t <ℤ range.end → filter (begins_before (t +ℤ pos 1)) ahead ≡ []
unfolding begins_before
none_begun t range ahead covers ends =
    filter-none (begins_before (t +ℤ pos 1)) ahead
    (λ other has.
    let later : range.end ≤ℤ other.begin = begun_from range.end end_of_time ahead other covers has in
    le-int_lt other.begin (t +ℤ pos 1) (omega (arith, ints)))

-- the walk begins with a range that is found at some instant, and has t
pub begin_backward : (zone : CompiledZone) (t found_at : ℤ) (range : SysInfo) (old now each : ℕ) → range_at (expansion_of zone) found_at ≡ Some range → range.begin ≤ℤ t → t <ℤ range.end → now ≤ old + each → IsBackward zone t range old now each
begin_backward zone t found_at range old now each found begun ends step =
    let among = found_among first_instant end_of_time found_at (expansion_of zone) range (zone_covers zone) found in
    record {
      seen = among.before;
      ahead = among.later;
      split = among.split;
      covered = among.covered;
      takes = among.takes;
      covers = among.covers;
      to_come = λ moved has.
          let later : range.end ≤ℤ moved.begin = begun_from range.end end_of_time among.later moved among.covers (In-moved_after range among.later moved has) in
          omega (arith, ints);
      begun = begun;
      few = few_more old old now each 0 (length (filter (begins_before (t +ℤ pos 1)) (range ∷ among.later))) (omega arith) step
          (one_before t range among.later begun ∙ ap (λ (n : ℕ). n + 1) (ap length (none_begun t range among.later among.covers ends)));
    }

range_at-first : (t : ℤ) (range : SysInfo) (later : List SysInfo) → holds_instant t range ≡ true → range_at (range ∷ later) t ≡ Some range
unfolding range_at
range_at-first t range later h = cond-true (holds_instant t range) (Some range) (range_at later t) h

range_at-rest : (t : ℤ) (range : SysInfo) (later : List SysInfo) → holds_instant t range ≡ false → range_at (range ∷ later) t ≡ range_at later t
unfolding range_at
range_at-rest t range later h = cond-false (holds_instant t range) (Some range) (range_at later t) h

-- the last range of a cover holds the last second
pub record IsLast (a b : ℤ) (ranges : List SysInfo) (before : SysInfo) : Type 0 where
  pub earlier : List SysInfo
  pub split : ranges ≡ earlier ++ before ∷ []
  pub ends : before.end ≡ b
  pub takes : before.begin <ℤ before.end
  pub covered : Covers a before.begin earlier

last_holds : (a b t : ℤ) (seen others : List SysInfo) (before : SysInfo) → Covers a b seen → a ≤ℤ t → (t +ℤ pos 1) ≡ b → range_at (seen ++ others) t ≡ Some before → IsLast a b seen before
last_holds a b t [] others before covers low last found = absurd (omega (arith, ints))
last_holds a b t (first ∷ []) others before covers low last found =
    let begins : first.begin ≡ a = covers.0 in
    let takes : first.begin <ℤ first.end = covers.1 in
    let ends : first.end ≡ b = covers.2 in
    let holds = true-holds t first (omega (arith, ints)) (omega (arith, ints)) in
    let same : first ≡ before = same_Some first before (sym (range_at-first t first others holds) ∙ found) in
    let here : IsLast a b (first ∷ []) first = record { earlier = []; split = refl; ends = ends; takes = takes; covered = sym begins } in
    subst (λ (r : SysInfo). IsLast a b (first ∷ []) r) same here
last_holds a b t (first ∷ second ∷ seen) others before covers low last found =
    let later : second.end ≤ℤ b = covers_ordered second.end b seen covers.2.2 in
    let begins : second.begin ≡ first.end = covers.2.0 in
    let takes : second.begin <ℤ second.end = covers.2.1 in
    let past : first.end ≤ℤ t = omega (arith, ints) in
    let rest = last_holds first.end b t (second ∷ seen) others before covers.2 past last (sym (range_at-rest t first (second ∷ seen ++ others) (after-holds t first past)) ∙ found) in
    record {
      earlier = first ∷ rest.earlier;
      split = ap (λ (rs : List SysInfo). first ∷ rs) {y = rest.earlier ++ before ∷ []} rest.split;
      ends = rest.ends;
      takes = rest.takes;
      covered = (covers.0, covers.1, rest.covered);
    }

-- the range before stands right behind
before_range : (zone : CompiledZone) (t : ℤ) (range before : SysInfo) (old now each : ℕ) → (walk : IsBackward zone t range old now each) → first_instant <ℤ range.begin → range_at (expansion_of zone) (range.begin -ℤ pos 1) ≡ Some before → IsLast first_instant range.begin walk.seen before
before_range zone t range before old now each walk begins found =
    last_holds first_instant range.begin (range.begin -ℤ pos 1) walk.seen (range ∷ walk.ahead) before walk.covered (omega (arith, ints)) (omega (arith, ints)) (rw walk.split at found)

pub step_backward : (zone : CompiledZone) (t : ℤ) (range before : SysInfo) (old now more each : ℕ) → IsBackward zone t range old now each → first_instant <ℤ range.begin → range_at (expansion_of zone) (range.begin -ℤ pos 1) ≡ Some before → runs_alike before range ≡ true → more ≤ now + each → IsBackward zone t before old more each
step_backward zone t range before old now more each walk begins found alike step =
    let last = before_range zone t range before old now each walk begins found in
    let ahead = range ∷ walk.ahead in
    let ends : before.end ≡ range.begin = last.ends in
    let takes : before.begin <ℤ before.end = last.takes in
    let begun : range.begin ≤ℤ t = walk.begun in
    let early : before.begin ≤ℤ t = omega (arith, ints) in
    record {
      seen = last.earlier;
      ahead = ahead;
      split = walk.split ∙ ap (λ (rs : List SysInfo). rs ++ ahead) last.split ∙ append_assoc last.earlier (before ∷ []) ahead;
      covered = last.covered;
      takes = takes;
      covers = (sym ends, walk.takes, walk.covers);
      to_come = λ moved has. walk.to_come moved (rw (moved_after-alike before range walk.ahead alike) at has);
      begun = early;
      few = few_more old now more each (length (filter (begins_before (t +ℤ pos 1)) ahead)) (length (filter (begins_before (t +ℤ pos 1)) (before ∷ ahead))) walk.few step (one_before t before ahead early);
    }

-- the walk comes to a move
pub record IsFoundBackward (zone : CompiledZone) (t at : ℤ) (old more each : ℕ) : Type 0 where
  pub is : IsPreviousMove zone t at
  pub few : more ≤ old + length (ranges_between zone (at -ℤ pos 1) (t +ℤ pos 1)) * each

pub found_backward : (zone : CompiledZone) (t : ℤ) (range before : SysInfo) (old now more each : ℕ) → IsBackward zone t range old now each → first_instant <ℤ range.begin → range_at (expansion_of zone) (range.begin -ℤ pos 1) ≡ Some before → runs_alike before range ≡ false → more ≤ now + each → IsFoundBackward zone t range.begin old more each
found_backward zone t range before old now more each walk begins found differs step =
    let last = before_range zone t range before old now each walk begins found in
    let ahead = range ∷ walk.ahead in
    let earlier = last.earlier in
    let through = earlier ++ before ∷ [] in
    let ends : before.end ≡ range.begin = last.ends in
    let takes : before.begin <ℤ before.end = last.takes in
    let begun : range.begin ≤ℤ t = walk.begun in
    let range_takes : range.begin <ℤ range.end = walk.takes in
    let split : expansion_of zone ≡ earlier ++ before ∷ ahead = walk.split ∙ ap (λ (rs : List SysInfo). rs ++ ahead) last.split ∙ append_assoc earlier (before ∷ []) ahead in
    let moves : moved_ranges (expansion_of zone) ≡ moved_ranges through ++ range ∷ moved_after range walk.ahead =
    ap moved_ranges split
    ∙ moved-append earlier before ahead
    ∙ ap (λ (rs : List SysInfo). moved_ranges through ++ rs) (moved_after-differs before range walk.ahead differs) in
    let covers : Covers before.end end_of_time ahead = (sym ends, range_takes, walk.covers) in
    let met : ranges_between zone (range.begin -ℤ pos 1) (t +ℤ pos 1) ≡ filter (begins_before (t +ℤ pos 1)) (before ∷ ahead) =
    ap (filter (meets (range.begin -ℤ pos 1) (t +ℤ pos 1))) split
    ∙ counted_backward (range.begin -ℤ pos 1) (t +ℤ pos 1) earlier (before ∷ ahead)
    (λ other has. let ended : other.end ≤ℤ before.begin = ended_by first_instant before.begin earlier other last.covered has in omega (arith, ints))
    (λ other has. let after : before.end ≤ℤ other.end = from_ends end_of_time before ahead other takes covers has in omega (arith, ints)) in
    record {
      is = record {
        is_move = (range, Contains-from_In (moved_ranges (expansion_of zone)) range (rw moves (In-append_right (moved_ranges through) (range ∷ moved_after range walk.ahead) range (inl refl))), refl);
        not_later = begun;
        greatest = λ other is early.
            let there : In is.0 (moved_ranges through ++ range ∷ moved_after range walk.ahead) = rw moves at (In-from_Contains (moved_ranges (expansion_of zone)) is.0 is.1) in
            let at : is.0.begin ≡ other = is.2 in
            ⊎_elim
            (λ (back : In is.0 (moved_ranges through)).
            let by : is.0.begin ≤ℤ before.begin = through_begun first_instant earlier before is.0 last.covered (In-moved through is.0 back) in
            omega (arith, ints))
            (λ (on : In is.0 (range ∷ moved_after range walk.ahead)).
            ⊎_elim (λ (same : range ≡ is.0). let begin_is : range.begin ≡ is.0.begin = ap (λ (r : SysInfo). r.begin) same in omega (arith, ints))
            (λ (far : In is.0 (moved_after range walk.ahead)).
            let past : t <ℤ is.0.begin = walk.to_come is.0 far in
            absurd (omega (arith, ints)))
            on)
            (In-append_cases (moved_ranges through) (range ∷ moved_after range walk.ahead) is.0 there);
      };
      few = few_more old now more each (length (filter (begins_before (t +ℤ pos 1)) ahead)) (length (ranges_between zone (range.begin -ℤ pos 1) (t +ℤ pos 1))) walk.few step (ap length met ∙ one_before t before ahead (omega (arith, ints)));
    }

-- the walk comes to the beginning of time
pub record IsDoneBackward (zone : CompiledZone) (t : ℤ) (old now each : ℕ) : Type 0 where
  pub none : (other : ℤ) → IsMove zone other → t <ℤ other
  pub few : now ≤ old + length (ranges_between zone first_instant (t +ℤ pos 1)) * each

pub done_backward : (zone : CompiledZone) (t : ℤ) (range : SysInfo) (old now each : ℕ) → IsBackward zone t range old now each → range.begin ≤ℤ first_instant → IsDoneBackward zone t old now each
done_backward zone t range old now each walk past =
    let ahead = range ∷ walk.ahead in
    let takes : range.begin <ℤ range.end = walk.takes in
    let none = none_covered first_instant range.begin walk.seen walk.covered past in
    let low : first_instant ≤ℤ range.begin = covers_ordered first_instant range.begin walk.seen walk.covered in
    let all : expansion_of zone ≡ ahead = walk.split ∙ ap (λ (rs : List SysInfo). rs ++ ahead) none in
    let met : ranges_between zone first_instant (t +ℤ pos 1) ≡ filter (begins_before (t +ℤ pos 1)) ahead =
    ap (filter (meets first_instant (t +ℤ pos 1))) all
    ∙ counted_backward first_instant (t +ℤ pos 1) [] ahead
    (λ other has. absurd has)
    (λ other has. let after : range.end ≤ℤ other.end = from_ends end_of_time range walk.ahead other takes walk.covers has in omega (arith, ints)) in
    record {
      none = λ other is.
          let there : In is.0 (moved_after range walk.ahead) = rw all at (In-from_Contains (moved_ranges (expansion_of zone)) is.0 is.1) in
          let at : is.0.begin ≡ other = is.2 in
          let later : t <ℤ is.0.begin = walk.to_come is.0 there in
          omega (arith, ints);
      few = rw met walk.few;
    }

pub previous_not_none : (zone : CompiledZone) (t at : ℤ) → IsPreviousMove zone t at → ((other : ℤ) → IsMove zone other → t <ℤ other) → ⊥
previous_not_none zone t at is none =
    let later : t <ℤ at = none at is.is_move in
    let early : at ≤ℤ t = is.not_later in
    omega (arith, ints)

-- each step back leaves less time
pub walks_back : (first before begin : ℤ) → before <ℤ begin → first <ℤ begin → suc (int_gap first before) ≤ int_gap first begin
walks_back first before begin earlier inside =
    by_lt_z first before (λ more. grind (arith, ints)) (λ none. grind (arith, ints))

-- The ranges of a stretch, line by line from the last to the first, and the steps that they take.
use Rattle.std.proofs.Common.{◌≡◌, ℕ, zero, suc, ◌+◌, ◌*◌, ◌<◌, ◌≤◌, Bool, true, false, cond, inl, inr, refl, sym, ap, ◌∙◌, arith, add-one, List, [], ◌∷◌, ◌++◌, length, take, drop, get_or, ℤ, pos, ◌+ℤ◌, ◌-ℤ◌, ◌<ℤ◌, ◌≤ℤ◌}
use Rattle.std.specs.Prelude.{filter, reverse, int_lt, if◌then◌else◌}
use Rattle.std.specs.List.{count_by}
use Rattle.std.specs.Int.{int_max, int_min}
use Rattle.std.proofs.Math.Nat.{mul-le-mul_left, mul-le-mul_right, suc-mul}
use Rattle.std.proofs.lemmas.Int.{ints}
use Rattle.std.proofs.lemmas.List.{drop_more, drop_all, take_all, append-nil, reverse-append}
use Rattle.std.proofs.lemmas.List.Elements.{filter-append}
use Rattle.std.proofs.lemmas.List.Sums.{sum_by-cons}
use Rattle.tz_types.specs.declared.range.SysInfo.{SysInfo}
use Rattle.tz_types.specs.declared.rule_set.RuleSet.{RuleSet}
use Rattle.tz_specs.specs.Occurrence.{Occurrence}
use Rattle.tz_specs.specs.State.{InForce}
use Rattle.tz_specs.specs.Until.{Nothing, Fixed, Rules}
use Rattle.tz_specs.specs.Expansion.{first_instant, end_of_time, state_in, range_of, ranges_of, full_expansion}
use Rattle.tz_specs.specs.RulesFollowed.{rules_followed, most_rules_followed}
use Rattle.std.proofs.lemmas.Bool.{and_parts, and_from}
use Rattle.tz_specs.proofs.Tests.{by_test, not_both, int_lt-true, lt-int_lt}
use Rattle.tz_specs.proofs.ListLemmas.{In, In-from_get, In-map}
use Rattle.tz_specs.proofs.YearLemmas.{lies_in_some}
use Rattle.tz_specs.proofs.RangeLemmas.{In-ranges_back, chain_takes_time}
use Rattle.tz_specs.proofs.CoverLemmas.{leads-chains}
use Rattle.tz_specs.proofs.ExpansionLemmas.{ranges_of_plain, ranges_of_fixed}
use Rattle.tz_specs.proofs.RulesFollowedLemmas.{followed_by_each}
use Rattle.std.proofs.lemmas.Option.{slice_get_read}
use Rattle.tz_expand.specs.declared.compiled_line.CompiledLine.{CompiledLine}
use Rattle.tz_expand.specs.declared.compiled_zone.CompiledZone.{CompiledZone}
use Rattle.tz_expand.specs.Followed.{followed_by}
use Rattle.tz_expand.specs.Compiled.{period_of, periods}
use Rattle.tz_expand.specs.Looks.{AreLooksNear, AreLooksOf}
use Rattle.tz_expand.specs.Stretch.{IsStretch, TouchesYears, meets, line_meets, ranges_between, lines_between}
use Rattle.tz_specs.proofs.OccurrenceLemmas.{natural_of}
use Rattle.tz_expand.proofs.LookLemmas.{years_rise}
use Rattle.tz_expand.proofs.Told.{meets-parts, meets-from, begins_inside, ends_inside}

-- ---- a part of a stretch touches no more years
pub inner_touched : (from to a b : ℤ) (years : ℕ) → IsStretch from to → from ≤ℤ a → a <ℤ b → b ≤ℤ to → TouchesYears from to years → (inner : ℕ) × TouchesYears a b inner × (inner ≤ years)
inner_touched from to a b years stretch low rises high touches =
    let begins = stretch.begins in
    let ends = stretch.ends in
    let first = lies_in_some a (omega (arith, ints), omega (arith, ints)) in
    let last = lies_in_some (b -ℤ pos 1) (omega (arith, ints), omega (arith, ints)) in
    let after_first = years_rise from a touches.first first.0 touches.first_in first.1 touches.begins first.2 low in
    let before_last = years_rise (b -ℤ pos 1) (to -ℤ pos 1) last.0 touches.last last.1 touches.last_in last.2 touches.ends (omega (arith, ints)) in
    let order = years_rise a (b -ℤ pos 1) first.0 last.0 first.1 last.1 first.2 last.2 (omega (arith, ints)) in
    let count = natural_of ((last.0 -ℤ first.0) +ℤ pos 1) (omega (arith, ints)) in
    let counted : pos count.0 ≡ ((last.0 -ℤ first.0) +ℤ pos 1) = count.1 in
    let all = touches.counted in (
      count.0,
      record {
        first = first.0;
        last = last.0;
        first_in = first.1;
        last_in = last.1;
        begins = first.2;
        ends = last.2;
        counted = counted;
      },
      omega (arith, ints),
    )

pub inner_steps : (rules before after years inner : ℕ) → inner ≤ years → after ≤ before + rules * (inner + 12) → after ≤ before + rules * (years + 12)
inner_steps rules before after years inner few counted =
    let less : rules * (inner + 12) ≤ rules * (years + 12) = mul-le-mul_left rules (omega arith) in
    omega arith

pub looks_of_line : (line : CompiledLine) (set : RuleSet) (from to a b : ℤ) (list slice : List Occurrence) → followed_by line.rules ≡ Rules set → a ≡ int_max from line.start → b ≡ int_min to line.end → slice ≡ list → AreLooksNear set a b list → AreLooksOf (period_of line) from to slice
looks_of_line line set from to a b list slice follows begins ends same looked =
    let looked_at : AreLooksNear set (int_max from line.start) (int_min to line.end) slice = rw (← begins, ← ends, same) looked in
    record { set = set; follows = follows; looked = looked_at }

-- ---- one line
line_meets-parts : (from to : ℤ) (line : CompiledLine) → line_meets from to line ≡ true → (line.start <ℤ to) × (from <ℤ line.end)
line_meets-parts from to line h =
    let parts = and_parts (int_lt line.start to) (int_lt from line.end) h in
    (int_lt-true line.start to parts.0, int_lt-true from line.end parts.1)

pub line_begins : (from to : ℤ) (line : CompiledLine) → line_meets from to line ≡ true → line.start <ℤ to
line_begins from to line h = (line_meets-parts from to line h).0

pub line_ends : (from to : ℤ) (line : CompiledLine) → line_meets from to line ≡ true → from <ℤ line.end
line_ends from to line h = (line_meets-parts from to line h).1

none_pass : (test : SysInfo → Bool) (ranges : List SysInfo) → ((r : SysInfo) → In r ranges → test r ≡ true → ⊥) → filter test ranges ≡ []
none_pass test [] none = refl
none_pass test (r ∷ ranges) none =
    by_test (test r) (λ passes. absurd (none r (inl refl) passes))
    (λ fails. rw fails (none_pass test ranges (λ other has. none other (inr has))))

-- a line that doesn't meet the stretch has no range that does
pub none_meet : (from to : ℤ) (line : CompiledLine) (before : List SysInfo) → line.start <ℤ line.end → line_meets from to line ≡ false → reverse before ≡ filter (meets from to) (ranges_of (period_of line)) ++ reverse before
none_meet from to line before takes misses =
    let none = none_pass (meets from to) (ranges_of (period_of line))
    (λ r has meeting.
    let is = In-ranges_back (period_of line) r takes has in
    let parts = meets-parts from to r meeting in
    let begun = begins_inside (period_of line) r is in
    let ended = ends_inside (period_of line) r is in
    let meets_it : line_meets from to line ≡ true =
    and_from (int_lt line.start to) (int_lt from line.end) (lt-int_lt line.start to (omega (arith, ints, parts.0))) (lt-int_lt from line.end (omega (arith, ints, parts.1))) in
    not_both (line_meets from to line) meets_it misses) in
    rw none refl

-- a line without a rule set is one range
one_range : (from to : ℤ) (range : SysInfo) (ranges before after : List SysInfo) → ranges ≡ range ∷ [] → meets from to range ≡ true → after ≡ before ++ range ∷ [] → reverse after ≡ filter (meets from to) ranges ++ reverse before
one_range from to range ranges before after one meeting push =
    let kept : filter (meets from to) ranges ≡ range ∷ [] = rw (one, meeting) refl in
    ap reverse push ∙ reverse-append before (range ∷ []) ∙ ap (λ (z : List SysInfo). z ++ reverse before) (sym kept)

pub plain_range : (from to : ℤ) (line : CompiledLine) (kept : InForce) (before after : List SysInfo) → line_meets from to line ≡ true → followed_by line.rules ≡ Nothing → kept ≡ record { save = pos 0; daylight = false; letters = [] } → (state_in (period_of line) line.start ≡ kept → after ≡ before ++ range_of (period_of line) line.start line.end ∷ []) → reverse after ≡ filter (meets from to) (ranges_of (period_of line)) ++ reverse before
plain_range from to line kept before after meeting follows is push =
    let range = range_of (period_of line) line.start line.end in
    let in_force : state_in (period_of line) line.start ≡ kept = rw (follows, is) refl in
    one_range from to range (ranges_of (period_of line)) before after (ranges_of_plain (period_of line) follows)
    (meets-from from to range (line_begins from to line meeting) (line_ends from to line meeting)) (push in_force)

pub fixed_range : (from to save : ℤ) (daylight : Bool) (line : CompiledLine) (kept : InForce) (before after : List SysInfo) → line_meets from to line ≡ true → followed_by line.rules ≡ Fixed save daylight → kept ≡ record { save = save; daylight = daylight; letters = [] } → (state_in (period_of line) line.start ≡ kept → after ≡ before ++ range_of (period_of line) line.start line.end ∷ []) → reverse after ≡ filter (meets from to) (ranges_of (period_of line)) ++ reverse before
fixed_range from to save daylight line kept before after meeting follows is push =
    let range = range_of (period_of line) line.start line.end in
    let in_force : state_in (period_of line) line.start ≡ kept = rw (follows, is) refl in
    one_range from to range (ranges_of (period_of line)) before after (ranges_of_fixed (period_of line) save daylight follows)
    (meets-from from to range (line_begins from to line meeting) (line_ends from to line meeting)) (push in_force)

-- ---- all lines
next_line : (lines : List CompiledLine) (place : ℕ) (line : CompiledLine) → place < length lines → line ≡ get_or lines place line → drop place lines ≡ line ∷ drop (place + 1) lines
next_line lines place line low is = drop_more lines place line low ∙ ap (λ (z : CompiledLine). z ∷ drop (place + 1) lines) (sym is)

pub lines_none : (from to : ℤ) (lines : List CompiledLine) (place : ℕ) (ranges : List SysInfo) → length lines ≤ place → ranges ≡ [] → reverse ranges ≡ filter (meets from to) (full_expansion (periods (drop place lines)))
unfolding full_expansion
lines_none from to lines place ranges high none = rw (drop_all place lines high, none) refl

expansion_first : (line : CompiledLine) (later : List CompiledLine) → full_expansion (periods (line ∷ later)) ≡ ranges_of (period_of line) ++ full_expansion (periods later)
unfolding full_expansion
expansion_first line later = refl

pub line_told : (from to : ℤ) (lines : List CompiledLine) (line : CompiledLine) (place next now : ℕ) (before after : List SysInfo) → now ≡ place → next ≡ place + 1 → place < length lines → line ≡ get_or lines place line → reverse before ≡ filter (meets from to) (full_expansion (periods (drop next lines))) → reverse after ≡ filter (meets from to) (ranges_of (period_of line)) ++ reverse before → reverse after ≡ filter (meets from to) (full_expansion (periods (drop now lines)))
line_told from to lines line place next now before after now_is follows low is so_far told =
    let here = next_line lines place line low is in
    let rest : reverse before ≡ filter (meets from to) (full_expansion (periods (drop (place + 1) lines))) = rw follows at so_far in
    told ∙ ap (λ (z : List SysInfo). filter (meets from to) (ranges_of (period_of line)) ++ z) rest
    ∙ sym (filter-append (meets from to) (ranges_of (period_of line)) (full_expansion (periods (drop (place + 1) lines))))
    ∙ ap (filter (meets from to)) (sym (expansion_first line (drop (place + 1) lines)))
    ∙ ap (λ (z : List CompiledLine). filter (meets from to) (full_expansion (periods z))) (sym here)
    ∙ ap (λ (n : ℕ). filter (meets from to) (full_expansion (periods (drop n lines)))) (sym now_is)

pub line_takes_time : (zone : CompiledZone) (lines : List CompiledLine) (line : CompiledLine) (place : ℕ) → lines ≡ zone.lines → place < length lines → line ≡ get_or lines place line → line.start <ℤ line.end
line_takes_time zone lines line place same low is =
    let there = slice_get_read lines (length lines) place line refl low is in
    let among : In line zone.lines = rw (← same) (In-from_get lines place line there) in
    chain_takes_time first_instant end_of_time (periods zone.lines) (period_of line) (leads-chains first_instant end_of_time (periods zone.lines) zone.covers) (In-map period_of zone.lines line among)

-- ---- steps
few_rules : (lines : List CompiledLine) (line : CompiledLine) (place : ℕ) → place < length lines → line ≡ get_or lines place line → rules_followed (followed_by line.rules) ≤ most_rules_followed (periods lines)
few_rules lines line place low is =
    let there = slice_get_read lines (length lines) place line refl low is in
    followed_by_each (periods lines) (period_of line) (In-map period_of lines line (In-from_get lines place line there))

pub line_counted : (from to : ℤ) (lines : List CompiledLine) (line : CompiledLine) (place next now years start before after : ℕ) → now ≡ place → next ≡ place + 1 → place < length lines → line ≡ get_or lines place line → before ≤ start + count_by (line_meets from to) (drop next lines) * (most_rules_followed (periods lines) * (years + 12)) → after ≤ before + (if line_meets from to line then rules_followed (followed_by line.rules) * (years + 12) else 0) → after ≤ start + count_by (line_meets from to) (drop now lines) * (most_rules_followed (periods lines) * (years + 12))
line_counted from to lines line place next now years start before after now_is follows low is so_far more =
    let test = line_meets from to in
    let wide = most_rules_followed (periods lines) * (years + 12) in
    let later = drop (place + 1) lines in
    let rest : before ≤ start + count_by test later * wide = rw follows at so_far in
    let few : rules_followed (followed_by line.rules) * (years + 12) ≤ wide = mul-le-mul_right (years + 12) (few_rules lines line place low is) in
    rw (now_is, next_line lines place line low is)
    (by_test (test line)
    (λ passes.
    let counted : count_by test (line ∷ later) * wide ≡ count_by test later * wide + wide = rw (count_by-passes test line later passes, add-one, suc-mul) refl in
    let more_it : after ≤ before + rules_followed (followed_by line.rules) * (years + 12) = rw passes at more in
    omega arith)
    (λ fails.
    let counted : count_by test (line ∷ later) * wide ≡ count_by test later * wide = rw (count_by-fails test line later fails) refl in
    let more_it : after ≤ before + 0 = rw fails at more in
    omega arith))
  where
    count_by-passes : (test : CompiledLine → Bool) (line : CompiledLine) (later : List CompiledLine) → test line ≡ true → count_by test (line ∷ later) ≡ count_by test later + 1
    count_by-passes test line later h =
        let counted = sum_by-cons (λ x. cond (test x) 1 0) line later in
        let turned : 1 + count_by test later ≡ count_by test later + 1 = omega arith in
        counted ∙ ap (λ (b : Bool). cond b 1 0 + count_by test later) h ∙ turned

    count_by-fails : (test : CompiledLine → Bool) (line : CompiledLine) (later : List CompiledLine) → test line ≡ false → count_by test (line ∷ later) ≡ count_by test later
    count_by-fails test line later h =
        let counted = sum_by-cons (λ x. cond (test x) 1 0) line later in
        let none : 0 + count_by test later ≡ count_by test later = omega arith in
        counted ∙ ap (λ (b : Bool). cond b 1 0 + count_by test later) h ∙ none

-- the lines from a place on are no more than all
pub part_counted : (test : CompiledLine → Bool) (lines : List CompiledLine) (place wide start after : ℕ) → after ≤ start + count_by test (drop place lines) * wide → after ≤ start + count_by test lines * wide
part_counted test lines place wide start after counted =
    let less : count_by test (drop place lines) * wide ≤ count_by test lines * wide = mul-le-mul_right wide (fewer test lines place) in
    omega arith
  where
    fewer : (test : CompiledLine → Bool) (lines : List CompiledLine) (place : ℕ) → count_by test (drop place lines) ≤ count_by test lines
    fewer test [] zero = omega arith
    fewer test [] (suc place) = omega arith
    fewer test (line ∷ lines) zero = omega arith
    fewer test (line ∷ lines) (suc place) =
        let rest = fewer test lines place in
        let counted = sum_by-cons (λ x. cond (test x) 1 0) line lines in
        omega arith

pub all_lines_told : (from to : ℤ) (zone : CompiledZone) (lines : List CompiledLine) (place : ℕ) (ranges turned : List SysInfo) → lines ≡ zone.lines → place ≡ 0 → reverse ranges ≡ filter (meets from to) (full_expansion (periods (drop place lines))) → turned ≡ reverse ranges → turned ≡ ranges_between zone from to
all_lines_told from to zone lines place ranges turned same none told turn =
    let whole : reverse ranges ≡ filter (meets from to) (full_expansion (periods lines)) = rw none at told in
    turn ∙ whole ∙ ap (λ (z : List CompiledLine). filter (meets from to) (full_expansion (periods z))) same

-- a list whose slice was written whole
pub written_back : (len : ℕ) (items written : List SysInfo) → length items ≡ len → length written ≡ length items → take len (written ++ drop (length written) items) ≡ written
written_back len items written long same =
    let none : drop (length written) items ≡ [] = drop_all (length written) items (omega arith) in
    ap (λ (z : List SysInfo). take len (written ++ z)) none ∙ ap (take len) (append-nil written) ∙ take_all len written (omega arith)

pub zone_counted : (from to : ℤ) (zone : CompiledZone) (lines : List CompiledLine) (place years start after : ℕ) → lines ≡ zone.lines → after ≤ start + count_by (line_meets from to) (drop place lines) * (most_rules_followed (periods lines) * (years + 12)) → after ≤ start + lines_between zone from to * (most_rules_followed (periods zone.lines) * (years + 12))
zone_counted from to zone lines place years start after same counted =
    rw (← same) (part_counted (line_meets from to) lines place (most_rules_followed (periods lines) * (years + 12)) start after counted)

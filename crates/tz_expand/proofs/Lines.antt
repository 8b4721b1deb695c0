-- The line of a zone that holds an instant, and the range around an instant of a line.
use Rattle.std.proofs.Common.{◌≡◌, ℕ, ◌+◌, ◌*◌, ◌<◌, ◌≤◌, Bool, ◌⊎◌, inl, inr, ⊎_elim, refl, sym, ap, ◌∙◌, arith, List, [], ◌∷◌, length, drop, get_or, IsTrue, Option, Some, None, ℤ, ◌<ℤ◌, ◌≤ℤ◌}
use Rattle.std.specs.Prelude.{IsNone, IfSome}
use Rattle.std.specs.Int.{int_max, int_min}
use Rattle.std.proofs.Math.Nat.{mul-le-mul}
use Rattle.std.proofs.lemmas.Int.{ints, clamps, by_lt_z}
use Rattle.std.proofs.lemmas.List.{drop_more}
use Rattle.std.proofs.lemmas.Option.{slice_get_read, slice_get_within, same_Some}
use Rattle.tz_types.specs.declared.range.SysInfo.{SysInfo}
use Rattle.tz_types.specs.declared.rule.Rule.{Rule}
use Rattle.tz_types.specs.declared.rule_set.RuleSet.{RuleSet}
use Rattle.tz_rules.specs.declared.taken.Taken.{Taken}
use Rattle.tz_rules.specs.Taken.{IsTakenAt, IsLastTaken, IsNextTaken}
use Rattle.tz_specs.specs.Occurrence.{Occurrence, occurrences}
use Rattle.tz_specs.specs.State.{InForce, instants, in_force, state_at, put_in_force, before_first}
use Rattle.tz_specs.specs.Until.{Fixed, Rules}
use Rattle.tz_specs.specs.Expansion.{Period, first_instant, end_of_time, state_in, range_of, holds_instant, range_at}
use Rattle.tz_specs.specs.Sound.{leads}
use Rattle.tz_specs.specs.RulesFollowed.{rules_followed, most_rules_followed}
use Rattle.tz_specs.specs.Standing.{IsRangeOf}
use Rattle.tz_specs.specs.Effect.{ComesAt, NoneInEffect}
use Rattle.tz_specs.specs.Around.{IsToCome, IsNextChange, IsBeginAround, IsEndAround}
use Rattle.tz_specs.proofs.ListLemmas.{In, In-from_get, In-map}
use Rattle.tz_specs.proofs.CoverLemmas.{leads-chains, true-holds, range_at-before, range_at-after}
use Rattle.tz_specs.proofs.CutLemmas.{expansion_covers}
use Rattle.tz_specs.proofs.RulesFollowedLemmas.{followed_by_each}
use Rattle.tz_specs.proofs.EffectLemmas.{in_effect_once, comes_once, in_force_in_effect, in_force_before}
use Rattle.tz_specs.proofs.AroundLemmas.{range_around, in_force_around, range_at_line, fixed_is_range}
use Rattle.tz_expand.specs.declared.compiled_line.CompiledLine.{CompiledLine}
use Rattle.tz_expand.specs.declared.compiled_zone.CompiledZone.{CompiledZone}
use Rattle.tz_expand.specs.Followed.{followed_by}
use Rattle.tz_expand.specs.Compiled.{period_of, periods}
use Rattle.tz_expand.specs.Zone.{expansion_of}

-- ---- what the two searches tell, by cases
pub last_by_cases : (set : RuleSet) (stdoff t : ℤ) (now : Option Taken) → IfSome now (λ taken. IsTakenAt set stdoff t taken) → (IsNone now → NoneInEffect set stdoff t) → IsLastTaken set stdoff t now
last_by_cases set stdoff t None some none = none refl
last_by_cases set stdoff t (Some taken) some none = some

pub next_by_cases : (set : RuleSet) (stdoff t : ℤ) (next : Option Taken) → IfSome next (λ taken. IsNextChange set stdoff t taken.at) → IfSome next (λ taken. IsTakenAt set stdoff taken.at taken) → (IsNone next → (other : Occurrence) → ¬ (IsToCome set stdoff t other)) → IsNextTaken set stdoff t next
next_by_cases set stdoff t None change some none = none refl
next_by_cases set stdoff t (Some taken) change some none = (change, some)

-- ---- where the range begins and ends
pub begins_none : (set : RuleSet) (line : CompiledLine) (t : ℤ) → NoneInEffect set line.stdoff t → IsBeginAround set (period_of line) t line.start
begins_none set line t none =
    inr (
      refl,
      λ now w effect comes.
          let not_yet = none now effect.instant effect.is effect.comes in
          let come = effect.come in
          absurd (omega (arith, ints)),
    )

pub begins_taken : (set : RuleSet) (line : CompiledLine) (t begin : ℤ) (taken : Taken) → IsTakenAt set line.stdoff t taken → begin ≡ int_max taken.at line.start → IsBeginAround set (period_of line) t begin
begins_taken set line t begin taken is begin_is =
    let now = is.0 in
    let effect = is.2 in
    let comes = is.3 in
    by_lt_z line.start taken.at
    (λ lt.
    let same : taken.at ≡ begin = omega (arith, ints, clamps) in
    inl (now, effect, rw same at comes, omega (arith, ints)))
    (λ le.
    inr (
      omega (arith, ints, clamps),
      λ other w its_effect its_comes.
          let same = in_effect_once set line.stdoff t other now its_effect effect in
          let its : ComesAt set line.stdoff now w = rw same at its_comes in
          let equal = comes_once set line.stdoff now w taken.at effect.is its comes in
          omega (arith, ints),
    ))

pub ends_none : (set : RuleSet) (line : CompiledLine) (t : ℤ) → ((other : Occurrence) → ¬ (IsToCome set line.stdoff t other)) → IsEndAround set (period_of line) t line.end
ends_none set line t none = inr (refl, λ other w coming comes. absurd (none other coming))

pub ends_taken : (set : RuleSet) (line : CompiledLine) (t end : ℤ) (taken : Taken) → IsNextChange set line.stdoff t taken.at → end ≡ int_min taken.at line.end → IsEndAround set (period_of line) t end
ends_taken set line t end taken next end_is =
    by_lt_z taken.at line.end
    (λ lt.
    let same : taken.at ≡ end = omega (arith, ints, clamps) in
    inl (rw same at next, omega (arith, ints)))
    (λ le.
    inr (omega (arith, ints, clamps), λ other w coming comes. let soonest = next.soonest other w coming comes in omega (arith, ints)))

-- ---- what is in force
state_in-rules : (set : RuleSet) (period : Period) (t : ℤ) → period.following ≡ Rules set → state_in period t ≡ in_force (occurrences set) (state_at (instants period.stdoff (occurrences set)) t)
state_in-rules set period t e = rw e

pub state_taken : (set : RuleSet) (line : CompiledLine) (t : ℤ) (taken : Taken) (rule : Rule) (kept : InForce) → followed_by line.rules ≡ Rules set → IsTakenAt set line.stdoff t taken → taken.rule < length set.rules → rule ≡ get_or set.rules taken.rule rule → ((year : ℤ) → kept ≡ put_in_force (record { rule = rule; year = year })) → state_in (period_of line) t ≡ kept
state_taken set line t taken rule kept follows is low read puts =
    let now = is.0 in
    let there = slice_get_read set.rules (length set.rules) taken.rule rule refl low read in
    let same : now.rule ≡ rule = same_Some now.rule rule (sym is.1.rule ∙ there) in
    let put : put_in_force now ≡ kept = ap (λ (r : Rule). put_in_force (record { rule = r; year = now.year })) same ∙ sym (puts now.year) in
    state_in-rules set (period_of line) t follows ∙ in_force_in_effect set line.stdoff t now is.2 ∙ put

pub state_none : (set : RuleSet) (line : CompiledLine) (t : ℤ) (kept : InForce) → followed_by line.rules ≡ Rules set → NoneInEffect set line.stdoff t → before_first (occurrences set) ≡ kept → state_in (period_of line) t ≡ kept
state_none set line t kept follows none is =
    state_in-rules set (period_of line) t follows ∙ in_force_before set line.stdoff t none ∙ is

-- ---- the range of a line
pub record HoldsIn (line : CompiledLine) (t : ℤ) (range : SysInfo) : Type 0 where
  pub is : IsRangeOf (period_of line) range
  pub holds : IsTrue (holds_instant t range)

pub range_followed : (set : RuleSet) (line : CompiledLine) (t begin end : ℤ) (kept : InForce) (range : SysInfo) → followed_by line.rules ≡ Rules set → line.start ≤ℤ t → t <ℤ line.end → IsBeginAround set (period_of line) t begin → IsEndAround set (period_of line) t end → state_in (period_of line) t ≡ kept → (state_in (period_of line) begin ≡ kept → range ≡ range_of (period_of line) begin end) → HoldsIn line t range
range_followed set line t begin end kept range follows begun inside begins ends state told =
    let period = period_of line in
    let kept_too = in_force_around set period t begin follows begun begins ∙ state in
    let around = range_around set period t begin end follows begun inside begins ends in
    let is = told kept_too in
    rw is (record { is = around.0; holds = around.1 })

pub range_fixed : (line : CompiledLine) (t save : ℤ) (daylight : Bool) (kept : InForce) (range : SysInfo) → followed_by line.rules ≡ Fixed save daylight → line.start ≤ℤ t → t <ℤ line.end → kept ≡ record { save = save; daylight = daylight; letters = [] } → (state_in (period_of line) line.start ≡ kept → range ≡ range_of (period_of line) line.start line.end) → HoldsIn line t range
range_fixed line t save daylight kept range follows begun inside kept_is told =
    let period = period_of line in
    let in_force : state_in period line.start ≡ kept = rw (follows, kept_is) refl in
    let is = told in_force in
    rw is (record {
      is = fixed_is_range period save daylight (omega (arith, ints)) follows;
      holds = true-holds t (range_of period line.start line.end) begun inside;
    })

-- ---- the line that holds an instant
-- the lines that are left lead from an instant that isn't later to the end of time
pub record AreLeft (lines : List CompiledLine) (t : ℤ) : Type 0 where
  pub from : ℤ
  pub begun : from ≤ℤ t
  pub leading : IsTrue (leads from end_of_time (periods lines))

record LeadsOn (from : ℤ) (line : CompiledLine) (later : List CompiledLine) : Type 0 where
  pub start : line.start ≡ from
  pub on : IsTrue (leads line.end end_of_time (periods later))

leads-line : (from : ℤ) (line : CompiledLine) (later : List CompiledLine) → IsTrue (leads from end_of_time (periods (line ∷ later))) → LeadsOn from line later
leads-line from line later h = record { start = grind (arith, ints); on = grind arith }

next_left : (lines : List CompiledLine) (place : ℕ) (line : CompiledLine) (t : ℤ) → place < length lines → line ≡ get_or lines place line → AreLeft (drop place lines) t → AreLeft (line ∷ drop (place + 1) lines) t
next_left lines place line t low is left =
    let here : drop place lines ≡ line ∷ drop (place + 1) lines = drop_more lines place line low ∙ ap (λ (z : CompiledLine). z ∷ drop (place + 1) lines) (sym is) in
    rw here at left

pub left_later : (lines : List CompiledLine) (place : ℕ) (line : CompiledLine) (t : ℤ) → place < length lines → line ≡ get_or lines place line → AreLeft (drop place lines) t → line.end ≤ℤ t → AreLeft (drop (place + 1) lines) t
left_later lines place line t low is left ended =
    let here = next_left lines place line t low is left in
    let on = leads-line here.from line (drop (place + 1) lines) here.leading in
    record { from = line.end; begun = ended; leading = on.on }

pub found_in_line : (zone : CompiledZone) (lines : List CompiledLine) (place : ℕ) (line : CompiledLine) (t : ℤ) (range : SysInfo) → lines ≡ zone.lines → place < length lines → line ≡ get_or lines place line → IsRangeOf (period_of line) range → IsTrue (holds_instant t range) → range_at (expansion_of zone) t ≡ Some range
found_in_line zone lines place line t range same low is range_is holds =
    let there = slice_get_read lines (length lines) place line refl low is in
    let among : In line zone.lines = rw (← same) (In-from_get lines place line there) in
    range_at_line first_instant end_of_time t (periods zone.lines) (period_of line) range (leads-chains first_instant end_of_time (periods zone.lines) zone.covers) (In-map period_of zone.lines line among) range_is holds

-- ---- steps
pub few_steps : (rules most before after : ℕ) → rules ≤ most → after ≤ before + 16 * (rules * (rules + 2)) → after ≤ before + 16 * (most * (most + 2))
few_steps rules most before after few counted =
    let less : rules * (rules + 2) ≤ most * (most + 2) = mul-le-mul few (omega arith) in
    omega arith

pub line_few : (zone : CompiledZone) (lines : List CompiledLine) (place : ℕ) (line : CompiledLine) → lines ≡ zone.lines → place < length lines → line ≡ get_or lines place line → rules_followed (followed_by line.rules) ≤ most_rules_followed (periods zone.lines)
line_few zone lines place line same low is =
    let there = slice_get_read lines (length lines) place line refl low is in
    let among : In line zone.lines = rw (← same) (In-from_get lines place line there) in
    followed_by_each (periods zone.lines) (period_of line) (In-map period_of zone.lines line among)

pub nothing_outside : (zone : CompiledZone) (t : ℤ) → (t <ℤ first_instant) ⊎ (end_of_time ≤ℤ t) → None ≡ range_at (expansion_of zone) t
nothing_outside zone t outside =
    let covers = expansion_covers first_instant end_of_time (periods zone.lines) (leads-chains first_instant end_of_time (periods zone.lines) zone.covers) in
    ⊎_elim (λ (before : t <ℤ first_instant). sym (range_at-before first_instant end_of_time t (expansion_of zone) covers before))
    (λ (after : end_of_time ≤ℤ t). sym (range_at-after first_instant end_of_time t (expansion_of zone) covers after))
    outside

pub taken_within : (set : RuleSet) (stdoff t : ℤ) (taken : Taken) → IsTakenAt set stdoff t taken → taken.rule < length set.rules
taken_within set stdoff t taken is = slice_get_within set.rules taken.rule is.0.rule is.1.rule

-- Rules, rule sets and zones of the types' own, of what is written.
use Rattle.std.proofs.Common.{◌≡◌, ℕ, zero, suc, ◌<◌, true, false, nat_lt, IsTrue, List, [], ◌∷◌, length, map, find, Option, Some, None, option_map, slice_get, refl, sym, ap, ◌∙◌, ⊎_elim, arith}
use Rattle.std.specs.Option.{is_none}
use Rattle.std.proofs.lemmas.Bool.{cases_Bool}
use Rattle.std.proofs.lemmas.Bool.Decides.{nat_tests}
use Rattle.tz_types.specs.Saves.{is_fixed_save}
use Rattle.tz_types.specs.declared.rule.Rule.{Rule}
use Rattle.tz_types.specs.declared.rule_set.RuleSet.{RuleSet}
use Rattle.tz_types.specs.declared.until.Until.{Until}
use Rattle.tz_types.specs.declared.zone_line.LineRules.{LineRules}
use Rattle.tz_types.specs.declared.zone_line.LineRules.TheVariants as line_rules
use Rattle.tz_types.specs.declared.zone_line.ZoneLine.{ZoneLine}
use Rattle.tz_specs.specs.Sound.{is_known}
use Rattle.tz_specs.specs.Value.{is_exactly}
use Rattle.tz_specs.specs.Written.{WrittenRule, WrittenSet, WrittenRules, WrittenUntil, WrittenLine, NoRules, FixedSave, RulesNamed, written_rule, written_set, set_names, written_rules, written_until, written_line}
use Rattle.tz_specs.specs.Until.{Rules}
use Rattle.tz_specs.specs.Whole.{following_in}
use Rattle.tz_text_laws.proofs.Good.{GoodRule, GoodEnd, GoodLine, is_good_save}
use Rattle.tz_text_laws.proofs.GoodContents.{GoodRules, GoodSet, GoodSets}
use Rattle.tz_text_laws.proofs.Names.{same_name}

make_rule : (rule : WrittenRule) → GoodRule rule → (made : Rule) × (written_rule made ≡ rule)
make_rule rule good = (
  record {
    from = rule.from;
    to = rule.to;
    moment = rule.moment;
    save = rule.save;
    daylight = rule.daylight;
    letters = rule.letters;
    line = rule.line;
    from_in = good.from_in;
    to_in = good.to_in;
    ordered = good.ordered;
    day_in = good.day_in;
    at_in = good.at_in;
    save_in = good.save_in;
  },
  refl,
)

make_rules : (number : ℕ) (rules : List WrittenRule) → GoodRules number rules → (made : List Rule) × (map written_rule made ≡ rules)
make_rules number [] good = ([], refl)
make_rules number (rule ∷ rules) good =
    let first = make_rule rule good.0 in
    let later = make_rules number rules good.2 in
    (first.0 ∷ later.0, λ i. first.1 i ∷ later.1 i)

pub map_map : {X Y Z : Type 0} (f : X → Y) (g : Y → Z) (xs : List X) → map g (map f xs) ≡ map (λ x. g (f x)) xs
map_map f g [] = refl
map_map f g (x ∷ xs) = let later = map_map f g xs in λ i. g (f x) ∷ later i

pub map_length : {X Y : Type 0} (f : X → Y) (xs : List X) → length (map f xs) ≡ length xs
map_length f [] = refl
map_length f (x ∷ xs) = ap suc (map_length f xs)

make_set : (number : ℕ) (set : WrittenSet) → GoodSet number set → (made : RuleSet) × (written_set made ≡ set)
make_set number set good =
    let rules = make_rules number set.rules good.rules in
    let lines : map (λ (it : Rule). it.line) rules.0 ≡ map (λ (it : WrittenRule). it.line) set.rules =
    sym (map_map written_rule (λ (it : WrittenRule). it.line) rules.0) ∙ ap (λ it. map (λ (it : WrittenRule). it.line) it) rules.1 in
    let count : length rules.0 ≡ length set.rules = sym (map_length written_rule rules.0) ∙ ap length rules.1 in
    let few = good.few in (
      record { name = set.name; rules = rules.0; in_line_order = rw lines good.rise; few_enough = omega (arith, count, few) },
      λ i. record { name = set.name; rules = rules.1 i },
    )

pub make_sets : (number : ℕ) (sets : List WrittenSet) → GoodSets number sets → (made : List RuleSet) × (map written_set made ≡ sets)
make_sets number [] good = ([], refl)
make_sets number (set ∷ sets) good =
    let first = make_set number set good.0 in
    let later = make_sets number sets good.1 in
    (first.0 ∷ later.0, λ i. first.1 i ∷ later.1 i)

-- the place of a set that is found by its name
place_of : (sets : List RuleSet) (name : List ℕ) → is_none (option_map Rules (find (λ set. is_exactly set.name name) sets)) ≡ false → (place : ℕ) × (place < length sets) × (slice_get (set_names sets) place ≡ Some name)
place_of [] name h = absurd (cc)
place_of (set ∷ sets) name h =
    ⊎_elim (λ (named : is_exactly set.name name ≡ true). (zero, omega arith, ap Some (same_name set.name name named)))
    (λ (other : is_exactly set.name name ≡ false).
    let later = place_of sets name (rw other at h) in
    let below = later.1 in
    (suc later.0, omega (arith, below), later.2))
    (cases_Bool (is_exactly set.name name))

-- rules of a line whose set is known
make_line_rules : (sets : List RuleSet) (rules : WrittenRules) → IsTrue (is_good_save rules) → is_none (following_in sets rules) ≡ false → (made : LineRules) × IsTrue (is_fixed_save made) × IsTrue (is_known sets made) × (written_rules (set_names sets) made ≡ rules)
make_line_rules sets NoRules good known = (line_rules.Plain, refl, refl, refl)
make_line_rules sets (FixedSave save daylight) good known = (line_rules.Fixed save daylight, good, refl, refl)
make_line_rules sets (RulesNamed name) good known =
    let place = place_of sets name known in
    let below = place.1 in
    let is : IsTrue (nat_lt place.0 (length sets)) = grind (arith, nat_tests, below) in
    (line_rules.Set place.0, refl, is, rw place.2 refl)

make_end : (end : Option WrittenUntil) → GoodEnd end → (made : Option Until) × (option_map written_until made ≡ end)
make_end None good = (None, refl)
make_end (Some until) good =
    (Some (record { year = until.year; moment = until.moment; year_in = good.year_in; day_in = good.day_in; at_in = good.at_in }), refl)

pub make_line : (sets : List RuleSet) (line : WrittenLine) → GoodLine line → is_none (following_in sets line.rules) ≡ false → (made : ZoneLine) × IsTrue (is_known sets made.rules) × (written_line (set_names sets) made ≡ line)
make_line sets line good known =
    let rules = make_line_rules sets line.rules good.save_in known in
    let end = make_end line.until good.until_in in (
      record {
        stdoff = line.stdoff;
        rules = rules.0;
        format = line.format;
        until = end.0;
        line = line.line;
        stdoff_in = good.stdoff_in;
        save_in = rules.1;
        format_in = good.format_in;
      },
      rules.2,
      λ i. record { stdoff = line.stdoff; rules = rules.3 i; format = line.format; until = end.1 i; line = line.line },
    )

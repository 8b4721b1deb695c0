-- What is written of rules, zones and links tells them apart.
use Rattle.std.proofs.Common.{◌≡◌, ◌≤◌, ◌≤ℤ◌, IsTrue, List, [], ◌∷◌, map, length, nat_lt, Option, Some, None, option_map, refl, ap}
use mathlib.Core.HLevel.{is_prop→PathP}
use Rattle.std.proofs.Props.{props}
use Rattle.tz_types.specs.Year.{IsWrittenYear, IsRuleYear}
use Rattle.tz_types.specs.Amount.{IsTimeOfDay, IsShift}
use Rattle.tz_types.specs.Calendar.{has_day, has_day_through}
use Rattle.tz_types.specs.Order.{ascends}
use Rattle.tz_types.specs.declared.limit.TheConstants.{MOST_RULES}
use Rattle.tz_types.specs.declared.rule.Rule.{Rule}
use Rattle.tz_types.specs.declared.rule_set.RuleSet.{RuleSet}
use Rattle.tz_types.specs.declared.until.Until.{Until}
use Rattle.tz_specs.specs.Written.{WrittenRule, WrittenSet, WrittenUntil, written_rule, written_set, written_until}

same_rule : (a b : Rule) → written_rule a ≡ written_rule b → a ≡ b
same_rule a b h =
    let from : a.from ≡ b.from = ap (λ (it : WrittenRule). it.from) h in
    let to : a.to ≡ b.to = ap (λ (it : WrittenRule). it.to) h in
    let moment : a.moment ≡ b.moment = ap (λ (it : WrittenRule). it.moment) h in
    let save : a.save ≡ b.save = ap (λ (it : WrittenRule). it.save) h in
    let daylight : a.daylight ≡ b.daylight = ap (λ (it : WrittenRule). it.daylight) h in
    let letters : a.letters ≡ b.letters = ap (λ (it : WrittenRule). it.letters) h in
    let line : a.line ≡ b.line = ap (λ (it : WrittenRule). it.line) h in
    λ i. record {
      from = from i;
      to = to i;
      moment = moment i;
      save = save i;
      daylight = daylight i;
      letters = letters i;
      line = line i;
      from_in = is_prop→PathP (λ j. IsWrittenYear (from j)) (λ j. hlevel props) a.from_in b.from_in i;
      to_in = is_prop→PathP (λ j. IsWrittenYear (to j)) (λ j. hlevel props) a.to_in b.to_in i;
      ordered = is_prop→PathP (λ j. from j ≤ℤ to j) (λ j. hlevel props) a.ordered b.ordered i;
      day_in = is_prop→PathP (λ j. IsTrue (has_day_through (from j) (to j) (moment j).month (moment j).on)) (λ j. hlevel props) a.day_in b.day_in i;
      at_in = is_prop→PathP (λ j. IsTimeOfDay (moment j).at) (λ j. hlevel props) a.at_in b.at_in i;
      save_in = is_prop→PathP (λ j. IsShift (save j)) (λ j. hlevel props) a.save_in b.save_in i;
    }

same_rules : (ones others : List Rule) → map written_rule ones ≡ map written_rule others → ones ≡ others
same_rules [] [] h = refl
same_rules [] (b ∷ others) h = cc
same_rules (a ∷ ones) [] h = cc
same_rules (a ∷ ones) (b ∷ others) h =
    let head : a ≡ b = same_rule a b cc in
    let tail : ones ≡ others = same_rules ones others cc in
    cc

same_set : (a b : RuleSet) → written_set a ≡ written_set b → a ≡ b
same_set a b h =
    let name : a.name ≡ b.name = ap (λ (it : WrittenSet). it.name) h in
    let rules : a.rules ≡ b.rules = same_rules a.rules b.rules (ap (λ (it : WrittenSet). it.rules) h) in
    λ i. record {
      name = name i;
      rules = rules i;
      in_line_order = is_prop→PathP (λ j. IsTrue (ascends nat_lt (map (λ rule. rule.line) (rules j)))) (λ j. hlevel props) a.in_line_order b.in_line_order i;
      few_enough = is_prop→PathP (λ j. length (rules j) ≤ MOST_RULES) (λ j. hlevel props) a.few_enough b.few_enough i;
    }

pub same_sets : (ones others : List RuleSet) → map written_set ones ≡ map written_set others → ones ≡ others
same_sets [] [] h = refl
same_sets [] (b ∷ others) h = cc
same_sets (a ∷ ones) [] h = cc
same_sets (a ∷ ones) (b ∷ others) h =
    let head : a ≡ b = same_set a b cc in
    let tail : ones ≡ others = same_sets ones others cc in
    cc

same_until : (a b : Until) → written_until a ≡ written_until b → a ≡ b
same_until a b h =
    let year : a.year ≡ b.year = ap (λ (it : WrittenUntil). it.year) h in
    let moment : a.moment ≡ b.moment = ap (λ (it : WrittenUntil). it.moment) h in
    λ i. record {
      year = year i;
      moment = moment i;
      year_in = is_prop→PathP (λ j. IsRuleYear (year j)) (λ j. hlevel props) a.year_in b.year_in i;
      day_in = is_prop→PathP (λ j. IsTrue (has_day (year j) (moment j).month (moment j).on)) (λ j. hlevel props) a.day_in b.day_in i;
      at_in = is_prop→PathP (λ j. IsTimeOfDay (moment j).at) (λ j. hlevel props) a.at_in b.at_in i;
    }

pub same_ends : (a b : Option Until) → option_map written_until a ≡ option_map written_until b → a ≡ b
same_ends None None h = refl
same_ends None (Some b) h = cc
same_ends (Some a) None h = cc
same_ends (Some a) (Some b) h = let same : a ≡ b = same_until a b cc in cc

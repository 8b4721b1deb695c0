-- The derived `==` of compiled zones, and of all that they have, holds exactly of equal values.
use Rattle.std.proofs.Common.{◌≡◌, ◌≤◌, Bool, IsTrue, nat_lt, length, map, ◌≤ℤ◌, refl, ap, rules}
use mathlib.Core.HLevel.{is_prop→PathP}
use Rattle.std.proofs.Props.{props}
use Rattle.std.specs.Bool.{Decides}
use Rattle.std.specs.Cmp.{booleans_Decides, unsigned_Decides, signed_Decides}
use Rattle.std.proofs.lemmas.Bool.Decides.{Decides-and, Decides-like}
use Rattle.std.proofs.lemmas.Slice.Eq.{bytes_eq-Decides, slice_eq-Decides}
use Rattle.tz_types.specs.Year.{IsWrittenYear}
use Rattle.tz_types.specs.Amount.{IsTimeOfDay, IsShift}
use Rattle.tz_types.specs.Calendar.{has_day_through}
use Rattle.tz_types.specs.Order.{ascends}
use Rattle.tz_types.specs.declared.limit.TheConstants.{MOST_RULES}
use Rattle.tz_types.specs.declared.calendar.Month.{Month}
use Rattle.tz_types.specs.declared.calendar.On.{On}
use Rattle.tz_types.specs.declared.moment.AtKind.{AtKind}
use Rattle.tz_types.specs.declared.moment.Moment.{Moment}
use Rattle.tz_types.specs.declared.rule.Rule.{Rule}
use Rattle.tz_types.specs.declared.rule_set.RuleSet.{RuleSet}
use Rattle.tz_expand.specs.declared.compiled_line.CompiledRules.{CompiledRules}
use Rattle.tz_expand.specs.declared.compiled_line.CompiledLine.{CompiledLine}
use Rattle.tz_expand.specs.declared.compiled_zone.CompiledZone.{CompiledZone}
use Rattle.tz_expand.proofs.SameZones.{line_from_fields, same_compiled}
use Rattle.tz_types.specs.declared.format.Format.{Format}
use Rattle.tz_types.specs.contracts.format.FormatPartialEq.TheImpl as format_impl
use Rattle.tz_types.specs.contracts.calendar.MonthPartialEq.TheImpl as month_impl
use Rattle.tz_types.specs.contracts.calendar.OnPartialEq.TheImpl as on_impl
use Rattle.tz_types.specs.contracts.moment.AtKindPartialEq.TheImpl as kind_impl
use Rattle.tz_types.specs.contracts.moment.MomentPartialEq.TheImpl as moment_impl
use Rattle.tz_types.specs.contracts.rule.RulePartialEq.TheImpl as rule_impl
use Rattle.tz_types.specs.contracts.rule_set.RuleSetPartialEq.TheImpl as set_impl
use Rattle.tz_expand.specs.contracts.compiled_line.CompiledRulesPartialEq.TheImpl as compiled_rules_impl
use Rattle.tz_expand.specs.contracts.compiled_line.CompiledLinePartialEq.TheImpl as compiled_line_impl
use Rattle.tz_expand.specs.contracts.compiled_zone.CompiledZonePartialEq.TheImpl as compiled_zone_impl

abbrev kinds : AtKind → AtKind → Bool
kinds = let impl = kind_impl.ghosts in impl.eq

abbrev months : Month → Month → Bool
months = let impl = month_impl.ghosts in impl.eq

abbrev ons : On → On → Bool
ons = let impl = on_impl.ghosts in impl.eq

abbrev moments : Moment → Moment → Bool
moments = let impl = moment_impl.ghosts in impl.eq

abbrev rule_eq : Rule → Rule → Bool
rule_eq = let impl = rule_impl.ghosts in impl.eq

abbrev rule_set_eq : RuleSet → RuleSet → Bool
rule_set_eq = let impl = set_impl.ghosts in impl.eq

abbrev format_eq : Format → Format → Bool
format_eq = let impl = format_impl.ghosts in impl.eq

abbrev compiled_rules_eq : CompiledRules → CompiledRules → Bool
compiled_rules_eq = let impl = compiled_rules_impl.ghosts in impl.eq

abbrev compiled_line_eq : CompiledLine → CompiledLine → Bool
compiled_line_eq = let impl = compiled_line_impl.ghosts in impl.eq

abbrev pub compiled_zone_eq : CompiledZone → CompiledZone → Bool
compiled_zone_eq = let impl = compiled_zone_impl.ghosts in impl.eq

kind_same : (a b : AtKind) → Decides (kinds a b) (a ≡ b)
kind_same a b = search rules

month_same : (a b : Month) → Decides (months a b) (a ≡ b)
month_same a b = search rules

on_same : (a b : On) → Decides (ons a b) (a ≡ b)
on_same a b = search rules

moment_same : (a b : Moment) → Decides (moments a b) (a ≡ b)
moment_same a b = Decides-like (moments a b)
    (λ same i. record { month = same.0 i; on = same.1.0 i; at = same.1.1.0 i; kind = same.1.1.1 i })
    (λ same. (ap (λ (it : Moment). it.month) same, (ap (λ (it : Moment). it.on) same, (ap (λ (it : Moment). it.at) same, ap (λ (it : Moment). it.kind) same))))
    (Decides-and _ _ (month_same a.month b.month) (Decides-and _ _ (on_same a.on b.on) (Decides-and _ _ (signed_Decides a.at b.at) (kind_same a.kind b.kind))))

-- fields that are equal make equal rules: what else a rule has are facts
rule_from_fields : (a b : Rule) → a.from ≡ b.from → a.to ≡ b.to → a.moment ≡ b.moment → a.save ≡ b.save → a.daylight ≡ b.daylight → a.letters ≡ b.letters → a.line ≡ b.line → a ≡ b
rule_from_fields a b from to moment save daylight letters line =
    λ i. record {
      from = from i;
      to = to i;
      moment = moment i;
      save = save i;
      daylight = daylight i;
      letters = letters i;
      line = line i;
      from_in = is_prop→PathP (λ j. IsWrittenYear (from j)) (λ j. hlevel props) a.from_in b.from_in i;
      to_in = is_prop→PathP (λ j. IsWrittenYear (to j)) (λ j. hlevel props) a.to_in b.to_in i;
      ordered = is_prop→PathP (λ j. from j ≤ℤ to j) (λ j. hlevel props) a.ordered b.ordered i;
      day_in = is_prop→PathP (λ j. let it : Moment = moment j in IsTrue (has_day_through (from j) (to j) it.month it.on)) (λ j. hlevel props) a.day_in b.day_in i;
      at_in = is_prop→PathP (λ j. let it : Moment = moment j in IsTimeOfDay it.at) (λ j. hlevel props) a.at_in b.at_in i;
      save_in = is_prop→PathP (λ j. IsShift (save j)) (λ j. hlevel props) a.save_in b.save_in i;
    }

rule_same : (a b : Rule) → Decides (rule_eq a b) (a ≡ b)
rule_same a b = Decides-like (rule_eq a b)
    (λ same. rule_from_fields a b same.0 same.1.0 same.1.1.0 same.1.1.1.0 same.1.1.1.1.0 same.1.1.1.1.1.0 same.1.1.1.1.1.1)
    (λ same. (ap (λ (it : Rule). it.from) same, (ap (λ (it : Rule). it.to) same, (ap (λ (it : Rule). it.moment) same, (ap (λ (it : Rule). it.save) same, (ap (λ (it : Rule). it.daylight) same, (ap (λ (it : Rule). it.letters) same, ap (λ (it : Rule). it.line) same)))))))
    (Decides-and _ _ (signed_Decides a.from b.from) (Decides-and _ _ (signed_Decides a.to b.to) (Decides-and _ _ (moment_same a.moment b.moment) (Decides-and _ _ (signed_Decides a.save b.save) (Decides-and _ _ (booleans_Decides a.daylight b.daylight) (Decides-and _ _ (bytes_eq-Decides a.letters b.letters) (unsigned_Decides a.line b.line)))))))

rule_set_from_fields : (a b : RuleSet) → a.name ≡ b.name → a.rules ≡ b.rules → a ≡ b
rule_set_from_fields a b name rules =
    λ i. record {
      name = name i;
      rules = rules i;
      in_line_order = is_prop→PathP (λ j. IsTrue (ascends nat_lt (map (λ (rule : Rule). rule.line) (rules j)))) (λ j. hlevel props) a.in_line_order b.in_line_order i;
      few_enough = is_prop→PathP (λ j. length (rules j) ≤ MOST_RULES) (λ j. hlevel props) a.few_enough b.few_enough i;
    }

rule_set_same : (a b : RuleSet) → Decides (rule_set_eq a b) (a ≡ b)
rule_set_same a b = Decides-like (rule_set_eq a b)
    (λ same. rule_set_from_fields a b same.0 same.1)
    (λ same. (ap (λ (it : RuleSet). it.name) same, ap (λ (it : RuleSet). it.rules) same))
    (Decides-and _ _ (bytes_eq-Decides a.name b.name) (slice_eq-Decides rule_same a.rules b.rules _ refl))

format_same : (a b : Format) → Decides (format_eq a b) (a ≡ b)
format_same a b = search rules

compiled_rules_same : (a b : CompiledRules) → Decides (compiled_rules_eq a b) (a ≡ b)
compiled_rules_same a b = search (rules, rule_set_same)

compiled_line_same : (a b : CompiledLine) → Decides (compiled_line_eq a b) (a ≡ b)
compiled_line_same a b = Decides-like (compiled_line_eq a b)
    (λ same. line_from_fields a b same.0 same.1.0 same.1.1.0 same.1.1.1.0 same.1.1.1.1.0 same.1.1.1.1.1)
    (λ same. (ap (λ (it : CompiledLine). it.start) same, (ap (λ (it : CompiledLine). it.end) same, (ap (λ (it : CompiledLine). it.stdoff) same, (ap (λ (it : CompiledLine). it.format) same, (ap (λ (it : CompiledLine). it.rules) same, ap (λ (it : CompiledLine). it.letters) same))))))
    (Decides-and _ _ (signed_Decides a.start b.start) (Decides-and _ _ (signed_Decides a.end b.end) (Decides-and _ _ (signed_Decides a.stdoff b.stdoff) (Decides-and _ _ (format_same a.format b.format) (Decides-and _ _ (compiled_rules_same a.rules b.rules) (bytes_eq-Decides a.letters b.letters))))))

pub compiled_zone_same : (a b : CompiledZone) → Decides (compiled_zone_eq a b) (a ≡ b)
compiled_zone_same a b = Decides-like (compiled_zone_eq a b)
    (λ same. same_compiled a b same.0 same.1)
    (λ same. (ap (λ (it : CompiledZone). it.name) same, ap (λ (it : CompiledZone). it.lines) same))
    (Decides-and _ _ (bytes_eq-Decides a.name b.name) (slice_eq-Decides compiled_line_same a.lines b.lines _ refl))

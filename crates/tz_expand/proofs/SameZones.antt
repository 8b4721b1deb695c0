-- What compiled lines and zones stand for tells them apart.
use Rattle.std.proofs.Common.{◌≡◌, IsTrue, List, [], ◌∷◌, refl, sym, ap, ◌∙◌}
use mathlib.Core.HLevel.{is_prop→PathP}
use Rattle.std.proofs.Props.{props}
use Rattle.tz_types.specs.Amount.{IsShift}
use Rattle.tz_types.specs.Format.{is_format}
use Rattle.tz_types.specs.declared.database.Db.{Db}
use Rattle.tz_types.specs.declared.zone.Zone.{Zone}
use Rattle.tz_specs.specs.Before.{letters_before}
use Rattle.tz_specs.specs.Expansion.{Period}
use Rattle.tz_expand.specs.declared.compiled_line.CompiledRules.{CompiledRules}
use Rattle.tz_expand.specs.declared.compiled_line.CompiledRules.TheVariants as rules
use Rattle.tz_expand.specs.declared.compiled_line.CompiledLine.{CompiledLine}
use Rattle.tz_expand.specs.declared.compiled_zone.CompiledZone.{CompiledZone}
use Rattle.tz_expand.specs.Followed.{followed_by, is_compiled_save}
use Rattle.tz_expand.specs.Compiled.{period_of, periods, cover_time}
use Rattle.tz_expand.specs.Zone.{IsCompiled}

pub same_rules : (a b : CompiledRules) → followed_by a ≡ followed_by b → a ≡ b
same_rules rules.Plain rules.Plain h = refl
same_rules rules.Plain (rules.Fixed save daylight) h = cc
same_rules rules.Plain (rules.Set set) h = cc
same_rules (rules.Fixed save daylight) rules.Plain h = cc
same_rules (rules.Fixed save daylight) (rules.Fixed other_save other_daylight) h = cc
same_rules (rules.Fixed save daylight) (rules.Set set) h = cc
same_rules (rules.Set set) rules.Plain h = cc
same_rules (rules.Set set) (rules.Fixed save daylight) h = cc
same_rules (rules.Set set) (rules.Set other_set) h = cc

-- fields that are equal make equal lines: what else a line has are facts
pub line_from_fields : (a b : CompiledLine) → a.start ≡ b.start → a.end ≡ b.end → a.stdoff ≡ b.stdoff → a.format ≡ b.format → a.rules ≡ b.rules → a.letters ≡ b.letters → a ≡ b
line_from_fields a b start end stdoff format rules letters =
    λ i. record {
      start = start i;
      end = end i;
      stdoff = stdoff i;
      format = format i;
      rules = rules i;
      letters = letters i;
      stdoff_in = is_prop→PathP (λ j. IsShift (stdoff j)) (λ j. hlevel props) a.stdoff_in b.stdoff_in i;
      format_in = is_prop→PathP (λ j. IsTrue (is_format (format j))) (λ j. hlevel props) a.format_in b.format_in i;
      save_in = is_prop→PathP (λ j. IsTrue (is_compiled_save (rules j))) (λ j. hlevel props) a.save_in b.save_in i;
      letters_are = is_prop→PathP (λ j. letters j ≡ letters_before (followed_by (rules j))) (λ j. hlevel props) a.letters_are b.letters_are i;
    }

pub same_line : (a b : CompiledLine) → period_of a ≡ period_of b → a ≡ b
same_line a b h =
    let follows : followed_by a.rules ≡ followed_by b.rules = ap (λ (it : Period). it.following) h in
    line_from_fields a b
    (ap (λ (it : Period). it.start) h)
    (ap (λ (it : Period). it.finish) h)
    (ap (λ (it : Period). it.stdoff) h)
    (ap (λ (it : Period). it.format) h)
    (same_rules a.rules b.rules follows)
    (a.letters_are ∙ ap letters_before follows ∙ sym b.letters_are)

pub same_lines : (ones others : List CompiledLine) → periods ones ≡ periods others → ones ≡ others
same_lines [] [] h = refl
same_lines [] (b ∷ others) h = cc
same_lines (a ∷ ones) [] h = cc
same_lines (a ∷ ones) (b ∷ others) h =
    let head : a ≡ b = same_line a b cc in
    let tail : ones ≡ others = same_lines ones others cc in
    cc

pub same_compiled : (one other : CompiledZone) → one.name ≡ other.name → one.lines ≡ other.lines → one ≡ other
same_compiled one other name lines =
    λ i. record {
      name = name i;
      lines = lines i;
      covers = is_prop→PathP (λ j. IsTrue (cover_time (lines j))) (λ j. hlevel props) one.covers other.covers i;
    }

pub compiled_once : (db : Db) (zone : Zone) (one other : CompiledZone) → IsCompiled db zone one → IsCompiled db zone other → one ≡ other
compiled_once db zone one other first second =
    same_compiled one other (first.name ∙ sym second.name)
    (same_lines one.lines other.lines (first.lines ∙ sym second.lines))

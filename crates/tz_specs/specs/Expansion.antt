-- The full expansion of a zone: the list of its ranges over all of time.
use Rattle.std.specs.Prelude.{ℕ, suc, ◌==◌, Bool, false, ◌&&◌, if◌then◌else◌, List, [], ◌∷◌, length, find, filter_map, flat_map, int_lt, int_le, ℤ, pos, neg_ℤ, ◌+ℤ◌, ◌≤ℤ◌, ◌<ℤ◌, Option, Some, None, slice_get}
use Rattle.std.specs.List.{range_with_len}
use Rattle.tz_types.specs.declared.rule_set.RuleSet.{RuleSet}
use Rattle.tz_types.specs.declared.zone_line.LineRules.{LineRules}
use Rattle.tz_types.specs.declared.zone_line.LineRules.TheVariants as rules
use Rattle.tz_types.specs.declared.zone_line.ZoneLine.{ZoneLine}
use Rattle.tz_types.specs.declared.zone.Zone.{Zone}
use Rattle.tz_types.specs.declared.until.Until.{Until}
use Rattle.tz_types.specs.declared.database.Db.{Db}
use Rattle.tz_types.specs.declared.format.Format.{Format}
use Rattle.tz_types.specs.declared.range.SysInfo.{SysInfo}
use Rattle.tz_specs.specs.Occurrence.{occurrences}
use Rattle.tz_specs.specs.State.{InForce, instants, state_at, in_force}
use Rattle.tz_specs.specs.Until.{Following, Nothing, Fixed, Rules, until_instant}
use Rattle.tz_specs.specs.Abbreviation.{abbreviation}

-- -9999-01-01 00:00:00, at which time begins here
abbrev pub first_instant : ℤ
first_instant = neg_ℤ (pos 377_705_116_800)

-- 10000-01-01 00:00:00, before which it ends
abbrev pub end_of_time : ℤ
end_of_time = pos 253_402_300_800

-- an instant in range
abbrev pub IsInstant : ℤ → Type 0
IsInstant t = (first_instant ≤ℤ t) × (t <ℤ end_of_time)

-- a line of a zone with its place in time
pub record Period : Type 0 where
  pub start : ℤ
  pub finish : ℤ
  pub stdoff : ℤ
  pub following : Following
  pub format : Format

-- what the line's rules are, where the sets are known by their places; a set that isn't there is none
abbrev pub following_of : List RuleSet → LineRules → Following
following_of sets rules.Plain = Nothing
following_of sets (rules.Fixed save daylight) = Fixed save daylight
following_of sets (rules.Set place) = by_place (slice_get sets place)
  where
    by_place : Option RuleSet → Following
    by_place None = Nothing
    by_place (Some set) = Rules set

-- a line ends at its UNTIL, and the last one at the end of time
abbrev pub finish_of : List RuleSet → ZoneLine → ℤ
finish_of sets line = by_until line.until
  where
    by_until : Option Until → ℤ
    by_until None = end_of_time
    by_until (Some until) = until_instant (following_of sets line.rules) line.stdoff until.year until.moment

-- a line that begins at an instant
abbrev pub period_from : List RuleSet → ℤ → ZoneLine → Period
period_from sets start line =
    record {
      start = start;
      finish = finish_of sets line;
      stdoff = line.stdoff;
      following = following_of sets line.rules;
      format = line.format;
    }

-- each line begins where the one before it ends
abbrev pub periods_from : List RuleSet → ℤ → List ZoneLine → List Period
periods_from sets start [] = []
periods_from sets start (line ∷ lines) =
    period_from sets start line ∷ periods_from sets (finish_of sets line) lines

-- the lines of a zone in time, the first from the beginning of time
unfoldable pub periods_of : Db → Zone → List Period
periods_of db zone = periods_from db.sets first_instant zone.lines

-- what is in force in the period at t: no save without rules, a fixed save, or what the occurrence then in effect puts
-- in force
abbrev pub state_in : Period → ℤ → InForce
state_in period t = by_rules period.following
  where
    by_rules : Following → InForce
    by_rules Nothing = record { save = pos 0; daylight = false; letters = [] }
    by_rules (Fixed save daylight) = record { save = save; daylight = daylight; letters = [] }
    by_rules (Rules set) =
        let list = occurrences set in
        in_force list (state_at (instants period.stdoff list) t)

-- The instant with that number, where it cuts the period: it lies inside, and its own occurrence is then in effect.
abbrev pub cut_at : Period → List ℤ → ℕ → Option ℤ
cut_at period list place = by_instant (slice_get list place)
  where
    by_instant : Option ℤ → Option ℤ
    by_instant None = None
    by_instant (Some instant) =
        if int_lt period.start instant && int_lt instant period.finish && (state_at list instant == suc place)
        then Some instant else None

-- where a period is cut
abbrev pub cuts_of : Period → List ℤ
cuts_of period = by_rules period.following
  where
    by_rules : Following → List ℤ
    by_rules Nothing = []
    by_rules (Fixed save daylight) = []
    by_rules (Rules set) =
        let list = instants period.stdoff (occurrences set) in
        filter_map (cut_at period list) (range_with_len 0 (length list))

-- the piece of a period from an instant to another, with what is in force where it begins
abbrev pub range_of : Period → ℤ → ℤ → SysInfo
range_of period begin end =
    let state = state_in period begin in
    let offset = period.stdoff +ℤ state.save in
    record {
      begin = begin;
      end = end;
      offset = offset;
      save = state.save;
      «abbrev» = abbreviation period.format state offset;
    }

-- the pieces that the cuts make, from an instant on
abbrev pub pieces_of : Period → ℤ → List ℤ → List SysInfo
pieces_of period begin [] = range_of period begin period.finish ∷ []
pieces_of period begin (cut ∷ cuts) = range_of period begin cut ∷ pieces_of period cut cuts

unfoldable pub ranges_of : Period → List SysInfo
ranges_of period = pieces_of period period.start (cuts_of period)

-- the full expansion of lines in time
unfoldable pub full_expansion : List Period → List SysInfo
full_expansion periods = flat_map ranges_of periods

-- the instant lies in the range
abbrev pub holds_instant : ℤ → SysInfo → Bool
holds_instant t range = int_le range.begin t && int_lt t range.end

-- the range that holds an instant
unfoldable pub range_at : List SysInfo → ℤ → Option SysInfo
range_at ranges t = find (holds_instant t) ranges

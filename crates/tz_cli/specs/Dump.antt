-- What `dump` answers over a source.
use Rattle.std.specs.Prelude.{◌≡◌, ℕ, nat_eq, if◌then◌else◌, List, [], ◌∷◌, ◌++◌, filter, codes, ℤ, pos, ◌-ℤ◌, ◌≤ℤ◌, Option, Some, None, slice_get}
use Rattle.std.specs.List.{flat_map}
use Rattle.std.specs.Cmp.Lexicographic.{pointwise}
use Rattle.tz_types.specs.declared.range.SysInfo.{SysInfo}
use Rattle.tz_types.specs.declared.zone.Zone.{Zone}
use Rattle.tz_types.specs.declared.source.Source.{Source}
use Rattle.tz_types.specs.declared.database.Db.{Db}
use Rattle.tz_specs.specs.Expansion.{periods_of, full_expansion}
use Rattle.tz_specs.specs.Reads.{Reads}
use Rattle.tz_lines.specs.Locate.{located}
use Rattle.tz_expand.specs.Stretch.{IsStretch, meets}
use Rattle.tz_cli.specs.Line.{range_line}
use Rattle.tz_cli.specs.SourceAnswer.{SourceAnswers}
use Rattle.tz_words.specs.declared.status.Status.{Status}
use Rattle.tz_words.specs.declared.status.Status.TheVariants as statuses

-- the line `zone NAME`, then a line for each range
abbrev pub zone_lines : List ℕ → List SysInfo → List ℕ
zone_lines name ranges = codes "zone " ++ name ++ codes "\n" ++ flat_map range_line ranges

-- a zone with all ranges of its full expansion that meet the stretch, whole and in the order of time
unfoldable pub zone_text : Db → ℤ → ℤ → Zone → List ℕ
zone_text db from to zone =
    zone_lines zone.name (filter (meets from to) (full_expansion (periods_of db zone)))

-- zones one after another
abbrev pub dump_text : Db → ℤ → ℤ → List Zone → List ℕ
dump_text db from to zones = flat_map (zone_text db from to) zones

-- what the word ZONE asks for: `-` stands for all zones
abbrev pub asked_for : List ℕ → Option (List ℕ)
asked_for word = if pointwise nat_eq word (codes "-") then None else Some word

-- The zones that are asked for: the one of the name, or else all, in the order of their names. A link's name stands for
-- its zone.
abbrev pub AreAskedFor : Db → Option (List ℕ) → List Zone → Type 0
AreAskedFor db None zones = zones ≡ db.zones
AreAskedFor db (Some name) zones =
    (place : ℕ) × (zone : Zone) × (located db name ≡ Some place) × (slice_get db.zones place ≡ Some zone) × (zones ≡ zone ∷ [])

-- the longest stretch of a dump of all zones, some 272 years
abbrev pub longest_dump : ℤ
longest_dump = pos 8_589_934_592

-- the stretch lies in time, and isn't too long where all zones are asked for
abbrev pub IsDumped : Option (List ℕ) → ℤ → ℤ → Type 0
IsDumped None from to = IsStretch from to × ((to -ℤ from) ≤ℤ longest_dump)
IsDumped (Some name) from to = IsStretch from to

-- The text is that of the zones asked for, which the source has.
pub record IsDump (source : Source) (from to : ℤ) (asked : Option (List ℕ)) (line : List ℕ) : Type 0 where
  pub db : Db
  pub reads : Reads source db
  pub zones : List Zone
  pub are : AreAskedFor db asked zones
  pub line_is : line ≡ dump_text db from to zones

-- it is printed at the status 0
abbrev pub IsDumpAt : Source → ℤ → ℤ → Option (List ℕ) → Status → List ℕ → Type 0
IsDumpAt source from to asked statuses.Ok line = IsDump source from to asked line
IsDumpAt source from to asked _ line = ⊥

-- the statuses of `dump`, each with what it prints and its reason in the source
abbrev pub DumpAnswers : Source → ℤ → ℤ → Option (List ℕ) → Status → List ℕ → Type 0
DumpAnswers source from to asked status line =
    SourceAnswers source asked (IsDumped asked from to) (IsDumpAt source from to asked) status line

-- What the zone texts of a source say, or why they are refused, after zic(8).
use Rattle.std.specs.Prelude.{◌≡◌, ℕ, suc, ◌-◌, nat_le, nat_eq, Bool, ◌&&◌, ◌⊎◌, if◌then◌else◌, List, [], ◌∷◌, length, map, drop, codes, position, Option, Some, None, Ok, Err, IsTrue}
use Rattle.std.specs.List.{list_all, starts_with}
use Rattle.std.specs.List.Sorted.{IsPermutation}
use Rattle.tz_types.specs.declared.limit.TheConstants.{LONGEST_VERSION}
use Rattle.tz_types.specs.Text.{is_printable}
use Rattle.tz_types.specs.declared.fault.Fault.{Fault}
use Rattle.tz_types.specs.declared.fault.LineFault.{LineFault}
use Rattle.tz_types.specs.declared.source.Source.{Source}
use Rattle.tz_types.specs.declared.rule_set.RuleSet.{RuleSet}
use Rattle.tz_types.specs.declared.database.Db.{Db}
use Rattle.tz_specs.specs.Line.{lines_of}
use Rattle.tz_specs.specs.Field.{is_white}
use Rattle.tz_specs.specs.Choice.{◌>>=◌}
use Rattle.tz_specs.specs.Word.{is_empty}
use Rattle.tz_specs.specs.Value.{is_exactly}
use Rattle.tz_specs.specs.Sound.{is_known}
use Rattle.tz_specs.specs.Written.{set_names, written_set, written_zone, written_link}
use Rattle.tz_specs.specs.Contents.{Contents, contents_of}
use Rattle.tz_specs.specs.Whole.{zone_of_link, whole_faults, IsLeast}

-- the bytes without the white space at their end
abbrev pub without_white_end : List ℕ → List ℕ
without_white_end [] = []
without_white_end (byte ∷ bytes) =
    let later = without_white_end bytes in
    if is_white byte && is_empty later then [] else byte ∷ later

-- one to so many visible bytes
abbrev pub is_version : List ℕ → Bool
is_version bytes = nat_le 1 (length bytes) && nat_le (length bytes) LONGEST_VERSION && list_all is_printable bytes

-- the version that a first line `# version VERSION` names
abbrev pub version_of_line : List ℕ → List ℕ
version_of_line line =
    let version = without_white_end (drop 10 line) in
    if starts_with nat_eq line (codes "# version ") && is_version version then version else codes "unknown"

-- the version that a text names
unfoldable pub version_of_text : List ℕ → List ℕ
version_of_text text = by_lines (lines_of text)
  where
    by_lines : List (List ℕ) → List ℕ
    by_lines [] = codes "unknown"
    by_lines (line ∷ lines) = version_of_line line

-- The version of a source is the one given with it, or else what its first file names.
abbrev pub version_of : Source → List ℕ
version_of source = by_given source.version source.files
  where
    by_files : List (List ℕ) → List ℕ
    by_files [] = codes "unknown"
    by_files (file ∷ files) = version_of_text file

    by_given : Option (List ℕ) → List (List ℕ) → List ℕ
    by_given None files = by_files files
    by_given (Some version) files = version

-- the place of the zone to which each link leads, by the zones of the database
abbrev pub places_of_links : Contents → Db → List (Option ℕ)
places_of_links contents db =
    map (λ link. zone_of_link contents (written_link link) >>= λ name. position (λ zone. is_exactly zone.name name) db.zones) db.links

-- The source has no fault, and the database is what its lines give.
pub record Reads (source : Source) (db : Db) : Type 0 where
  pub contents : Contents
  pub given : contents_of source.files ≡ Ok contents
  pub no_fault : whole_faults db.sets contents ≡ []
  pub version : db.version ≡ version_of source
  pub sets : map written_set db.sets ≡ contents.sets
  pub zones : IsPermutation contents.zones (map (written_zone (set_names db.sets)) db.zones)
  pub links : IsPermutation contents.links (map written_link db.links)
  pub places : map (λ link. Some link.zone) db.links ≡ places_of_links contents db
  pub known : IsTrue (list_all (λ zone. list_all (λ line. is_known db.sets line.rules) zone.lines) db.zones)

-- The files as a whole are refused: their lines give rule sets, zones and links, and this is the least of their faults.
pub record RefusesWhole (files : List (List ℕ)) (fault : LineFault) : Type 0 where
  pub contents : Contents
  pub given : contents_of files ≡ Ok contents
  pub sets : List RuleSet
  pub sets_are : map written_set sets ≡ contents.sets
  pub least : IsLeast (whole_faults sets contents) fault

-- The files are refused, by one of their lines or as a whole. The lines of all files are counted through.
abbrev pub RefusesFiles : List (List ℕ) → LineFault → Type 0
RefusesFiles files fault = (contents_of files ≡ Err fault) ⊎ RefusesWhole files fault

-- The file that has the line of a running number, by that file's number and the line's number in it. The first of the files has
-- this number.
abbrev pub line_in : ℕ → List (List ℕ) → ℕ → ℕ × ℕ
line_in file [] line = (file, line)
line_in file (text ∷ texts) line =
    if nat_le line (length (lines_of text)) then (file, line)
    else line_in (suc file) texts (line - length (lines_of text))

-- Files are numbered from 1 where there is more than one; where there is one alone, its number is 0.
abbrev pub place_in : List (List ℕ) → ℕ → ℕ × ℕ
place_in (file ∷ []) line = (0, line)
place_in files line = line_in 1 files line

-- the source is refused, with that cause at that line of that file
pub record Refuses (source : Source) (fault : Fault) : Type 0 where
  pub line : ℕ
  pub refused : RefusesFiles source.files (record { line = line; cause = fault.cause })
  pub place : (fault.file, fault.line) ≡ place_in source.files line

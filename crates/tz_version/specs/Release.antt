-- Versions as contracts see them, what makes them the version of a source, and their zones by name.
use Rattle.std.specs.Prelude.{◌≡◌, ℕ, List, [], Option, Some, None, slice_get}
use Rattle.std.specs.List.{AllZip}
use Rattle.tz_types.specs.declared.source.Source.{Source}
use Rattle.tz_types.specs.declared.leaps.Leaps.{Leaps}
use Rattle.tz_types.specs.declared.link.Link.{Link}
use Rattle.tz_types.specs.declared.zone.Zone.{Zone}
use Rattle.tz_types.specs.declared.database.Db.{Db}
use Rattle.tz_specs.specs.Reads.{Reads, version_of}
use Rattle.tz_specs.specs.LeapText.{ReadsLeaps}
use Rattle.tz_lines.specs.Locate.{located}
use Rattle.tz_expand.specs.declared.compiled_zone.CompiledZone.{CompiledZone}
use Rattle.tz_expand.specs.Zone.{IsCompiled}
use Rattle.tz_version.specs.declared.sources.Sources.{Sources}

-- a version: the sources that it comes from, the place of its own among them, and what was made of that and of the leap text
pub record Release : Type 0 where
  pub sources : Sources
  pub src : ℕ
  pub name : List ℕ
  pub leaps : Leaps
  pub zones : List CompiledZone
  pub links : List Link

-- the version text of a source, or nothing where there is none
abbrev pub source_name : Option Source → List ℕ
source_name None = []
source_name (Some source) = version_of source

-- the name of each version of the source at a place: that source's version text
abbrev pub version_name : Sources → ℕ → List ℕ
version_name sources src = source_name (slice_get sources.texts src)

-- the source at a place reads as that database
pub record IsDatabaseOf (sources : Sources) (src : ℕ) (db : Db) : Type 0 where
  pub source : Source
  pub there : slice_get sources.texts src ≡ Some source
  pub reads : Reads source db

-- The version of the source at a place: it bears that source's version, its zones are those of the database, each compiled, in
-- the same order, its links are those of the database, and its leap table is what the leap text says.
pub record IsVersionOf (sources : Sources) (src : ℕ) (version : Release) : Type 0 where
  pub home : version.sources ≡ sources
  pub place : version.src ≡ src
  pub db : Db
  pub says : IsDatabaseOf sources src db
  pub name : version.name ≡ version_of says.source
  pub zones : AllZip (IsCompiled db) db.zones version.zones
  pub links : version.links ≡ db.links
  pub leaps : ReadsLeaps sources.leaps version.leaps

-- the zone that a name stands for in the version: the one of that name, or else the one that the link of that name leads to
pub record IsZoneCalled (version : Release) (name : List ℕ) (compiled : CompiledZone) : Type 0 where
  pub db : Db
  pub says : IsDatabaseOf version.sources version.src db
  pub place : ℕ
  pub named : located db name ≡ Some place
  pub zone : Zone
  pub there : slice_get db.zones place ≡ Some zone
  pub is : IsCompiled db zone compiled

-- no zone and no link of the version's source has the name
pub record LacksZone (version : Release) (name : List ℕ) : Type 0 where
  pub db : Db
  pub says : IsDatabaseOf version.sources version.src db
  pub missing : located db name ≡ None

-- What a database says of the contents that it is built of.
use Rattle.std.specs.Prelude.{◌≡◌, ℕ, List, [], map, Option, Some, None, IsTrue}
use Rattle.std.specs.List.{list_all}
use Rattle.std.specs.List.Sorted.{IsPermutation}
use Rattle.tz_types.specs.declared.fault.LineFault.{LineFault}
use Rattle.tz_types.specs.declared.database.Db.{Db}
use Rattle.tz_specs.specs.Written.{set_names, written_set, written_zone, written_link}
use Rattle.tz_specs.specs.Contents.{Contents}
use Rattle.tz_specs.specs.Whole.{whole_faults}
use Rattle.tz_specs.specs.Sound.{is_known, is_sound}
use Rattle.tz_specs.specs.Reads.{places_of_links}
use Rattle.tz_database.specs.declared.error.BuildError.{BuildError}
use Rattle.tz_database.specs.declared.error.BuildError.TheVariants as errors

-- The contents have no fault, and the database has their rule sets, zones and links, each link with the place of the zone
-- that its targets reach.
pub record IsBuiltOf (contents : Contents) (version : List ℕ) (db : Db) : Type 0 where
  pub no_fault : whole_faults db.sets contents ≡ []
  pub version_is : db.version ≡ version
  pub sets : map written_set db.sets ≡ contents.sets
  pub zones : IsPermutation contents.zones (map (written_zone (set_names db.sets)) db.zones)
  pub links : IsPermutation contents.links (map written_link db.links)
  pub places : map (λ link. Some link.zone) db.links ≡ places_of_links contents db
  pub known : IsTrue (list_all (λ zone. list_all (λ line. is_known db.sets line.rules) zone.lines) db.zones)
  pub sound : IsTrue (is_sound db)

-- the fault that an error of building tells, and none for want of memory
abbrev pub build_fault : BuildError → Option LineFault
build_fault errors.NoMemory = None
build_fault (errors.Fault line cause) = Some (record { line = line; cause = cause })

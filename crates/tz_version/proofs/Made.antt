-- A version made of what a source and a leap text say.
use Rattle.std.proofs.Common.{◌≡◌, ℕ, List, Some, slice_get, IsTrue, length, refl, sym, subst}
use Rattle.std.specs.List.{AllZip}
use Rattle.tz_types.specs.declared.source.Source.{Source}
use Rattle.tz_types.specs.declared.leaps.Leaps.{Leaps}
use Rattle.tz_types.specs.declared.database.Db.{Db}
use Rattle.tz_specs.specs.Reads.{Reads}
use Rattle.tz_specs.specs.LeapText.{ReadsLeaps}
use Rattle.tz_specs.specs.Sound.{is_sound}
use Rattle.tz_expand.specs.declared.compiled_zone.CompiledZone.{CompiledZone}
use Rattle.tz_expand.specs.Zone.{IsCompiled}
use Rattle.tz_windows.specs.declared.cells.Cells.{Cells}
use Rattle.tz_version.specs.declared.sources.Sources.{Sources}
use Rattle.tz_version.specs.declared.error.MakeError.{MakeError}
use Rattle.tz_version.specs.declared.error.MakeError.TheVariants as errors
use Rattle.tz_version.specs.Release.{Release, IsVersionOf}
use Rattle.tz_version.specs.Refusal.{MeansTextError, MeansMakeError}
use Rattle.tz_version.specs.Kept.{IsKept}

abbrev pub made_of : Sources → ℕ → Db → Leaps → List CompiledZone → Release
made_of sources src db leaps zones =
    record { sources = sources; src = src; name = db.version; leaps = leaps; zones = zones; links = db.links }

pub is_made : (sources home : Sources) (src : ℕ) (db : Db) (leaps : Leaps) (zones : List CompiledZone) (source : Source) → home ≡ sources → slice_get sources.texts src ≡ Some source → Reads source db → ReadsLeaps sources.leaps leaps → AllZip (IsCompiled db) db.zones zones → IsVersionOf sources src (made_of home src db leaps zones)
is_made sources home src db leaps zones source same there reads accepted compiled =
    record {
      home = same;
      place = refl;
      db = db;
      says = record { source = source; there = there; reads = reads };
      name = reads.version;
      zones = compiled;
      links = refl;
      leaps = accepted;
    }

pub is_kept : (sources home : Sources) (src : ℕ) (db : Db) (leaps : Leaps) (zones : List CompiledZone) (cells : List Cells) (source : Source) → home ≡ sources → slice_get sources.texts src ≡ Some source → Reads source db → IsTrue (is_sound db) → ReadsLeaps sources.leaps leaps → AllZip (IsCompiled db) db.zones zones → length cells ≡ length zones → IsKept (made_of home src db leaps zones) cells
unfolding is_made
is_kept sources home src db leaps zones cells source same there reads sound accepted compiled one_each =
    let Kept : Sources → Type 0 = λ home. IsKept (made_of home src db leaps zones) cells in
    let kept : Kept sources = record {
      is = is_made sources sources src db leaps zones source refl there reads accepted compiled;
      sound = sound;
      one_each = one_each;
    } in
    subst Kept (sym same) kept

-- the leap text is accepted, and the source is not
pub text_refused : (sources : Sources) (src : ℕ) (source : Source) (leaps : Leaps) (error : MakeError) → slice_get sources.texts src ≡ Some source → ReadsLeaps sources.leaps leaps → MeansTextError error source → MeansMakeError error sources src
text_refused sources src source leaps errors.NoMemory there accepted is = tt
text_refused sources src source leaps (errors.Leaps fault) there accepted is = absurd is
text_refused sources src source leaps (errors.Text fault) there accepted is =
    record { leaps = leaps; accepted = accepted; source = source; there = there; refused = is }

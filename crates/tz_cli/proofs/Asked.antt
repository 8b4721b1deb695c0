-- What a dump is asked for, and whether it is there.
use Rattle.std.proofs.Common.{◌≡◌, ℕ, ◌+◌, ◌<◌, inl, inr, List, [], ◌∷◌, length, get_or, take, drop, Option, Some, None, ℤ, refl, sym, ◌∙◌, length-drop, add-zero, arith}
use Rattle.std.proofs.lemmas.Option.{slice_get_cases, get_or_from_slice_get}
use Rattle.std.proofs.lemmas.List.{take_more, get_or-drop}
use Rattle.tz_types.specs.declared.zone.Zone.{Zone}
use Rattle.tz_types.specs.declared.source.Source.{Source}
use Rattle.tz_types.specs.declared.database.Db.{Db}
use Rattle.tz_specs.specs.Reads.{Reads}
use Rattle.tz_lines.specs.Locate.{located}
use Rattle.tz_cli.specs.SourceAnswer.{IsThere, IsMissing, IsOutOfRange}
use Rattle.tz_cli.specs.Dump.{AreAskedFor, IsDumped}

-- the one zone at a place
pub one_asked : (db : Db) (name : List ℕ) (place : ℕ) → located db name ≡ Some place → place < length db.zones → AreAskedFor db (Some name) (take 1 (drop place db.zones))
one_asked db name place named low =
    elim (slice_get_cases db.zones place).1 [
      | inl at ↦
          let count = length-drop place db.zones in
          let here : at.0 ≡ get_or (drop place db.zones) 0 at.0 = sym (get_or-drop place db.zones 0 at.0 ∙ get_or_from_slice_get db.zones (place + 0) at.0 at.0 (rw add-zero at.2)) in
          let one : take 1 (drop place db.zones) ≡ at.0 ∷ [] = rw (take_more (drop place db.zones) 0 at.0 (omega (arith, count, low)), ← here) refl in
          (place, at.0, named, at.2, one)
      | inr past ↦ absurd (omega (arith, past.0))
    ]

-- a name that isn't there
pub missing : (source : Source) (name : List ℕ) (asked : Option (List ℕ)) (db : Db) → asked ≡ Some name → Reads source db → located db name ≡ None → IsMissing source asked
missing source name asked db is reads none = rw is (record { db = db; reads = reads; none = none })

-- zones that were found are there
pub asked_there : (db : Db) (asked : Option (List ℕ)) (zones : List Zone) → AreAskedFor db asked zones → IsThere db asked
asked_there db None zones are = tt
asked_there db (Some name) zones are = rw are.2 refl

pub out_of_dump : (source : Source) (from to : ℤ) (asked : Option (List ℕ)) (db : Db) (zones : List Zone) → Reads source db → AreAskedFor db asked zones → (IsDumped asked from to → ⊥) → IsOutOfRange source asked (IsDumped asked from to)
out_of_dump source from to asked db zones reads are outside =
    record { db = db; reads = reads; there = asked_there db asked zones are; outside = outside }

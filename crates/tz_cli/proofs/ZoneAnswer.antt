-- How a command answers that asks a zone, and that it has one answer.
use Rattle.std.proofs.Common.{◌≡◌, ℕ, List, Some, Result, Ok, Err, Vec, refl}
use Rattle.std.specs.declared.alloc.Global.{Global}
use Rattle.tz_types.specs.declared.source.Source.{Source}
use Rattle.tz_expand.specs.declared.compiled_zone.CompiledZone.{CompiledZone}
use Rattle.tz_cli.specs.NamedZone.{IsNamedZone}
use Rattle.tz_cli.specs.Refusal.{Gives}
use Rattle.tz_cli.specs.ZoneAnswer.{IsToldByZone, ZoneAnswers, GivesOfZone}
use Rattle.tz_cli.specs.declared.refusal.Refusal.{Refusal}
use Rattle.tz_cli.specs.declared.refusal.Refusal.TheVariants as refusals
use Rattle.tz_words.specs.declared.status.Status.{Status}
use Rattle.tz_cli.proofs.SourceAnswer.{answers_once}

-- what the zone named answers is an answer over the source
pub zone_gives : (source : Source) (name : List ℕ) (inside : Type 0) (told : CompiledZone → Status → List ℕ → Type 0) (zone : CompiledZone) (result : Result (Vec ℕ Global) Refusal) → IsNamedZone source name zone → GivesOfZone inside (told zone) result → Gives (ZoneAnswers source name inside told) result
zone_gives source name inside told zone (Ok text) named given =
    (given.0, record { zone = zone; named = named; is = given.1 })
zone_gives source name inside told zone (Err refusals.Memory) named given = tt
zone_gives source name inside told zone (Err refusals.Range) named given =
    (record { db = named.db; reads = named.reads; there = rw named.named refl; outside = given }, refl)
zone_gives source name inside told zone (Err refusals.Types) named given =
    (given.0, record { zone = zone; named = named; is = given.1 })
zone_gives source name inside told zone (Err refusals.Designations) named given =
    (given.0, record { zone = zone; named = named; is = given.1 })
zone_gives source name inside told zone (Err refusal) named given = absurd given

pub zone_once : (source : Source) (name : List ℕ) (inside : Type 0) (told : CompiledZone → Status → List ℕ → Type 0) (r s : Status) (line other : List ℕ) → ((a b : CompiledZone) → IsNamedZone source name a → IsNamedZone source name b → told a r line → told b s other → r ≡ s) → ZoneAnswers source name inside told r line → ZoneAnswers source name inside told s other → r ≡ s
zone_once source name inside told r s line other same a b =
    answers_once source (Some name) inside (λ status line. IsToldByZone source name (λ zone. told zone status line)) r s line other
    (λ (status : Status) (line : List ℕ) is. (is.named.db, is.named.reads, rw is.named.named refl))
    (λ here there. same here.zone there.zone here.named there.named here.is there.is) a b
